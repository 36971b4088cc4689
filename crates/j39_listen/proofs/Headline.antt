-- What a report tells of publishers: the law `repeated`, for loss and repeats at once, and from it `thinned` and `published`.
use Rattle.std.proofs.Common.{◌≡◌, ℕ, zero, suc, ◌≤◌, Bool, false, List, [], ◌++◌, length, flat_map, Option, refl, sym, ap, ◌∙◌, inl, inr, arith, append-nil}
use Rattle.std.proofs.lemmas.Bool.{cases_lt, cases_eq, cases_Bool, both_ways}
use Rattle.std.proofs.lemmas.Grind.{flat_map-append}
use Rattle.std.proofs.lemmas.List.Elements.{filter-append}
use Rattle.j39_frame.specs.Frame.{FrameRecord}
use Rattle.j39_groups.specs.Row.{RowRecord}
use Rattle.j39_listen.proofs.Endings.{copy_kept, gone_ends, place_kept}
use Rattle.j39_listen.proofs.Masks.{length-without, order_to_F, place_in_F, rank, rank_gone, rank_kept, rank_mono, same_element, without_none}
use Rattle.j39_listen.proofs.Story.{Story}
use Rattle.j39_groups.specs.Readings.{is_reported_in}
use Rattle.j39_listen.specs.Heard.{Hearing, HeardBelowWith, frame_at, or_none}
use Rattle.j39_listen.specs.Published.{Publishing, is_publisher}
use Rattle.j39_listen.specs.Report.{Entry, IsReport, entries_of}
use Rattle.j39_listen.specs.Values.{TellsPublished, TellsRepeated, TellsThinned, hearing_of_item, kept_to, values, values_below}

module _ (groups : List RowRecord) (F H : List FrameRecord) (P : Publishing) (X Y : ℕ → Bool) (st : Story groups F H P X Y) where
  -- no value comes where a frame is lost
  values_up : (a b : ℕ) → a ≤ b → rank X a ≡ rank X b → values_below groups F P X a ≡ values_below groups F P X b
  values_up a zero l e = ap (values_below groups F P X) (let z : a ≡ 0 = omega arith in z)
  values_up a (suc b) l e = elim (cases_eq a (suc b)) [
    | inl z ↦ ap (values_below groups F P X) z
    | inr z ↦
        let m1 : rank X a ≤ rank X b = rank_mono X a b (omega arith) in
        let m2 : rank X b ≤ rank X (suc b) = rank_mono X b (suc b) (omega arith) in
        elim (cases_Bool (X b)) [
          | inl x ↦ values_up a b (omega arith) (omega arith) ∙ (sym (append-nil (values_below groups F P X b))
              ∙ ap (λ (zs : List Entry). values_below groups F P X b ++ zs) (sym (ap (flat_map (λ item. entries_of groups (hearing_of_item F item))) (gone_ends groups F H P X Y st b x))))
          | inr x ↦ absurd (let k : rank X (suc b) ≡ suc (rank X b) = rank_kept X b x in omega arith)
        ]
  ]

  values_same : (a b : ℕ) → rank X a ≡ rank X b → values_below groups F P X a ≡ values_below groups F P X b
  values_same a b e = elim (cases_lt a b) [ inl l ↦ values_up a b (omega arith) e | inr l ↦ sym (values_up b a l (sym e)) ]

  kept_append : (xs : List Hearing) (o : Option Hearing) → kept_to P (flat_map (entries_of groups) (xs ++ or_none o)) ≡ kept_to P (flat_map (entries_of groups) xs) ++ kept_to P (flat_map (entries_of groups) (or_none o))
  kept_append xs o = ap (kept_to P) (flat_map-append (entries_of groups) xs (or_none o)) ∙ filter-append (λ e. is_publisher P e.address) (flat_map (entries_of groups) xs) (flat_map (entries_of groups) (or_none o))

  -- below corresponding places: what is heard in H, and what ended in F
  kept_below : (n m : ℕ) (hs : List Hearing) → n ≤ length H → HeardBelowWith (is_reported_in groups) H n hs → rank X m ≡ rank Y n → kept_to P (flat_map (entries_of groups) hs) ≡ values_below groups F P X m
  kept_below zero m hs l k e = ap (λ (xs : List Hearing). kept_to P (flat_map (entries_of groups) xs)) k ∙ values_same 0 m (sym e)
  kept_below (suc n) m hs l k e = ap (λ (xs : List Hearing). kept_to P (flat_map (entries_of groups) xs)) k.4 ∙ (kept_append k.0 k.1 ∙ elim (cases_Bool (Y n)) [
    | inl y ↦
        ap (λ (zs : List Entry). kept_to P (flat_map (entries_of groups) k.0) ++ zs) (copy_kept groups F H P X Y st n k.1 y k.3)
        ∙ (append-nil (kept_to P (flat_map (entries_of groups) k.0)) ∙ kept_below n m k.0 (omega arith) k.2 (e ∙ rank_gone Y n y))
    | inr y ↦
        (let f = place_in_F X Y F H st.one_rest n l y in
        let r1 : rank X f.0 ≡ rank Y n = f.1.ranks in
        let r2 : rank X (suc f.0) ≡ suc (rank X f.0) = rank_kept X f.0 f.1.f_kept in
        let r3 : rank Y (suc n) ≡ suc (rank Y n) = rank_kept Y n y in
        ap (λ (zs : List Entry). zs ++ kept_to P (flat_map (entries_of groups) (or_none k.1))) (kept_below n f.0 k.0 (omega arith) k.2 r1)
        ∙ (ap (λ (zs : List Entry). values_below groups F P X f.0 ++ zs) (place_kept groups F H P X Y st f.0 n k.1 f.1 k.3) ∙ values_same (suc f.0) m (omega arith)))
  ])

-- of F, which was sent, and of H, which was heard of it
told : (groups : List RowRecord) (F H : List FrameRecord) (P : Publishing) (X Y : ℕ → Bool) (es : List Entry) → Story groups F H P X Y → IsReport groups H es → kept_to P es ≡ values groups F P X
told groups F H P X Y es st r =
    ap (kept_to P) r.2 ∙ kept_below groups F H P X Y st (length H) (length F) r.0 (omega arith) r.1
    (sym (length-without X F) ∙ (ap length st.one_rest ∙ length-without Y H))

pub repeated : (groups : List RowRecord) (H : List FrameRecord) (es : List Entry) → IsReport groups H es → TellsRepeated groups H es
repeated groups H es k F G P X h t to r = told groups F H P X r.copies es (record {
  published = h;
  lost = t.packets_only;
  together = to;
  one_rest = sym t.rest_is ∙ r.rest_is;
  copied = r.each;
  never_back = r.never_back;
}) k

-- what is left of a list has stamps that never go back, as the list has
pub thinned : (groups : List RowRecord) (G : List FrameRecord) (es : List Entry) → IsReport groups G es → TellsThinned groups G es
thinned groups G es k F P X h t to = repeated groups G es k F G P X h t to (record {
  copies = λ i. false;
  inside = λ c e. absurd (both_ways false refl e);
  rest_is = sym (without_none G);
  each = λ c e. absurd (both_ways false refl e);
  never_back = λ i j u v.
      let one = sym t.rest_is ∙ sym (without_none G) in
      let a = place_in_F X (λ q. false) F G one i (omega arith) refl in
      let b = place_in_F X (λ q. false) F G one j v refl in
      let nothing : FrameRecord = record { stamp = 0; id = 0; bytes = [] } in
      let e1 : (frame_at G i).stamp ≡ (frame_at F a.0).stamp = ap (λ (f : FrameRecord). f.stamp) (same_element X (λ q. false) F G one nothing a.1) in
      let e2 : (frame_at G j).stamp ≡ (frame_at F b.0).stamp = ap (λ (f : FrameRecord). f.stamp) (same_element X (λ q. false) F G one nothing b.1) in
      let m : (frame_at F a.0).stamp ≤ (frame_at F b.0).stamp = h.never_back a.0 b.0 (order_to_F X (λ q. false) F G one a.1 b.1 u) b.1.f_below in
      omega arith;
})

pub published : (groups : List RowRecord) (F : List FrameRecord) (es : List Entry) → IsReport groups F es → TellsPublished groups F es
published groups F es k P h = thinned groups F es k F P (λ i. false) h (record {
  inside = λ i e. absurd (both_ways false refl e);
  packets_only = λ i e. absurd (both_ways false refl e);
  rest_is = sym (without_none F);
}) (λ i j s d a e. absurd (both_ways false refl e))
