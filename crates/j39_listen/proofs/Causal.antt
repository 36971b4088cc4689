-- What is heard at a place depends on the frames up to it alone.
use Rattle.std.proofs.Common.{◌≡◌, ◌↔◌, ℕ, zero, suc, ◌<◌, ◌≤◌, Bool, List, [], ◌∷◌, ◌++◌, map, length, get_or, take, Option, Some, None, refl, sym, ap, ◌∙◌, subst, inl, inr, arith, flat_map, length-append}
use Rattle.std.proofs.lemmas.List.{get_or_append_left, get_or_push, get_or-map, length_push}
use Rattle.std.proofs.lemmas.Grind.{flat_map-append}
use Rattle.j39_address.specs.Claim.{Claim, claim_of, claims_of}
use Rattle.j39_address.specs.Holder.{IsHolder}
use Rattle.j39_address.proofs.HolderLemmas.{holder_agree}
use Rattle.j39_frame.specs.Frame.{FrameRecord}
use Rattle.j39_frame.specs.Identifier.{pgn_of, source_of}
use Rattle.j39_groups.specs.Readings.{is_reported_in}
use Rattle.j39_groups.specs.Row.{RowRecord}
use Rattle.j39_listen.specs.Forgets.{Changed, WithForgets}
use Rattle.j39_listen.specs.Heard.{AreHeardWith, HeardAt, HeardAtWith, HeardBelowWith, Hearing, IsAssembled, IsHeardWith, IsSingleWith, frame_at, frames_only, or_none, sent_to}
use Rattle.j39_listen.specs.Report.{Entry, IsReport, entries_of}
use Rattle.j39_transport.proofs.Agreeing.{Agree, Links-same, Runs-same, joined_at-same}
use Rattle.j39_transport.proofs.Chains.{Links-from}
use Rattle.j39_transport.specs.Assembly.{Chain, Whole, joined_at, last_of}
use Rattle.j39_transport.specs.Events.{Event, announces, group, packets, size}
use Rattle.j39_transport.specs.Events.{at}
use Rattle.j39_transport.specs.Events.Event.{Frame, Forget}
use Rattle.j39_transport.specs.Key.{Key}
use Rattle.j39_transport.specs.Message.{MessageRecord}

-- ---- two lists of frames with the same first n

pub record SameBelow (F G : List FrameRecord) (n : ℕ) : Type 0 where
  pub in_F : n ≤ length F
  pub in_G : n ≤ length G
  pub same : (j : ℕ) → j < n → frame_at G j ≡ frame_at F j

pub same_below_sym : {F G : List FrameRecord} {n : ℕ} → SameBelow F G n → SameBelow G F n
same_below_sym h = record { in_F = h.in_G; in_G = h.in_F; same = λ j l. sym (h.same j l) }

pub same_below_less : {F G : List FrameRecord} {n : ℕ} (m : ℕ) → m ≤ n → SameBelow F G n → SameBelow F G m
same_below_less m l h = record {
  in_F = (let a = h.in_F in omega arith);
  in_G = (let a = h.in_G in omega arith);
  same = λ j k. h.same j (omega arith);
}

pub same_below_append : (F G : List FrameRecord) (n : ℕ) → n ≤ length F → SameBelow F (F ++ G) n
same_below_append F G n l = record {
  in_F = l;
  in_G = omega (arith, length-append F G);
  same = λ j k. get_or_append_left F G (record { stamp = 0; id = 0; bytes = [] }) j (omega arith);
}

pub claim_at : (F : List FrameRecord) (j : ℕ) → j < length F → get_or (claims_of F) j None ≡ claim_of (frame_at F j)
claim_at F j l = get_or-map claim_of F j (record { stamp = 0; id = 0; bytes = [] }) None l

pub event_at : (F : List FrameRecord) (j : ℕ) → j < length F → at (frames_only F) j ≡ Frame (frame_at F j)
event_at F j l = get_or-map (λ (f : FrameRecord). Frame f) F j (record { stamp = 0; id = 0; bytes = [] }) (Forget 255) l

pub same_claims : (F G : List FrameRecord) (n j : ℕ) → SameBelow F G n → j < n → get_or (claims_of G) j None ≡ get_or (claims_of F) j None
same_claims F G n j h l =
    let a = h.in_F in let b = h.in_G in
    claim_at G j (omega arith) ∙ (ap claim_of (h.same j l) ∙ sym (claim_at F j (omega arith)))

pub same_events : (F G : List FrameRecord) (n : ℕ) → SameBelow F G n → Agree (frames_only F) (frames_only G) n
same_events F G n h = record {
  same = λ j l.
      let a = h.in_F in let b = h.in_G in
      event_at G j (omega arith) ∙ (ap (λ (f : FrameRecord). Frame f) (h.same j l) ∙ sym (event_at F j (omega arith)));
}

pub holder_same : (F G : List FrameRecord) (n i a : ℕ) (o : Option ℕ) → SameBelow F G n → i ≤ n → IsHolder (claims_of F) i a o → IsHolder (claims_of G) i a o
holder_same F G n i a o h l k = holder_agree (claims_of F) (claims_of G) i a o (λ j m. sym (same_claims F G n j h (omega arith))) k

-- ---- whole messages over lists that agree

pub Chain-same : (E D : List Event) (s : Key) (g p0 : ℕ) (ps : List ℕ) → Agree E D (suc (last_of p0 ps)) → Chain E s g p0 ps → Chain D s g p0 ps
Chain-same E D s g p0 ps a h =
    let l : p0 ≤ last_of p0 ps = Links-from E s p0 ps h.links in
    let e : at D p0 ≡ at E p0 = a.same p0 (omega arith) in
    record {
      announced = ap (announces s) e ∙ h.announced;
      few = subst (λ (x : Event). length ps ≤ packets x) (sym e) h.few;
      links = Links-same E D s p0 ps a h.links;
      group_is = h.group_is ∙ sym (ap group e);
      runs = Runs-same E D s g p0 (suc (last_of p0 ps)) (omega arith) a h.runs;
    }

pub record SameWhole (D : List Event) (i : ℕ) (s : Key) (g start : ℕ) (b : List ℕ) : Type 0 where
  pub whole : Whole D i s g b
  pub start_is : whole.start ≡ start

pub Whole-same : (E D : List Event) (i : ℕ) (s : Key) (g : ℕ) (b : List ℕ) → Agree E D (suc i) → (w : Whole E i s g b) → SameWhole D i s g w.start b
Whole-same E D i s g b a w =
    let a' : Agree E D (suc (last_of w.start w.places)) = subst (λ (t : ℕ). Agree E D (suc t)) (sym w.ends_at) a in
    let l : w.start ≤ last_of w.start w.places = Links-from E s w.start w.places w.chain.links in
    let e : at D w.start ≡ at E w.start = a'.same w.start (omega arith) in
    record {
      whole = record {
        start = w.start;
        places = w.places;
        chain = Chain-same E D s g w.start w.places a' w.chain;
        full = w.full ∙ sym (ap packets e);
        ends_at = w.ends_at;
        bytes_are = w.bytes_are ∙ (ap (λ (x : Event). take (size x) (joined_at E w.places)) (sym e) ∙ ap (take (size (at D w.start))) (sym (joined_at-same E D s w.start w.places w.chain.links a')));
      };
      start_is = refl;
    }

-- ---- what is heard

pub single_same : (singles : ℕ → Bool) (F G : List FrameRecord) (i : ℕ) (m : MessageRecord) → SameBelow F G (suc i) → IsSingleWith singles F i m → IsSingleWith singles G i m
single_same singles F G i m h k =
    let e : frame_at G i ≡ frame_at F i = h.same i (omega arith) in
    record {
      inside = h.in_G;
      single = ap (λ (f : FrameRecord). singles (pgn_of f.id)) e ∙ k.single;
      address = k.address;
      source_is = ap (λ (f : FrameRecord). source_of f.id) e ∙ k.source_is;
      pgn_is = ap (λ (f : FrameRecord). pgn_of f.id) e ∙ k.pgn_is;
      bytes_are = ap (λ (f : FrameRecord). f.bytes) e ∙ k.bytes_are;
    }

pub assembled_same : (F G : List FrameRecord) (i : ℕ) (m : MessageRecord) (name : Option ℕ) → SameBelow F G (suc i) → IsAssembled F i m name → IsAssembled G i m name
assembled_same F G i m name h k =
    let w = Whole-same (frames_only F) (frames_only G) i k.key m.pgn m.bytes (same_events F G (suc i) h) k.whole in
    record {
      key = k.key;
      source_is = k.source_is;
      whole = w.whole;
      same_holder = λ j u v. holder_same F G (suc i) j m.source name h (omega arith) (k.same_holder j (let e : w.whole.start ≡ k.whole.start = w.start_is in omega arith) v);
    }

pub heard_same : (singles : ℕ → Bool) (F G : List FrameRecord) (i : ℕ) (x : Hearing) → SameBelow F G (suc i) → IsHeardWith singles F i x → IsHeardWith singles G i x
heard_same singles F G i x h k = record {
  carried = elim k.carried [ inl m ↦ inl (single_same singles F G i x.message h m) | inr b ↦ inr (assembled_same F G i x.message x.name h b) ];
  held_by = holder_same F G (suc i) i x.message.source x.name h (omega arith) k.held_by;
  destination_is = k.destination_is ∙ sym (ap (λ (f : FrameRecord). sent_to x.message.pgn f.id) (h.same i (omega arith)));
  stamp_is = k.stamp_is ∙ sym (ap (λ (f : FrameRecord). f.stamp) (h.same i (omega arith)));
}

-- what is heard at i depends on the first i + 1 frames alone
pub heard_at_same : (singles : ℕ → Bool) (F G : List FrameRecord) (i : ℕ) (o : Option Hearing) → SameBelow F G (suc i) → HeardAtWith singles F i o → HeardAtWith singles G i o
heard_at_same singles F G i None h k = λ x y. k x (heard_same singles G F i x (same_below_sym h) y)
heard_at_same singles F G i (Some x) h k = heard_same singles F G i x h k

pub holder_prefix : (F G : List FrameRecord) (i a : ℕ) (o : Option ℕ) → i ≤ length F → IsHolder (claims_of F) i a o ↔ IsHolder (claims_of (F ++ G)) i a o
holder_prefix F G i a o l =
    ((λ h. holder_same F (F ++ G) i i a o (same_below_append F G i l) (omega arith) h), (λ h. holder_same (F ++ G) F i i a o (same_below_sym (same_below_append F G i l)) (omega arith) h))

pub heard_below_same : (singles : ℕ → Bool) (F G : List FrameRecord) (n : ℕ) (hs : List Hearing) → SameBelow F G n → HeardBelowWith singles F n hs → HeardBelowWith singles G n hs
heard_below_same singles F G zero hs h k = k
heard_below_same singles F G (suc n) hs h k = (k.0, k.1, heard_below_same singles F G n k.0 (same_below_less n (omega arith) h) k.2, heard_at_same singles F G n k.1 h k.3, k.4)

-- ---- what is forgotten

pub changed_agree : (C D : List (Option Claim)) (n : ℕ) (gone : List ℕ) → ((j : ℕ) → j < suc n → get_or D j None ≡ get_or C j None) → Changed C n gone → Changed D n gone
changed_agree C D n gone e c = record {
  rising = c.rising;
  changed = λ a l o p x y. c.changed a l o p (holder_agree D C n a o (λ j m. e j (omega arith)) x) (holder_agree D C (suc n) a p (λ j m. e j m) y);
  all = λ a w. c.all a (λ o p x y. w o p (holder_agree C D n a o (λ j m. sym (e j (omega arith))) x) (holder_agree C D (suc n) a p (λ j m. sym (e j m)) y));
}

pub changed_same : (F G : List FrameRecord) (n : ℕ) (gone : List ℕ) → SameBelow F G (suc n) → Changed (claims_of F) n gone → Changed (claims_of G) n gone
changed_same F G n gone h c = changed_agree (claims_of F) (claims_of G) n gone (λ j l. same_claims F G (suc n) j h l) c

pub forgets_same : (F G : List FrameRecord) (n : ℕ) (E : List Event) → SameBelow F G n → WithForgets F n E → WithForgets G n E
forgets_same F G zero E h k = k
forgets_same F G (suc n) E h k = (
  k.0,
  k.1,
  forgets_same F G n k.0 (same_below_less n (omega arith) h) k.2,
  changed_same F G n k.1 h k.3,
  k.4 ∙ ap (λ (f : FrameRecord). (k.0 ++ Frame f ∷ []) ++ map (λ t. Forget t) k.1) (sym (h.same n (omega arith))),
)

-- ---- a frame more

pub frame_new : (F : List FrameRecord) (f : FrameRecord) → frame_at (F ++ f ∷ []) (length F) ≡ f
frame_new F f = get_or_push F f (record { stamp = 0; id = 0; bytes = [] }) (length F) refl

pub heard_more : (singles : ℕ → Bool) (F : List FrameRecord) (f : FrameRecord) (hs : List Hearing) (o : Option Hearing) → AreHeardWith singles F hs → HeardAtWith singles (F ++ f ∷ []) (length F) o → AreHeardWith singles (F ++ f ∷ []) (hs ++ or_none o)
heard_more singles F f hs o h k =
    let x : HeardBelowWith singles (F ++ f ∷ []) (suc (length F)) (hs ++ or_none o) = (hs, o, heard_below_same singles F (F ++ f ∷ []) (length F) hs (same_below_append F (f ∷ []) (length F) (omega arith)) h, k, refl) in
    subst (λ (n : ℕ). HeardBelowWith singles (F ++ f ∷ []) n (hs ++ or_none o)) (let n : suc (length F) ≡ length (F ++ f ∷ []) = omega (arith, length_push F f) in n) x

pub report_more : (groups : List RowRecord) (F : List FrameRecord) (f : FrameRecord) (es : List Entry) (o : Option Hearing) → IsReport groups F es → HeardAt groups (F ++ f ∷ []) (length F) o
    → IsReport groups (F ++ f ∷ []) (es ++ flat_map (entries_of groups) (or_none o))
report_more groups F f es o h k =
    (h.0 ++ or_none o, heard_more (is_reported_in groups) F f h.0 o h.1 k, ap (λ (xs : List Entry). xs ++ flat_map (entries_of groups) (or_none o)) h.2 ∙ sym (flat_map-append (entries_of groups) h.0 (or_none o)))

pub forgets_more : (F : List FrameRecord) (f : FrameRecord) (E : List Event) (gone : List ℕ) → WithForgets F (length F) E → Changed (claims_of (F ++ f ∷ [])) (length F) gone
    → WithForgets (F ++ f ∷ []) (length (F ++ f ∷ [])) ((E ++ Frame f ∷ []) ++ map (λ t. Forget t) gone)
forgets_more F f E gone h c =
    let x : WithForgets (F ++ f ∷ []) (suc (length F)) ((E ++ Frame f ∷ []) ++ map (λ t. Forget t) gone) = (
      E,
      gone,
      forgets_same F (F ++ f ∷ []) (length F) E (same_below_append F (f ∷ []) (length F) (omega arith)) h,
      c,
      ap (λ (z : FrameRecord). (E ++ Frame z ∷ []) ++ map (λ t. Forget t) gone) (sym (frame_new F f)),
    ) in
    subst (λ (n : ℕ). WithForgets (F ++ f ∷ []) n ((E ++ Frame f ∷ []) ++ map (λ t. Forget t) gone)) (let n : suc (length F) ≡ length (F ++ f ∷ []) = omega (arith, length_push F f) in n) x
