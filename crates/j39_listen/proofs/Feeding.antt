-- What a listener hears at the next frame.
use Rattle.std.proofs.Common.{◌≡◌, ◌≢◌, ◌⊎◌, ◌↔◌, ℕ, zero, suc, ◌+◌, ◌<◌, ◌≤◌, Bool, true, false, if◌then◌else◌, List, [], ◌∷◌, ◌++◌, map, length, Option, Some, None, refl, sym, ap, ◌∙◌, subst, inl, inr, arith, flat_map, nat_lt, ltb-true, lt-ltb}
use Rattle.std.proofs.lemmas.Bool.{cases_lt, cases_eq, cases_Bool, cond_both, cond-true, cond-false, both_ways, false_from_ne_true}
use Rattle.std.proofs.lemmas.List.{get_or_append_left, length_push}
use Rattle.j39_listen.proofs.Held.{holder_of, held_only}
use Rattle.j39_address.proofs.HolderLemmas.{same_holder, none_above}
use Rattle.j39_address.specs.Claim.{Claim, claims_of}
use Rattle.j39_address.specs.Holder.{IsHolder}
use Rattle.j39_frame.specs.Frame.{FrameRecord}
use Rattle.j39_frame.specs.Identifier.{pgn_of, source_of}
use Rattle.j39_groups.specs.Readings.{is_reported_in}
use Rattle.j39_groups.specs.Row.{RowRecord}
use Rattle.j39_listen.proofs.Between.{assembled_iff}
use Rattle.j39_address.proofs.OrderLemmas.{cases_option}
use Rattle.j39_listen.proofs.Rising.{Listed, Rises, changed_of}
use Rattle.j39_listen.proofs.Reported.{not_single, packet_group, packet_source, reported_leaves}
use Rattle.j39_transport.proofs.Taken.{assembled_sent}
use Rattle.j39_listen.specs.OneFrameMore.{alone_of, NextBy, Next, heard_of}
use Rattle.j39_listen.proofs.Causal.{Whole-same, forgets_more, forgets_same, frame_new, holder_prefix, report_more, same_below_append}
use Rattle.j39_listen.proofs.Unique.{assembled_packet}
use Rattle.j39_listen.specs.Forgets.{Changed, WithForgets}
use Rattle.j39_listen.specs.Heard.{HeardAt, HeardAtWith, Hearing, IsAssembled, IsHeardWith, IsSingleWith, LeavesNetwork, frame_at, or_none, sent_to}
use Rattle.j39_listen.specs.Report.{Entry, IsReport, entries_of}
use Rattle.j39_transport.proofs.Agreeing.{Agree}
use Rattle.j39_transport.specs.Answers.{WholeBy}
use Rattle.j39_transport.specs.Events.{Event, sends}
use Rattle.j39_transport.specs.Events.Event.{Frame, Forget}
use Rattle.j39_transport.specs.Frames.{is_packet}
use Rattle.j39_transport.specs.Key.{Key}
use Rattle.j39_transport.specs.Message.{MessageRecord}

-- ---- the addresses that a claim changes, computed

abbrev differs : Option ℕ → Option ℕ → Bool
differs o p = elim (cases_option o p) [ inl e ↦ false | inr n ↦ true ]

differs_true : (o p : Option ℕ) → differs o p ≡ true → o ≢ p
differs_true o p h = go (cases_option o p) h
  where
    go : (d : (o ≡ p) ⊎ (o ≢ p)) → elim d [ inl e ↦ false | inr n ↦ true ] ≡ true → o ≢ p
    go (inl e) k = absurd (both_ways false refl k)
    go (inr n) k = n

differs_false : (o p : Option ℕ) → differs o p ≡ false → o ≡ p
differs_false o p h = go (cases_option o p) h
  where
    go : (d : (o ≡ p) ⊎ (o ≢ p)) → elim d [ inl e ↦ false | inr n ↦ true ] ≡ false → o ≡ p
    go (inl e) k = e
    go (inr n) k = absurd (both_ways true k refl)

-- the changed ones among k, k + 1, .., up to m of them
changed_from : List (Option Claim) → ℕ → ℕ → ℕ → List ℕ
changed_from C n k zero = []
changed_from C n k (suc m) = if differs (holder_of C n k) (holder_of C (suc n) k) then k ∷ changed_from C n (suc k) m else changed_from C n (suc k) m

module _ (C : List (Option Claim)) (n : ℕ) where
  from_within : (k m a : ℕ) → Listed a (changed_from C n k m) → (k ≤ a) × (a < k + m) × (holder_of C n a ≢ holder_of C (suc n) a)
  unfolding changed_from
  from_within k zero a l = absurd l
  from_within k (suc m) a l = elim (cases_Bool (differs (holder_of C n k) (holder_of C (suc n) k))) [
    | inl t ↦ there t (λ u. from_within (suc k) m a u) (subst (λ (xs : List ℕ). Listed a xs) (cond-true _ _ _ t) l)
    | inr t ↦ (let r = from_within (suc k) m a (subst (λ (xs : List ℕ). Listed a xs) (cond-false _ _ _ t) l) in
        let u : suc k ≤ a = r.0 in let v : a < suc k + m = r.1 in (omega arith, omega arith, r.2))
  ]
    where
      there : differs (holder_of C n k) (holder_of C (suc n) k) ≡ true → (Listed a (changed_from C n (suc k) m) → (suc k ≤ a) × (a < suc k + m) × (holder_of C n a ≢ holder_of C (suc n) a))
          → Listed a (k ∷ changed_from C n (suc k) m) → (k ≤ a) × (a < k + suc m) × (holder_of C n a ≢ holder_of C (suc n) a)
      there t ih (inl e) = (omega arith, omega arith, subst (λ (x : ℕ). holder_of C n x ≢ holder_of C (suc n) x) (sym e) (differs_true _ _ t))
      there t ih (inr l) = (let r = ih l in let u : suc k ≤ a = r.0 in let v : a < suc k + m = r.1 in (omega arith, omega arith, r.2))

  from_each : (k m a : ℕ) → k ≤ a → a < k + m → holder_of C n a ≢ holder_of C (suc n) a → Listed a (changed_from C n k m)
  unfolding changed_from
  from_each k zero a u v d = absurd (omega arith)
  from_each k (suc m) a u v d = elim (cases_eq a k) [
    | inl e ↦ subst (λ (xs : List ℕ). Listed a xs) (sym (cond-true _ _ _ (here e))) (inl e)
    | inr w ↦ elim (cases_Bool (differs (holder_of C n k) (holder_of C (suc n) k))) [
      | inl t ↦ subst (λ (xs : List ℕ). Listed a xs) (sym (cond-true _ _ _ t)) (inr (from_each (suc k) m a (omega arith) (omega arith) d))
      | inr t ↦ subst (λ (xs : List ℕ). Listed a xs) (sym (cond-false _ _ _ t)) (from_each (suc k) m a (omega arith) (omega arith) d)
    ]
  ]
    where
      here : a ≡ k → differs (holder_of C n k) (holder_of C (suc n) k) ≡ true
      here e = elim (cases_Bool (differs (holder_of C n k) (holder_of C (suc n) k))) [
        | inl t ↦ t
        | inr t ↦ absurd (d (subst (λ (x : ℕ). holder_of C n x ≡ holder_of C (suc n) x) (sym e) (differs_false _ _ t)))
      ]

  from_rises : (k m : ℕ) → Rises (changed_from C n k m)
  unfolding changed_from
  from_rises k zero = tt
  from_rises k (suc m) = cond_both (differs (holder_of C n k) (holder_of C (suc n) k)) _ _ (λ (xs : List ℕ). Rises xs)
      (λ t. ((λ b l. let u : suc k ≤ b = (from_within (suc k) m b l).0 in omega arith), from_rises (suc k) m))
      (λ t. from_rises (suc k) m)

  -- there is such a list
  pub changed_exists : (gone : List ℕ) × Changed C n gone
  changed_exists = (
    changed_from C n 0 254,
    changed_of C n (changed_from C n 0 254) (record {
      rises = from_rises 0 254;
      only = λ a o p l x y e.
          (let r = from_within 0 254 a l in
          let w : a < 254 = (let v : a < 0 + 254 = r.1 in omega arith) in
          r.2 (sym (held_only C n a o x) ∙ (e ∙ held_only C (suc n) a p y)));
      each = λ a o p x y d. elim (cases_lt a 254) [
        | inl w ↦ from_each 0 254 a (omega arith) (omega arith) (λ e. d (held_only C n a o x ∙ (e ∙ sym (held_only C (suc n) a p y))))
        | inr w ↦ absurd (d (same_holder C n a o None x (none_above C n a w) ∙ sym (same_holder C (suc n) a p None y (none_above C (suc n) a w))))
      ];
    }),
  )

pub forgets_exist : (F : List FrameRecord) (n : ℕ) → (E : List Event) × WithForgets F n E
forgets_exist F zero = ([], refl)
forgets_exist F (suc n) =
    let b = forgets_exist F n in
    let c = changed_exists (claims_of F) n in
    ((b.0 ++ Frame (frame_at F n) ∷ []) ++ map (λ t. Forget t) c.0, (b.0, c.0, b.1, c.1, refl))

-- ---- the next frame

sends_frame : (s : Key) (f : FrameRecord) → sends s (Frame f) ≡ is_packet s f
unfolding sends
sends_frame s f = refl

-- only its own key has a message that is whole with f
pub assembled_source : (E : List Event) (f : FrameRecord) (m : MessageRecord) → WholeBy E f m → source_of f.id ≡ m.source
assembled_source E f m w = packet_source w.0 f (assembled_sent E f w.0 m.pgn m.bytes w.2) ∙ w.1

agree_append : (A B : List Event) → Agree (A ++ B) A (length A)
agree_append A B = record { same = λ i l. sym (get_or_append_left A B (Forget 255) i l) }

agree_onto : (A B : List Event) → Agree A (A ++ B) (length A)
agree_onto A B = record { same = λ i l. get_or_append_left A B (Forget 255) i l }

module _ (singles : ℕ → Bool) (leaves : LeavesNetwork singles) (F : List FrameRecord) (E : List Event) (f : FrameRecord) (h : WithForgets F (length F) E) where
  -- a message ends at f exactly where one is whole after E
  pub next_assembled : (m : MessageRecord) (name : Option ℕ) → IsHolder (claims_of F) (length F) m.source name
      → WholeBy E f m ↔ IsAssembled (F ++ f ∷ []) (length F) m name
  next_assembled m name held =
      let c = changed_exists (claims_of (F ++ f ∷ [])) (length F) in
      let w = forgets_more F f E c.0 h c.1 in
      let l : length F < length (F ++ f ∷ []) = omega (arith, length_push F f) in
      let k = forgets_same F (F ++ f ∷ []) (length F) E (same_below_append F (f ∷ []) (length F) (omega arith)) h in
      let iff = assembled_iff (F ++ f ∷ []) ((E ++ Frame f ∷ []) ++ map (λ t. Forget t) c.0) w (length F) E m name l k in
      let n : length (E ++ Frame f ∷ []) ≡ suc (length E) = omega (arith, length_push E (Frame f)) in
      let a1 : Agree (E ++ Frame f ∷ []) ((E ++ Frame f ∷ []) ++ map (λ t. Forget t) c.0) (suc (length E)) = subst (λ (x : ℕ). Agree (E ++ Frame f ∷ []) ((E ++ Frame f ∷ []) ++ map (λ t. Forget t) c.0) x) n (agree_onto (E ++ Frame f ∷ []) (map (λ t. Forget t) c.0)) in
      let a2 : Agree ((E ++ Frame f ∷ []) ++ map (λ t. Forget t) c.0) (E ++ Frame f ∷ []) (suc (length E)) = subst (λ (x : ℕ). Agree ((E ++ Frame f ∷ []) ++ map (λ t. Forget t) c.0) (E ++ Frame f ∷ []) x) n (agree_append (E ++ Frame f ∷ []) (map (λ t. Forget t) c.0)) in (
        (λ x. iff.0 (
          (x.0, x.1, (Whole-same (E ++ Frame f ∷ []) ((E ++ Frame f ∷ []) ++ map (λ t. Forget t) c.0) (length E) x.0 m.pgn m.bytes a1 x.2).whole),
          (holder_prefix F (f ∷ []) (length F) m.source name (omega arith)).0 held,
        )),
        (λ y. (let z = (iff.1 y).0 in (z.0, z.1, (Whole-same ((E ++ Frame f ∷ []) ++ map (λ t. Forget t) c.0) (E ++ Frame f ∷ []) (length E) z.0 m.pgn m.bytes a2 z.2).whole))),
      )

  heard_from : (m : MessageRecord) (name : Option ℕ) → m.source ≡ source_of f.id → IsHolder (claims_of F) (length F) (source_of f.id) name
      → IsSingleWith singles (F ++ f ∷ []) (length F) m ⊎ IsAssembled (F ++ f ∷ []) (length F) m name → IsHeardWith singles (F ++ f ∷ []) (length F) (record { message = m; destination = sent_to m.pgn f.id; stamp = f.stamp; name = name })
  heard_from m name s held c = record {
    carried = c;
    held_by = (holder_prefix F (f ∷ []) (length F) m.source name (omega arith)).0 (subst (λ (a : ℕ). IsHolder (claims_of F) (length F) a name) (sym s) held);
    destination_is = ap (λ (x : FrameRecord). sent_to m.pgn x.id) (sym (frame_new F f));
    stamp_is = ap (λ (x : FrameRecord). x.stamp) (sym (frame_new F f));
  }

  single_new : singles (pgn_of f.id) ≡ true → nat_lt (source_of f.id) 254 ≡ true → IsSingleWith singles (F ++ f ∷ []) (length F) (alone_of f)
  single_new r b =
      let e : frame_at (F ++ f ∷ []) (length F) ≡ f = frame_new F f in
      record {
        inside = omega (arith, length_push F f);
        single = ap (λ (x : FrameRecord). singles (pgn_of x.id)) e ∙ r;
        address = ltb-true _ _ b;
        source_is = ap (λ (x : FrameRecord). source_of x.id) e;
        pgn_is = ap (λ (x : FrameRecord). pgn_of x.id) e;
        bytes_are = ap (λ (x : FrameRecord). x.bytes) e;
      }

  single_is : (m : MessageRecord) → IsSingleWith singles (F ++ f ∷ []) (length F) m → (singles (pgn_of f.id) ≡ true) × (nat_lt (source_of f.id) 254 ≡ true)
  single_is m k =
      let e : frame_at (F ++ f ∷ []) (length F) ≡ f = frame_new F f in
      let s : source_of f.id ≡ m.source = sym (ap (λ (x : FrameRecord). source_of x.id) e) ∙ k.source_is in
      (sym (ap (λ (x : FrameRecord). singles (pgn_of x.id)) e) ∙ k.single, lt-ltb (source_of f.id) 254 (let l : m.source < 254 = k.address in omega arith))

  assembled_other : (m : MessageRecord) (name : Option ℕ) → IsAssembled (F ++ f ∷ []) (length F) m name → singles (pgn_of f.id) ≡ false
  assembled_other m name k =
      let p : is_packet k.key f ≡ true = sym (ap (is_packet k.key) (frame_new F f)) ∙ assembled_packet (F ++ f ∷ []) (length F) m name k in
      false_from_ne_true _ (λ r. not_single singles leaves (pgn_of f.id) r (packet_group k.key f p))

  -- what is heard at f
  pub heard_next : (c : Option MessageRecord) (name : Option ℕ) → Next singles E f c → IsHolder (claims_of F) (length F) (source_of f.id) name
      → HeardAtWith singles (F ++ f ∷ []) (length F) (heard_of f name c)
  heard_next c name n held = go (singles (pgn_of f.id)) (nat_lt (source_of f.id) 254) refl refl c n
    where
      go : (r b : Bool) → singles (pgn_of f.id) ≡ r → nat_lt (source_of f.id) 254 ≡ b → (c : Option MessageRecord) → NextBy r b E f c → HeardAtWith singles (F ++ f ∷ []) (length F) (heard_of f name c)
      go true true x y c k = subst (λ (o : Option MessageRecord). HeardAtWith singles (F ++ f ∷ []) (length F) (heard_of f name o)) (sym k) (heard_from (alone_of f) name refl held (inl (single_new x y)))
      go true false x y c k = subst (λ (o : Option MessageRecord). HeardAtWith singles (F ++ f ∷ []) (length F) (heard_of f name o)) (sym k) (λ u v.
          elim v.carried [
            | inl s ↦ both_ways _ y (single_is u.message s).1
            | inr t ↦ both_ways _ (assembled_other u.message u.name t) x
          ])
      go false b x y (Some m) k =
          let s : m.source ≡ source_of f.id = sym (assembled_source E f m k) in
          heard_from m name s held (inr ((next_assembled m name (subst (λ (a : ℕ). IsHolder (claims_of F) (length F) a name) (sym s) held)).0 k))
      go false b x y None k = λ u v.
          elim v.carried [
            | inl s ↦ both_ways _ x (single_is u.message s).0
            | inr t ↦ k u.message ((next_assembled u.message u.name ((holder_prefix F (f ∷ []) (length F) u.message.source u.name (omega arith)).1 v.held_by)).1 t)
          ]

-- a call more: the report, and the list with forgets
pub record Fed (groups : List RowRecord) (F : List FrameRecord) (f : FrameRecord) (o : Option Hearing) (D : List Event) : Type 0 where
  pub heard : HeardAt groups (F ++ f ∷ []) (length F) o
  pub report : (es : List Entry) → IsReport groups F es → IsReport groups (F ++ f ∷ []) (es ++ flat_map (entries_of groups) (or_none o))
  pub stands : WithForgets (F ++ f ∷ []) (length (F ++ f ∷ [])) D

pub fed : (groups : List RowRecord) (F : List FrameRecord) (E : List Event) (f : FrameRecord) (c : Option MessageRecord) (name : Option ℕ) (gone : List ℕ)
    → WithForgets F (length F) E → Next (is_reported_in groups) E f c → IsHolder (claims_of F) (length F) (source_of f.id) name → Changed (claims_of (F ++ f ∷ [])) (length F) gone
    → Fed groups F f (heard_of f name c) ((E ++ Frame f ∷ []) ++ map (λ t. Forget t) gone)
fed groups F E f c name gone h n held ch =
    let k : HeardAt groups (F ++ f ∷ []) (length F) (heard_of f name c) = heard_next (is_reported_in groups) (reported_leaves groups) F E f h c name n held in
    record {
      heard = k;
      report = λ es r. report_more groups F f es (heard_of f name c) r k;
      stands = forgets_more F f E gone h ch;
    }
