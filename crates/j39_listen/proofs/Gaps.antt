-- A list of frames and the same list with forgets: which place is which, and where a forget stands.
use Rattle.j39_listen.proofs.Rising.{Listed, changes_of}
use Rattle.std.proofs.Common.{◌≡◌, ◌≢◌, ℕ, zero, suc, ◌+◌, ◌-◌, ◌<◌, ◌≤◌, Bool, true, false, ◌&&◌, nat_lt, ◌==◌, List, [], ◌∷◌, ◌++◌, map, length, take, Option, refl, sym, ap, ◌∙◌, subst, inl, inr, arith, length-append, append_assoc, append-nil, eqb-true, eq-eqb, ltb-true, lt-ltb}
use Rattle.std.proofs.lemmas.Bool.{cases_eq, cases_order, and_parts, and_from, both_ways}
use Rattle.std.proofs.lemmas.List.{get_or_append_left, get_or_push, get_or-append-add, length_push, length-map, take_more}
use Rattle.j39_address.specs.Claim.{claims_of}
use Rattle.j39_address.specs.Holder.{IsHolder}
use Rattle.j39_frame.specs.Frame.{FrameRecord}
use Rattle.j39_listen.proofs.Causal.{event_at}
use Rattle.j39_listen.proofs.Forgets.{IsAside}
use Rattle.j39_listen.proofs.Masks.{Same, rank, without_none}
use Rattle.j39_listen.proofs.Unique.{forgets_unique}
use Rattle.j39_listen.specs.Forgets.{Changed, WithForgets}
use Rattle.j39_listen.specs.Heard.{frame_at, frames_only}
use Rattle.j39_listen.specs.Loss.{without}
use Rattle.j39_transport.proofs.FrameFacts.{key_below}
use Rattle.j39_transport.specs.Events.{Event, announces, ends, grants, rivals, sends}
use Rattle.j39_transport.specs.Events.{at}
use Rattle.j39_transport.specs.Events.Event.{Frame, Forget}
use Rattle.j39_transport.specs.Key.{Key, is_key, sender}

-- ---- the frames of a list of events

abbrev pub is_forget : Event → Bool
is_forget (Frame f) = false
is_forget (Forget t) = true

abbrev pub gaps : List Event → ℕ → Bool
gaps E i = is_forget (at E i)

abbrev pub frames_in : List Event → List Event
frames_in [] = []
frames_in (Frame f ∷ E) = Frame f ∷ frames_in E
frames_in (Forget t ∷ E) = frames_in E

without_gaps : (E : List Event) → without (gaps E) E ≡ frames_in E
without_gaps [] = refl
without_gaps (Frame f ∷ E) = ap (λ (x : List Event). Frame f ∷ x) (without_gaps E)
without_gaps (Forget t ∷ E) = without_gaps E

rank_gaps : (A B : List Event) → rank (gaps (A ++ B)) (length A) ≡ length (frames_in A)
rank_gaps [] B = refl
rank_gaps (Frame f ∷ A) B = ap suc (rank_gaps A B)
rank_gaps (Forget t ∷ A) B = rank_gaps A B

rank_none : (i : ℕ) → rank (λ i. false) i ≡ i
rank_none zero = refl
rank_none (suc i) = ap suc (rank_none i)

frames_append : (A B : List Event) → frames_in (A ++ B) ≡ frames_in A ++ frames_in B
frames_append [] B = refl
frames_append (Frame f ∷ A) B = ap (λ (x : List Event). Frame f ∷ x) (frames_append A B)
frames_append (Forget t ∷ A) B = frames_append A B

frames_forgotten : (gone : List ℕ) → frames_in (map (λ t. Forget t) gone) ≡ []
frames_forgotten [] = refl
frames_forgotten (a ∷ gone) = frames_forgotten gone

frames_next : (B : List Event) (f : FrameRecord) (gone : List ℕ) → frames_in ((B ++ Frame f ∷ []) ++ map (λ t. Forget t) gone) ≡ frames_in B ++ Frame f ∷ []
frames_next B f gone =
    frames_append (B ++ Frame f ∷ []) (map (λ t. Forget t) gone)
    ∙ (ap (λ (x : List Event). frames_in (B ++ Frame f ∷ []) ++ x) (frames_forgotten gone) ∙ (append-nil (frames_in (B ++ Frame f ∷ [])) ∙ frames_append B (Frame f ∷ [])))

-- the frames of E(F) are those of F
frames_first : (F : List FrameRecord) (n : ℕ) (E : List Event) → n ≤ length F → WithForgets F n E → frames_in E ≡ take n (frames_only F)
frames_first F zero E l h = ap frames_in h
frames_first F (suc n) E l h =
    let a : frames_in h.0 ≡ take n (frames_only F) = frames_first F n h.0 (omega arith) h.2 in
    let m : length (frames_only F) ≡ length F = length-map F (λ (f : FrameRecord). Frame f) in
    let b : take (n + 1) (frames_only F) ≡ take n (frames_only F) ++ at (frames_only F) n ∷ [] = take_more (frames_only F) n (Forget 255) (omega arith) in
    let c : at (frames_only F) n ≡ Frame (frame_at F n) = event_at F n l in
    ap frames_in h.4 ∙ (frames_next h.0 (frame_at F n) h.1 ∙ (ap (λ (x : List Event). x ++ Frame (frame_at F n) ∷ []) a
    ∙ (ap (λ (x : Event). take n (frames_only F) ++ x ∷ []) (sym c) ∙ (sym b ∙ ap (λ (x : ℕ). take x (frames_only F)) (let e : n + 1 ≡ suc n = omega arith in e)))))

frames_count : (F : List FrameRecord) (n : ℕ) (E : List Event) → WithForgets F n E → length (frames_in E) ≡ n
frames_count F zero E h = ap (λ (x : List Event). length (frames_in x)) h
frames_count F (suc n) E h =
    let a : length (frames_in h.0) ≡ n = frames_count F n h.0 h.2 in
    ap (λ (x : List Event). length (frames_in x)) h.4 ∙ (ap length (frames_next h.0 (frame_at F n) h.1) ∙ (let e : length (frames_in h.0 ++ Frame (frame_at F n) ∷ []) ≡ length (frames_in h.0) + 1 = length_push (frames_in h.0) (Frame (frame_at F n)) in omega arith))

pub one_rest : (F : List FrameRecord) (E : List Event) → WithForgets F (length F) E → without (λ i. false) (frames_only F) ≡ without (gaps E) E
one_rest F E h =
    let m : length F ≡ length (frames_only F) = sym (length-map F (λ (f : FrameRecord). Frame f)) in
    without_none (frames_only F) ∙ (sym (frames_first F (length F) E (omega arith) h ∙ (ap (λ (n : ℕ). take n (frames_only F)) m ∙ take_all (frames_only F))) ∙ sym (without_gaps E))
  where
    take_all : (xs : List Event) → take (length xs) xs ≡ xs
    take_all [] = refl
    take_all (x ∷ xs) = ap (λ (ys : List Event). x ∷ ys) (take_all xs)

forget_is_aside : (s : Key) (g : ℕ) (e : Event) → is_forget e ≡ true → IsAside s g e
unfolding announces sends grants rivals
forget_is_aside s g (Frame f) k = absurd (both_ways false refl k)
forget_is_aside s g (Forget t) k = record { no_frame = refl; no_rival = refl }

pub gap_is_aside : (E : List Event) (s : Key) (g r : ℕ) → gaps E r ≡ true → IsAside s g (at E r)
gap_is_aside E s g r h = forget_is_aside s g (at E r) h

-- ---- the part of E(F) before a frame

pub record Part (F : List FrameRecord) (i : ℕ) (E : List Event) : Type 0 where
  pub before : List Event
  pub stands : WithForgets F i before
  pub rest : List Event
  pub whole_is : E ≡ before ++ rest

pub part : (F : List FrameRecord) (n i : ℕ) (E : List Event) → i ≤ n → WithForgets F n E → Part F i E
part F zero zero E l h = record { before = E; stands = h; rest = []; whole_is = sym (append-nil E) }
part F zero (suc i) E l h = absurd (omega arith)
part F (suc n) i E l h = elim (cases_eq i (suc n)) [
  | inl e ↦ record { before = E; stands = subst (λ (x : ℕ). WithForgets F x E) (sym e) h; rest = []; whole_is = sym (append-nil E) }
  | inr e ↦
      (let p = part F n i h.0 (omega arith) h.2 in
      record {
        before = p.before;
        stands = p.stands;
        rest = (p.rest ++ Frame (frame_at F n) ∷ []) ++ map (λ t. Forget t) h.1;
        whole_is = h.4 ∙ (ap (λ (x : List Event). (x ++ Frame (frame_at F n) ∷ []) ++ map (λ t. Forget t) h.1) p.whole_is
            ∙ (ap (λ (x : List Event). x ++ map (λ t. Forget t) h.1) (append_assoc p.before p.rest (Frame (frame_at F n) ∷ []))
            ∙ append_assoc p.before (p.rest ++ Frame (frame_at F n) ∷ []) (map (λ t. Forget t) h.1)));
      })
]

-- the parts grow
pub part_le : (F : List FrameRecord) (i j : ℕ) (A B : List Event) → i ≤ j → WithForgets F i A → WithForgets F j B → length A ≤ length B
part_le F i j A B l h k =
    let p = part F j i B l k in
    let a : A ≡ p.before = forgets_unique F i A p.before h p.stands in
    let b : length A ≡ length p.before = ap length a in
    let c : length B ≡ length (p.before ++ p.rest) = ap length p.whole_is in
    omega (arith, length-append p.before p.rest)

next_length : (F : List FrameRecord) (i : ℕ) (A : List Event) (h : WithForgets F (suc i) A) → length A ≡ suc (length h.0) + length h.1
next_length F i A h =
    let c : length A ≡ length ((h.0 ++ Frame (frame_at F i) ∷ []) ++ map (λ t. Forget t) h.1) = ap length h.4 in
    let m : length (map (λ t. Forget t) h.1) ≡ length h.1 = length-map h.1 (λ (t : ℕ). Forget t) in
    omega (arith, length-append (h.0 ++ Frame (frame_at F i) ∷ []) (map (λ t. Forget t) h.1), length_push h.0 (Frame (frame_at F i)))

-- ---- the place in E(F) of a frame of F

pub record Placed (F : List FrameRecord) (E : List Event) (i c : ℕ) : Type 0 where
  pub before : List Event
  pub stands : WithForgets F i before
  pub place_is : c ≡ length before
  pub same : Same (λ i. false) (gaps E) (frames_only F) E i c

pub placed : (F : List FrameRecord) (E D : List Event) (i : ℕ) → WithForgets F (length F) E → i < length F → WithForgets F i D → Placed F E i (length D)
placed F E D i h l k =
    let p = part F (length F) (suc i) E l h in
    let q = p.stands in
    let d : q.0 ≡ D = forgets_unique F i q.0 D q.2 k in
    let n : length q.0 ≡ length D = ap length d in
    let b : p.before ≡ D ++ (Frame (frame_at F i) ∷ map (λ t. Forget t) q.1) =
    q.4 ∙ (ap (λ (x : List Event). (x ++ Frame (frame_at F i) ∷ []) ++ map (λ t. Forget t) q.1) d ∙ append_assoc D (Frame (frame_at F i) ∷ []) (map (λ t. Forget t) q.1)) in
    let w : E ≡ D ++ ((Frame (frame_at F i) ∷ map (λ t. Forget t) q.1) ++ p.rest) =
    p.whole_is ∙ (ap (λ (x : List Event). x ++ p.rest) b ∙ append_assoc D (Frame (frame_at F i) ∷ map (λ t. Forget t) q.1) p.rest) in
    let e : at E (length D) ≡ Frame (frame_at F i) =
    ap (λ (x : List Event). at x (length D)) w ∙ (ap (at (D ++ ((Frame (frame_at F i) ∷ map (λ t. Forget t) q.1) ++ p.rest))) (let z : length D ≡ length D + 0 = omega arith in z)
    ∙ get_or-append-add D ((Frame (frame_at F i) ∷ map (λ t. Forget t) q.1) ++ p.rest) 0 (Forget 255)) in
    let m : length E ≡ length D + suc (length (map (λ t. Forget t) q.1 ++ p.rest)) = ap length w ∙ length-append D ((Frame (frame_at F i) ∷ map (λ t. Forget t) q.1) ++ p.rest) in
    record {
      before = D;
      stands = k;
      place_is = refl;
      same = record {
        f_below = (let x : length (frames_only F) ≡ length F = length-map F (λ (f : FrameRecord). Frame f) in omega arith);
        f_kept = refl;
        h_below = omega arith;
        h_kept = ap is_forget e;
        ranks = rank_none i ∙ sym (ap (λ (x : List Event). rank (gaps x) (length D)) w ∙ (rank_gaps D ((Frame (frame_at F i) ∷ map (λ t. Forget t) q.1) ++ p.rest) ∙ frames_count F i D k));
      };
    }

-- ---- a forget stands exactly where a holder changes

-- a forget of the source s
abbrev pub forgets : ℕ → Event → Bool
forgets s (Frame f) = false
forgets s (Forget t) = s == t && nat_lt s 254

forgets_below : (s : ℕ) (e : Event) → forgets s e ≡ true → s < 254
forgets_below s (Frame f) h = absurd (both_ways false refl h)
forgets_below s (Forget t) h = ltb-true _ _ (and_parts (s == t) (nat_lt s 254) h).1

forgets_frame : (s : ℕ) (f : FrameRecord) → forgets s (Frame f) ≡ false
forgets_frame s f = refl

forgets_it : (s t : ℕ) → forgets s (Forget t) ≡ true → s ≡ t
forgets_it s t h = eqb-true _ _ (and_parts (s == t) (nat_lt s 254) h).0

forgets_this : (s : ℕ) → s < 254 → forgets s (Forget s) ≡ true
forgets_this s l = and_from _ _ (eq-eqb s s refl) (lt-ltb s 254 l)

-- a forget that ends the message of a key is one of its source, and the other way round
pub ends-forgets : (k : Key) (g : ℕ) (e : Event) → is_forget e ≡ true → ends k g e ≡ true → forgets (sender k) e ≡ true
unfolding ends
ends-forgets k g (Frame f) a h = absurd (both_ways false refl a)
ends-forgets k g (Forget t) a h = let p = and_parts (sender k == t) (is_key k) h in and_from _ _ p.0 (lt-ltb (sender k) 254 (key_below k p.1))

pub forgets-ends : (k : Key) (g : ℕ) (e : Event) → is_key k ≡ true → forgets (sender k) e ≡ true → ends k g e ≡ true
unfolding ends
forgets-ends k g (Frame f) a h = absurd (both_ways false refl h)
forgets-ends k g (Forget t) a h = and_from _ _ (and_parts (sender k == t) (nat_lt (sender k) 254) h).0 a

forget_listed : (s : ℕ) (gone : List ℕ) (r : ℕ) → forgets s (at (map (λ t. Forget t) gone) r) ≡ true → Listed s gone
forget_listed s [] r h =
    let a : s ≡ 255 = forgets_it s 255 h in
    let b : s < 254 = forgets_below s (Forget 255) h in
    absurd (omega arith)
forget_listed s (a ∷ gone) zero h = inl (forgets_it s a h)
forget_listed s (a ∷ gone) (suc r) h = inr (forget_listed s gone r h)

listed_forget : (s : ℕ) (gone : List ℕ) → s < 254 → Listed s gone → (r : ℕ) × (r < length gone) × (forgets s (at (map (λ t. Forget t) gone) r) ≡ true)
listed_forget s [] w h = absurd h
listed_forget s (a ∷ gone) w (inl e) = (0, (omega arith), subst (λ (t : ℕ). forgets s (Forget t) ≡ true) e (forgets_this s w))
listed_forget s (a ∷ gone) w (inr l) = let k = listed_forget s gone w l in let m : k.0 < length gone = k.1 in (suc k.0, (omega arith), k.2)

-- the forget at place q stands after F[frame], which changes the holder of s
pub record ForgetOf (F : List FrameRecord) (s q : ℕ) : Type 0 where
  pub frame : ℕ
  pub before : List Event
  pub after : List Event
  pub stands : WithForgets F frame before
  pub stands_after : WithForgets F (suc frame) after
  pub gone : List ℕ
  pub changed : Changed (claims_of F) frame gone
  pub listed : Listed s gone
  pub low : length before < q
  pub high : q < length after

pub forget_of : (F : List FrameRecord) (n : ℕ) (E : List Event) (s q : ℕ) → WithForgets F n E → q < length E → forgets s (at E q) ≡ true → ForgetOf F s q
forget_of F zero E s q h l k = absurd (let z : length E ≡ 0 = ap length h in omega arith)
forget_of F (suc n) E s q h l k =
    let e : at E q ≡ at ((h.0 ++ Frame (frame_at F n) ∷ []) ++ map (λ t. Forget t) h.1) q = ap (λ (x : List Event). at x q) h.4 in
    let b : length (h.0 ++ Frame (frame_at F n) ∷ []) ≡ length h.0 + 1 = length_push h.0 (Frame (frame_at F n)) in
    elim (cases_order q (length h.0)) [
      | inl i ↦ absurd (both_ways _ (forgets_frame s (frame_at F n)) (subst (λ (x : Event). forgets s x ≡ true)
          (e ∙ (get_or_append_left (h.0 ++ Frame (frame_at F n) ∷ []) (map (λ t. Forget t) h.1) (Forget 255) q (omega arith) ∙ get_or_push h.0 (Frame (frame_at F n)) (Forget 255) q (sym i))) k))
      | inr o ↦ elim o [
        | inl u ↦ forget_of F n h.0 s q h.2 u (subst (λ (x : Event). forgets s x ≡ true)
            (e ∙ (get_or_append_left (h.0 ++ Frame (frame_at F n) ∷ []) (map (λ t. Forget t) h.1) (Forget 255) q (omega arith) ∙ get_or_append_left h.0 (Frame (frame_at F n) ∷ []) (Forget 255) q u)) k)
        | inr u ↦
            (let z : q ≡ length (h.0 ++ Frame (frame_at F n) ∷ []) + (q - suc (length h.0)) = omega arith in
            record {
              frame = n;
              before = h.0;
              after = E;
              stands = h.2;
              stands_after = h;
              gone = h.1;
              changed = h.3;
              listed = forget_listed s h.1 (q - suc (length h.0)) (subst (λ (x : Event). forgets s x ≡ true)
                  (e ∙ (ap (at ((h.0 ++ Frame (frame_at F n) ∷ []) ++ map (λ t. Forget t) h.1)) z ∙ get_or-append-add (h.0 ++ Frame (frame_at F n) ∷ []) (map (λ t. Forget t) h.1) (q - suc (length h.0)) (Forget 255))) k);
              low = u;
              high = l;
            })
      ]
    ]

-- where F[j] changes the holder of s, a forget of s stands in E(F) between the places of F[j] and F[j + 1]
pub record Forgotten (F : List FrameRecord) (E : List Event) (s j : ℕ) : Type 0 where
  pub place : ℕ
  pub before : List Event
  pub after : List Event
  pub stands : WithForgets F j before
  pub stands_after : WithForgets F (suc j) after
  pub low : length before < place
  pub high : place < length after
  pub is_forget : forgets s (at E place) ≡ true

pub forgotten : (F : List FrameRecord) (n : ℕ) (E : List Event) (s j : ℕ) (o p : Option ℕ) → WithForgets F n E → j < n → s < 254 → IsHolder (claims_of F) j s o → IsHolder (claims_of F) (suc j) s p → o ≢ p → Forgotten F E s j
forgotten F n E s j o p h l w x y d =
    let r = part F n (suc j) E l h in
    let q = r.stands in
    let k = listed_forget s q.1 w ((changes_of _ _ _ q.3).each s o p x y d) in
    let b : length (q.0 ++ Frame (frame_at F j) ∷ []) ≡ length q.0 + 1 = length_push q.0 (Frame (frame_at F j)) in
    let c : length r.before ≡ suc (length q.0) + length q.1 = next_length F j r.before q in
    let u : k.0 < length q.1 = k.1 in
    let a : r.before ≡ (q.0 ++ Frame (frame_at F j) ∷ []) ++ map (λ t. Forget t) q.1 = q.4 in
    record {
      place = length (q.0 ++ Frame (frame_at F j) ∷ []) + k.0;
      before = q.0;
      after = r.before;
      stands = q.2;
      stands_after = q;
      low = omega arith;
      high = omega arith;
      is_forget = ap (λ (z : List Event). forgets s (at z (length (q.0 ++ Frame (frame_at F j) ∷ []) + k.0))) r.whole_is
          ∙ (ap (forgets s) (get_or_append_left r.before r.rest (Forget 255) (length (q.0 ++ Frame (frame_at F j) ∷ []) + k.0) (omega arith))
          ∙ (ap (λ (z : List Event). forgets s (at z (length (q.0 ++ Frame (frame_at F j) ∷ []) + k.0))) a
          ∙ (ap (forgets s) (get_or-append-add (q.0 ++ Frame (frame_at F j) ∷ []) (map (λ t. Forget t) q.1) k.0 (Forget 255)) ∙ k.2)));
    }
