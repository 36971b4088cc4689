-- A list of frames, and the same with forgets between: chains of the one and of the other.
use Rattle.std.proofs.Common.{◌≡◌, ◌⊎◌, ℕ, zero, suc, ◌+◌, ◌<◌, ◌≤◌, Bool, true, false, if◌then◌else◌, List, [], ◌∷◌, ◌++◌, length, take, refl, sym, ap, ◌∙◌, subst, inl, inr, arith, ◌==◌}
use Rattle.std.proofs.lemmas.Bool.{cases_lt, cases_eq, cases_Bool, and_parts, or_left, or_right, both_ways, false_from_ne_true, cond-false}
use Rattle.j39_listen.proofs.Masks.{Same, kept_at, one_in_H, order_to_F, order_to_H, place_in_F, place_in_H, rank, rank_gone, rank_kept, same_element}
use Rattle.j39_listen.specs.Loss.{without}
use Rattle.j39_transport.proofs.Chains.{belongs_within}
use Rattle.j39_transport.specs.Assembly.{AreSuccessive, IsFirstAfter, Links, Runs, Whole, count_below, joined_at, last_of}
use Rattle.j39_transport.specs.Events.{Event, announces, belongs, ends, group, is_numbered, number, packets, payload, rivals, sends, size, stamp}
use Rattle.j39_transport.specs.Events.{at}
use Rattle.j39_transport.specs.Events.Event.{Forget}
use Rattle.j39_transport.specs.Key.{Key, limit}

-- a packet of a key belongs to its message, and so does its announcement
sends-belongs : (k : Key) (g : ℕ) (e : Event) → sends k e ≡ true → belongs k g e ≡ true
sends-belongs k g e h = or_left _ _ (or_right _ _ h)

announces-belongs : (k : Key) (g : ℕ) (e : Event) → announces k e ≡ true → belongs k g e ≡ true
announces-belongs k g e h = or_left _ _ (or_left _ _ h)

-- what doesn't count is not missed
pub count_rest : (t : Event → Bool) (X : ℕ → Bool) (E : List Event) → ((i : ℕ) → X i ≡ true → t (at E i) ≡ false)
    → (i : ℕ) → i ≤ length E → count_below t E i ≡ count_below t (without X E) (rank X i)
count_rest t X E n zero l = refl
count_rest t X E n (suc i) l =
    let r : count_below t E i ≡ count_below t (without X E) (rank X i) = count_rest t X E n i (omega arith) in
    elim (cases_Bool (X i)) [
      | inl e ↦ cond-false _ _ _ (n i e) ∙ (r ∙ ap (count_below t (without X E)) (sym (rank_gone X i e)))
      | inr e ↦
          let b : at (without X E) (rank X i) ≡ at E i = kept_at X E i (Forget 255) e l in
          ap (λ (x : Event). if t x then suc (count_below t E i) else count_below t E i) (sym b)
          ∙ (ap (λ (c : ℕ). if t (at (without X E) (rank X i)) then suc c else c) r
          ∙ ap (count_below t (without X E)) (sym (rank_kept X i e)))
    ]

-- an event that is nothing to s, or ends its message
pub record IsAside (s : Key) (g : ℕ) (e : Event) : Type 0 where
  pub no_frame : belongs s g e ≡ false
  pub no_rival : rivals s e ≡ false

-- D without forgets, E with what Z names put in: nothing of s among it but forgets
module _ (D E : List Event) (Z : ℕ → Bool) (one : without (λ i. false) D ≡ without Z E) (s : Key) (g : ℕ)
    (others : (r : ℕ) → Z r ≡ true → IsAside s g (at E r)) where
  pub same_event : {p c : ℕ} → Same (λ i. false) Z D E p c → at E c ≡ at D p
  same_event r = same_element (λ i. false) Z D E one (Forget 255) r

  -- a frame of the message in E has a place in D, and the other way round
  pub down_place : (c : ℕ) → belongs s g (at E c) ≡ true → (p : ℕ) × Same (λ i. false) Z D E p c
  down_place c h = elim (cases_Bool (Z c)) [
    | inl k ↦ absurd (both_ways _ (others c k).no_frame h)
    | inr k ↦ place_in_F (λ i. false) Z D E one c (belongs_within s g E c h) k
  ]

  pub up_place : (p : ℕ) → belongs s g (at D p) ≡ true → (c : ℕ) × Same (λ i. false) Z D E p c
  up_place p h = place_in_H (λ i. false) Z D E one p (belongs_within s g D p h) refl

  -- as many rivals stand up to a place in the one as in the other
  pub counts_agree : (p c : ℕ) → Same (λ i. false) Z D E p c → count_below (rivals s) E (suc c) ≡ count_below (rivals s) D (suc p)
  counts_agree p c m =
      count_rest (rivals s) Z E (λ i k. (others i k).no_rival) (suc c) m.h_below
      ∙ (ap (count_below (rivals s) (without Z E)) (rank_kept Z c m.h_kept ∙ (ap suc (sym m.ranks) ∙ sym (rank_kept (λ i. false) p refl)))
      ∙ (ap (λ (G : List Event). count_below (rivals s) G (rank (λ i. false) (suc p))) (sym one)
      ∙ sym (count_rest (rivals s) (λ i. false) D (λ i k. absurd (both_ways false refl k)) (suc p) m.f_below)))

  pub record Mapped (p0 c0 : ℕ) (ps cs : List ℕ) : Type 0 where
    pub links_D : Links D s p0 ps
    pub links_E : Links E s c0 cs
    pub count : length ps ≡ length cs
    pub last_same : Same (λ i. false) Z D E (last_of p0 ps) (last_of c0 cs)
    pub joined_is : joined_at E cs ≡ joined_at D ps

  -- one link more, on both sides
  link_more : (p0 c0 p c : ℕ) (ps cs : List ℕ) → Mapped p0 c0 ps cs → Same (λ i. false) Z D E p c
      → IsFirstAfter D s (last_of p0 ps) (suc (length ps)) p ⊎ IsFirstAfter E s (last_of c0 cs) (suc (length cs)) c → Mapped p0 c0 (p ∷ ps) (c ∷ cs)
  link_more p0 c0 p c ps cs m sm f = record {
    links_D = (
      elim f [
        | inl w ↦ w
        | inr w ↦ record {
          later = order_to_F (λ i. false) Z D E one m.last_same sm w.later;
          stands = ap (is_numbered s (suc (length ps))) (sym (same_event sm)) ∙ (ap (λ (n : ℕ). is_numbered s (suc n) (at E c)) m.count ∙ w.stands);
          first = λ r u v. false_from_ne_true _ (λ t.
              let k = up_place r (sends-belongs s g (at D r) (and_parts (sends s (at D r)) (number (at D r) == suc (length ps)) t).0) in
              both_ways _ (w.first k.0 (order_to_H (λ i. false) Z D E one m.last_same k.1 u) (order_to_H (λ i. false) Z D E one k.1 sm v))
              (ap (λ (n : ℕ). is_numbered s (suc n) (at E k.0)) (sym m.count) ∙ (ap (is_numbered s (suc (length ps))) (same_event k.1) ∙ t)));
        }
      ],
      m.links_D,
    );
    links_E = (
      elim f [
        | inr w ↦ w
        | inl w ↦ record {
          later = order_to_H (λ i. false) Z D E one m.last_same sm w.later;
          stands = ap (λ (n : ℕ). is_numbered s (suc n) (at E c)) (sym m.count) ∙ (ap (is_numbered s (suc (length ps))) (same_event sm) ∙ w.stands);
          first = λ r u v. false_from_ne_true _ (λ t.
              let k = down_place r (sends-belongs s g (at E r) (and_parts (sends s (at E r)) (number (at E r) == suc (length cs)) t).0) in
              both_ways _ (w.first k.0 (order_to_F (λ i. false) Z D E one m.last_same k.1 u) (order_to_F (λ i. false) Z D E one k.1 sm v))
              (ap (is_numbered s (suc (length ps))) (sym (same_event k.1)) ∙ (ap (λ (n : ℕ). is_numbered s (suc n) (at E r)) m.count ∙ t)));
        }
      ],
      m.links_E,
    );
    count = ap suc m.count;
    last_same = sm;
    joined_is = ap (λ (bs : List ℕ). bs ++ payload (at E c)) m.joined_is ∙ ap (λ (x : Event). joined_at D ps ++ payload x) (same_event sm);
  }

  pub up : (p0 c0 : ℕ) → Same (λ i. false) Z D E p0 c0 → (ps : List ℕ) → Links D s p0 ps → (cs : List ℕ) × Mapped p0 c0 ps cs
  up p0 c0 sm [] h = ([], record { links_D = tt; links_E = tt; count = refl; last_same = sm; joined_is = refl })
  up p0 c0 sm (p ∷ ps) h =
      let i = up p0 c0 sm ps h.1 in
      let f : IsFirstAfter D s (last_of p0 ps) (suc (length ps)) p = h.0 in
      let k = up_place p (sends-belongs s g (at D p) (and_parts (sends s (at D p)) (number (at D p) == suc (length ps)) f.stands).0) in
      (k.0 ∷ i.0, link_more p0 c0 p k.0 ps i.0 i.1 k.1 (inl f))

  pub down : (p0 c0 : ℕ) → Same (λ i. false) Z D E p0 c0 → (cs : List ℕ) → Links E s c0 cs → (ps : List ℕ) × Mapped p0 c0 ps cs
  down p0 c0 sm [] h = ([], record { links_D = tt; links_E = tt; count = refl; last_same = sm; joined_is = refl })
  down p0 c0 sm (c ∷ cs) h =
      let i = down p0 c0 sm cs h.1 in
      let f : IsFirstAfter E s (last_of c0 cs) (suc (length cs)) c = h.0 in
      let k = down_place c (sends-belongs s g (at E c) (and_parts (sends s (at E c)) (number (at E c) == suc (length cs)) f.stands).0) in
      (k.0 ∷ i.0, link_more p0 c0 k.0 c i.0 cs i.1 k.1 (inr f))

  -- successive frames of s in the one are so in the other
  successive_up : (a b x y : ℕ) → Same (λ i. false) Z D E a x → Same (λ i. false) Z D E b y → AreSuccessive D s g a b → AreSuccessive E s g x y
  successive_up a b x y sa sb h = record {
    order = order_to_H (λ i. false) Z D E one sa sb h.order;
    earlier = ap (belongs s g) (same_event sa) ∙ h.earlier;
    later = ap (belongs s g) (same_event sb) ∙ h.later;
    none_between = λ q u v. false_from_ne_true _ (λ t. let k = down_place q t in
        both_ways _ (h.none_between k.0 (order_to_F (λ i. false) Z D E one sa k.1 u) (order_to_F (λ i. false) Z D E one k.1 sb v)) (ap (belongs s g) (sym (same_event k.1)) ∙ t));
  }

  pub successive_down : (a b x y : ℕ) → Same (λ i. false) Z D E a x → Same (λ i. false) Z D E b y → AreSuccessive E s g x y → AreSuccessive D s g a b
  successive_down a b x y sa sb h = record {
    order = order_to_F (λ i. false) Z D E one sa sb h.order;
    earlier = ap (belongs s g) (sym (same_event sa)) ∙ h.earlier;
    later = ap (belongs s g) (sym (same_event sb)) ∙ h.later;
    none_between = λ q u v. false_from_ne_true _ (λ t. let k = up_place q t in
        both_ways _ (h.none_between k.0 (order_to_H (λ i. false) Z D E one sa k.1 u) (order_to_H (λ i. false) Z D E one k.1 sb v)) (ap (belongs s g) (same_event k.1) ∙ t));
  }

  -- a message that is whole in E is whole in D, from the same announcement
  pub record InBoth (h f : ℕ) (b : List ℕ) : Type 0 where
    pub whole_E : Whole E h s g b
    pub whole_D : Whole D f s g b
    pub start_same : Same (λ i. false) Z D E whole_D.start whole_E.start

  pub le_up : (a b x y : ℕ) → Same (λ i. false) Z D E a x → Same (λ i. false) Z D E b y → a ≤ b → x ≤ y
  le_up a b x y sa sb l = elim (cases_eq a b) [
    | inl e ↦ (let z : x ≡ y = one_in_H (λ i. false) Z D E one (subst (λ (t : ℕ). Same (λ i. false) Z D E t x) e sa) sb in omega arith)
    | inr e ↦ (let z : x < y = order_to_H (λ i. false) Z D E one sa sb (omega arith) in omega arith)
  ]

  pub le_down : (a b x y : ℕ) → Same (λ i. false) Z D E a x → Same (λ i. false) Z D E b y → x ≤ y → a ≤ b
  le_down a b x y sa sb l = elim (cases_lt b a) [
    | inl m ↦ absurd (let z : y < x = order_to_H (λ i. false) Z D E one sb sa m in omega arith)
    | inr m ↦ m
  ]

  pub same_down : (a b x : ℕ) → Same (λ i. false) Z D E a x → Same (λ i. false) Z D E b x → a ≡ b
  same_down a b x sa sb = elim (cases_lt a b) [
    | inl l ↦ absurd (let z : x < x = order_to_H (λ i. false) Z D E one sa sb l in omega arith)
    | inr l ↦ elim (cases_eq a b) [ inl e ↦ e | inr e ↦ absurd (let z : x < x = order_to_H (λ i. false) Z D E one sb sa (omega arith) in omega arith) ]
  ]

  -- a stretch of the one runs on as that of the other, but for what is put in
  pub runs_down : (p0 c0 ld le : ℕ) → Same (λ i. false) Z D E p0 c0 → Same (λ i. false) Z D E ld le → Runs E s g c0 (suc le) → Runs D s g p0 (suc ld)
  runs_down p0 c0 ld le s0 sl h = record {
    quiet = λ q u v.
        let m : q < length D = (let l : ld < length D = sl.f_below in omega arith) in
        let k = place_in_H (λ i. false) Z D E one q m refl in
        let w = h.quiet k.0 (order_to_H (λ i. false) Z D E one s0 k.1 u) (let l : k.0 ≤ le = le_up q ld k.0 le k.1 sl (omega arith) in omega arith) in
        (ap (announces s) (sym (same_event k.1)) ∙ w.0, ap (ends s g) (sym (same_event k.1)) ∙ w.1);
    in_time = λ a c u v t.
        let x = up_place a t.earlier in
        let y = up_place c t.later in
        let l1 : c0 ≤ x.0 = le_up p0 a c0 x.0 s0 x.1 u in
        let l2 : y.0 ≤ le = le_up c ld y.0 le y.1 sl (omega arith) in
        let r : stamp (at E y.0) ≤ stamp (at E x.0) + limit s = h.in_time x.0 y.0 l1 (omega arith) (successive_up a c x.0 y.0 x.1 y.1 t) in
        let e1 : stamp (at E x.0) ≡ stamp (at D a) = ap stamp (same_event x.1) in
        let e2 : stamp (at E y.0) ≡ stamp (at D c) = ap stamp (same_event y.1) in
        omega arith;
    young = (let a = counts_agree p0 c0 s0 in let b = counts_agree ld le sl in
        subst (λ (t : ℕ). t < 16 + count_below (rivals s) D (suc p0)) b (subst (λ (t : ℕ). count_below (rivals s) E (suc le) < 16 + t) a h.young));
  }

  pub runs_up : (p0 c0 ld le : ℕ) → Same (λ i. false) Z D E p0 c0 → Same (λ i. false) Z D E ld le → ((q : ℕ) → c0 < q → q < le → Z q ≡ true → ends s g (at E q) ≡ false)
      → Runs D s g p0 (suc ld) → Runs E s g c0 (suc le)
  runs_up p0 c0 ld le s0 sl nf h = record {
    quiet = λ q u v.
        let m : q < length E = (let l : le < length E = sl.h_below in omega arith) in
        (elim (cases_Bool (Z q)) [
          | inl z ↦
              (let n = (others q z).no_frame in (
                false_from_ne_true _ (λ t. both_ways _ n (announces-belongs s g (at E q) t)),
                elim (cases_eq q le) [ inl e ↦ absurd (both_ways _ sl.h_kept (subst (λ (x : ℕ). Z x ≡ true) e z)) | inr e ↦ nf q u (omega arith) z ],
              ))
          | inr z ↦
              (let k = place_in_F (λ i. false) Z D E one q m z in
              let w = h.quiet k.0 (order_to_F (λ i. false) Z D E one s0 k.1 u) (let l : k.0 ≤ ld = le_down k.0 ld q le k.1 sl (omega arith) in omega arith) in
              (ap (announces s) (same_event k.1) ∙ w.0, ap (ends s g) (same_event k.1) ∙ w.1))
        ]);
    in_time = λ x y u v t.
        let a = down_place x t.earlier in
        let b = down_place y t.later in
        let l1 : p0 ≤ a.0 = le_down p0 a.0 c0 x s0 a.1 u in
        let l2 : b.0 ≤ ld = le_down b.0 ld y le b.1 sl (omega arith) in
        let r : stamp (at D b.0) ≤ stamp (at D a.0) + limit s = h.in_time a.0 b.0 l1 (omega arith) (successive_down a.0 b.0 x y a.1 b.1 t) in
        let e1 : stamp (at E x) ≡ stamp (at D a.0) = ap stamp (same_event a.1) in
        let e2 : stamp (at E y) ≡ stamp (at D b.0) = ap stamp (same_event b.1) in
        omega arith;
    young = (let a = counts_agree p0 c0 s0 in let b = counts_agree ld le sl in
        subst (λ (t : ℕ). t < 16 + count_below (rivals s) E (suc c0)) (sym b) (subst (λ (t : ℕ). count_below (rivals s) D (suc ld) < 16 + t) (sym a) h.young));
  }

  pub whole_down : (h f : ℕ) (b : List ℕ) → Same (λ i. false) Z D E f h → Whole E h s g b → InBoth h f b
  whole_down h f b sf w =
      let st = down_place w.start (announces-belongs s g (at E w.start) w.chain.announced) in
      let m = down st.0 w.start st.1 w.places w.chain.links in
      go st.0 st.1 m.0 m.1
    where
      go : (p0 : ℕ) → Same (λ i. false) Z D E p0 w.start → (ps : List ℕ) → Mapped p0 w.start ps w.places → InBoth h f b
      go p0 sm ps m =
          let e : at E w.start ≡ at D p0 = same_event sm in
          let n : length ps ≡ length w.places = m.count in
          let sl : Same (λ i. false) Z D E (last_of p0 ps) h = subst (λ (t : ℕ). Same (λ i. false) Z D E (last_of p0 ps) t) w.ends_at m.last_same in
          record {
            whole_E = w;
            whole_D = record {
              start = p0;
              places = ps;
              chain = record {
                announced = ap (announces s) (sym e) ∙ w.chain.announced;
                group_is = w.chain.group_is ∙ ap group e;
                few = (let x : length w.places ≤ packets (at E w.start) = w.chain.few in let y : packets (at E w.start) ≡ packets (at D p0) = ap packets e in omega arith);
                links = m.links_D;
                runs = runs_down p0 w.start (last_of p0 ps) (last_of w.start w.places) sm m.last_same w.chain.runs;
              };
              full = n ∙ (w.full ∙ ap packets e);
              ends_at = same_down (last_of p0 ps) f h sl sf;
              bytes_are = w.bytes_are ∙ (ap (λ (x : Event). take (size x) (joined_at E w.places)) e ∙ ap (take (size (at D p0))) m.joined_is);
            };
            start_same = sm;
          }

  pub whole_up : (f h : ℕ) (b : List ℕ) → Same (λ i. false) Z D E f h → (w : Whole D f s g b)
      → ((c : ℕ) → Same (λ i. false) Z D E w.start c → (q : ℕ) → c < q → q < h → Z q ≡ true → ends s g (at E q) ≡ false) → Whole E h s g b
  whole_up f h b sf w nf =
      let st = up_place w.start (announces-belongs s g (at D w.start) w.chain.announced) in
      let m = up w.start st.0 st.1 w.places w.chain.links in
      go st.0 st.1 m.0 m.1
    where
      go : (c0 : ℕ) → Same (λ i. false) Z D E w.start c0 → (cs : List ℕ) → Mapped w.start c0 w.places cs → Whole E h s g b
      go c0 sm cs m =
          let e : at E c0 ≡ at D w.start = same_event sm in
          let n : length w.places ≡ length cs = m.count in
          let sl : Same (λ i. false) Z D E f (last_of c0 cs) = subst (λ (t : ℕ). Same (λ i. false) Z D E t (last_of c0 cs)) w.ends_at m.last_same in
          let en : last_of c0 cs ≡ h = one_in_H (λ i. false) Z D E one sl sf in
          record {
            start = c0;
            places = cs;
            chain = record {
              announced = ap (announces s) e ∙ w.chain.announced;
              group_is = w.chain.group_is ∙ sym (ap group e);
              few = (let x : length w.places ≤ packets (at D w.start) = w.chain.few in let y : packets (at E c0) ≡ packets (at D w.start) = ap packets e in omega arith);
              links = m.links_E;
              runs = runs_up w.start c0 (last_of w.start w.places) (last_of c0 cs) sm m.last_same (λ q u v z. nf c0 sm q u (omega arith) z) w.chain.runs;
            };
            full = sym n ∙ (w.full ∙ sym (ap packets e));
            ends_at = en;
            bytes_are = w.bytes_are ∙ (ap (λ (x : Event). take (size x) (joined_at D w.places)) (sym e) ∙ ap (take (size (at E c0))) (sym m.joined_is));
          }
