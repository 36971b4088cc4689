-- Open chains of a list of events, and of the list with one event more.
use Rattle.std.proofs.Common.{◌≡◌, ◌⊎◌, ℕ, suc, ◌+◌, ◌<◌, ◌≤◌, Bool, true, false, if◌then◌else◌, List, [], ◌∷◌, ◌++◌, length, None, refl, sym, ap, ◌∙◌, subst, inl, inr, arith}
use Rattle.std.proofs.lemmas.List.{length_push}
use Rattle.std.proofs.lemmas.Bool.{cases_lt, both_ways, and_left}
use Rattle.j39_transport.specs.Key.{Key, limit}
use Rattle.j39_transport.specs.Events.{Event, at, announces, ends, rivals, packets, group, stamp, belongs, is_numbered}
use Rattle.j39_transport.specs.Assembly.{IsFirstAfter, last_of, Links, AreSuccessive, count_below, Runs, OpenBy}
use Rattle.j39_transport.proofs.FrameFacts.{announces-packets}
use Rattle.j39_transport.proofs.Chains.{Links-within}
use Rattle.j39_transport.proofs.Agreeing.{at_before, at_new, announced_within, past_sends, agree_push, agree_pop, agree_less, Links-same, Runs-same, Runs-less, count_same}
use Rattle.j39_transport.specs.Stands.{IsOpenOrNone}

-- (a) nothing is open at first
pub stands_new : (s : Key) → IsOpenOrNone [] s None
stands_new s g p0 ps h = let l : p0 < 0 = announced_within [] s p0 h.announced in omega arith

-- ---- one event more

module _ (E : List Event) (e : Event) (s : Key) where
  -- a place of E ++ e ∷ [] at which something of s stands is a place of E, or the new one
  pub place_cases : (q : ℕ) → q < length (E ++ e ∷ []) → (q < length E) ⊎ (q ≡ length E)
  place_cases q h = elim (cases_lt q (length E)) [ inl l ↦ inl l | inr l ↦ inr (let m = length_push E e in omega arith) ]

  pub new_test : (f : Event → Bool) (b : Bool) → f e ≡ b → (q : ℕ) → q ≡ length E → f (at (E ++ e ∷ []) q) ≡ b
  new_test f b h q k = (ap (λ (i : ℕ). f (at (E ++ e ∷ []) i)) k) ∙ (ap f (at_new E e) ∙ h)

  pub old_test : (f : Event → Bool) (q : ℕ) → q < length E → f (at (E ++ e ∷ []) q) ≡ f (at E q)
  old_test f q h = ap f (at_before E e q h)

  -- an open chain of the longer list, whose announcement is older, is an open chain of the shorter one or continues it
  pub record Shorter (g p0 : ℕ) (ps : List ℕ) : Type 0 where
    pub before : List ℕ
    pub open_by : OpenBy E s g p0 before
    pub how : ((ps ≡ before) × (is_numbered s (suc (length before)) e ≡ false)) ⊎ ((ps ≡ length E ∷ before) × (is_numbered s (suc (length before)) e ≡ true))

  pub grows : length (E ++ e ∷ []) ≡ suc (length E)
  grows = omega (arith, length_push E e)

  -- how many there are below the end, with the new one
  pub count_new : (t : Event → Bool) → count_below t (E ++ e ∷ []) (length (E ++ e ∷ [])) ≡ (if t e then suc (count_below t E (length E)) else count_below t E (length E))
  count_new t =
      ap (count_below t (E ++ e ∷ [])) grows
      ∙ (ap (λ (x : Event). if t x then suc (count_below t (E ++ e ∷ []) (length E)) else count_below t (E ++ e ∷ []) (length E)) (at_new E e)
      ∙ ap (λ (c : ℕ). if t e then suc c else c) (count_same t E (E ++ e ∷ []) (length E) (agree_push E e)))

  pub count_old : (t : Event → Bool) (n : ℕ) → n ≤ length E → count_below t (E ++ e ∷ []) n ≡ count_below t E n
  count_old t n l = count_same t E (E ++ e ∷ []) n (agree_less n l (agree_push E e))

  -- what is known of the stretch from p0, at the shorter list
  pub runs_before : (g p0 : ℕ) → p0 < length E → Runs (E ++ e ∷ []) s g p0 (length (E ++ e ∷ [])) → Runs E s g p0 (length E)
  runs_before g p0 l h = Runs-same (E ++ e ∷ []) E s g p0 (length E) l (agree_pop E e) (Runs-less (E ++ e ∷ []) s g p0 (length E) (length (E ++ e ∷ [])) (omega (arith, grows)) h)

  numbered_before : (j q r : ℕ) → q < r → ((t : ℕ) → q < t → is_numbered s j (at (E ++ e ∷ []) t) ≡ false) → is_numbered s j (at E r) ≡ false
  numbered_before j q r k h = elim (cases_lt r (length E)) [
    | inl l ↦ sym (old_test (is_numbered s j) r l) ∙ h r k
    | inr l ↦ and_left _ _ (past_sends E s r l)
  ]

  pub group_before : (g p0 : ℕ) → p0 < length E → g ≡ group (at (E ++ e ∷ []) p0) → g ≡ group (at E p0)
  group_before g p0 l h = h ∙ ap group (at_before E e p0 l)

  pub shorter : (g p0 : ℕ) (ps : List ℕ) → p0 < length E → OpenBy (E ++ e ∷ []) s g p0 ps → Shorter g p0 ps
  shorter g p0 ps l h = elim (cases_lt (last_of p0 ps) (length E)) [
    | inl k ↦ record {
      before = ps;
      open_by = record {
        announced = sym (old_test (announces s) p0 l) ∙ h.announced;
        group_is = group_before g p0 l h.group_is;
        few = subst (λ (x : Event). length ps < packets x) (at_before E e p0 l) h.few;
        links = Links-same (E ++ e ∷ []) E s p0 ps (agree_less _ k (agree_pop E e)) h.links;
        no_next = λ q m. numbered_before _ (last_of p0 ps) q m h.no_next;
        runs = runs_before g p0 l h.runs;
      };
      how = inl (refl, sym (new_test (is_numbered s (suc (length ps))) _ refl (length E) refl) ∙ h.no_next (length E) k);
    }
    | inr k ↦ continues p0 ps l k h
  ]
    where
      continues : (p0 : ℕ) (ps : List ℕ) → p0 < length E → length E ≤ last_of p0 ps → OpenBy (E ++ e ∷ []) s g p0 ps → Shorter g p0 ps
      continues p0 [] l k h = absurd (omega arith)
      continues p0 (p ∷ ps) l k h =
          let w : p < length (E ++ e ∷ []) = Links-within (E ++ e ∷ []) s p0 (p ∷ ps) h.announced h.links in
          let i : p ≡ length E = omega (arith, grows) in
          let f : IsFirstAfter (E ++ e ∷ []) s (last_of p0 ps) (suc (length ps)) p = h.links.0 in
          let m : last_of p0 ps < p = f.later in
          record {
            before = ps;
            open_by = record {
              announced = sym (old_test (announces s) p0 l) ∙ h.announced;
              group_is = group_before g p0 l h.group_is;
              few = let x : suc (length ps) < packets (at E p0) = subst (λ (x : Event). suc (length ps) < packets x) (at_before E e p0 l) h.few in omega arith;
              links = Links-same (E ++ e ∷ []) E s p0 ps (agree_less _ (omega arith) (agree_pop E e)) h.links.1;
              no_next = λ q n. elim (cases_lt q (length E)) [
                | inl o ↦ sym (old_test (is_numbered s (suc (length ps))) q o) ∙ f.first q n (omega arith)
                | inr o ↦ and_left _ _ (past_sends E s q o)
              ];
              runs = runs_before g p0 l h.runs;
            };
            how = inr (ap (λ (x : ℕ). x ∷ ps) i, sym (new_test (is_numbered s (suc (length ps))) _ refl p i) ∙ f.stands);
          }

  -- ---- an open chain of the shorter list in the longer one

  -- the new event ends no message of group g that was announced at p0
  pub record Fits (g p0 : ℕ) : Type 0 where
    pub no_announcement : announces s e ≡ false
    pub no_end : ends s g e ≡ false
    pub timely : (a : ℕ) → p0 ≤ a → belongs s g e ≡ true → AreSuccessive (E ++ e ∷ []) s g a (length E) → stamp e ≤ stamp (at E a) + limit s
    pub young : (if rivals s e then suc (count_below (rivals s) E (length E)) else count_below (rivals s) E (length E)) < 16 + count_below (rivals s) E (suc p0)

  pub runs_after : (g p0 : ℕ) → p0 < length E → Runs E s g p0 (length E) → Fits g p0 → Runs (E ++ e ∷ []) s g p0 (length (E ++ e ∷ []))
  runs_after g p0 l h n = record {
    quiet = λ q k o. elim (place_cases q o) [
      | inl m ↦ (old_test (announces s) q m ∙ (h.quiet q k m).0, old_test (ends s g) q m ∙ (h.quiet q k m).1)
      | inr m ↦ (new_test (announces s) _ n.no_announcement q m, new_test (ends s g) _ n.no_end q m)
    ];
    in_time = λ a b k o c. elim (place_cases b o) [
      | inl m ↦
          (let i = Runs-same E (E ++ e ∷ []) s g p0 (length E) l (agree_push E e) h in i.in_time a b k m c)
      | inr m ↦
          (let c' : AreSuccessive (E ++ e ∷ []) s g a (length E) = subst (λ (x : ℕ). AreSuccessive (E ++ e ∷ []) s g a x) m c in
          let o : a < length E = c'.order in
          let t : belongs s g e ≡ true = sym (new_test (belongs s g) _ refl (length E) refl) ∙ c'.later in
          let i : stamp (at (E ++ e ∷ []) b) ≡ stamp e = ap (λ (x : ℕ). stamp (at (E ++ e ∷ []) x)) m ∙ ap stamp (at_new E e) in
          let j : stamp (at (E ++ e ∷ []) a) ≡ stamp (at E a) = ap stamp (at_before E e a o) in
          let r : stamp e ≤ stamp (at E a) + limit s = n.timely a k t c' in
          omega arith)
    ];
    young =
        let x = count_new (rivals s) in
        let y : count_below (rivals s) (E ++ e ∷ []) (suc p0) ≡ count_below (rivals s) E (suc p0) = count_old (rivals s) (suc p0) l in
        let z : (if rivals s e then suc (count_below (rivals s) E (length E)) else count_below (rivals s) E (length E)) < 16 + count_below (rivals s) E (suc p0) = n.young in
        subst (λ (c : ℕ). c < 16 + count_below (rivals s) (E ++ e ∷ []) (suc p0)) (sym x)
        (subst (λ (c : ℕ). (if rivals s e then suc (count_below (rivals s) E (length E)) else count_below (rivals s) E (length E)) < 16 + c) (sym y) z);
  }

  pub longer_same : (g p0 : ℕ) (ps : List ℕ) → OpenBy E s g p0 ps → is_numbered s (suc (length ps)) e ≡ false → Fits g p0 → OpenBy (E ++ e ∷ []) s g p0 ps
  longer_same g p0 ps h n t =
      let l : p0 < length E = announced_within E s p0 h.announced in
      let w : last_of p0 ps < length E = Links-within E s p0 ps h.announced h.links in
      record {
        announced = old_test (announces s) p0 l ∙ h.announced;
        group_is = h.group_is ∙ sym (ap group (at_before E e p0 l));
        few = subst (λ (x : Event). length ps < packets x) (sym (at_before E e p0 l)) h.few;
        links = Links-same E (E ++ e ∷ []) s p0 ps (agree_less _ w (agree_push E e)) h.links;
        no_next = λ q k. elim (cases_lt q (length (E ++ e ∷ []))) [
          | inl m ↦ elim (place_cases q m) [
            | inl o ↦ old_test (is_numbered s (suc (length ps))) q o ∙ h.no_next q k
            | inr o ↦ new_test (is_numbered s (suc (length ps))) _ n q o
          ]
          | inr m ↦ and_left _ _ (past_sends (E ++ e ∷ []) s q m)
        ];
        runs = runs_after g p0 l h.runs t;
      }

  pub first_new : (g p0 : ℕ) (ps : List ℕ) → OpenBy E s g p0 ps → is_numbered s (suc (length ps)) e ≡ true
      → IsFirstAfter (E ++ e ∷ []) s (last_of p0 ps) (suc (length ps)) (length E)
  first_new g p0 ps h n = record {
    later = Links-within E s p0 ps h.announced h.links;
    stands = new_test (is_numbered s (suc (length ps))) _ n (length E) refl;
    first = λ r k l. old_test (is_numbered s (suc (length ps))) r l ∙ h.no_next r k;
  }

  pub links_new : (g p0 : ℕ) (ps : List ℕ) → OpenBy E s g p0 ps → is_numbered s (suc (length ps)) e ≡ true → Links (E ++ e ∷ []) s p0 (length E ∷ ps)
  links_new g p0 ps h n =
      let w : last_of p0 ps < length E = Links-within E s p0 ps h.announced h.links in
      (first_new g p0 ps h n, Links-same E (E ++ e ∷ []) s p0 ps (agree_less _ w (agree_push E e)) h.links)

  pub longer_more : (g p0 : ℕ) (ps : List ℕ) → OpenBy E s g p0 ps
      → is_numbered s (suc (length ps)) e ≡ true → suc (length ps) < packets (at E p0) → Fits g p0 → OpenBy (E ++ e ∷ []) s g p0 (length E ∷ ps)
  longer_more g p0 ps h n f t =
      let l : p0 < length E = announced_within E s p0 h.announced in
      record {
        announced = old_test (announces s) p0 l ∙ h.announced;
        group_is = h.group_is ∙ sym (ap group (at_before E e p0 l));
        few = subst (λ (x : Event). suc (length ps) < packets x) (sym (at_before E e p0 l)) f;
        links = links_new g p0 ps h n;
        no_next = λ q k. and_left _ _ (past_sends (E ++ e ∷ []) s q (omega (arith, grows)));
        runs = runs_after g p0 l h.runs t;
      }

  pub open_new : announces s e ≡ true → OpenBy (E ++ e ∷ []) s (group e) (length E) []
  open_new a = record {
    announced = new_test (announces s) _ a (length E) refl;
    group_is = sym (ap group (at_new E e));
    few = subst (λ (x : Event). 0 < packets x) (sym (at_new E e)) (announces-packets s e a);
    links = tt;
    no_next = λ q k. and_left _ _ (past_sends (E ++ e ∷ []) s q (omega (arith, grows)));
    runs = record {
      quiet = λ q k l. absurd (omega (arith, grows));
      in_time = λ a b k l c. absurd (let o : a < b = c.order in omega (arith, grows));
      young = (let x : count_below (rivals s) (E ++ e ∷ []) (length (E ++ e ∷ [])) ≡ count_below (rivals s) (E ++ e ∷ []) (suc (length E)) = ap (count_below (rivals s) (E ++ e ∷ [])) grows in omega arith);
    };
  }

  -- an open chain of the longer list began before, unless e announces
  pub began_before : (g p0 : ℕ) (ps : List ℕ) → announces s e ≡ false → OpenBy (E ++ e ∷ []) s g p0 ps → p0 < length E
  began_before g p0 ps x h = elim (place_cases p0 (announced_within (E ++ e ∷ []) s p0 h.announced)) [
    | inl l ↦ l
    | inr l ↦ absurd (both_ways _ (new_test (announces s) _ x p0 l) h.announced)
  ]
