-- The chains of a message some of whose packets are missing: laws `goes`, `reaches`, `runs`.
use Rattle.std.proofs.Common.{◌≡◌, ℕ, zero, suc, ◌+◌, ◌<◌, ◌≤◌, Bool, true, List, [], ◌∷◌, length, refl, sym, ap, ◌∙◌, subst, inl, inr, arith}
use Rattle.std.proofs.lemmas.Bool.{cases_lt, cases_eq, both_ways, false_from_ne_true}
use Rattle.j39_transport.specs.Key.{Key, limit}
use Rattle.j39_transport.specs.Events.{Event, at, stamp, is_numbered}
use Rattle.j39_transport.specs.Assembly.{IsFirstAfter, last_of, Links}
use Rattle.j39_transport.specs.Course.{Undisturbed, Course, GoesLaw, ReachesLaw, RunsLaw}
use Rattle.j39_transport.proofs.Search.{last_true, first_true}

pub goes : GoesLaw
goes E k c0 n q kept c [] l h u = (sym c.starts, λ j m. ap kept (let e : j ≡ 0 = omega arith in e) ∙ c.first_kept)
goes E k c0 n q kept c (p ∷ ps) l h u =
    let f : IsFirstAfter E k (last_of c0 ps) (suc (length ps)) p = h.0 in
    let lt : last_of c0 ps < p = f.later in
    let i = goes E k c0 n q kept c ps (omega arith) h.1 (λ r a b. u r a (omega arith)) in
    let e : last_of c0 ps ≡ q (length ps) = i.0 in
    let kp : kept (length ps) ≡ true = i.1 (length ps) (omega arith) in
    let x = c.next (length ps) p (omega arith) kp (omega arith) f.stands u in
    let up : q (length ps) < q (suc (length ps)) = c.rises (length ps) (omega arith) kp x.0 in
    let le : q (suc (length ps)) ≤ p = x.1 in (
      elim (cases_eq p (q (suc (length ps)))) [
        | inl z ↦ z
        | inr z ↦ absurd (both_ways _ (f.first (q (suc (length ps))) (omega arith) (omega arith)) (c.stands (length ps) (omega arith) x.0))
      ],
      λ j m. elim (cases_eq j (suc (length ps))) [ inl z ↦ ap kept z ∙ x.0 | inr z ↦ i.1 j (omega arith) ],
    )

reaches_to : (E : List Event) (k : Key) (c0 n : ℕ) (q : ℕ → ℕ) (kept : ℕ → Bool) → Course E k c0 n q kept → ((j : ℕ) → j ≤ n → kept j ≡ true)
    → (m : ℕ) → m ≤ n → Undisturbed E k c0 (q m) → (ps : List ℕ) × Links E k c0 ps × (length ps ≡ m) × (last_of c0 ps ≡ q m)
reaches_to E k c0 n q kept c a zero l u = ([], tt, refl, sym c.starts)
reaches_to E k c0 n q kept c a (suc m) l u =
    let up : q m < q (suc m) = c.rises m l (a m (omega arith)) (a (suc m) l) in
    let i = reaches_to E k c0 n q kept c a m (omega arith) (λ r x y. u r x (omega arith)) in
    let n1 : length i.0 ≡ m = i.2 in
    let e : last_of c0 i.0 ≡ q m = i.3 in (
      q (suc m) ∷ i.0,
      (
        record {
          later = omega arith;
          stands = subst (λ (t : ℕ). is_numbered k (suc t) (at E (q (suc m))) ≡ true) (sym n1) (c.stands m l (a (suc m) l));
          first = λ r x y. false_from_ne_true _ (λ t.
              let w = c.next m r l (a m (omega arith)) (omega arith) (subst (λ (z : ℕ). is_numbered k (suc z) (at E r) ≡ true) n1 t) (λ s v z. u s v (omega arith)) in
              let le : q (suc m) ≤ r = w.1 in
              omega arith);
        },
        i.1,
      ),
      ap suc n1,
      refl,
    )

pub reaches : ReachesLaw
reaches E k c0 n q kept c a u = reaches_to E k c0 n q kept c a n (omega arith) u

pub runs : RunsLaw
runs E k g c0 c1 mark s t l ours near back quiet young = record {
  quiet = λ q a b. quiet q a (omega arith);
  in_time = λ a b u v w.
      (let ab : a < b = w.order in
      let m = last_true mark c0 a u s in
      let ma : m.place ≤ a = m.upto in
      let x = first_true mark m.place c1 (omega arith) t in
      let mx : m.place < x.place = x.later in
      let ax : a < x.place = elim (cases_lt a x.place) [ inl e ↦ e | inr e ↦ absurd (both_ways _ (m.none_since x.place mx e) x.passes) ] in
      let c0m : c0 ≤ m.place = m.from in
      let xc : x.place ≤ c1 = x.upto in
      let bx : b ≤ x.place = elim (cases_lt x.place b) [ inl e ↦ absurd (both_ways _ (w.none_between x.place ax e) (ours x.place (omega arith) xc x.passes)) | inr e ↦ e ] in
      let s1 : stamp (at E b) ≤ stamp (at E x.place) = back b x.place (omega arith) bx xc in
      let s2 : stamp (at E x.place) ≤ stamp (at E m.place) + limit k = near m.place x.place c0m mx xc m.passes x.passes (λ q d e. x.none_before q d e) in
      let s3 : stamp (at E m.place) ≤ stamp (at E a) = back m.place a c0m ma (omega arith) in
      omega arith);
  young = young;
}
