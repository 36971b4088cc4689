-- Players to whom something happens, one after another, and the one that takes its frame out.
use Rattle.std.proofs.Common.{◌≡◌, ◌≢◌, ◌<◌, ◌+◌, ◌∙◌, ◌++◌, ℕ, zero, suc, [], ◌∷◌, List, Option, Some, add-one, ap, arith, length, refl, slice_get, slice_set, subst, sym, take}
use Rattle.std.proofs.Math.ListN.{length-set}
use Rattle.std.proofs.lemmas.Grind.{take-set_at}
use Rattle.j39_frame.specs.declared.identifier.Id.{Id}
use borrow.Author.Count.{below_more}
use Rattle.j39_frame.specs.Frame.{FrameRecord}
use Rattle.bus_demo.specs.Playing.{AreNotedBelow, HappenedBelow, IsNotedAt}
use Rattle.bus_demo.specs.Sending.{TakesAt, TakesOut}
use Rattle.bus_demo.specs.Turning.{AreAsked, IsWish}
use Rattle.bus_demo.specs.declared.bus.book.Book.{Book}
use Rattle.bus_demo.specs.declared.bus.player.Player.{Player}
use Rattle.bus_demo.specs.declared.bus.station.Sent.{Sent}

at_set : {X : Type 0} (xs : List X) (i : ℕ) (x : X) → i < length xs → slice_get (slice_set xs i x) i ≡ Some x
at_set [] i x inside = absurd (omega arith)
at_set (y ∷ ys) zero x inside = refl
at_set (y ∷ ys) (suc i) x inside = at_set ys i x (omega (arith, inside))

beside_set : {X : Type 0} (xs : List X) (i k : ℕ) (x : X) → k ≢ i → slice_get (slice_set xs i x) k ≡ slice_get xs k
beside_set [] i k x other = refl
beside_set (y ∷ ys) zero zero x other = absurd (other refl)
beside_set (y ∷ ys) zero (suc k) x other = refl
beside_set (y ∷ ys) (suc i) zero x other = refl
beside_set (y ∷ ys) (suc i) (suc k) x other = beside_set ys i k x (λ e. other (ap suc e))

some : {X : Type 0} (x y : X) → (let a : Option X = Some x in a) ≡ Some y → x ≡ y
some x y e = cc

-- who stands at a place is who was put there
pub stands_set : (xs : List Player) (i : ℕ) (x y : Player) → i < length xs → slice_get (slice_set xs i x) i ≡ Some y → x ≡ y
stands_set xs i x y inside there = some x y (sym (at_set xs i x inside) ∙ there)

-- who hasn't been reached is who stood there at first
pub same_player : (mid old : List Player) (n : ℕ) (p player : Player) → slice_get mid n ≡ Some p → slice_get mid n ≡ slice_get old n → slice_get old n ≡ Some player → p ≡ player
same_player mid old n p player stands same there = some p player (sym stands ∙ same ∙ there)

module _ (happens : ℕ → Player → Player → Type 0) where
  -- to the player at a place
  abbrev Happened : List Player → List Player → ℕ → Type 0
  Happened old new k = (player : Player) → slice_get old k ≡ Some player → (after : Player) × (slice_get new k ≡ Some after) × happens k player after

  pub happened_then : (n : ℕ) (old mid : List Player) (p q : Player) → n < length mid → HappenedBelow happens n old mid → slice_get mid n ≡ Some p
      → happens n p q → HappenedBelow happens (n + 1) old (slice_set mid n q)
  happened_then n old mid p q inside h stands one = record {
    count = length-set mid n q ∙ h.count;
    each = λ k player below there. below_more (Happened old (slice_set mid n q)) n
        (λ i less two here. let after = h.each i two less here in
        (after.0, beside_set mid n i q (λ e. omega (arith, less, e)) ∙ after.1, after.2))
        (λ two here. (q, at_set mid n q inside, subst (λ x. happens n x q) (some p two (sym stands ∙ h.others n (omega arith) ∙ here)) one))
        k below player there;
    others = λ k past. beside_set mid n k q (λ e. omega (arith, past, e)) ∙ h.others k (omega (arith, past));
  }

  -- where it leaves a player as it was
  pub happened_to_none : (n : ℕ) (old mid : List Player) → ((p : Player) → happens n p p) → HappenedBelow happens n old mid → HappenedBelow happens (n + 1) old mid
  happened_to_none n old mid leaves h = record {
    count = h.count;
    each = λ k player below there. below_more (Happened old mid) n (λ i less two here. h.each i two less here)
        (λ two here. (two, h.others n (omega arith) ∙ here, leaves two)) k below player there;
    others = λ k past. h.others k (omega (arith, past));
  }

-- what one player more heard was noted
pub noted_then : (n sender : ℕ) (f : FrameRecord) (players : List Player) (old mid new : Book) → AreNotedBelow n sender f players old mid
    → IsNotedAt n sender f players mid new → AreNotedBelow (n + 1) sender f players old new
noted_then n sender f players old mid new so_far here = subst (λ k. AreNotedBelow k sender f players old new) (sym (add-one n)) (mid, so_far, here)

-- one player more was asked
asked_more : (micros : ℕ) (players : List Player) (wishes : List (Option Id)) (q : Player) (wish : Option Id) → AreAsked micros players wishes
    → IsWish micros q wish → AreAsked micros (players ++ (q ∷ [])) (wishes ++ (wish ∷ []))
asked_more micros [] [] q wish asked is = (is, tt)
asked_more micros [] (w ∷ ws) q wish asked is = absurd asked
asked_more micros (p ∷ ps) [] q wish asked is = absurd asked
asked_more micros (p ∷ ps) (w ∷ ws) q wish asked is = (asked.0, asked_more micros ps ws q wish asked.1 is)

pub one_asked : (micros n : ℕ) (mid : List Player) (q : Player) (wishes : List (Option Id)) (wish : Option Id) → n < length mid
    → AreAsked micros (take n mid) wishes → IsWish micros q wish → AreAsked micros (take (n + 1) (slice_set mid n q)) (wishes ++ (wish ∷ []))
one_asked micros n mid q wishes wish inside asked is =
    subst (λ (ps : List Player). AreAsked micros ps (wishes ++ (wish ∷ []))) (sym (take-set_at mid n (n + 1) q refl inside))
    (asked_more micros (take n mid) wishes q wish asked is)

-- a player takes its frame out, and the others stay
pub one_takes : (micros sender : ℕ) (old : List Player) (p q : Player) (sent : Option Sent) → sender < length old → slice_get old sender ≡ Some p → TakesOut micros p sent q
    → TakesAt micros sender old sent (slice_set old sender q)
one_takes micros sender old p q sent inside stands taken = record {
  count = length-set old sender q;
  takes = λ player there. (q, at_set old sender q inside, subst (λ x. TakesOut micros x sent q) (some p player (sym stands ∙ there)) taken);
  others = λ k other. beside_set old sender k q other;
}
