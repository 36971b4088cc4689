-- Addresses whose holder a claim changes, one by one.
use Rattle.std.proofs.Common.{◌≡◌, ◌≢◌, ◌⊎◌, ℕ, zero, suc, ◌+◌, ◌<◌, List, [], ◌∷◌, length, get_or, Option, refl, sym, ◌∙◌, inl, inr, arith}
use Rattle.std.specs.List.{Contains}
use Rattle.std.specs.List.Sorted.{IsStrictlyIncreasing}
use Rattle.j39_address.proofs.HolderLemmas.{holder_is, same_holder}
use Rattle.j39_address.specs.Claim.{Claim}
use Rattle.j39_address.specs.Holder.{IsHolder}
use Rattle.j39_listen.specs.Forgets.{Changed}

abbrev pub Listed : ℕ → List ℕ → Type 0
Listed a [] = ⊥
Listed a (b ∷ bs) = (a ≡ b) ⊎ Listed a bs

-- each number is below all that follow it
abbrev pub Rises : List ℕ → Type 0
Rises [] = Unit {0}
Rises (a ∷ bs) = ((b : ℕ) → Listed b bs → a < b) × Rises bs

pub contains_of : (a : ℕ) (xs : List ℕ) → Listed a xs → Contains xs a
contains_of a [] l = absurd l
contains_of a (x ∷ xs) (inl e) = (0, omega arith, sym e)
contains_of a (x ∷ xs) (inr l) = let c = contains_of a xs l in (suc c.0, (let w : c.0 < length xs = c.1 in omega arith), c.2)

pub listed_of : (a : ℕ) (xs : List ℕ) → Contains xs a → Listed a xs
listed_of a xs (k, w, e) = go xs k w e
  where
    go : (xs : List ℕ) (k : ℕ) → k < length xs → get_or xs k a ≡ a → Listed a xs
    go [] k w e = absurd (omega arith)
    go (x ∷ xs) zero w e = inl (sym e)
    go (x ∷ xs) (suc k) w e = inr (go xs k (omega arith) e)

pub increasing_of : (xs : List ℕ) → Rises xs → IsStrictlyIncreasing xs
increasing_of [] h k w = absurd (omega arith)
increasing_of (x ∷ []) h k w = absurd (omega arith)
increasing_of (x ∷ y ∷ ys) h zero w = h.0 y (inl refl)
increasing_of (x ∷ y ∷ ys) h (suc k) w =
    let e : suc k + 1 ≡ suc (k + 1) = omega arith in
    rw e (increasing_of (y ∷ ys) h.1 k (omega arith))

rest : (x : ℕ) (xs : List ℕ) → IsStrictlyIncreasing (x ∷ xs) → IsStrictlyIncreasing xs
rest x xs h k w =
    let e : suc k + 1 ≡ suc (k + 1) = omega arith in
    rw e at (h (suc k) (omega arith))

pub rises_of : (xs : List ℕ) → IsStrictlyIncreasing xs → Rises xs
rises_of [] h = tt
rises_of (x ∷ xs) h = ((λ b l. below xs x h b l), rises_of xs (rest x xs h))
  where
    below : (xs : List ℕ) (x : ℕ) → IsStrictlyIncreasing (x ∷ xs) → (b : ℕ) → Listed b xs → x < b
    below [] x h b l = absurd l
    below (y ∷ ys) x h b (inl e) = let w : x < y = h 0 (omega arith) in omega arith
    below (y ∷ ys) x h b (inr l) =
        let w : x < y = h 0 (omega arith) in
        let v : y < b = below ys y (rest x (y ∷ ys) h) b l in
        omega arith

-- the same as `Changed`, address by address
pub record Changes (C : List (Option Claim)) (n : ℕ) (gone : List ℕ) : Type 0 where
  pub rises : Rises gone
  pub only : (a : ℕ) (o p : Option ℕ) → Listed a gone → IsHolder C n a o → IsHolder C (suc n) a p → o ≢ p
  pub each : (a : ℕ) (o p : Option ℕ) → IsHolder C n a o → IsHolder C (suc n) a p → o ≢ p → Listed a gone

pub changes_of : (C : List (Option Claim)) (n : ℕ) (gone : List ℕ) → Changed C n gone → Changes C n gone
changes_of C n gone h = record {
  rises = rises_of gone h.rising;
  only = λ a o p l x y. h.changed a (contains_of a gone l) o p x y;
  each = λ a o p x y d. listed_of a gone (h.all a (λ q r u v e. d (same_holder C n a o q x u ∙ (e ∙ same_holder C (suc n) a r p v y))));
}

pub changed_of : (C : List (Option Claim)) (n : ℕ) (gone : List ℕ) → Changes C n gone → Changed C n gone
changed_of C n gone h = record {
  rising = increasing_of gone h.rises;
  changed = λ a l o p x y. h.only a o p (listed_of a gone l) x y;
  all = λ a w.
      let o = holder_is C n a in
      let p = holder_is C (suc n) a in
      contains_of a gone (h.each a o.0 p.0 o.1 p.1 (w o.0 p.0 o.1 p.1));
}
