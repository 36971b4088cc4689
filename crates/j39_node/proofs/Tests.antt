-- Facts of tests that proofs here share.
use Rattle.std.proofs.Common.{◌≡◌, Bool, true, false, sym, ◌∙◌, arith}

pub not_both : (b : Bool) → b ≡ false → b ≡ true → ⊥
not_both b e f = let z : false ≡ true = sym e ∙ f in absurd (cc)

pub not_true : (b : Bool) → (b ≡ true → false ≡ true) → b ≡ false
not_true b f = grind (arith, f)
