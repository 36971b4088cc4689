-- A CR, and behind it a newline.
use Rattle.std.proofs.Common.{Bor, ◌≡◌, ◌++◌, ◌∷◌, ◌⊎◌, [], ℕ, List, Option, Some, None, ap₂, inr, refl}
use Rattle.std.specs.Prelude.{IfSome}
use Rattle.j39_log.proofs.fast.reader.after_cr.Goals as goal

behind : (end : ℕ) (rest : List ℕ) (found : Option (Bor (List ℕ))) → end ≡ 13 → IfSome found (λ later. rest ≡ 10 ∷ later.now)
    → IfSome found (λ later. (cr : List ℕ) × ((cr ≡ []) ⊎ (cr ≡ 13 ∷ [])) × (end ∷ rest ≡ cr ++ (10 ∷ later.now)))
behind end rest None e h = tt
behind end rest (Some later) e h = (13 ∷ [], inr refl, ap₂ (λ x xs. x ∷ xs) e h)

pub returns-in-13 : goal.returns-in-13
returns-in-13 c = behind c.args.end c.args.rest.now c.after_newline.result c.in-13.is c.after_newline.ensures
