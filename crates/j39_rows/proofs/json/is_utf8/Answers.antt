use Rattle.std.proofs.Common.{◌≡◌, ◌∙◌, Bool, true, false, List, ℕ, Result, Ok, Err, refl, sym}
use Rattle.std.specs.Prelude.{is_ok}
use Rattle.std.specs.Result.{MatchResult}
use Rattle.std.specs.Str.{IsUtf8, is_utf8}
use Rattle.std.proofs.lemmas.Str.{IsUtf8-from_is_utf8, is_utf8-from_IsUtf8}
use Rattle.j39_rows.proofs.json.is_utf8.Goals as goal

not_told : (b : Bool) (bs : List ℕ) → is_utf8 bs ≡ b → (IsUtf8 bs → ⊥) → false ≡ b
not_told true bs is none = absurd (none (IsUtf8-from_is_utf8 bs is))
not_told false bs is none = refl

told : {T E : Type 0} (P : T → Type 0) (Q : E → Type 0) (bs : List ℕ) (r : Result T E)
    → MatchResult r (λ s. P s × IsUtf8 bs) (λ e. (IsUtf8 bs → ⊥) × Q e) → is_ok r ≡ is_utf8 bs
told P Q bs (Ok s) cases = sym (is_utf8-from_IsUtf8 bs cases.1)
told P Q bs (Err e) cases = not_told (is_utf8 bs) bs refl cases.0

pub returns : goal.returns
returns c = c.is_ok.ensures.value ∙ told _ _ c.args.text.now c.from_utf8.result c.from_utf8.ensures.cases
