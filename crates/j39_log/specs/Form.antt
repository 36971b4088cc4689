-- Blocks of bytes as a form has them.
use Rattle.std.specs.Prelude.{◌≡◌, ◌<◌, ◌+◌, ◌-◌, ◌%◌, ℕ, List}
use Rattle.std.specs.List.{AllByRecursion}
use Rattle.std.specs.Simd.Lanes.{zip2}
use Rattle.j39_log.specs.declared.fast.form.Form.{Form}

-- how far a byte lies above another; below it, it comes round
abbrev pub over : ℕ → ℕ → ℕ
over a b = (a + (256 - b)) % 256

-- how far each byte lies outside of what may stand in its place: the least, and so much above it
abbrev pub rests : List ℕ → List ℕ → List ℕ → List ℕ
rests block least above = zip2 (λ a b. a - b) (zip2 over block least) above

pub record Fits (block : List ℕ) (form : Form) : Type 0 where
  pub bytes : AllByRecursion (λ b. b < 256) block
  pub least : AllByRecursion (λ b. b < 256) form.least
  pub inside : AllByRecursion (λ x. x ≡ 0) (rests block form.least form.above)
