-- The lines that hold no frame with a 29-bit identifier, by kind.
use Rattle.std.specs.Prelude.{◌==◌, ℕ, List, Bool, count_by}
use Rattle.j39_listen.specs.Counting.{capped}
use Rattle.j39_log.specs.Kind.{kind_of}
use Rattle.j39_log.specs.declared.kind.OtherKind.{OtherKind}
use Rattle.j39_log.specs.declared.kind.OtherKind.TheVariants.{Standard, Remote, Flexible, Error, Odd}

-- how many lines are of each kind
pub record OthersRecord : Type 0 where
  pub standard : ℕ
  pub remote : ℕ
  pub flexible : ℕ
  pub error : ℕ
  pub odd : ℕ

-- which of the kinds it is
abbrev pub place_of : OtherKind → ℕ
place_of Standard = 0
place_of Remote = 1
place_of Flexible = 2
place_of Error = 3
place_of Odd = 4

abbrev pub is_kind : OtherKind → OtherKind → Bool
is_kind a b = place_of a == place_of b

-- how many texts are of this kind
abbrev pub kinds_in : OtherKind → List (List ℕ) → ℕ
kinds_in kind texts = capped (count_by (λ text. is_kind kind (kind_of text)) texts)

unfoldable pub others_of : List (List ℕ) → OthersRecord
others_of texts = record {
  standard = kinds_in Standard texts;
  remote = kinds_in Remote texts;
  flexible = kinds_in Flexible texts;
  error = kinds_in Error texts;
  odd = kinds_in Odd texts;
}
