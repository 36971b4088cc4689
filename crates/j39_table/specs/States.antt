-- The names of states behind a parameter's name: ` = 0 off, 1 on`.
use Rattle.std.specs.Prelude.{◌≡◌, ◌==◌, ◌+◌, ◌-◌, ◌*◌, ◌^◌, ◌%◌, ◌<◌, ◌≤◌, ◌∷◌, ⊤, ℕ, Bool, List, [], Some, if◌then◌else◌, length}
use Rattle.j39_groups.specs.Row.{FieldRecord, number_field, bits_field, full_field, switch_field, text_field, texts_field}
use Rattle.j39_groups.specs.States.{state_words, states_in}
use Rattle.j39_table.specs.Words.{IsName}

-- from here up a number of so many bits is not available (J1939-71, 5.1.4); of one bit both are told
abbrev pub bits_limit : ℕ → ℕ
bits_limit count = if count % 8 == 0 then 0xFF * 2 ^ (count - 8) else (if count == 1 then 2 else 2 ^ count - 1)

-- how many bits of a number say how far it is from 0
abbrev pub bits_up : ℕ → Bool → ℕ
bits_up count is_signed = if is_signed then count - 1 else count

-- the raw numbers of a field that are ever told are below this, of a signed one those that are not negative; a text has none
abbrev pub states_limit : FieldRecord → ℕ
states_limit (number_field first last slot) = 0xFF * 2 ^ (8 * (last - first))
states_limit (bits_field byte low count slot) = bits_limit count
states_limit (full_field byte low count is_signed slot) = 2 ^ bits_up count is_signed
states_limit (switch_field byte low high) = 3
states_limit (text_field part) = 0
states_limit (texts_field byte count) = 0

-- a state of this raw number, from one on and below another, with a name of 63 bytes at most
pub record IsState (least limit : ℕ) (state : List ℕ) (raw : ℕ) : Type 0 where
  pub above : least ≤ raw
  pub below : raw < limit
  pub words : List ℕ
  pub words_are : state_words raw state ≡ Some words
  pub named : IsName words
  pub short : length words ≤ 63

-- each number is above those before
abbrev pub AreStates : ℕ → ℕ → List (List ℕ) → Type 0
AreStates least limit [] = ⊤
AreStates least limit (state ∷ states) = (raw : ℕ) × IsState least limit state raw × AreStates (raw + 1) limit states

-- nothing, or 256 states at most
abbrev pub AreGoodStates : ℕ → List ℕ → Type 0
AreGoodStates limit [] = ⊤
AreGoodStates limit (b ∷ part) =
    (length (states_in (b ∷ part)) ≤ 256) × AreStates 0 limit (states_in (b ∷ part))
