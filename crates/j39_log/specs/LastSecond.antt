-- A second, as the bytes that each stamp within it begins with.
use Rattle.std.specs.Prelude.{◌≡◌, ◌*◌, ◌^◌, ℕ, List, ◌++◌, length, replicate, codes}
use Rattle.std.specs.Str.Parse.{AllDigits, digits_value}
use Rattle.j39_log.specs.declared.fast.form.Form.{Form}

-- `(`, ten digits and `.`, and the microseconds before this second
pub record IsSecond (text : List ℕ) (micros : ℕ) : Type 0 where
  pub seconds : List ℕ
  pub text_is : text ≡ codes "(" ++ (seconds ++ codes ".")
  pub seconds_fit : length seconds ≡ 10
  pub seconds_are : AllDigits 10 seconds
  pub micros_are : micros ≡ digits_value 10 seconds * 10 ^ 6

-- six digits, and the microseconds that they write
pub record AreDecimals (text : List ℕ) (micros : ℕ) : Type 0 where
  pub fit : length text ≡ 6
  pub are : AllDigits 10 text
  pub micros_are : micros ≡ digits_value 10 text

-- what has this form begins a stamp within the second: its text, and four digits
pub record HasSecond (form : Form) (micros : ℕ) : Type 0 where
  pub text : List ℕ
  pub second : IsSecond text micros
  pub least_is : form.least ≡ text ++ codes "0000"
  pub above_is : form.above ≡ replicate 12 0 ++ replicate 4 9
