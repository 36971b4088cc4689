-- How large the numbers are that digits write.
use Rattle.j39_cli.proofs.Common.{◌≡◌, ◌<◌, ◌≤◌, ◌-◌, ◌^◌, ℕ, List, None, Option, Some, length, subst, arith, IfSome, SomeIff, length-drop, length-take-le}
use Rattle.std.specs.Str.Parse.{AllDigits, digits_value}
use Rattle.std.proofs.Math.Nat.{pow-le-pow_right}
use Rattle.std.proofs.lemmas.Int.Digits.{digits_value-lt}
use Rattle.j39_cli.specs.CutCommand.{IsMomentText, micros_of, moment_value, seconds_of}

-- 16 hex digits write a number of 64 bits
pub sixteen_digits : (text : List ℕ) → AllDigits 16 text → length text ≡ 16 → digits_value 16 text < 2 ^ 64
sixteen_digits text digits is_length = subst (λ (n : ℕ). digits_value 16 text < 16 ^ n) is_length (digits_value-lt 16 text digits)

-- at most two one of a byte
pub two_digits : (text : List ℕ) → AllDigits 16 text → length text ≤ 2 → digits_value 16 text < 2 ^ 8
two_digits text digits is_short =
    let fits : digits_value 16 text < 16 ^ length text = digits_value-lt 16 text digits in
    let limit : 16 ^ length text ≤ 16 ^ 2 = pow-le-pow_right (omega arith) is_short in
    omega arith

-- at most so many decimal digits write a number below that power of ten
pub decimal_below : (text : List ℕ) (most : ℕ) → AllDigits 10 text → length text ≤ most → digits_value 10 text < 10 ^ most
decimal_below text most digits is_short =
    let fits : digits_value 10 text < 10 ^ length text = digits_value-lt 10 text digits in
    let limit : 10 ^ length text ≤ 10 ^ most = pow-le-pow_right (omega arith) is_short in
    omega arith

pub ten_digits : (text : List ℕ) → AllDigits 10 text → length text ≤ 10 → digits_value 10 text < 10 ^ 10
ten_digits text digits is_short = decimal_below text 10 digits is_short

-- a moment that is written fits a stamp
pub moment_fits : (text : List ℕ) → IsMomentText text → moment_value text < 10 ^ 16
moment_fits text is_moment =
    let some : 8 ≤ length text = is_moment.some in
    let fits : length text ≤ 17 = is_moment.fits in
    let before : length (seconds_of text) ≡ length text - 7 = length-take-le (length text - 7) text (omega arith) in
    let after : length (micros_of text) ≡ length text - (length text - 6) = length-drop (length text - 6) text in
    let seconds : digits_value 10 (seconds_of text) < 10 ^ 10 = decimal_below (seconds_of text) 10 is_moment.seconds (omega arith) in
    let micros : digits_value 10 (micros_of text) < 10 ^ 6 = decimal_below (micros_of text) 6 is_moment.micros (omega arith) in
    omega arith

-- a number of at most so many digits
pub short_below : (r : Option ℕ) (text : List ℕ) (most : ℕ) → SomeIff r (AllDigits 10 text) (digits_value 10 text) → length text ≤ most
    → IfSome r (λ n. n < 10 ^ most)
short_below None text most is is_short = tt
short_below (Some n) text most is is_short = rw is.1 (decimal_below text most is.0 is_short)
