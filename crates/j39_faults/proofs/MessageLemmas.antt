-- A message of faults is read as what it was made of.
use Rattle.std.proofs.Common.{◌≡◌, ◌∙◌, ℕ, zero, suc, ◌+◌, ◌-◌, ◌*◌, ◌/◌, ◌%◌, ◌<◌, ◌++◌, ◌&&◌, ◌||◌, ◌==◌, Bool, true, false, not, List, [], ◌∷◌, Option, Some, None, length, nat_lt, replicate, refl, sym, ap, ap₂, arith, append_assoc, if◌then◌else◌}
use Rattle.std.proofs.lemmas.Bool.{and_parts}
use Rattle.std.proofs.lemmas.Bool.Decides.{Decides-eqb, nat_tests}
use Rattle.std.proofs.lemmas.List.{get_or-append-add, length-append, length-replicate}
use Rattle.std.specs.List.{cons_option, filter_map, flat_map, list_all, range_with_len}
use Rattle.std.specs.Prelude.{slice_index}
use Rattle.j39_faults.specs.declared.code.Code.{Code}
use Rattle.j39_faults.specs.declared.code.Parameter.{Parameter}
use Rattle.j39_faults.specs.declared.code.Parameter.TheVariants.{Known, OneOf}
use Rattle.j39_faults.specs.declared.lamps.Flash.{Flash}
use Rattle.j39_faults.specs.declared.lamps.Flash.TheVariants as flash
use Rattle.j39_faults.specs.declared.lamps.Lamp.{Lamp}
use Rattle.j39_faults.specs.declared.lamps.LampState.{LampState}
use Rattle.j39_faults.specs.declared.lamps.LampState.TheVariants as state
use Rattle.j39_faults.specs.declared.lamps.Lamps.{Lamps}
use Rattle.j39_faults.specs.Codes.{candidates_of, code_at, code_of, codes_of, count_of, is_no_code, parameter_of, places_of, spn_of}
use Rattle.j39_faults.specs.FaultsMessage.{can_tell, code_bytes, count_bits, faults_message, filled, flash_bits, flashes_byte, is_count, pairs, spn_in, state_bits, states_byte}
use Rattle.j39_faults.specs.LampBits.{flash_of, lamp_of, lamps_of, state_of}

-- ---- the lamps

first_pair : (a b c d : ℕ) → a < 4 → b < 4 → c < 4 → d < 4 → pairs a b c d / 64 % 4 ≡ a
first_pair a b c d la lb lc ld = omega arith

second_pair : (a b c d : ℕ) → a < 4 → b < 4 → c < 4 → d < 4 → pairs a b c d / 16 % 4 ≡ b
second_pair a b c d la lb lc ld = omega arith

third_pair : (a b c d : ℕ) → a < 4 → b < 4 → c < 4 → d < 4 → pairs a b c d / 4 % 4 ≡ c
third_pair a b c d la lb lc ld = omega arith

fourth_pair : (a b c d : ℕ) → a < 4 → b < 4 → c < 4 → d < 4 → pairs a b c d % 4 ≡ d
fourth_pair a b c d la lb lc ld = omega arith

state_small : (s : LampState) → state_bits s < 4
state_small state.Off = omega arith
state_small state.On = omega arith
state_small state.Reserved = omega arith
state_small state.NotAvailable = omega arith

flash_small : (f : Flash) → flash_bits f < 4
flash_small flash.Slow = omega arith
flash_small flash.Fast = omega arith
flash_small flash.Reserved = omega arith
flash_small flash.Steady = omega arith

state_back : (s : LampState) → state_of (state_bits s) ≡ s
state_back state.Off = refl
state_back state.On = refl
state_back state.Reserved = refl
state_back state.NotAvailable = refl

flash_back : (f : Flash) → flash_of (flash_bits f) ≡ f
flash_back flash.Slow = refl
flash_back flash.Fast = refl
flash_back flash.Reserved = refl
flash_back flash.Steady = refl

lamp_back : (lamp : Lamp) (s f : ℕ) → s ≡ state_bits lamp.state → f ≡ flash_bits lamp.flash → lamp_of s f ≡ lamp
lamp_back lamp s f es ef =
    ap₂ (λ (x y : ℕ). lamp_of x y) es ef
    ∙ ap₂ (λ (x : LampState) (y : Flash). record { state = x; flash = y }) (state_back lamp.state) (flash_back lamp.flash)

pub lamps_back : (lamps : Lamps) (codes : List Code) → lamps_of (faults_message lamps codes) ≡ Some lamps
unfolding faults_message
lamps_back lamps codes =
    let a = state_small lamps.malfunction.state in
    let b = state_small lamps.red.state in
    let c = state_small lamps.amber.state in
    let d = state_small lamps.protect.state in
    let e = flash_small lamps.malfunction.flash in
    let f = flash_small lamps.red.flash in
    let g = flash_small lamps.amber.flash in
    let h = flash_small lamps.protect.flash in
    λ i. Some (record {
      malfunction = lamp_back lamps.malfunction _ _ (first_pair _ _ _ _ a b c d) (first_pair _ _ _ _ e f g h) i;
      red = lamp_back lamps.red _ _ (second_pair _ _ _ _ a b c d) (second_pair _ _ _ _ e f g h) i;
      amber = lamp_back lamps.amber _ _ (third_pair _ _ _ _ a b c d) (third_pair _ _ _ _ e f g h) i;
      protect = lamp_back lamps.protect _ _ (fourth_pair _ _ _ _ a b c d) (fourth_pair _ _ _ _ e f g h) i;
    })

-- ---- a code

spn_back : (spn fmi : ℕ) → spn < 524288 → fmi < 32 → spn_of (spn % 256) (spn / 256 % 256) (spn / 65536 * 32 + fmi) ≡ spn
spn_back spn fmi small few = omega arith

fmi_back : (high fmi : ℕ) → fmi < 32 → (high * 32 + fmi) % 32 ≡ fmi
fmi_back high fmi few = omega arith

count_back : (count : Option ℕ) → is_count count ≡ true → count_of (count_bits count % 128) ≡ count
count_back None is = refl
count_back (Some n) is = grind (arith, nat_tests)

method_back : (count : Option ℕ) → is_count count ≡ true → count_bits count / 128 ≡ 0
method_back None is = refl
method_back (Some n) is = grind (arith, nat_tests)

not_filling : (count : Option ℕ) → is_count count ≡ true → (count_bits count == 0xFF) ≡ false
not_filling None is = refl
not_filling (Some n) is = grind (arith, nat_tests)

below : (a n : ℕ) → nat_lt a n ≡ true → a < n
below a n e = grind (arith, nat_tests)

is_not : (b : Bool) → not b ≡ true → b ≡ false
is_not true e = cc
is_not false e = refl

never_last : (a b c d : Bool) → d ≡ false → (a && (b && (c && d))) ≡ false
never_last true true true d e = e
never_last true true false d e = refl
never_last true false c d e = refl
never_last false b c d e = refl

abbrev with_fields : Parameter → ℕ → Option ℕ → Code
with_fields parameter fmi count = record { parameter = parameter; fmi = fmi; count = count }

abbrev unless : Bool → Code → Option Code
unless none code = if none then None else Some code

code_back : (code : Code) → can_tell code ≡ true
    → code_of (spn_in code.parameter % 256) (spn_in code.parameter / 256 % 256) (spn_in code.parameter / 65536 * 32 + code.fmi)
    (count_bits code.count) ≡ Some code
unfolding code_of
code_back code can = of code.parameter code.fmi code.count can
  where
    of : (p : Parameter) (fmi : ℕ) (count : Option ℕ) → can_tell (with_fields p fmi count) ≡ true
        → unless (is_no_code (spn_in p % 256) (spn_in p / 256 % 256) (spn_in p / 65536 * 32 + fmi) (count_bits count))
        (with_fields (parameter_of (spn_in p % 256) (spn_in p / 256 % 256) (spn_in p / 65536 * 32 + fmi) (count_bits count / 128))
        ((spn_in p / 65536 * 32 + fmi) % 32) (count_of (count_bits count % 128)))
        ≡ Some (with_fields p fmi count)
    of (OneOf spns) fmi count can = cc
    of (Known spn) fmi count can =
        let not_zero = and_parts (nat_lt spn 524288 && nat_lt fmi 32 && is_count count) (not (spn == 0 && fmi == 0)) can in
        let counted = and_parts (nat_lt spn 524288 && nat_lt fmi 32) (is_count count) not_zero.0 in
        let in_range = and_parts (nat_lt spn 524288) (nat_lt fmi 32) counted.0 in
        let small = below spn 524288 in_range.0 in
        let few = below fmi 32 in_range.1 in
        let back = spn_back spn fmi small few in
        let same_fmi = fmi_back (spn / 65536) fmi few in
        let some : is_no_code (spn % 256) (spn / 256 % 256) (spn / 65536 * 32 + fmi) (count_bits count) ≡ false =
        ap₂ (λ (x y : Bool). x || y) (never_last (spn % 256 == 0xFF) (spn / 256 % 256 == 0xFF) ((spn / 65536 * 32 + fmi) == 0xFF) (count_bits count == 0xFF)
        (not_filling count counted.1))
        (ap₂ (λ (x y : ℕ). x == 0 && y == 0) back same_fmi ∙ is_not (spn == 0 && fmi == 0) not_zero.1) in
        let read : Code = with_fields (parameter_of (spn % 256) (spn / 256 % 256) (spn / 65536 * 32 + fmi) (count_bits count / 128))
        ((spn / 65536 * 32 + fmi) % 32) (count_of (count_bits count % 128)) in
        ap (λ (b : Bool). unless b read) some
        ∙ (λ i. Some (with_fields (as_method (method_back count counted.1 i) (back i)) (same_fmi i) (count_back count counted.1 i)))
      where
        as_method : ℕ → ℕ → Parameter
        as_method method n = if method == 0 then Known n else OneOf (candidates_of (spn % 256) (spn / 256 % 256) (spn / 65536 * 32 + fmi))

-- ---- the codes

-- four bytes behind a front
four_at : (front : List ℕ) (a b c d : ℕ) (rest : List ℕ) (k : ℕ) → length front ≡ 2 + 4 * k
    → code_at (front ++ a ∷ b ∷ c ∷ d ∷ rest) k ≡ code_of a b c d
four_at front a b c d rest k long =
    let at : (j x : ℕ) → x ≡ length front + j → slice_index (front ++ a ∷ b ∷ c ∷ d ∷ rest) x ≡ slice_index (a ∷ b ∷ c ∷ d ∷ rest) j =
    λ j x e. ap (λ (n : ℕ). slice_index (front ++ a ∷ b ∷ c ∷ d ∷ rest) n) e ∙ get_or-append-add front (a ∷ b ∷ c ∷ d ∷ rest) j 0 in
    λ i. code_of (at 0 (2 + 4 * k) (omega arith) i) (at 1 (3 + 4 * k) (omega arith) i) (at 2 (4 + 4 * k) (omega arith) i)
    (at 3 (5 + 4 * k) (omega arith) i)

codes_from : (front rest : List ℕ) (codes : List Code) (k : ℕ) → length front ≡ 2 + 4 * k → list_all can_tell codes ≡ true
    → filter_map (code_at (front ++ (flat_map code_bytes codes ++ rest))) (range_with_len k (length codes)) ≡ codes
codes_from front rest [] k long told = refl
codes_from front rest (code ∷ more) k long told =
    let parts = and_parts _ _ told in
    let behind : List ℕ = flat_map code_bytes more ++ rest in
    let apart : front ++ (code_bytes code ++ flat_map code_bytes more ++ rest) ≡ (front ++ code_bytes code) ++ behind =
    ap (λ (xs : List ℕ). front ++ xs) (append_assoc (code_bytes code) (flat_map code_bytes more) rest)
    ∙ sym (append_assoc front (code_bytes code) behind) in
    let here : code_at (front ++ (code_bytes code ++ behind)) k ≡ Some code =
    four_at front _ _ _ _ behind k long ∙ code_back code parts.0 in
    let longer : length (front ++ code_bytes code) ≡ 2 + 4 * (k + 1) =
    length-append front (code_bytes code) ∙ omega arith in
    ap (λ (xs : List ℕ). filter_map (code_at xs) (range_with_len k (length (code ∷ more)))) apart
    ∙ ap₂ (λ (found : Option Code) (others : List Code). cons_option found others)
    (ap (λ (xs : List ℕ). code_at xs k) (append_assoc front (code_bytes code) behind) ∙ here)
    (codes_from (front ++ code_bytes code) rest more (k + 1) longer parts.1)

long_bytes : (codes : List Code) → length (flat_map code_bytes codes) ≡ 4 * length codes
long_bytes [] = refl
long_bytes (code ∷ more) = length-append (code_bytes code) (flat_map code_bytes more) ∙ (let rest = long_bytes more in omega arith)

-- FF behind them is no code
places_back : (s f n : ℕ) (bytes : List ℕ) → length bytes ≡ 4 * n → 0 < n → places_of (filled (s ∷ f ∷ bytes)) ≡ n
places_back s f n bytes long some =
    let fill : List ℕ = replicate (8 - length (s ∷ f ∷ bytes)) 0xFF in
    let filling : length fill ≡ 8 - length (s ∷ f ∷ bytes) = length-replicate {A = ℕ} (8 - length (s ∷ f ∷ bytes)) 0xFF in
    let all : length (filled (s ∷ f ∷ bytes)) ≡ length (s ∷ f ∷ bytes) + (8 - length (s ∷ f ∷ bytes)) =
    length-append (s ∷ f ∷ bytes) fill ∙ ap (λ (k : ℕ). length (s ∷ f ∷ bytes) + k) filling in
    omega arith

pub codes_back : (lamps : Lamps) (codes : List Code) → list_all can_tell codes ≡ true → codes_of (faults_message lamps codes) ≡ codes
unfolding codes_of faults_message code_of
codes_back lamps [] told = refl
codes_back lamps (code ∷ more) told =
    let bytes = flat_map code_bytes (code ∷ more) in
    let message = filled (states_byte lamps ∷ flashes_byte lamps ∷ bytes) in
    ap (λ (n : ℕ). filter_map (code_at message) (range_with_len 0 n))
    (places_back (states_byte lamps) (flashes_byte lamps) (length (code ∷ more)) bytes (long_bytes (code ∷ more)) (omega arith))
    ∙ codes_from (states_byte lamps ∷ flashes_byte lamps ∷ []) (replicate (8 - length (states_byte lamps ∷ flashes_byte lamps ∷ bytes)) 0xFF)
    (code ∷ more) 0 refl told

-- ---- what is read can be told again

state_again : (bits : ℕ) → bits < 4 → state_bits (state_of bits) ≡ bits
state_again zero few = refl
state_again (suc zero) few = refl
state_again (suc (suc zero)) few = refl
state_again (suc (suc (suc zero))) few = refl
state_again (suc (suc (suc (suc n)))) few = absurd (omega arith)

flash_again : (bits : ℕ) → bits < 4 → flash_bits (flash_of bits) ≡ bits
flash_again zero few = refl
flash_again (suc zero) few = refl
flash_again (suc (suc zero)) few = refl
flash_again (suc (suc (suc zero))) few = refl
flash_again (suc (suc (suc (suc n)))) few = absurd (omega arith)

-- a byte in pairs of bits
in_pairs : (byte : ℕ) → byte < 256 → pairs (byte / 64 % 4) (byte / 16 % 4) (byte / 4 % 4) (byte % 4) ≡ byte
in_pairs byte small = omega arith

pub lamps_again : (states flashes : ℕ) (rest : List ℕ) (lamps : Lamps) → states < 256 → flashes < 256
    → lamps_of (states ∷ flashes ∷ rest) ≡ Some lamps → (states_byte lamps ≡ states) × (flashes_byte lamps ≡ flashes)
lamps_again states flashes rest lamps few small read =
    let found : Lamps = record {
      malfunction = lamp_of (states / 64 % 4) (flashes / 64 % 4);
      red = lamp_of (states / 16 % 4) (flashes / 16 % 4);
      amber = lamp_of (states / 4 % 4) (flashes / 4 % 4);
      protect = lamp_of (states % 4) (flashes % 4);
    } in
    let is : found ≡ lamps = cc in (
      ap states_byte (sym is)
          ∙ (λ i. pairs (state_again (states / 64 % 4) (omega arith) i) (state_again (states / 16 % 4) (omega arith) i)
          (state_again (states / 4 % 4) (omega arith) i) (state_again (states % 4) (omega arith) i))
          ∙ in_pairs states few,
      ap flashes_byte (sym is)
          ∙ (λ i. pairs (flash_again (flashes / 64 % 4) (omega arith) i) (flash_again (flashes / 16 % 4) (omega arith) i)
          (flash_again (flashes / 4 % 4) (omega arith) i) (flash_again (flashes % 4) (omega arith) i))
          ∙ in_pairs flashes small,
    )

count_again : (bits : ℕ) → bits < 128 → count_bits (count_of bits) ≡ bits
count_again bits few = of (bits == 127) ((Decides-eqb bits 127).0)
  where
    of : (b : Bool) → (b ≡ true → bits ≡ 127) → count_bits (if b then None else Some bits) ≡ bits
    of true is = sym (is refl)
    of false is = refl

count_told : (bits : ℕ) → bits < 128 → is_count (count_of bits) ≡ true
count_told bits few = of (bits == 127) (λ not_last. grind (arith, nat_tests))
  where
    of : (b : Bool) → (b ≡ false → nat_lt bits 127 ≡ true) → is_count (if b then None else Some bits) ≡ true
    of true is = refl
    of false is = is refl

parameter_again : (first second third method : ℕ) → method ≡ 0 → parameter_of first second third method ≡ Known (spn_of first second third)
parameter_again first second third method none = ap (λ (m : ℕ). if m == 0 then Known (spn_of first second third) else OneOf (candidates_of first second third)) none

bytes_again : (first second third fourth : ℕ) → first < 256 → second < 256 → third < 256 → fourth < 128
    → code_bytes (with_fields (Known (spn_of first second third)) (third % 32) (count_of fourth)) ≡ first ∷ second ∷ third ∷ fourth ∷ []
bytes_again first second third fourth a b c d =
    let low : spn_of first second third % 256 ≡ first = omega arith in
    let middle : spn_of first second third / 256 % 256 ≡ second = omega arith in
    let high : spn_of first second third / 65536 * 32 + third % 32 ≡ third = omega arith in
    λ i. low i ∷ middle i ∷ high i ∷ count_again fourth d i ∷ []

told_again : (first second third fourth : ℕ) → first < 256 → second < 256 → third < 256 → fourth < 128
    → is_no_code first second third fourth ≡ false
    → can_tell (with_fields (Known (spn_of first second third)) (third % 32) (count_of fourth)) ≡ true
told_again first second third fourth a b c d some =
    let small : nat_lt (spn_of first second third) 524288 ≡ true = grind (arith, nat_tests) in
    let few : nat_lt (third % 32) 32 ≡ true = grind (arith, nat_tests) in
    let not_zero : (spn_of first second third == 0 && third % 32 == 0) ≡ false =
    second_false (first == 0xFF && (second == 0xFF && (third == 0xFF && fourth == 0xFF))) (spn_of first second third == 0 && third % 32 == 0) some in
    λ i. small i && few i && count_told fourth d i && not (not_zero i)
  where
    second_false : (x y : Bool) → (x || y) ≡ false → y ≡ false
    second_false true y e = cc
    second_false false y e = e

pub code_again : (first second third fourth : ℕ) (code : Code) → first < 256 → second < 256 → third < 256 → fourth < 128
    → code_of first second third fourth ≡ Some code
    → (can_tell code ≡ true) × (code_bytes code ≡ first ∷ second ∷ third ∷ fourth ∷ [])
unfolding code_of
code_again first second third fourth code a b c d read =
    of (is_no_code first second third fourth) refl read
  where
    found : Code
    found = with_fields (parameter_of first second third (fourth / 128)) (third % 32) (count_of (fourth % 128))

    same : found ≡ with_fields (Known (spn_of first second third)) (third % 32) (count_of fourth)
    same =
        let method : fourth / 128 ≡ 0 = omega arith in
        let count : fourth % 128 ≡ fourth = omega arith in
        λ i. with_fields (parameter_again first second third (fourth / 128) method i) (third % 32) (count_of (count i))

    of : (b : Bool) → is_no_code first second third fourth ≡ b → unless b found ≡ Some code
        → (can_tell code ≡ true) × (code_bytes code ≡ first ∷ second ∷ third ∷ fourth ∷ [])
    of true is none = cc
    of false is some =
        let this : code ≡ with_fields (Known (spn_of first second third)) (third % 32) (count_of fourth) = (let e : found ≡ code = cc in sym e) ∙ same in
        (ap can_tell this ∙ told_again first second third fourth a b c d is, ap code_bytes this ∙ bytes_again first second third fourth a b c d)
