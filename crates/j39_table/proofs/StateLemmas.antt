-- The names of states: their numbers, and what stands between the commas.
use Rattle.std.proofs.lemmas.Bool.{cases_Bool, cond_both}
use Rattle.std.proofs.Common.{◌≡◌, ◌<◌, ◌≤◌, ◌+◌, ◌-◌, ◌*◌, ◌^◌, ◌%◌, ◌∙◌, ◌++◌, ◌==◌, inl, inr, ℕ, suc, List, [], ◌∷◌, Some, length, take, drop, drop-cons, get_or, refl, sym, ap, subst, arith, decimal, append_assoc}
use Rattle.std.specs.Prelude.{IsSomeAnd, None, Option, count_by, nat_le, nat_lt}
use Rattle.std.specs.Option.{SomeIff}
use Rattle.std.proofs.lemmas.Grind.{common_steps}
use Rattle.std.proofs.lemmas.List.Splits.{length-slice_split}
use Rattle.std.specs.List.{slice_split}
use Rattle.std.specs.Str.Parse.{AllDigits, digits_value}
use Rattle.std.specs.List.{prefix_len}
use Rattle.std.proofs.lemmas.List.{drop_all}
use Rattle.std.proofs.Math.Pow.{pow_mono}
use Rattle.j39_groups.specs.Row.{FieldRecord, number_field, bits_field, full_field, switch_field, text_field, texts_field}
use Rattle.j39_groups.specs.States.{state_words, states_in}
use Rattle.j39_groups.proofs.StateLemmas.{words_front}
use Rattle.j39_table.proofs.PlaceLemmas.{Leads, leads}
use Rattle.j39_table.specs.Positions.{is_digit}
use Rattle.j39_table.specs.Rows.{IsGoodField}
use Rattle.j39_table.specs.States.{AreGoodStates, AreStates, IsState, bits_limit, bits_up, states_limit}

-- ---- the number of a state

pub raw_leads : (raw : ℕ) (state words : List ℕ) → state_words raw state ≡ Some words → state ≡ 32 ∷ (decimal raw ++ (32 ∷ words))
raw_leads raw state words h = words_front raw state words h ∙ ap (λ t. 32 ∷ t) (append_assoc (decimal raw) (32 ∷ []) words)

pub raw_digits : (raw : ℕ) (state words rest : List ℕ) (k : ℕ) → raw < 2 ^ 32 → state_words raw state ≡ Some words → rest ≡ drop 1 state
    → k ≡ prefix_len is_digit rest → Leads rest (32 ∷ words) raw k
raw_digits raw state words rest k few h is at =
    leads rest (32 ∷ words) raw k (omega (arith, few)) refl (is ∙ ap (drop 1) (raw_leads raw state words h)) at

pub some_bytes : (raw : ℕ) (state words : List ℕ) → state_words raw state ≡ Some words → 0 < length state
some_bytes raw state words h = let same = ap length (raw_leads raw state words h) in omega (arith, same)

pub number_read : (o : Option ℕ) (front text rest : List ℕ) (raw k : ℕ) → raw < 2 ^ 32 → Leads text rest raw k → front ≡ take k text
    → SomeIff o (AllDigits 10 front × (digits_value 10 front < 2 ^ 64)) (digits_value 10 front) → IsSomeAnd o (λ found. found ≡ raw)
number_read None front text rest raw k few lead is iff =
    let value : digits_value 10 front ≡ raw = ap (digits_value 10) is ∙ lead.value in
    absurd (iff (subst (AllDigits 10) (sym is) lead.digits, omega (arith, value, few)))
number_read (Some x) front text rest raw k few lead is iff = iff.1 ∙ ap (digits_value 10) is ∙ lead.value

-- ---- states one after the other

-- those from a place on are states exactly if all are
pub record RisesTo (limit : ℕ) (states : List (List ℕ)) (i least : ℕ) : Type 0 where
  pub on : AreStates 0 limit states → AreStates least limit (drop i states)
  pub back : AreStates least limit (drop i states) → AreStates 0 limit states
  pub few : least ≤ 2 ^ 32

pub rises_more : (limit : ℕ) (states : List (List ℕ)) (i j least raw : ℕ) (state : List ℕ) → limit ≤ 2 ^ 32 → i < length states → j ≡ i + 1
    → state ≡ get_or states i state → IsState least limit state raw → ((r : ℕ) → IsState least limit state r → raw ≡ r)
    → RisesTo limit states i least → RisesTo limit states j (raw + 1)
rises_more limit states i j least raw state bound below next is here only before =
    let after : suc i ≡ j = omega (arith, next) in
    let cut : drop i states ≡ state ∷ drop j states =
    drop-cons states i state below ∙ ap (λ t. t ∷ drop (suc i) states) (sym is) ∙ ap (λ k. state ∷ drop k states) after in
    record {
      on = λ all.
          let both = subst (AreStates least limit) cut (before.on all) in
          subst (λ r. AreStates (r + 1) limit (drop j states)) (sym (only both.0 both.1)) both.2;
      back = λ rest. before.back (subst (AreStates least limit) (sym cut) (raw, here, rest));
      few = (let inside = here.below in omega (arith, inside, bound));
    }

pub stops_here : (limit : ℕ) (states : List (List ℕ)) (i least : ℕ) (state : List ℕ) → i < length states → state ≡ get_or states i state
    → ((raw : ℕ) → IsState least limit state raw → ⊥) → RisesTo limit states i least → AreStates 0 limit states → ⊥
stops_here limit states i least state below is never before all =
    let cut = drop-cons states i state below in
    let both = subst (AreStates least limit) cut (before.on all) in
    never both.0 (subst (λ t. IsState least limit t both.0) (sym is) both.1)

-- ---- a list of states

pub states_of : (limit : ℕ) (part : List ℕ) → AreGoodStates limit part → 0 < length part
    → (length (states_in part) ≤ 256) × AreStates 0 limit (states_in part)
states_of limit [] good some = absurd (omega (arith, some))
states_of limit (b ∷ part) good some = good

pub no_states : (limit : ℕ) (part : List ℕ) → length part ≡ 0 → AreGoodStates limit part
no_states limit [] none = tt
no_states limit (b ∷ part) none = absurd (omega (arith, none))

pub bits_fit : (count : ℕ) → count ≤ 32 → bits_limit count ≤ 2 ^ 32
bits_fit count narrow =
    let all = pow_mono {i = count} {j = 32} narrow in
    let bytes = pow_mono {i = count - 8} {j = 24} (omega (arith, narrow)) in
    elim (cases_Bool (count % 8 == 0)) [
      | inl whole ↦ rw whole (omega (arith, bytes))
      | inr part ↦ elim (cases_Bool (count == 1)) [
        | inl one ↦ rw (part, one) (omega arith)
        | inr more ↦ rw (part, more) (omega (arith, all))
      ]
    ]

-- the raw numbers of a field have 32 bits at most
pub limit_fits : (field : FieldRecord) → IsGoodField field → states_limit field ≤ 2 ^ 32
limit_fits (number_field first last slot) good =
    let narrow = good.0.narrow in let small = pow_mono {i = 8 * (last - first)} {j = 24} (omega (arith, narrow)) in omega (arith, small)
limit_fits (bits_field byte low count slot) good = bits_fit count good.0.narrow
limit_fits (full_field byte low count is_signed slot) good =
    let narrow = good.0.narrow in
    let few : bits_up count is_signed ≤ 32 = cond_both is_signed (count - 1) count (λ n. n ≤ 32) (λ e. omega (arith, narrow)) (λ e. narrow) in
    pow_mono {i = bits_up count is_signed} {j = 32} few
limit_fits (switch_field byte low high) good = omega arith
limit_fits (text_field part) good = omega arith
limit_fits (texts_field byte count) good = omega arith

pub ends_all : (limit : ℕ) (states : List (List ℕ)) (i least : ℕ) → length states ≤ i → RisesTo limit states i least → AreStates 0 limit states
ends_all limit states i least past before = before.back (subst (AreStates least limit) (sym (drop_all i states past)) tt)

-- one state more than commas
commas_between : (states : List ℕ) → length (slice_split (λ b. b == 44) states) ≡ count_by (λ b. b == 44) states + 1
commas_between states = length-slice_split (λ b. b == 44) states

few_by_one : (n : ℕ) → nat_lt n 256 ≡ nat_le (n + 1) 256
few_by_one n = grind (arith, common_steps)

pub few_commas : (n : ℕ) (states : List ℕ) → n ≡ count_by (λ b. b == 44) states
    → nat_lt n 256 ≡ nat_le (length (slice_split (λ b. b == 44) states)) 256
few_commas n states is = few_by_one n ∙ ap (λ k. nat_le k 256) (ap (λ k. k + 1) is ∙ sym (commas_between states))

-- what is shorter than ` =` names no states
pub short_part : (limit : ℕ) (part : List ℕ) → (length part ≡ 0 → ⊥) → length part < 2 → AreGoodStates limit part → ⊥
short_part limit part some short good =
    let nothing : drop 2 part ≡ [] = drop_all 2 part (omega (arith, short)) in
    let all = (states_of limit part good (omega (arith, some))).1 in
    let lone : AreStates 0 limit ([] ∷ []) = subst (λ t. AreStates 0 limit (slice_split (λ b. b == 44) t)) nothing all in
    let bytes = some_bytes lone.0 [] lone.1.words lone.1.words_are in omega (arith, bytes)
