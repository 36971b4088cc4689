-- The parts of a line as `candump` writes it, where they stand.
use Rattle.std.proofs.Common.{◌≡◌, ◌≢◌, ◌<◌, ◌≤◌, ◌+◌, ◌%◌, ℕ, Bool, true, not, cond, eqb, map, length-take, List, [], ◌∷◌, ◌++◌, length, take, drop, get_or, sym, ap, ap₂, ◌∙◌, arith, subst, append_assoc, take-append-drop, refl}
use Rattle.std.specs.List.{prefix_len}
use Rattle.std.specs.Simd.Lanes.{mask_l}
use lib.Count.{count_trailing_zeros}
use Rattle.std.proofs.lemmas.Bool.{leb-false, not-true, ne_eqb}
use Rattle.std.proofs.lemmas.Simd.{first_set_mask_l}
use Rattle.std.proofs.lemmas.List.{get_or-take}
use Rattle.std.proofs.lemmas.List.Folds.{prefix_len-append}
use Rattle.std.proofs.lemmas.List.Elements.{All-from_get_or}
use Rattle.std.proofs.lemmas.List.Sums.{prefix_len_passes}
use Rattle.j39_log.specs.Bus.{IsBusName}
use Rattle.j39_log.specs.Lanes.{is_gap}
use Rattle.j39_log.specs.Fields.{IsField}
use Rattle.j39_log.specs.Text.{IsStampText}
use Rattle.j39_log.specs.Line.{IsBody, HasParts}
use Rattle.j39_log.proofs.SpacedLemmas.{spaced_parts}

pub parts_found : (line body front rest cut later bus third : List ℕ) (stamp : ℕ) → length line ≤ 256 → IsBody line body → front ≡ take 18 body → rest ≡ drop 18 body
    → rest ≡ cut ++ (41 ∷ (32 ∷ later)) → IsStampText (front ++ (cut ++ (41 ∷ []))) stamp → IsBusName bus → later ≡ bus ++ (32 ∷ third) → IsField third → HasParts line bus third stamp
parts_found line body front rest cut later bus third stamp short body_is f r cuts s b named field =
    spaced_parts line body (front ++ (cut ++ (41 ∷ []))) bus third stamp short body_is
    (sym (take-append-drop 18 body) ∙ ap₂ (λ xs ys. xs ++ ys) (sym f) (sym r ∙ cuts ∙ ap (λ t. cut ++ (41 ∷ (32 ∷ t))) named) ∙ simp append_assoc refl) s b field

abbrev is_visible : ℕ → Bool
is_visible b = not (is_gap b)

visible : (b : ℕ) → is_visible b ≡ true → (32 < b) × (b ≢ 127)
visible b h = let below : (b + 223) % 256 < 94 = leb-false _ _ (not-true _ h) in (omega (arith, below), λ e. omega (arith, below, e))

-- a run of them that is shorter than a block ends where the first gap of the block stands
pub run_in_block : (text block later : List ℕ) (m : ℕ) → block ≡ take 16 text → later ≡ drop 16 text → 16 ≤ length text → m ≡ mask_l (map is_gap block)
    → count_trailing_zeros 64 m < 16 → count_trailing_zeros 64 m ≡ prefix_len is_visible text
unfolding count_trailing_zeros
run_in_block text block later m front back room mask few =
    let long : length block ≡ 16 = ap length front ∙ simp length-take (omega arith) in
    let whole : prefix_len is_visible text ≡ cond (eqb (prefix_len is_visible block) (length block)) (length block + prefix_len is_visible later) (prefix_len is_visible block) =
    ap (prefix_len is_visible) (sym (take-append-drop 16 text) ∙ ap₂ (λ xs ys. xs ++ ys) (sym front) (sym back)) ∙ prefix_len-append is_visible block later in
    let some : cond (eqb m 0) 16 (count_trailing_zeros 64 m) ≡ prefix_len is_visible block = rw mask (first_set_mask_l is_gap block 16 long (omega arith)) in
    let none : count_trailing_zeros 64 0 ≡ 64 = refl in
    let set : m ≢ 0 = λ e. let all : count_trailing_zeros 64 m ≡ 64 = ap (count_trailing_zeros 64) e ∙ none in omega (arith, all, few) in
    let here : count_trailing_zeros 64 m ≡ prefix_len is_visible block = sym (ap (λ b. cond b 16 (count_trailing_zeros 64 m)) (ne_eqb _ _ set)) ∙ some in
    here ∙ sym (whole ∙ ap (λ b. cond b (length block + prefix_len is_visible later) (prefix_len is_visible block)) (ne_eqb _ _ (λ e. omega (arith, e, here, few, long))))

pub bus_found : (text bus later third : List ℕ) (n space : ℕ) → bus ≡ take n text → length bus ≡ n → later ≡ drop n text → later ≡ space ∷ third → space ≡ 32
    → 0 < n → n ≤ 15 → n ≡ prefix_len is_visible text → IsBusName bus × (text ≡ bus ++ (32 ∷ third))
bus_found text bus later third n space front len back l sp some short is = (
  (
    omega arith,
    omega arith,
    All-from_get_or (λ b. (32 < b) × (b ≢ 127)) bus 0 (λ i lt.
        subst (λ b. (32 < b) × (b ≢ 127)) (sym (ap (λ xs. get_or xs i 0) front ∙ get_or-take n text i 0 (omega arith)))
        (visible (get_or text i 0) (prefix_len_passes is_visible text i 0 (omega (arith, is))))),
  ),
  sym (take-append-drop n text) ∙ ap₂ (λ xs ys. xs ++ ys) (sym front) (sym back ∙ l ∙ ap (λ x. x ∷ third) sp),
)
