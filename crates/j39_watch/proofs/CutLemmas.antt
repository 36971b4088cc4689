-- Lines that are cut at a width.
use Rattle.j39_watch.proofs.Common.{◌≡◌, ◌≤◌, ◌<◌, ◌+◌, ◌-◌, ◌++◌, [], ◌∷◌, ℕ, zero, suc, Bool, true, false, List, codes, drop, length, length-append, append_assoc, append-nil, take, refl, sym, ap, ◌∙◌, arith, nat_le, take-append-le, WritesBefore}
use Rattle.std.proofs.lemmas.List.{take_all}
use Rattle.j39_watch.specs.Watch.{column, spaces}

-- what is cut twice
pub cut_twice : (w : ℕ) (a b : List ℕ) → take w (take w a ++ b) ≡ take w (a ++ b)
cut_twice zero a b = refl
cut_twice (suc w) [] b = refl
cut_twice (suc w) (x ∷ a) b = ap (λ t. x ∷ t) (cut_twice w a b)

-- behind what was kept of a text
pub cut_behind : (w : ℕ) (whole b b' x : List ℕ) → b ≡ take w whole → b' ≡ take w (b ++ x) → b' ≡ take w (whole ++ x)
cut_behind w whole b b' x is next = next ∙ ap (λ t. take w (t ++ x)) is ∙ cut_twice w whole x

pub cut_step : (w v : ℕ) (whole b b' x y : List ℕ) → v ≡ w → x ≡ y → b ≡ take w whole → b' ≡ take v (b ++ x) → b' ≡ take w (whole ++ y)
cut_step w v whole b b' x y same text is next =
    cut_behind w whole b b' y is (next ∙ ap (λ n. take n (b ++ x)) same ∙ ap (λ t. take w (b ++ t)) text)

pub cut_none : (w : ℕ) (b : List ℕ) → b ≡ [] → b ≡ take w []
cut_none zero b none = none
cut_none (suc w) b none = none

-- behind a full line
full_stays : (w : ℕ) (a b : List ℕ) → w ≤ length a → take w (a ++ b) ≡ take w a
full_stays w a b h = take-append-le w a b h

below : (m n : ℕ) → nat_le m n ≡ true → m ≤ n
below m n e = grind arith

above : (m n : ℕ) → nat_le m n ≡ false → n < m
above m n e = grind arith

-- a column whose spaces are counted by what was kept of its text
pub column_cut : (w n : ℕ) (b t : List ℕ) → length b ≤ w
    → take w (take w (b ++ t) ++ (spaces (n - (length (take w (b ++ t)) - length b)) ++ codes " ")) ≡ take w (b ++ column n t)
column_cut w n b t fits =
    cut_twice w (b ++ t) (spaces (n - (length (take w (b ++ t)) - length b)) ++ codes " ")
    ∙ by (nat_le (length (b ++ t)) w) refl
    ∙ ap (take w) (append_assoc b t (spaces (n - length t) ++ codes " "))
  where
    end : ℕ → List ℕ
    end m = spaces (n - m) ++ codes " "

    by : (c : Bool) → nat_le (length (b ++ t)) w ≡ c
        → take w ((b ++ t) ++ end (length (take w (b ++ t)) - length b)) ≡ take w ((b ++ t) ++ end (length t))
    by true short =
        let all : take w (b ++ t) ≡ b ++ t = take_all w (b ++ t) (below (length (b ++ t)) w short) in
        let len = length-append b t in
        let count : length (take w (b ++ t)) - length b ≡ length t = ap (λ l. length l - length b) all ∙ omega (arith, len) in
        ap (λ m. take w ((b ++ t) ++ end m)) count
    by false long =
        let past : w < length (b ++ t) = above (length (b ++ t)) w long in
        full_stays w (b ++ t) _ (omega (arith, past)) ∙ sym (full_stays w (b ++ t) _ (omega (arith, past)))

-- the first of some spaces
pub first_spaces : (m n : ℕ) → m ≤ n → take m (spaces n) ≡ spaces m
first_spaces zero n h = refl
first_spaces (suc m) zero h = absurd (omega (arith, h))
first_spaces (suc m) (suc n) h = ap (λ t. 0x20 ∷ t) (first_spaces m n (omega (arith, h)))

-- ---- a column that is written in a block of spaces

take_past : (xs ys : List ℕ) (n : ℕ) → take (length xs + n) (xs ++ ys) ≡ xs ++ take n ys
take_past [] ys n = ap (λ m. take m ys) (let none : 0 + n ≡ n = omega arith in none)
take_past (x ∷ xs) ys n =
    let more : length (x ∷ xs) + n ≡ suc (length xs + n) = omega arith in
    ap (λ m. take m (x ∷ (xs ++ ys))) more ∙ ap (λ t. x ∷ t) (take_past xs ys n)

spaces_more : (n : ℕ) → spaces (suc n) ≡ spaces n ++ codes " "
spaces_more zero = refl
spaces_more (suc n) = ap (λ t. 0x20 ∷ t) (spaces_more n)

-- its text and the spaces behind it
pub column_block : (start width missing : ℕ) (block text : List ℕ) → width ≤ 16 → missing ≡ width - (63 - start) → WritesBefore (spaces 80) block 63 start text
    → take (64 + missing - start) (drop start block) ≡ column width text
column_block start width missing block text narrow left before =
    let len = before.starts in
    let count : 64 + missing - start ≡ length text + suc (width - length text) = omega (arith, len, left) in
    ap (λ n. take n (drop start block)) count
    ∙ ap (take (length text + suc (width - length text))) before.written
    ∙ take_past text (spaces 17) (suc (width - length text))
    ∙ ap (λ t. text ++ t) (first_spaces (suc (width - length text)) 17 (omega (arith, narrow)) ∙ spaces_more (width - length text))

-- an address without a destination, and a NAME
pub sender_columns : (address name : List ℕ) → length address ≡ 2 → length name ≡ 16
    → column 0 (address ++ (codes "    " ++ name)) ≡ column 5 (address ++ []) ++ column 16 name
sender_columns address name two sixteen =
    let none : 0 - length (address ++ (codes "    " ++ name)) ≡ 0 = omega arith in
    rw (none, append-nil address, two, sixteen) (simp append_assoc refl)
