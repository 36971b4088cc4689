-- What is left of logs one behind the other, after a read of the first, and behind its end.
use Rattle.j39_cli.proofs.Common.{◌≡◌, ◌∙◌, ◌<◌, ◌≤◌, ◌-◌, ◌==◌, ℕ, zero, suc, Bool, true, false, not, List, [], ◌∷◌, ◌++◌, Option, None, Some, ap, arith, append_assoc, length, refl, slice_index_or, take, if◌then◌else◌, option_map, Consumes, Keeps, prepend_known, Keeps-refl, newline}
use Rattle.j39_cli.specs.Joined.{all_known, ended, is_open, joined, joined_known}
use Rattle.j39_cli.specs.JoinedSoFar.{left_of}

is_open-append : (before : Bool) (xs ys : List ℕ) → is_open before (xs ++ ys) ≡ is_open (is_open before xs) ys
is_open-append before [] ys = refl
is_open-append before (x ∷ xs) ys = is_open-append (not (x == newline)) xs ys

ended-append : (before : Bool) (xs ys : List ℕ) → ended before (xs ++ ys) ≡ xs ++ ended (is_open before xs) ys
ended-append before xs ys = ap (λ (b : Bool). if b then (xs ++ ys) ++ newline ∷ [] else xs ++ ys) (is_open-append before xs ys)
    ∙ go (is_open (is_open before xs) ys)
  where
    go : (b : Bool) → (if b then (xs ++ ys) ++ newline ∷ [] else xs ++ ys) ≡ xs ++ (if b then ys ++ newline ∷ [] else ys)
    go true = append_assoc xs ys (newline ∷ [])
    go false = refl

-- whether a line is open behind some bytes, by the last of them
pub is_open-last : (before : Bool) (xs : List ℕ) (n : ℕ) → 0 < n → n ≤ length xs
    → is_open before (take n xs) ≡ not (slice_index_or xs (n - 1) 0 == newline)
is_open-last before xs zero some fits = absurd (omega (arith, some))
is_open-last before [] (suc n) some fits = absurd (omega (arith, fits))
is_open-last before (x ∷ xs) (suc zero) some fits = refl
is_open-last before (x ∷ xs) (suc (suc n)) some fits =
    let place : suc (suc n) - 1 ≡ suc (suc n - 1) = omega arith in
    rw place (is_open-last (not (x == newline)) xs (suc n) (omega arith) (omega (arith, fits)))

-- a read of the first
pub left-read : (before : Bool) (old new : Option (List ℕ)) (rest : List (Option (List ℕ))) (bytes : List ℕ) → Consumes old new bytes
    → Consumes (left_of before old rest) (left_of (is_open before bytes) new rest) bytes
left-read before old new [] bytes read = read
left-read before None new (next ∷ rest) bytes read = tt
left-read before (Some x) None (next ∷ rest) bytes read = absurd read
left-read before (Some x) (Some y) (next ∷ rest) bytes read = go (left_of false next rest)
  where
    go : (behind : Option (List ℕ)) → Consumes (prepend_known (ended before x) behind) (prepend_known (ended (is_open before bytes) y) behind) bytes
    go None = tt
    go (Some text) = ap (λ (t : List ℕ). ended before t ++ text) read ∙ ap (λ (t : List ℕ). t ++ text) (ended-append before bytes y)
        ∙ append_assoc bytes (ended (is_open before bytes) y) text

pub left-kept : (before : Bool) (old new : Option (List ℕ)) (rest : List (Option (List ℕ))) → Keeps old new
    → Keeps (left_of before old rest) (left_of before new rest)
left-kept before old new [] kept = kept
left-kept before None new (next ∷ rest) kept = tt
left-kept before (Some x) None (next ∷ rest) kept = absurd kept
left-kept before (Some x) (Some y) (next ∷ rest) kept = rw kept (Keeps-refl (prepend_known (ended before x) (left_of false next rest)))

-- before anything is read
pub left-joined : (first : Option (List ℕ)) (rest : List (Option (List ℕ))) → left_of false first rest ≡ joined_known (first ∷ rest)
left-joined None [] = refl
left-joined (Some text) [] = refl
left-joined None (next ∷ rest) = refl
left-joined (Some text) (next ∷ rest) = ap (prepend_known (ended false text)) (left-joined next rest) ∙ go next (all_known rest)
  where
    more : (known : Option (List (List ℕ))) → Option (List (List ℕ))
    more known = option_map (λ (texts : List (List ℕ)). text ∷ texts) known

    go : (n : Option (List ℕ)) (known : Option (List (List ℕ)))
        → prepend_known (ended false text) (joined_known (n ∷ rest)) ≡ option_map joined (more (all_known (n ∷ rest)))
    go None known = refl
    go (Some t) known = with_rest (all_known rest)
      where
        with_rest : (k : Option (List (List ℕ)))
            → prepend_known (ended false text) (option_map joined (option_map (λ (texts : List (List ℕ)). t ∷ texts) k))
            ≡ option_map joined (more (option_map (λ (texts : List (List ℕ)). t ∷ texts) k))
        with_rest None = refl
        with_rest (Some texts) = refl
