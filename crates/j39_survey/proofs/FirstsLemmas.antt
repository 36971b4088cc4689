-- The elements of a list, each once, as the list grows.
use Rattle.j39_survey.proofs.Common.{◌≡◌, ◌++◌, ◌||◌, ℕ, List, [], ◌∷◌, Bool, true, false, not, refl, sym, ap, ◌∙◌, append-nil, filter, inl, inr, list_any, bytes_eq, or_cases, or_right, filter-append, bytes_eq-Decides}
use Rattle.j39_survey.specs.Firsts.{firsts}

-- names that are equal are one
pub bytes_same : (a b : List ℕ) → bytes_eq a b ≡ true → a ≡ b
bytes_same a b e = (bytes_eq-Decides a b).0 e

pub bytes_refl : (a : List ℕ) → bytes_eq a a ≡ true
bytes_refl a = (bytes_eq-Decides a a).1 refl

-- one element more: it is new, or stood before
pub firsts-new : {A : Type 0} (same : A → A → Bool) (xs : List A) (y : A) → list_any (same y) xs ≡ false → firsts same (xs ++ y ∷ []) ≡ firsts same xs ++ y ∷ []
unfolding firsts
firsts-new same [] y none = refl
firsts-new same (x ∷ xs) y none =
    elim (same y x) as (λ b. same y x ≡ b → firsts same (x ∷ xs ++ y ∷ []) ≡ firsts same (x ∷ xs) ++ y ∷ []) [
      | true ↦ λ e. absurd (let no : true ≡ false = sym (rw e refl) ∙ none in cc)
      | false ↦ λ e.
          let rest : list_any (same y) xs ≡ false = rw e at none in
          ap (λ ys. x ∷ filter (λ z. not (same z x)) ys) (firsts-new same xs y rest)
          ∙ ap (λ ys. x ∷ ys) (filter-append (λ z. not (same z x)) (firsts same xs) (y ∷ []) ∙ rw e refl)
    ] refl

pub firsts-old : {A : Type 0} (same : A → A → Bool) (xs : List A) (y : A) → list_any (same y) xs ≡ true → firsts same (xs ++ y ∷ []) ≡ firsts same xs
unfolding firsts
firsts-old same [] y some = cc
firsts-old same (x ∷ xs) y some =
    elim (same y x) as (λ b. same y x ≡ b → firsts same (x ∷ xs ++ y ∷ []) ≡ firsts same (x ∷ xs)) [
      | true ↦ λ e. ap (λ ys. x ∷ ys) (
          elim (list_any (same y) xs) as (λ b. list_any (same y) xs ≡ b
          → filter (λ z. not (same z x)) (firsts same (xs ++ y ∷ [])) ≡ filter (λ z. not (same z x)) (firsts same xs)) [
            | true ↦ λ old. ap (filter (λ z. not (same z x))) (firsts-old same xs y old)
            | false ↦ λ new.
                ap (filter (λ z. not (same z x))) (firsts-new same xs y new)
                ∙ filter-append (λ z. not (same z x)) (firsts same xs) (y ∷ []) ∙ rw e (append-nil _)
          ] refl)
      | false ↦ λ e.
          let rest : list_any (same y) xs ≡ true = rw e at some in
          ap (λ ys. x ∷ filter (λ z. not (same z x)) ys) (firsts-old same xs y rest)
    ] refl

any_filter : {A : Type 0} (p q : A → Bool) (xs : List A) → list_any p (filter q xs) ≡ true → list_any p xs ≡ true
any_filter p q [] some = some
any_filter p q (x ∷ xs) some =
    elim (q x) as (λ b. q x ≡ b → (p x || list_any p xs) ≡ true) [
      | true ↦ λ e.
          let both : (p x || list_any p (filter q xs)) ≡ true = rw e at some in
          elim (or_cases (p x) (list_any p (filter q xs)) both) [
            | inl here ↦ rw here refl
            | inr later ↦ or_right (p x) (list_any p xs) (any_filter p q xs later)
          ]
      | false ↦ λ e.
          let later : list_any p (filter q xs) ≡ true = rw e at some in
          or_right (p x) (list_any p xs) (any_filter p q xs later)
    ] refl

-- what is among the firsts is among the elements
pub any_firsts : {A : Type 0} (same : A → A → Bool) (p : A → Bool) (xs : List A) → list_any p (firsts same xs) ≡ true → list_any p xs ≡ true
unfolding firsts
any_firsts same p [] some = some
any_firsts same p (x ∷ xs) some =
    elim (or_cases (p x) (list_any p (filter (λ z. not (same z x)) (firsts same xs))) some) [
      | inl here ↦ rw here refl
      | inr later ↦ or_right (p x) (list_any p xs) (any_firsts same p xs (any_filter p (λ z. not (same z x)) (firsts same xs) later))
    ]

filter_keeps : {A : Type 0} (p q : A → Bool) → ((z : A) → p z ≡ true → q z ≡ true) → (xs : List A) → list_any p xs ≡ true → list_any p (filter q xs) ≡ true
filter_keeps p q keeps [] some = some
filter_keeps p q keeps (x ∷ xs) some =
    elim (or_cases (p x) (list_any p xs) some) [
      | inl head ↦ rw (keeps x head, head) refl
      | inr later ↦
          elim (q x) as (λ b. q x ≡ b → list_any p (filter q (x ∷ xs)) ≡ true) [
            | true ↦ λ e. rw e (or_right (p x) (list_any p (filter q xs)) (filter_keeps p q keeps xs later))
            | false ↦ λ e. rw e (filter_keeps p q keeps xs later)
          ] refl
    ]

-- each element is among the firsts
pub firsts_any : (n : List ℕ) (xs : List (List ℕ)) → list_any (bytes_eq n) xs ≡ true → list_any (bytes_eq n) (firsts bytes_eq xs) ≡ true
unfolding firsts
firsts_any n [] some = some
firsts_any n (x ∷ xs) some =
    elim (bytes_eq n x) as (λ b. bytes_eq n x ≡ b → list_any (bytes_eq n) (firsts bytes_eq (x ∷ xs)) ≡ true) [
      | true ↦ λ e. rw e refl
      | false ↦ λ e.
          let later : list_any (bytes_eq n) xs ≡ true = rw e at some in
          or_right (bytes_eq n x) _ (filter_keeps (bytes_eq n) (λ z. not (bytes_eq z x)) (λ z is. rw (← bytes_same n z is, e) refl) (firsts bytes_eq xs) (firsts_any n xs later))
    ] refl
