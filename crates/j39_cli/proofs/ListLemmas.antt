-- The values of a list in one word, word by word.
use Rattle.j39_cli.proofs.Common.{◌≡◌, ◌≤◌, ◌<◌, ◌+◌, ◌∙◌, ◌++◌, ◌∷◌, [], ℕ, List, ap, arith, get_or, length, map, subst, sym, take, All, get_or-map, length-map, map-append, take_all, take_more}
use Rattle.std.proofs.lemmas.List.Elements.{All-get_or, All-more}
use Rattle.j39_cli.specs.Lists.{IsListOf, values_in, words_in}

-- what the first n words, which are such, stand for
pub record AreRead {T : Type 0} (Is : List ℕ → Type 0) (value : List ℕ → T) (words : List (List ℕ)) (n : ℕ) (values : List T)
    : Type 0 where
  pub are : values ≡ map value (take n words)
  pub all : All Is (take n words)

module _ {T : Type 0} (Is : List ℕ → Type 0) (value : List ℕ → T) where
  -- one word more
  pub reads_more : (words : List (List ℕ)) (n m : ℕ) (word : List ℕ) (values : List T) → n < length words → m ≡ n + 1 → word ≡ get_or words n word
      → Is word → AreRead Is value words n values → AreRead Is value words m (values ++ (value word ∷ []))
  reads_more words n m word values below next here is read = record {
    are = ap (λ vs. vs ++ (value word ∷ [])) read.are
        ∙ ap (λ w. map value (take n words) ++ (value w ∷ [])) here
        ∙ sym (ap (λ k. map value (take k words)) next ∙ ap (map value) (take_more words n word below)
        ∙ map-append value (take n words) (get_or words n word ∷ []));
    all = subst (λ k. All Is (take k words)) (sym next) (All-more Is words n word below read.all (subst Is here is));
  }

  -- a word that is no such one
  pub no_value : (text word : List ℕ) (n : ℕ) → n < length (words_in text) → word ≡ get_or (words_in text) n word → ¬ Is word → ¬ IsListOf Is text
  no_value text word n below here wrong = λ list.
      wrong (subst Is (sym here) (All-get_or Is (words_in text) n word below list.all))

  -- all words
  pub all_read : (text : List ℕ) (n : ℕ) (values : List T) → length (words_in text) ≤ n → length (words_in text) ≤ 32 → AreRead Is value (words_in text) n values
      → IsListOf Is text × (values ≡ values_in value text)
  all_read text n values end few read =
      let whole = take_all n (words_in text) end in
      (record { few = few; all = subst (All Is) whole read.all }, read.are ∙ ap (map value) whole)

-- a word as it stands among the words of the text
pub word_at : {A : Type 0} (shown : A → List ℕ) (words : List A) (texts : List (List ℕ)) (n : ℕ) (d : A) → map shown words ≡ texts → n < length words
    → (n < length texts) × (shown (get_or words n d) ≡ get_or texts n (shown (get_or words n d)))
word_at shown words texts n d same below = (
  subst (λ ts. n < length ts) same (let long = length-map words shown in omega arith),
  sym (ap (λ ts. get_or ts n (shown (get_or words n d))) (sym same) ∙ get_or-map shown words n d (shown (get_or words n d)) below),
)
