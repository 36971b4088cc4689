-- Each piece adds to what is begun, and to the lines before it where it ends one.
use Rattle.std.proofs.Common.{◌≡◌, ◌∙◌, ◌++◌, ◌∷◌, [], ℕ, suc, List, arith, refl, sym, ap, ap₂, inl, inr, length, take, append-nil, append_assoc}
use Rattle.std.specs.List.{AllByRecursion}
use Rattle.j39_log.specs.Log.{HasNoNewline, ended}
use Rattle.j39_log.proofs.laws.lines_of_pieces.Goals as goal

none_in : (xs ys : List ℕ) → HasNoNewline xs → HasNoNewline ys → HasNoNewline (xs ++ ys)
none_in [] ys p q = q
none_in (x ∷ xs) ys p q = (p.0, none_in xs ys p.1 q)

one_more : (lines : List (List ℕ)) (line : List ℕ) → AllByRecursion HasNoNewline lines → HasNoNewline line → AllByRecursion HasNoNewline (lines ++ (line ∷ []))
one_more [] line p q = (q, tt)
one_more (first ∷ lines) line p q = (p.0, one_more lines line p.1 q)

ended_more : (lines : List (List ℕ)) (line : List ℕ) → ended (lines ++ (line ∷ [])) ≡ ended lines ++ (line ++ (10 ∷ []))
ended_more [] line = refl
ended_more (first ∷ lines) line = ap (λ bs. first ++ (10 ∷ bs)) (ended_more lines line) ∙ sym (append_assoc first (10 ∷ ended lines) (line ++ (10 ∷ [])))

front_of : (front rest : List ℕ) → take (suc (length front)) (front ++ (10 ∷ rest)) ≡ front ++ (10 ∷ [])
front_of [] rest = refl
front_of (x ∷ front) rest = ap (λ bs. x ∷ bs) (front_of front rest)

pub returns : goal.returns
returns c = record {
  begins = record { whole = tt; rest = tt; bytes_are = refl };
  goes_on = λ bytes lines begun piece taken so answer. record {
    whole = so.whole;
    rest = none_in begun piece so.rest answer.0;
    bytes_are = ap (λ bs. bs ++ piece) so.bytes_are ∙ append_assoc (ended lines) begun piece;
  };
  line = λ bytes lines begun piece line taken so ends.
      let whole : HasNoNewline line = rw ends.line_is (none_in begun ends.front so.rest ends.takes.whole) in
      let next : taken ≡ suc (length ends.front) = omega (arith, ends.taken_is) in
      let part : take taken piece ≡ ends.front ++ (10 ∷ []) = ap₂ take next ends.takes.bytes_are ∙ front_of ends.front ends.rest in
      let text : line ++ (10 ∷ []) ≡ begun ++ (ends.front ++ (10 ∷ [])) = ap (λ bs. bs ++ (10 ∷ [])) ends.line_is ∙ append_assoc begun ends.front (10 ∷ []) in
      record {
        whole = one_more lines line so.whole whole;
        rest = tt;
        bytes_are = ap₂ (λ a b. a ++ b) so.bytes_are part ∙ append_assoc (ended lines) begun (ends.front ++ (10 ∷ []))
            ∙ ap (λ bs. ended lines ++ bs) (sym text) ∙ sym (ended_more lines line) ∙ sym (append-nil (ended (lines ++ (line ∷ []))));
      };
  ended = λ bytes lines so. record { whole = so.whole; bytes_are = inl (so.bytes_are ∙ append-nil (ended lines)) };
  last = λ bytes lines begun so some. record {
    whole = one_more lines begun so.whole so.rest;
    bytes_are = inr (record { front = lines; last = begun; lines_are = refl; last_is = some; bytes_are = so.bytes_are });
  };
}
