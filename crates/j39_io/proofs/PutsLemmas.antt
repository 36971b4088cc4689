-- Texts that are written one after another.
use Rattle.std.proofs.Common.{◌≡◌, ◌<◌, ℕ, suc, List, [], ◌∷◌, ◌++◌, append_assoc, length, take, drop, get_or, sym, ap, subst, refl, ◌∙◌, drop-cons, take-append-drop, Result, Ok, Err}
use Rattle.std.specs.Prelude.{IsErr}
use Rattle.std.specs.List.{flat_map}
use Rattle.std.proofs.KnownBytes.{Appends-nil, Appends-trans}
use Rattle.std.proofs.lemmas.Grind.{flat_map-append}
use Rattle.std.proofs.lemmas.List.Concat.{flat_map-cons}
use Rattle.j39_io.specs.Puts.{Puts}
use Rattle.j39_io.specs.Turn.{Device, Turn}

-- nothing was written yet
pub puts_nothing : {T E : Type 0} (x : T) (d : Device) → Puts {T = T} {E = E} [] (Ok x) (record { old = d; new = d })
puts_nothing x d = record { written = Appends-nil d.bytes; front = tt; mark = refl }

-- one text, and behind it the next with whatever came of it
pub puts_then : {T U E F : Type 0} (a b : List ℕ) (x : T) (last : Result U F) (old mid new : Device)
    → Puts {T = T} {E = E} a (Ok x) (record { old = old; new = mid }) → Puts b last (record { old = mid; new = new })
    → Puts (a ++ b) last (record { old = old; new = new })
puts_then a b x (Ok y) old mid new first second = record {
  written = Appends-trans old.bytes mid.bytes new.bytes a b first.written second.written;
  front = tt;
  mark = second.mark ∙ first.mark;
}
puts_then a b x (Err e) old mid new first second =
    let (front, rest, cut, took) = second.front in record {
      written = tt;
      front = (
        a ++ front,
        rest,
        ap (λ text. a ++ text) cut ∙ sym (append_assoc a front rest),
        Appends-trans old.bytes mid.bytes new.bytes a front first.written took,
      );
      mark = second.mark;
    }

-- the same fault, handed on
pub puts_failed : {T U E F : Type 0} (text : List ℕ) (e : E) (last : Result U F) (turn : Turn)
    → IsErr last → Puts {T = T} text (Err e) turn → Puts text last turn
puts_failed text e (Ok y) turn failed first = absurd (cc failed)
puts_failed text e (Err f) turn failed first = record { written = tt; front = first.front; mark = first.mark }

-- a fault before the first text was written whole, and so before the next
pub puts_more : {T E : Type 0} (a b : List ℕ) (e : E) (turn : Turn) → Puts {T = T} a (Err e) turn → Puts {T = T} (a ++ b) (Err e) turn
puts_more a b e turn first =
    let (front, rest, cut, took) = first.front in record {
      written = tt;
      front = (front, rest ++ b, ap (λ text. text ++ b) cut ∙ append_assoc front rest b, took);
      mark = first.mark;
    }

pub puts_first : {T U E F : Type 0} (a b : List ℕ) (e : E) (last : Result U F) (turn : Turn)
    → IsErr last → Puts {T = T} a (Err e) turn → Puts (a ++ b) last turn
puts_first a b e last turn failed first = puts_failed (a ++ b) e last turn failed (puts_more a b e turn first)

-- all was written, and then something else is answered
pub puts_done : {T U E F : Type 0} (text : List ℕ) (x : T) (y : U) (turn : Turn)
    → Puts {E = E} text (Ok x) turn → Puts {E = F} text (Ok y) turn
puts_done text x y turn first = record { written = first.written; front = tt; mark = first.mark }

-- the same under another spelling of the text
pub puts_as : {T E : Type 0} (a b : List ℕ) (result : Result T E) (turn : Turn) → a ≡ b → Puts a result turn → Puts b result turn
puts_as a b result turn same first = subst (λ text. Puts text result turn) same first

-- the texts of a list up to one, that one, and those behind it
flat_map-at : {X Y : Type 0} (f : X → List Y) (xs : List X) (i : ℕ) (d : X) → i < length xs
    → flat_map f xs ≡ (flat_map f (take i xs) ++ f (get_or xs i d)) ++ flat_map f (drop (suc i) xs)
flat_map-at f xs i d below =
    let cut : xs ≡ take i xs ++ (get_or xs i d ∷ drop (suc i) xs) = sym (take-append-drop i xs) ∙ ap (λ ys. take i xs ++ ys) (drop-cons xs i d below) in
    ap (flat_map f) cut ∙ flat_map-append f (take i xs) (get_or xs i d ∷ drop (suc i) xs)
    ∙ ap (λ ys. flat_map f (take i xs) ++ ys) (flat_map-cons f (get_or xs i d) (drop (suc i) xs))
    ∙ sym (append_assoc (flat_map f (take i xs)) (f (get_or xs i d)) (flat_map f (drop (suc i) xs)))

-- behind the texts of the first i, a fault at the next
pub puts_until : {X T V U E F G : Type 0} (text : X → List ℕ) (xs : List X) (i : ℕ) (d : X) (x : T) (e : E) (last : Result U F) (old mid new : Device)
    → i < length xs → IsErr last → Puts {E = G} (flat_map text (take i xs)) (Ok x) (record { old = old; new = mid })
    → Puts {T = V} (text (get_or xs i d)) (Err e) (record { old = mid; new = new })
    → Puts (flat_map text xs) last (record { old = old; new = new })
puts_until {V = V} text xs i d x e last old mid new below failed first stopped =
    let before = flat_map text (take i xs) in
    let next = text (get_or xs i d) in
    puts_as _ _ _ _ (sym (flat_map-at text xs i d below))
    (puts_first {T = V} (before ++ next) (flat_map text (drop (suc i) xs)) e last _ failed (puts_then before next x (Err e) old mid new first stopped))
