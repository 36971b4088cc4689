-- What a writer holds after calls one after another.
use Rattle.std.proofs.Common.{◌≡◌, ℕ, List, [], ◌++◌, refl, Option, Some, None, Result, Ok, Err, sym, ◌∙◌, append_assoc, append-nil}
use Rattle.std.specs.Prelude.{OnErr}
use Rattle.std.specs.Io.KnownBytes.{Appends, Keeps}
use Rattle.std.proofs.KnownBytes.{Appends-trans}
use Rattle.j39_io.specs.Device.{AppendsFront}

pub Appends-kept : (a b c : Option (List ℕ)) (bs : List ℕ) → Appends a b bs → Keeps b c → Appends a c bs
Appends-kept None b c bs p q = tt
Appends-kept (Some x) None c bs p q = absurd p
Appends-kept (Some x) (Some y) None bs p q = absurd q
Appends-kept (Some x) (Some y) (Some z) bs p q = q ∙ p

-- all of the bytes are a front of them
pub front_of_all : (a b c : Option (List ℕ)) (bs : List ℕ) → Appends a b bs → Keeps b c → AppendsFront a c bs
front_of_all a b c bs p q = (bs, [], sym (append-nil bs), Appends-kept a b c bs p q)

-- a fault in the middle
pub front_within : (old mid new : Option (List ℕ)) (a b rest all : List ℕ) → all ≡ a ++ (b ++ rest)
    → Appends old mid a → AppendsFront mid new b → AppendsFront old new all
front_within old mid new a b rest all same first (front, left, cut, second) = (
  a ++ front,
  left ++ rest,
  same ∙ (rw (cut, append_assoc, append_assoc) refl),
  Appends-trans old mid new a front first second,
)

-- a fault at the first
pub front_first : (old new : Option (List ℕ)) (b rest all : List ℕ) → all ≡ b ++ rest → AppendsFront old new b → AppendsFront old new all
front_first old new b rest all same (front, left, cut, first) =
    (front, left ++ rest, same ∙ (rw (cut, append_assoc) refl), first)

pub on_err : {T E : Type 0} (r : Result T E) (P : Type 0) → P → OnErr r P
on_err (Ok x) P p = tt
on_err (Err e) P p = p

pub on_err_from : {T E : Type 0} (r : Result T E) (P Q : Type 0) → (P → Q) → OnErr r P → OnErr r Q
on_err_from (Ok x) P Q f h = tt
on_err_from (Err e) P Q f h = f h
