-- Messages of one frame come in order, each once.
use Rattle.std.proofs.Common.{[], if◌then◌else◌, ◌++◌, ◌∙◌, ◌∷◌, ◌≡◌, ap, Bool, eq-eqb, eqb-true, false, filter, inl, inr, List, map, nat_eq, nat_le, ◌&&◌, not, Option, refl, Some, subst, sym, true, ℕ}
use Rattle.std.proofs.lemmas.List.Elements.{All-head, All-tail}
use Rattle.j39_frame.specs.Frame.{FrameRecord}
use Rattle.j39_frame.specs.Identifier.{pgn_of, source_of}
use Rattle.j39_node.specs.History.{Message, is_claim, is_some, message_of}
use Rattle.j39_net.specs.Net.{Come, IsLater, IsPart, OnlySends, Passed, log, others, own}

-- ---- parts of lists

module _ {T : Type 0} where
  pub part_same : (xs : List T) → IsPart xs xs
  part_same [] = tt
  part_same (x ∷ xs) = inl (refl, part_same xs)

  pub part_trans : (xs ys zs : List T) → IsPart xs ys → IsPart ys zs → IsPart xs zs
  part_trans [] ys zs a b = tt
  part_trans (x ∷ xs) [] zs a b = absurd a
  part_trans (x ∷ xs) (y ∷ ys) [] a b = absurd b
  part_trans (x ∷ xs) (y ∷ ys) (z ∷ zs) a (inr b) = inr (part_trans (x ∷ xs) (y ∷ ys) zs a b)
  part_trans (x ∷ xs) (y ∷ ys) (z ∷ zs) (inl a) (inl b) = inl (a.0 ∙ b.0, part_trans xs ys zs a.1 b.1)
  part_trans (x ∷ xs) (y ∷ ys) (z ∷ zs) (inr a) (inl b) = inr (part_trans (x ∷ xs) ys zs a b.1)

  -- what is put behind
  pub part_longer : (xs ys us : List T) → IsPart xs ys → IsPart xs (ys ++ us)
  part_longer [] ys us a = tt
  part_longer (x ∷ xs) [] us a = absurd a
  part_longer (x ∷ xs) (y ∷ ys) us (inl a) = inl (a.0, part_longer xs ys us a.1)
  part_longer (x ∷ xs) (y ∷ ys) us (inr a) = inr (part_longer (x ∷ xs) ys us a)

  pub part_push : (xs ys : List T) (x : T) → IsPart xs ys → IsPart (xs ++ x ∷ []) (ys ++ x ∷ [])
  part_push [] [] x a = inl (refl, tt)
  part_push [] (y ∷ ys) x a = inr (part_push [] ys x tt)
  part_push (z ∷ xs) [] x a = absurd a
  part_push (z ∷ xs) (y ∷ ys) x (inl a) = inl (a.0, part_push xs ys x a.1)
  part_push (z ∷ xs) (y ∷ ys) x (inr a) = inr (part_push (z ∷ xs) ys x a)

  pub part_front : (xs rest : List T) → IsPart xs (xs ++ rest)
  part_front xs rest = part_longer xs xs rest (part_same xs)

  filter_more : (p : T → Bool) (xs ys : List T) (x : T) (b : Bool) → p x ≡ b → IsPart xs ys → IsPart (if b then x ∷ xs else xs) (if b then x ∷ ys else ys)
  filter_more p xs ys x true e a = inl (refl, a)
  filter_more p xs ys x false e a = a

  skip_one : (b : Bool) (xs ys : List T) (y : T) → IsPart xs ys → IsPart xs (if b then y ∷ ys else ys)
  skip_one true [] ys y a = tt
  skip_one true (x ∷ xs) ys y a = inr a
  skip_one false xs ys y a = a

  pub part_filter : (p : T → Bool) (xs ys : List T) → IsPart xs ys → IsPart (filter p xs) (filter p ys)
  part_filter p [] ys a = tt
  part_filter p (x ∷ xs) [] a = absurd a
  part_filter p (x ∷ xs) (y ∷ ys) (inl a) =
      subst (λ z. IsPart (filter p (x ∷ xs)) (filter p (z ∷ ys))) a.0 (filter_more p (filter p xs) (filter p ys) x (p x) refl (part_filter p xs ys a.1))
  part_filter p (x ∷ xs) (y ∷ ys) (inr a) = skip_one (p y) (filter p (x ∷ xs)) (filter p ys) y (part_filter p (x ∷ xs) ys a)

-- ---- frames that come

pub same_message : (delay : ℕ) (f g : FrameRecord) → IsLater delay f g → message_of g ≡ message_of f
same_message delay f g l = λ i. message_of (record { stamp = 0; id = l.id i; bytes = l.bytes i })

pub come_part : (delay : ℕ) (missing : FrameRecord → Type 0) (fs gs : List FrameRecord) → Come delay missing fs gs → IsPart (map message_of gs) (map message_of fs)
come_part delay missing [] [] c = tt
come_part delay missing [] (g ∷ gs) c = absurd c
come_part delay missing (f ∷ fs) [] c = tt
come_part delay missing (f ∷ fs) (g ∷ gs) (inl c) = inl (same_message delay f g c.0, come_part delay missing fs gs c.1)
come_part delay missing (f ∷ fs) (g ∷ gs) (inr c) = inr (come_part delay missing fs (g ∷ gs) c.1)

-- what others than j sent from an address from which only i sends, but for claims
abbrev pub is_from : ℕ → Message → Bool
is_from a m = nat_eq m.source a

abbrev pub is_plain : Message → Bool
is_plain m = not (nat_eq m.group 60928)

abbrev from : ℕ → List FrameRecord → List Message
from a fs = filter (is_from a) (filter is_plain (map message_of fs))

add_one : (c : Bool) (xs : List Message) (x : Passed) (G : List Passed) → IsPart xs (map message_of (log G)) → IsPart xs (map message_of (log (if c then x ∷ G else G)))
add_one true xs x G h = skip_one true xs (map message_of (log G)) (message_of x.frame) h
add_one false xs x G h = h

from_one : (a : ℕ) (b c d e : Bool) (x : Passed) (F G : List Passed) → is_plain (message_of x.frame) ≡ e → is_from a (message_of x.frame) ≡ d
    → (e ≡ true → d ≡ true → c ≡ true) → IsPart (from a (log F)) (map message_of (log G))
    → IsPart (from a (log (if b then x ∷ F else F))) (map message_of (log (if c then x ∷ G else G)))
from_one a false c d e x F G p q r h = add_one c (from a (log F)) x G h
from_one a true c d false x F G p q r h = subst
    (λ t. IsPart (filter (is_from a) (if t then message_of x.frame ∷ filter is_plain (map message_of (log F)) else filter is_plain (map message_of (log F)))) (map message_of (log (if c then x ∷ G else G))))
    (sym p) (add_one c (from a (log F)) x G h)
from_one a true c false true x F G p q r h = subst
    (λ t. IsPart (filter (is_from a) (if t then message_of x.frame ∷ filter is_plain (map message_of (log F)) else filter is_plain (map message_of (log F)))) (map message_of (log (if c then x ∷ G else G))))
    (sym p) (subst (λ t. IsPart (if t then message_of x.frame ∷ from a (log F) else from a (log F)) (map message_of (log (if c then x ∷ G else G)))) (sym q) (add_one c (from a (log F)) x G h))
from_one a true c true true x F G p q r h = subst
    (λ t. IsPart (filter (is_from a) (if t then message_of x.frame ∷ filter is_plain (map message_of (log F)) else filter is_plain (map message_of (log F)))) (map message_of (log (if c then x ∷ G else G))))
    (sym p) (subst (λ t. IsPart (if t then message_of x.frame ∷ from a (log F) else from a (log F)) (map message_of (log (if c then x ∷ G else G)))) (sym q)
    (subst (λ t. IsPart (message_of x.frame ∷ from a (log F)) (map message_of (log (if t then x ∷ G else G)))) (sym (r refl refl)) (inl (refl, h))))

pub is_by : (o : Option ℕ) (i : ℕ) → o ≡ Some i → is_some o i ≡ true
is_by o i e = ap (λ z. is_some z i) e ∙ eq-eqb i i refl

plain : (b : Bool) → not b ≡ true → b ≡ false
plain true e = absurd (cc)
plain false e = refl

from_address : (i j start a : ℕ) (L : List Passed) → OnlySends L i a → IsPart (from a (others j start L)) (map message_of (own i L))
from_address i j start a [] o = tt
from_address i j start a (x ∷ L) o =
    from_one a (not (is_some x.by j) && nat_le start x.frame.stamp) (is_some x.by i) (nat_eq (source_of x.frame.id) a) (not (nat_eq (pgn_of x.frame.id) 60928)) x
    (filter (λ y. not (is_some y.by j) && nat_le start y.frame.stamp) L) (filter (λ y. is_some y.by i) L) refl refl
    (λ e f. is_by x.by i (All-head (λ y. is_claim y.frame ≡ false → source_of y.frame.id ≡ a → y.by ≡ Some i) x L o (plain (is_claim x.frame) e) (eqb-true (source_of x.frame.id) a f)))
    (from_address i j start a L (All-tail (λ y. is_claim y.frame ≡ false → source_of y.frame.id ≡ a → y.by ≡ Some i) x L o))

-- from what is taken to what is heard
pub through : (i j start a delay : ℕ) (some all : FrameRecord → Type 0) (L : List Passed) (taken heard : List FrameRecord) (got : List Message) → OnlySends L i a
    → Come delay some taken (own i L) → Come delay all (others j start L) heard → IsPart got (filter is_plain (map message_of heard))
    → IsPart (filter (is_from a) got) (map message_of taken)
through i j start a delay some all L taken heard got o c d g =
    part_trans (filter (is_from a) got) (from a heard) (map message_of taken) (part_filter (is_from a) got (filter is_plain (map message_of heard)) g)
    (part_trans (from a heard) (from a (others j start L)) (map message_of taken)
    (part_filter (is_from a) (filter is_plain (map message_of heard)) (filter is_plain (map message_of (others j start L)))
    (part_filter is_plain (map message_of heard) (map message_of (others j start L)) (come_part delay all (others j start L) heard d)))
    (part_trans (from a (others j start L)) (map message_of (own i L)) (map message_of taken) (from_address i j start a L o)
    (come_part delay some taken (own i L) c)))
