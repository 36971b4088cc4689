-- A controller speaks from one address, and then from another: what is kept of it moves with it.
use Rattle.j39_fault_reports.proofs.Common.{◌≡◌, ◌∙◌, ◌<◌, ◌≤◌, ◌+◌, ◌++◌, ◌∷◌, [], ℕ, zero, suc, Bool, true, false, List, Option, Some, None, arith, refl, ap, inl, inr, sym, subst, if◌then◌else◌, length, length-set, slice_set, cases_eq, cond-false, cond-true, eq-eqb, ne_eqb, get_or-set_other, get_or-set_same, Hearing}
use Rattle.std.specs.Option.{option_or}
use Rattle.j39_fault_reports.specs.Places.{AreLeft, HaveTaken, IsKept, IsTakenOut, is_of, kept_before, kept_below, left_by, left_for, place_at}
use Rattle.j39_fault_reports.specs.Spoken.{Spoken, is_same_name, is_under, nearest, or_else, sent_before, spoken_behind, spoken_in, under_below, with_message}

module _ {R : Type 0} (named : R → Option ℕ) (name : Option ℕ) where
  left_of : (o : Option R) → is_of named name o ≡ true → left_by named name o ≡ None
  left_of None is = cc
  left_of (Some kept) is = cond-true _ _ _ is

  left_else : (o : Option R) → is_of named name o ≡ false → left_by named name o ≡ o
  left_else None is = refl
  left_else (Some kept) is = cond-false _ _ _ is

  module _ (old : List (Option R)) where
    pub none_left : AreLeft named name old 0 old
    none_left = record { long = refl; left = λ a l. absurd (omega (arith, l)); rest = λ a l. refl }

    pub none_kept : kept_below named old name 0 ≡ None
    unfolding kept_below
    none_kept = refl

    one_more : (n : ℕ) → kept_below named old name (n + 1) ≡ (if is_of named name (place_at old n) then place_at old n else kept_below named old name n)
    unfolding kept_below
    one_more n = ap (kept_below named old name) (let e : n + 1 ≡ suc n = omega arith in e)

    pub out_kept : (n : ℕ) (new : List (Option R)) → AreLeft named name old n new → is_of named name (place_at new n) ≡ true → place_at new n ≡ kept_below named old name (n + 1)
    out_kept n new h is = h.rest n (omega arith) ∙ sym (one_more n ∙ cond-true _ _ _ (ap (is_of named name) (sym (h.rest n (omega arith))) ∙ is))

    pub else_kept : (n : ℕ) (new : List (Option R)) → AreLeft named name old n new → is_of named name (place_at new n) ≡ false
        → kept_below named old name n ≡ kept_below named old name (n + 1)
    else_kept n new h isnt = sym (one_more n ∙ cond-false _ _ _ (ap (is_of named name) (sym (h.rest n (omega arith))) ∙ isnt))

    pub one_left : (n : ℕ) (new : List (Option R)) → n < length old → AreLeft named name old n new → is_of named name (place_at new n) ≡ true
        → AreLeft named name old (n + 1) (slice_set new n None)
    one_left n new below h is = record {
      long = length-set new n None ∙ h.long;
      left = λ a l. elim (cases_eq a n) [
        | inl e ↦ ap (λ k. place_at (slice_set new n None) k) e ∙ get_or-set_same new n None None (let m = h.long in omega (arith, below, m))
            ∙ sym (left_of (place_at new n) is) ∙ ap (left_by named name) (h.rest n (omega arith)) ∙ ap (λ k. left_by named name (place_at old k)) (sym e)
        | inr e ↦ get_or-set_other new n a None None e ∙ h.left a (omega (arith, l, e))
      ];
      rest = λ a l. get_or-set_other new n a None None (λ e. (omega (arith, l, e))) ∙ h.rest a (omega (arith, l));
    }

    pub one_stays : (n : ℕ) (new : List (Option R)) → AreLeft named name old n new → is_of named name (place_at new n) ≡ false → AreLeft named name old (n + 1) new
    one_stays n new h isnt = record {
      long = h.long;
      left = λ a l. elim (cases_eq a n) [
        | inl e ↦ ap (place_at new) e ∙ sym (left_else (place_at new n) isnt) ∙ ap (left_by named name) (h.rest n (omega arith)) ∙ ap (λ k. left_by named name (place_at old k)) (sym e)
        | inr e ↦ h.left a (omega (arith, l, e))
      ];
      rest = λ a l. h.rest a (omega (arith, l));
    }

    -- ---- a message is taken

    module _ (a : ℕ) (below : a < 256) where
      -- what is kept there is of the NAME
      pub taken_there : (before : Option R) (mid : List (Option R)) → is_of named name (place_at old a) ≡ true → before ≡ place_at old a → mid ≡ slice_set old a None
          → IsTakenOut named old name a before mid
      taken_there before mid own is out = record {
        before_is = is ∙ sym (cond-true _ _ _ own);
        puts = λ kept new put. record {
          places = λ l. ap length put ∙ length-set mid a (Some kept) ∙ long l;
          here = λ l. ap (λ t. place_at t a) put ∙ get_or-set_same mid a (Some kept) None (let n = long l in omega (arith, below, n));
          elsewhere = λ l b k n. ap (λ t. place_at t b) put ∙ get_or-set_other mid a b (Some kept) None n
              ∙ ap (λ t. place_at t b) out ∙ get_or-set_other old a b None None n ∙ sym (cond-true _ _ _ own);
        };
        none = λ none. sym is ∙ none;
      }
        where
          long : length old ≡ 256 → length mid ≡ 256
          long l = ap length out ∙ length-set old a None ∙ l

      -- it isn't, or nothing is
      module _ (left mid : List (Option R)) (moved here : Option R) (other : is_of named name (place_at old a) ≡ false) (are_left : AreLeft named name old 256 left)
          (moved_is : moved ≡ kept_below named old name 256) (out : mid ≡ slice_set left a None) (here_is : here ≡ place_at left a) where
        stays_here : here ≡ place_at old a
        stays_here = here_is ∙ are_left.left a below ∙ left_else (place_at old a) other

        long : length old ≡ 256 → length mid ≡ 256
        long l = ap length out ∙ length-set left a None ∙ are_left.long ∙ l

        pub taken_out : (before : Option R) → before ≡ option_or moved here → IsTakenOut named old name a before mid
        taken_out before is = record {
          before_is = is ∙ (λ i. option_or (moved_is i) (stays_here i)) ∙ sym (cond-false _ _ _ other);
          puts = λ kept new put. record {
            places = λ l. ap length put ∙ length-set mid a (Some kept) ∙ long l;
            here = λ l. ap (λ t. place_at t a) put ∙ get_or-set_same mid a (Some kept) None (let n = long l in omega (arith, below, n));
            elsewhere = λ l b k n. ap (λ t. place_at t b) put ∙ get_or-set_other mid a b (Some kept) None n
                ∙ ap (λ t. place_at t b) out ∙ get_or-set_other left a b None None n ∙ are_left.left b k ∙ sym (cond-false _ _ _ other);
          };
          none = λ none. sym stays_here ∙ nothing moved (sym is ∙ none);
        }
          where
            nothing : (o : Option R) → option_or o here ≡ None → here ≡ None
            nothing (Some x) none = cc
            nothing None none = none

-- ---- the messages of a controller

pub spoken_more : (spoken : Spoken) (ms : List Hearing) (m : Hearing) → spoken_behind spoken (ms ++ m ∷ []) ≡ with_message (spoken_behind spoken ms) m
unfolding spoken_behind
spoken_more spoken [] m = refl
spoken_more spoken (x ∷ ms) m = spoken_more (with_message spoken x) ms m

pub spoken_none : (a : ℕ) → spoken_in [] a ≡ []
unfolding spoken_behind
spoken_none a = refl

with_here : (spoken : Spoken) (m : Hearing) (a : ℕ) → a ≡ m.message.source → with_message spoken m a ≡ m ∷ sent_before spoken m
unfolding with_message
with_here spoken m a e = cond-true _ _ _ (eq-eqb a m.message.source e)

with_elsewhere : (spoken : Spoken) (m : Hearing) (a : ℕ) → (a ≡ m.message.source → ⊥)
    → with_message spoken m a ≡ (if is_under m.name (spoken m.message.source) then spoken a else (if is_under m.name (spoken a) then [] else spoken a))
unfolding with_message
with_elsewhere spoken m a n = cond-false _ _ _ (ne_eqb a m.message.source n)

module _ {R : Type 0} (named : R → Option ℕ) (IsOf : Hearing → List Hearing → R → Type 0) where
  abbrev Kept : List Hearing → Option R → Type 0
  Kept = IsKept named IsOf

  -- where nothing is kept, nobody spoke
  pub none_spoken : (said : List Hearing) (place : Option R) → Kept said place → place ≡ None → said ≡ []
  none_spoken [] place is none = refl
  none_spoken (x ∷ e) place (kept, is, called, more) none = absurd (let no : Some kept ≡ None = sym is ∙ none in cc)

  module _ (spoken : Spoken) (places : List (Option R)) (each : (a : ℕ) → a < 256 → Kept (spoken a) (place_at places a)) where
    same_under : (name : Option ℕ) (said : List Hearing) (place : Option R) → Kept said place → is_of named name place ≡ is_under name said
    same_under name [] place none = ap (is_of named name) none
    same_under name (x ∷ e) place (kept, is, called, more) = ap (is_of named name) is ∙ ap (λ n. is_same_name n name) called

    -- what is kept of a NAME is of what was said under it
    under_kept : (name : Option ℕ) (n : ℕ) → n ≤ 256 → Kept (under_below spoken name n) (kept_below named places name n)
    unfolding under_below kept_below
    under_kept name zero l = refl
    under_kept name (suc n) l = by (is_under name (spoken n)) refl (under_kept name n (omega arith))
      where
        same : is_of named name (place_at places n) ≡ is_under name (spoken n)
        same = same_under name (spoken n) (place_at places n) (each n (omega arith))

        by : (b : Bool) → is_under name (spoken n) ≡ b → Kept (under_below spoken name n) (kept_below named places name n)
            → Kept (if is_under name (spoken n) then spoken n else under_below spoken name n) (if is_of named name (place_at places n) then place_at places n else kept_below named places name n)
        by true is below = rw (is, same ∙ is) (each n (omega arith))
        by false isnt below = rw (isnt, same ∙ isnt) below

    either_kept : (said others : List Hearing) (place other : Option R) → Kept said place → Kept others other → Kept (or_else said others) (option_or place other)
    either_kept [] others place other none kept = subst (λ (p : Option R). Kept others (option_or p other)) (sym none) kept
    either_kept (x ∷ e) others place other (kept, is, called, more) also = subst (λ (p : Option R). Kept (x ∷ e) (option_or p other)) (sym is) (kept, refl, called, more)

    -- of what the message's controller sent before, or who else was at its address
    pub before_kept : (name : Option ℕ) (a : ℕ) → a < 256 → Kept (nearest spoken name a) (kept_before named places name a)
    before_kept name a l = by (is_under name (spoken a)) (is_of named name (place_at places a)) (same_under name (spoken a) (place_at places a) (each a l))
      where
        by : (b c : Bool) → c ≡ b → Kept (if b then spoken a else or_else (under_below spoken name 256) (spoken a))
            (if c then place_at places a else option_or (kept_below named places name 256) (place_at places a))
        by true true e = each a l
        by true false e = cc
        by false true e = cc
        by false false e = either_kept _ _ _ _ (under_kept name 256 (omega arith)) (each a l)

    left_kept : (name : Option ℕ) (said : List Hearing) (place : Option R) → Kept said place → Kept (if is_under name said then [] else said) (left_by named name place)
    left_kept name [] place none = ap (left_by named name) none
    left_kept name (x ∷ e) place (kept, is, called, more) =
        subst (λ (p : Option R). Kept (if is_same_name x.name name then [] else x ∷ e) (left_by named name p)) (sym is)
        (subst (λ (n : Option ℕ). Kept (if is_same_name x.name name then [] else x ∷ e) (if is_same_name n name then None else Some kept)) (sym called) (by (is_same_name x.name name)))
      where
        by : (b : Bool) → Kept (if b then [] else x ∷ e) (if b then None else Some kept)
        by true = refl
        by false = (kept, refl, called, more)

    other_kept : (name : Option ℕ) (a b : ℕ) → a < 256 → b < 256
        → Kept (if is_under name (spoken a) then spoken b else (if is_under name (spoken b) then [] else spoken b)) (left_for named name (place_at places a) (place_at places b))
    other_kept name a b l k = by (is_under name (spoken a)) (is_of named name (place_at places a)) (same_under name (spoken a) (place_at places a) (each a l))
      where
        by : (x y : Bool) → y ≡ x → Kept (if x then spoken b else (if is_under name (spoken b) then [] else spoken b)) (if y then place_at places b else left_by named name (place_at places b))
        by true true e = each b k
        by true false e = cc
        by false true e = cc
        by false false e = left_kept name (spoken b) (place_at places b) (each b k)

    -- behind one message more
    pub moved_kept : (m : Hearing) (kept : R) (new : List (Option R)) → m.message.source < 256 → length places ≡ 256 → HaveTaken named places m.name m.message.source kept new → named kept ≡ m.name
        → IsOf m (sent_before spoken m) kept → (a : ℕ) → a < 256 → Kept (with_message spoken m a) (place_at new a)
    moved_kept m kept new below long taken called is a l = elim (cases_eq a m.message.source) [
      | inl e ↦ subst (λ (said : List Hearing). Kept said (place_at new a)) (sym (with_here spoken m a e)) (kept, ap (place_at new) e ∙ taken.here long, called, is)
      | inr n ↦ subst (λ (said : List Hearing). Kept said (place_at new a)) (sym (with_elsewhere spoken m a n))
          (subst (Kept (if is_under m.name (spoken m.message.source) then spoken a else (if is_under m.name (spoken a) then [] else spoken a))) (sym (taken.elsewhere long a l n)) (other_kept m.name m.message.source a below l))
    ]
