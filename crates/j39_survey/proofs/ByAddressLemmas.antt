-- What is shown address by address: one list of it, its lines, and a run that writes them.
use Rattle.std.proofs.Common.{◌≡◌, ◌<◌, ◌≤◌, ◌+◌, ◌-◌, ◌^◌, ℕ, zero, suc, Bool, List, [], ◌∷◌, ◌++◌, Option, Some, None, length, map, refl, sym, ap, ap₂, ◌∙◌, subst, arith, append-nil, append_assoc, length-append, Result, Err}
use Rattle.std.specs.Io.KnownBytes.{Appends}
use Rattle.std.specs.Prelude.{IsErr}
use Rattle.std.specs.List.{concat, flat_map, list_any}
use Rattle.std.proofs.KnownBytes.{Appends-nil, Appends-trans}
use Rattle.std.proofs.lemmas.List.{length-map}
use Rattle.std.proofs.lemmas.List.Elements.{filter-append}
use Rattle.std.proofs.lemmas.List.Folds.{concat-append}
use Rattle.j39_frame.specs.Frame.{FrameRecord}
use Rattle.j39_io.specs.Device.{AppendsFront}
use Rattle.j39_io.specs.Puts.{Puts}
use Rattle.j39_io.specs.Turn.{Device}
use Rattle.j39_io.proofs.DeviceLemmas.{front_within}
use Rattle.j39_io.proofs.PutsLemmas.{puts_failed}
use Rattle.j39_address.specs.Claim.{claims_of}
use Rattle.j39_address.specs.Holder.{IsHolderAfter}
use Rattle.j39_address.proofs.HolderLemmas.{same_holder}
use Rattle.j39_listen.specs.AccountCalls.{Begins, Closes, MakesOne, StopsAtEnd}
use Rattle.j39_survey.specs.ByAddress.{ShownBelow, lines_of, shown_from}
use Rattle.j39_listen.specs.Counting.{capped}
use Rattle.j39_survey.specs.NodesSoFar.{all_below}
use Rattle.j39_listen.specs.Output.{Making, Meeting, Output}
use Rattle.j39_listen.specs.declared.filter.Sender.{Sender}
use Rattle.j39_listen.proofs.LineLemmas.{capped-fits}

-- ---- what stands below an address

below_none : {T : Type 0} (at : ℕ → List T) → all_below at 0 ≡ []
unfolding all_below
below_none at = refl

below_next : {T : Type 0} (at : ℕ → List T) (n : ℕ) → all_below at (n + 1) ≡ all_below at n ++ at n
unfolding all_below
below_next at n =
    let next : n + 1 ≡ suc n = omega arith in
    ap (all_below at) next

-- what stands first comes first
below_more : {T : Type 0} (at : ℕ → List T) (n k : ℕ) → (rest : List T) × (all_below at (n + k) ≡ all_below at n ++ rest)
below_more at n zero =
    let same : n + 0 ≡ n = omega arith in
    ([], ap (all_below at) same ∙ sym (append-nil (all_below at n)))
below_more {T} at n (suc k) =
    let next : n + suc k ≡ (n + k) + 1 = omega arith in
    let m = below_more at n k in
    (m.0 ++ at (n + k), ap (all_below at) next ∙ below_next at (n + k) ∙ ap (λ (xs : List T). xs ++ at (n + k)) m.1 ∙ append_assoc (all_below at n) m.0 (at (n + k)))

-- ---- one list

shown_below_one : {T : Type 0} (Shows : ℕ → Option ℕ → List T → Type 0) (F : List FrameRecord) (n : ℕ) (xs ys : List T)
    → ((a : ℕ) (o : Option ℕ) (x y : List T) → Shows a o x → Shows a o y → x ≡ y) → ShownBelow Shows F n xs → ShownBelow Shows F n ys → xs ≡ ys
unfolding ShownBelow
shown_below_one Shows F zero xs ys one x y = x ∙ sym y
shown_below_one {T} Shows F (suc n) xs ys one (xs', a, here_x, below_x, holds_x, shows_x, is_x) (ys', b, here_y, below_y, holds_y, shows_y, is_y) =
    let same : a ≡ b = same_holder (claims_of F) (length (claims_of F)) n a b holds_x holds_y in
    let here = one n b here_x here_y (subst (λ (o : Option ℕ). Shows n o here_x) same shows_x) shows_y in
    is_x ∙ ap₂ (λ (us vs : List T). us ++ vs) (shown_below_one Shows F n xs' ys' one below_x below_y) here ∙ sym is_y

-- what is found of each address is what is shown
pub shown_is : {T : Type 0} (Shows : ℕ → Option ℕ → List T → Type 0) (F : List FrameRecord) (at : ℕ → List T) (holder : ℕ → Option ℕ) (n : ℕ) → n ≤ 254
    → ((a : ℕ) → IsHolderAfter (claims_of F) a (holder a)) → ((a : ℕ) → a < 254 → Shows a (holder a) (at a)) → ShownBelow Shows F n (all_below at n)
unfolding ShownBelow all_below
shown_is Shows F at holder zero fits knows finds = refl
shown_is Shows F at holder (suc n) fits knows finds =
    (all_below at n, holder n, at n, shown_is Shows F at holder n (omega arith) knows finds, knows n, finds n (omega arith), refl)

-- ---- lines

map_both : {T U : Type 0} (f : T → U) (xs ys : List T) → map f (xs ++ ys) ≡ map f xs ++ map f ys
map_both f [] ys = refl
map_both {U = U} f (x ∷ xs) ys = ap (λ (us : List U). f x ∷ us) (map_both f xs ys)

concat_map : {T : Type 0} (text : T → List ℕ) (xs : List T) → concat (map text xs) ≡ flat_map text xs
concat_map text [] = refl
concat_map text (x ∷ xs) = ap (λ (t : List ℕ). text x ++ t) (concat_map text xs)

from_both : {T : Type 0} (is_from : T → Sender → Bool) (from : Option (List Sender)) (xs ys : List T) → shown_from is_from from (xs ++ ys) ≡ shown_from is_from from xs ++ shown_from is_from from ys
from_both is_from None xs ys = refl
from_both is_from (Some senders) xs ys = filter-append (λ x. list_any (is_from x) senders) xs ys

from_none : {T : Type 0} (is_from : T → Sender → Bool) (from : Option (List Sender)) → shown_from is_from from [] ≡ []
from_none is_from None = refl
from_none is_from (Some senders) = refl

-- the lines of those that are asked for at each address are the lines of all that are asked for
pub lines_are : {T : Type 0} (text : T → List ℕ) (is_from : T → Sender → Bool) (from : Option (List Sender)) (at : ℕ → List T) (n : ℕ)
    → all_below (λ a. map text (shown_from is_from from (at a))) n ≡ map text (shown_from is_from from (all_below at n))
unfolding all_below
lines_are text is_from from at zero = sym (ap (map text) (from_none is_from from))
lines_are text is_from from at (suc n) =
    ap (λ (ls : List (List ℕ)). ls ++ map text (shown_from is_from from (at n))) (lines_are text is_from from at n)
    ∙ sym (ap (map text) (from_both is_from from (all_below at n) (at n)) ∙ map_both text (shown_from is_from from (all_below at n)) (shown_from is_from from (at n)))

-- ---- lines that are written

-- the lines of the addresses below n are written
pub record HasPut (at : ℕ → List (List ℕ)) (n lines : ℕ) (old new : Option (List ℕ)) : Type 0 where
  pub written : Appends old new (concat (all_below at n))
  pub lines_are : lines ≡ length (all_below at n)
  pub few : lines ≤ n

pub puts_none : (at : ℕ → List (List ℕ)) (held : Option (List ℕ)) → HasPut at 0 0 held held
puts_none at held =
    let none = below_none at in
    record { written = subst (Appends held held) (sym (ap concat none)) (Appends-nil held); lines_are = sym (ap length none); few = omega arith }

text_next : (at : ℕ → List (List ℕ)) (n : ℕ) → concat (all_below at (n + 1)) ≡ concat (all_below at n) ++ concat (at n)
text_next at n = ap concat (below_next at n) ∙ concat-append (all_below at n) (at n)

-- one address more
pub puts_more : (at : ℕ → List (List ℕ)) (n lines k : ℕ) (old mid new : Option (List ℕ)) → HasPut at n lines old mid → k ≡ length (at n) → k ≤ 1
    → Appends mid new (concat (at n)) → HasPut at (n + 1) (lines + k) old new
puts_more at n lines k old mid new h count one more = record {
  written = subst (Appends old new) (sym (text_next at n)) (Appends-trans old mid new _ _ h.written more);
  lines_are = ap₂ (λ a b. a + b) h.lines_are count ∙ sym (ap length (below_next at n) ∙ length-append (all_below at n) (at n));
  few = let few = h.few in omega arith;
}

-- a fault in a line
pub puts_stopped : {U V E F : Type 0} (at : ℕ → List (List ℕ)) (n lines : ℕ) (e : E) (last : Result U F) (old mid new : Device) → n < 254 → IsErr last
    → HasPut at n lines old.bytes mid.bytes → Puts {T = V} (concat (at n)) (Err e) (record { old = mid; new = new }) → Puts (concat (all_below at 254)) last (record { old = old; new = new })
puts_stopped {V = V} at n lines e last old mid new below failed h first =
    let k = 253 - n in
    let end : 254 ≡ (n + 1) + k = omega arith in
    let rest = below_more at (n + 1) k in
    let text = ap (λ m. concat (all_below at m)) end ∙ ap concat rest.1 ∙ concat-append (all_below at (n + 1)) rest.0 ∙ ap (λ t. t ++ concat rest.0) (text_next at n)
    ∙ append_assoc (concat (all_below at n)) (concat (at n)) (concat rest.0) in
    puts_failed {T = V} (concat (all_below at 254)) e last _ failed (record {
      written = tt;
      front = front_within old.bytes mid.bytes new.bytes (concat (all_below at n)) (concat (at n)) (concat rest.0) (concat (all_below at 254)) text h.written first.front;
      mark = first.mark;
    })

-- ---- the accounts

-- of no text before its end, what is made begins with it
pub begins_empty : {A : Type 0} (has_met : Meeting A) (makes : Making) → ((bus : List ℕ) (a : A) (F : List FrameRecord) (before : Output) → has_met bus a F before → before.text ≡ [])
    → Begins has_met makes
begins_empty has_met makes none = λ bus a F G before all has made. (all.text, ap (λ t. t ++ all.text) (sym (none bus a F before has)))

-- where these lines are what is made of all frames it has met, and none was written before the end
abbrev pub Makes : {A T : Type 0} → Meeting A → Making → A → (T → List ℕ) → List T → Type 0
Makes has_met makes a text xs =
    (bus : List ℕ) (F : List FrameRecord) (before : Output) → has_met bus a F before → (before.text ≡ []) × makes bus F (lines_of text xs)

pub closes_lines : {A T : Type 0} (has_met : Meeting A) (makes : Making) (a : A) (text : T → List ℕ) (xs : List T) (lines : List (List ℕ)) (n : ℕ) (old new : Option (List ℕ))
    → lines ≡ map text xs → n < 2 ^ 64 → n ≡ length lines → Appends old new (concat lines) → Makes has_met makes a text xs
    → Closes has_met makes a (record { messages = 0; lines = n }) old new
closes_lines has_met makes a text xs lines n old new is fits count written made = λ bus F before has.
    let m = made bus F before has in
    let long : n ≡ length xs = count ∙ ap length is ∙ length-map xs text in
    record {
      after = lines_of text xs;
      is_made = m.1;
      messages_are = refl;
      lines_are = sym (ap capped (sym long) ∙ capped-fits n fits);
      more = flat_map text xs;
      text_is = ap (λ t. t ++ flat_map text xs) (sym m.0);
      written = subst (Appends old new) (ap concat is ∙ concat_map text xs) written;
    }

pub stops_lines : {A T : Type 0} (has_met : Meeting A) (makes : Making) (a : A) (text : T → List ℕ) (xs : List T) (lines : List (List ℕ)) (old new : Option (List ℕ))
    → lines ≡ map text xs → MakesOne makes → AppendsFront old new (concat lines) → Makes has_met makes a text xs → StopsAtEnd has_met makes a old new
stops_lines has_met makes a text xs lines old new is one front made = λ bus F before all has all_made.
    let m = made bus F before has in
    record {
      rest = flat_map text xs;
      all_is = one bus F all (lines_of text xs) all_made m.1 ∙ ap (λ t. t ++ flat_map text xs) (sym m.0);
      front = subst (AppendsFront old new) (ap concat is ∙ concat_map text xs) front;
    }

-- one text is made
pub one_text : {T : Type 0} (Shows : List FrameRecord → ℕ → Option ℕ → List T → Type 0) (text : T → List ℕ) (asked : List T → List T)
    → ((F : List FrameRecord) (a : ℕ) (o : Option ℕ) (x y : List T) → Shows F a o x → Shows F a o y → x ≡ y)
    → MakesOne (λ bus F output. (nodes : List T) × ShownBelow (Shows F) F 254 nodes × (output ≡ lines_of text (asked nodes)))
one_text {T} Shows text asked one = λ bus F x y (xs, are_x, is_x) (ys, are_y, is_y).
    ap (λ (o : Output). o.text) is_x ∙ ap (λ (ns : List T). flat_map text (asked ns)) (shown_below_one (Shows F) F 254 xs ys (one F) are_x are_y)
    ∙ sym (ap (λ (o : Output). o.text) is_y)
