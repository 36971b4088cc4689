-- Text that is written from its start on, and lines that wait.
use Rattle.j39_reports.proofs.Common.{◌≡◌, ◌+◌, ◌-◌, ◌≤◌, ◌∙◌, ◌++◌, ◌∷◌, [], ℕ, zero, suc, List, Ok, Err, Result, ap, append_assoc, append-nil, arith, drop, length, length-append, refl, subst, sym, take, Puts, Device, WritesBefore, puts_done, puts_failed, puts_first, puts_nothing, puts_then}
use Rattle.std.specs.Prelude.{IsErr}
use Rattle.std.specs.List.{between}
use Rattle.j39_io.specs.Turn.{Turn}
use Rattle.std.proofs.Math.Seq.{take-add}
use Rattle.std.proofs.lemmas.List.{drop-drop, take-append-le, take_at}
use Rattle.j39_reports.specs.Forwards.{Gathers, WritesBehind}

-- a text behind a text
pub behind_then : (old mid new : List ℕ) (at seam end : ℕ) (text more : List ℕ)
    → WritesBehind old mid at seam text → WritesBehind mid new seam end more → WritesBehind old new at end (text ++ more)
behind_then old mid new at seam end text more first next = record {
  ends = (let len = length-append text more in let a = first.ends in let b = next.ends in omega (arith, len, a, b));
  written = next.written ∙ ap (λ xs. xs ++ more) first.written ∙ append_assoc (take at old) text more;
}

-- what was written backwards up to a place is the part up to it
pub part_before : (old new : List ℕ) (end start : ℕ) (text : List ℕ) → WritesBefore old new end start text → between start end new ≡ text
part_before old new end start text before =
    let n : length text ≡ end - start = (let a = before.starts in omega (arith, a)) in
    ap (take (end - start)) before.written ∙ take_at text (drop end old) (end - start) n

-- a part of a list is overwritten: what stands up to a place in that part
pub take_part : (xs ys rest : List ℕ) (at k : ℕ) → at ≤ length xs → k ≤ length ys → take (at + k) (take at xs ++ (ys ++ rest)) ≡ take at xs ++ take k ys
take_part xs ys rest zero k within few = let at : 0 + k ≡ k = omega arith in rw at (take-append-le k ys rest few)
take_part [] ys rest (suc at) k within few = absurd (omega arith)
take_part (x ∷ xs) ys rest (suc at) k within few =
    let next : suc at + k ≡ suc (at + k) = omega arith in
    rw next (ap (λ zs. x ∷ zs) (take_part xs ys rest at k (omega arith) few))

-- a part, and the next behind it
pub parts_joined : (xs : List ℕ) (i j k : ℕ) → i ≤ j → j ≤ k → between i j xs ++ between j k xs ≡ between i k xs
parts_joined xs i j k first next =
    let all : k - i ≡ (j - i) + (k - j) = omega arith in
    let seam : i + (j - i) ≡ j = omega arith in
    sym (ap (λ n. take n (drop i xs)) all ∙ take-add (j - i) (k - j) (drop i xs)
    ∙ ap (λ ys. take (j - i) (drop i xs) ++ take (k - j) ys) (drop-drop (j - i) i xs ∙ ap (λ n. drop n xs) seam))

-- what came of a text while nothing was written
pub gathers_more : {T E : Type 0} (before text after : List ℕ) (x : T) (d : Device) → after ≡ before ++ text
    → Gathers {T = T} {E = E} before text after (Ok x) (record { old = d; new = d })
gathers_more before text after x d is = record { out = []; puts = puts_nothing x d; all = is; front = tt }

-- those that waited were written, and a text, or a front of both
pub gathers_all : {T U E F : Type 0} (before text after : List ℕ) (x : T) (last : Result U F) (old seam new : Device) → after ≡ []
    → Puts {T = T} {E = E} before (Ok x) (record { old = old; new = seam }) → Puts text last (record { old = seam; new = new })
    → Gathers before text after last (record { old = old; new = new })
gathers_all before text after x (Ok y) old seam new none first next = record {
  out = before ++ text;
  puts = puts_then before text x (Ok y) old seam new first next;
  all = ap (λ t. (before ++ text) ++ t) none ∙ append-nil (before ++ text);
  front = tt;
}
gathers_all before text after x (Err e) old seam new none first next = record {
  out = before ++ text;
  puts = puts_then before text x (Err e) old seam new first next;
  all = tt;
  front = refl;
}

-- the same result under another value
pub gathers_done : {T U E F : Type 0} (before text after : List ℕ) (x : T) (y : U) (old new : Device)
    → Gathers {T = T} {E = E} before text after (Ok x) (record { old = old; new = new }) → Gathers {T = U} {E = F} before text after (Ok y) (record { old = old; new = new })
gathers_done before text after x y old new this = record { out = this.out; puts = puts_done _ x y _ this.puts; all = this.all; front = tt }

-- the same under another spelling of the text
pub gathers_as : {T E : Type 0} (before a b after : List ℕ) (result : Result T E) (turn : Turn) → a ≡ b → Gathers before a after result turn → Gathers before b after result turn
gathers_as before a b after result turn same this = subst (λ text. Gathers before text after result turn) same this

-- a fault in those that waited, before the text
pub gathers_put : {T U E F : Type 0} (before text after : List ℕ) (e : E) (last : Result U F) (old new : Device) → IsErr last
    → Puts {T = T} before (Err e) (record { old = old; new = new }) → Gathers before text after last (record { old = old; new = new })
gathers_put before text after e (Ok y) old new failed first = absurd (cc failed)
gathers_put {T = T} before text after e (Err f) old new failed first = record {
  out = before ++ text;
  puts = puts_first {T = T} before text e (Err f) _ failed first;
  all = tt;
  front = refl;
}

-- the fault is handed on
pub gathers_handed : {T U E F : Type 0} (before text after : List ℕ) (e : E) (last : Result U F) (turn : Turn) → IsErr last
    → Gathers {T = T} before text after (Err e) turn → Gathers before text after last turn
gathers_handed before text after e (Ok y) turn failed this = absurd (cc failed)
gathers_handed {T = T} before text after e (Err f) turn failed this = record {
  out = this.out;
  puts = puts_failed {T = T} _ e (Err f) _ failed this.puts;
  all = tt;
  front = this.front;
}

-- the same where what waited before is spelled otherwise
pub gathers_from : {T E : Type 0} (before before' text after : List ℕ) (result : Result T E) (turn : Turn) → before ≡ before'
    → Gathers before text after result turn → Gathers before' text after result turn
gathers_from before before' text after result turn same this = subst (λ waits. Gathers waits text after result turn) same this
