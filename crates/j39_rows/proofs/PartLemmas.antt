-- What was written of three parts that stand one behind the other: all of them, or a front.
use Rattle.std.proofs.Common.{◌++◌, ℕ, List, Result, Ok, Err}
use Rattle.std.specs.Prelude.{IsErr}
use Rattle.j39_io.specs.Puts.{Puts}
use Rattle.j39_io.specs.Turn.{Device, Turn}
use Rattle.j39_io.proofs.PutsLemmas.{puts_first, puts_more, puts_then}

-- a fault at the first
pub first_of_three : {T U E F : Type 0} (x y z : List ℕ) (e : E) (last : Result U F) (turn : Turn)
    → IsErr last → Puts {T = T} x (Err e) turn → Puts (x ++ y ++ z) last turn
first_of_three x y z e last turn failed first = puts_first (x ++ y) z e last turn failed (puts_more x y e turn first)

-- a fault at the second
pub second_of_three : {T V U E F G : Type 0} (x y z : List ℕ) (a : T) (e : E) (last : Result U F) (old mid new : Device)
    → IsErr last → Puts {E = G} x (Ok a) (record { old = old; new = mid }) → Puts {T = V} y (Err e) (record { old = mid; new = new })
    → Puts (x ++ y ++ z) last (record { old = old; new = new })
second_of_three {V = V} x y z a e last old mid new failed first second =
    puts_first {T = V} (x ++ y) z e last _ failed (puts_then x y a (Err e) old mid new first second)

-- the third, with whatever came of it
pub third_of_three : {T V U E F G : Type 0} (x y z : List ℕ) (a : T) (b : V) (last : Result U F) (old mid then new : Device)
    → Puts {E = E} x (Ok a) (record { old = old; new = mid }) → Puts {E = G} y (Ok b) (record { old = mid; new = then })
    → Puts z last (record { old = then; new = new }) → Puts (x ++ y ++ z) last (record { old = old; new = new })
third_of_three {G = G} x y z a b last old mid then new first second third =
    puts_then (x ++ y) z b last old then new (puts_then {F = G} x y a (Ok b) old mid then first second) third
