-- What was read so far is nothing, and then the newline.
use Rattle.j39_cli.proofs.Common.{◌≡◌, ◌<◌, ℕ, List, [], ◌∷◌, arith, length, refl, rules, slice_set, take, Consumes-trans}
use Rattle.j39_cli.proofs.joined.JoinedSource.pull.Goals as goal

front : (xs : List ℕ) → 0 < length xs → take 1 (slice_set xs 0 10) ≡ 10 ∷ []
front [] some = absurd (omega (arith, some))
front (x ∷ xs) some = refl

pub returns-in-Some-true-clause-bytes : goal.returns-in-Some-true-clause-bytes
returns-in-Some-true-clause-bytes g c =
    let none : c.loop-n.n ≡ 0 = search rules in
    let some : 0 < length c.loop-n.buf = search rules in
    let end = c.loop-n.invariant.3 none some in
    let read = rw none at c.loop-n.invariant.2 in
    let newline = rw c.in-Some-true.field-0-test at (c.in-Some-true.ensures.bytes end) in (
      rw (front c.loop-n.buf some) (Consumes-trans _ _ _ [] (10 ∷ []) read newline),
      λ one. absurd (omega (arith, one)),
    )
