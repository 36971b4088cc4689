-- What one write took follows what the others did.
use Rattle.std.proofs.Common.{◌++◌, arith, take, sym, ap, ◌∙◌, append_assoc, take-append-drop}
use Rattle.std.proofs.lemmas.Grind.{common_steps}
use Rattle.std.proofs.KnownBytes.{Appends-trans}
use Rattle.j39_io.proofs.device.put_rest.Goals as goal

pub loop-rest-preserved : goal.loop-rest-preserved
loop-rest-preserved g c =
    let inv = c.loop-rest.invariant in
    let n = c.in_ok-n.n in
    let rest = c.loop-rest.rest.now in
    let cut = ap (λ xs. inv.0 ++ xs) (sym (take-append-drop n rest)) ∙ sym (append_assoc inv.0 (take n rest) _) in
    let left = ap (λ xs. (inv.0 ++ take n rest) ++ xs) (sym c.split_at.ensures.back) in (
      inv.0 ++ take n rest,
      inv.1 ∙ (cut ∙ left),
      Appends-trans _ _ _ inv.0 (take n rest) inv.2 c.in_ok-n.ensures.bytes,
      c.in_ok-n.ensures.mark ∙ inv.3,
      λ _. c.in_ok-n.ensures.waits,
      λ passed. let waits = c.in_ok-n.ensures.waits in grind arith,
      λ none. let some = c.loop-rest-test.true in let is = c.is_empty.ensures in let whole = inv.1 in grind (arith, common_steps),
    )
