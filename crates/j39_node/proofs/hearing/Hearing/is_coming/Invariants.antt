use Rattle.j39_node.proofs.Common.{◌≡◌, comes_by, false, list_any, question, stamp_micros, take, ℕ}
use Rattle.j39_node.specs.Boxes.{in_box}
use Rattle.j39_node.proofs.hearing.Hearing.is_coming.Given as goal

-- none of those so far is such a one
abbrev pub invariant-loop-heard : goal.invariant-loop-heard
invariant-loop-heard l =
    (token : ℕ) → list_any (λ x. comes_by (stamp_micros l.fn.time) (question token l.fn.group l.fn.to) (in_box x)) (take l.heard-index l.self.current.items) ≡ false
