use Rattle.j39_reports.proofs.Common.{◌≡◌, ◌≤◌, ◌-◌, drop, false, length, list_any}
use Rattle.j39_reports.specs.Json.{is_marked}
use Rattle.j39_reports.proofs.json.may_be_marked.Given as goal

-- none so far; what is left stands at the end
abbrev pub invariant-loop-block : goal.invariant-loop-block
invariant-loop-block l = (list_any is_marked l.rest ≡ false → list_any is_marked l.text ≡ false)
    × (length l.rest ≤ length l.text) × (l.rest ≡ drop (length l.text - length l.rest) l.text)

abbrev pub decreases-loop-block : goal.decreases-loop-block
decreases-loop-block l = length l.rest
