-- A code more.
use Rattle.j39_watch.proofs.Common.{◌≡◌, ◌∙◌, List, ℕ, ap, arith, length, map, sym, take, flat_map, stamp_micros, capped, holder_of, naming_of}
use Rattle.std.proofs.lemmas.List.{take_all}
use Rattle.j39_watch.proofs.ScreenLemmas.{counted_then, lines_below, next, standings_are}
use Rattle.j39_fault_reports.specs.CurrentPlaces.{LastRecord, standing_record}
use Rattle.j39_fault_reports.specs.CurrentSoFar.{now_shown}
use Rattle.j39_fault_reports.specs.FaultsNow.{named}
use Rattle.j39_fault_reports.specs.declared.current_faults.standing.Standing.{Standing}
use Rattle.j39_watch.specs.Watch.{Line}
use Rattle.j39_watch.specs.WatchSoFar.{fault_lines}
use Rattle.j39_watch.proofs.screen.count_standings.Goals as goal

pub loop-standing-preserved : goal.loop-standing-preserved
loop-standing-preserved c =
    let view = c.args.view in
    let xs = c.as_slice-standings.result.now in
    let i = c.loop-standing.standing-index in
    let f : Standing → List Line = λ s. fault_lines (naming_of view.naming) (holder_of view.listener.now) (stamp_micros view.now) (named (now_shown c.args.address c.args.last.now (standing_record s))) in
    counted_then c.loop-standing.count _ _ (lines_below f xs i) (f c.standing-item.result) c.loop-standing.invariant c.count_standing.ensures c.saturating_add-count.ensures
    ∙ ap (λ (ls : List Line). capped (length ls)) (sym (next f xs i c.standing-item.result c.loop-standing-test.true c.standing-item.is))

pub returns : goal.returns
returns c =
    let view = c.args.view in
    let xs = c.as_slice-standings.result.now in
    let line = fault_lines (naming_of view.naming) (holder_of view.listener.now) (stamp_micros view.now) in
    let f : Standing → List Line = λ s. line (named (now_shown c.args.address c.args.last.now (standing_record s))) in
    let same : map standing_record xs ≡ c.args.last.now.standings = ap (map standing_record) c.as_slice-standings.ensures.value ∙ ap (λ (l : LastRecord). l.standings) c.last.view_is in
    let all = standings_are line c.args.address c.args.last.now xs same in
    let whole : take c.loop-standing.standing-index xs ≡ xs = take_all c.loop-standing.standing-index xs (omega (arith, c.loop-standing-test.false)) in
    c.loop-standing.invariant ∙ ap (λ ys. capped (length (flat_map f ys))) whole ∙ ap (λ ls. capped (length ls)) all
