-- A code more; after a fault a front of the lines that are left was written.
use Rattle.j39_watch.proofs.Common.{◌≡◌, ◌-◌, ◌∙◌, List, ℕ, ap, arith, length, map, sym, take, flat_map, puts_as, puts_done, puts_nothing, stamp_micros, holder_of, naming_of}
use Rattle.std.proofs.lemmas.List.{take_all}
use Rattle.j39_watch.proofs.ScreenLemmas.{each_left, each_more, each_stops, limited_none, standings_are}
use Rattle.j39_fault_reports.specs.CurrentPlaces.{LastRecord, standing_record}
use Rattle.j39_fault_reports.specs.CurrentSoFar.{now_shown}
use Rattle.j39_fault_reports.specs.FaultsNow.{named}
use Rattle.j39_watch.specs.Watch.{Line}
use Rattle.j39_watch.specs.WatchSoFar.{fault_lines, limited}
use Rattle.j39_fault_reports.specs.declared.current_faults.standing.Standing.{Standing}
use Rattle.j39_watch.specs.NotesSoFar.{size_of}
use Rattle.j39_watch.proofs.screen.put_standings.Goals as goal

pub loop-standing-init : goal.loop-standing-init
loop-standing-init g c = (omega arith, puts_as _ _ _ _ (sym (limited_none (size_of c.args.view.size) c.args.room)) (puts_nothing _ _))

pub loop-standing-preserved : goal.loop-standing-preserved
loop-standing-preserved g c =
    let view = c.args.view in
    let xs = c.as_slice-standings.result.now in
    let f : Standing → List Line = λ s. fault_lines (naming_of view.naming) (holder_of view.listener.now) (stamp_micros view.now) (named (now_shown c.args.address c.args.last.now (standing_record s))) in (
      each_left f xs c.args.room c.loop-standing.standing-index _ _ c.standing-item.result c.loop-standing-test.true c.standing-item.is c.loop-standing.invariant.0 c.in_ok-left.ensures.left,
      each_more f xs (size_of view.size) c.args.room c.loop-standing.standing-index _ c.standing-item.result _ _ _ _ c.loop-standing-test.true c.standing-item.is c.loop-standing.invariant.0 c.loop-standing.invariant.1 c.in_ok-left.ensures.puts,
    )

pub returns-in_err-left-clause-puts : goal.returns-in_err-left-clause-puts
returns-in_err-left-clause-puts g c =
    let view = c.args.view in
    let xs = c.as_slice-standings.result.now in
    let line = fault_lines (naming_of view.naming) (holder_of view.listener.now) (stamp_micros view.now) in
    let f : Standing → List Line = λ s. line (named (now_shown c.args.address c.args.last.now (standing_record s))) in
    let same : map standing_record xs ≡ c.args.last.now.standings = ap (map standing_record) c.as_slice-standings.ensures.value ∙ ap (λ (l : LastRecord). l.standings) c.last.view_is in
    let all = standings_are line c.args.address c.args.last.now xs same in
    puts_as _ _ _ _ (ap (limited (size_of view.size) c.args.room) all)
    (each_stops f xs (size_of view.size) c.args.room c.loop-standing.standing-index _ c.standing-item.result _ _ _ _ _ c.loop-standing-test.true c.standing-item.is c.loop-standing.invariant.0
    c.from_residual.ensures.0 c.loop-standing.invariant.1 c.in_err-left.ensures.puts)

pub returns-clause-left : goal.returns-clause-left
returns-clause-left g c =
    let view = c.args.view in
    let xs = c.as_slice-standings.result.now in
    let line = fault_lines (naming_of view.naming) (holder_of view.listener.now) (stamp_micros view.now) in
    let f : Standing → List Line = λ s. line (named (now_shown c.args.address c.args.last.now (standing_record s))) in
    let same : map standing_record xs ≡ c.args.last.now.standings = ap (map standing_record) c.as_slice-standings.ensures.value ∙ ap (λ (l : LastRecord). l.standings) c.last.view_is in
    let all = standings_are line c.args.address c.args.last.now xs same in
    let whole : take c.loop-standing.standing-index xs ≡ xs = take_all c.loop-standing.standing-index xs (omega (arith, c.loop-standing-test.false)) in
    c.loop-standing.invariant.0 ∙ ap (λ ys. c.args.room - length (flat_map f ys)) whole ∙ ap (λ ls. c.args.room - length ls) all

pub returns-clause-puts : goal.returns-clause-puts
returns-clause-puts g c =
    let view = c.args.view in
    let xs = c.as_slice-standings.result.now in
    let line = fault_lines (naming_of view.naming) (holder_of view.listener.now) (stamp_micros view.now) in
    let f : Standing → List Line = λ s. line (named (now_shown c.args.address c.args.last.now (standing_record s))) in
    let same : map standing_record xs ≡ c.args.last.now.standings = ap (map standing_record) c.as_slice-standings.ensures.value ∙ ap (λ (l : LastRecord). l.standings) c.last.view_is in
    let all = standings_are line c.args.address c.args.last.now xs same in
    let whole : take c.loop-standing.standing-index xs ≡ xs = take_all c.loop-standing.standing-index xs (omega (arith, c.loop-standing-test.false)) in
    puts_as _ _ _ _ (ap (λ ys. limited (size_of view.size) c.args.room (flat_map f ys)) whole ∙ ap (limited (size_of view.size) c.args.room) all)
    (puts_done _ _ _ _ c.loop-standing.invariant.1)
