-- The line, whose controller is there.
use Rattle.j39_watch.proofs.Common.{◌≡◌, ◌<◌, ◌+◌, ◌∷◌, ◌∙◌, [], true, ap, arith, refl, rules, sym, take, stamp_micros, puts_as, puts_done, puts_failed, holder_of, naming_of}
use Rattle.j39_watch.proofs.ScreenLemmas.{limited_one, severity_here}
use Rattle.j39_fault_reports.specs.Faults.{active_or_lights}
use Rattle.j39_watch.specs.NotesSoFar.{size_of}
use Rattle.j39_watch.specs.ScreenSoFar.{said_lines}
use Rattle.j39_watch.specs.Watch.{Line, fault_line, is_there, row_shown, severity_by}
use Rattle.j39_watch.specs.WatchSoFar.{limited}
use Rattle.j39_watch.proofs.screen.put_said.Goals as goal

pub returns-in_err-put_line-clause-puts : goal.returns-in_err-put_line-clause-puts
returns-in_err-put_line-clause-puts g c =
    let view = c.args.view in
    let size = size_of view.size in
    let last = c.args.last.now in
    let some : 0 < c.args.left = omega (arith, c.if-left-eq0.false) in
    let line : Line = fault_line (naming_of view.naming) (stamp_micros view.now) c.args.address last.name last.stamp (active_or_lights last.lamps c.args.code) in
    let cut : c.fault_line-line.result.bytes.items ≡ take (size.width + 1) line.text = search rules in
    let by : c.by.result ≡ severity_by last.lamps = search rules in
    let there : is_there (holder_of view.listener.now) c.args.address last.name ≡ true = search rules in
    let lines : said_lines view c.args.address last c.args.code ≡ line ∷ [] = rw there refl in
    puts_as _ _ _ _ (ap (λ s. row_shown size (record { severity = s; text = c.fault_line-line.result.bytes.items })) (by ∙ severity_here last.lamps c.args.code)
    ∙ limited_one size c.args.left line.severity c.fault_line-line.result.bytes.items line.text some cut ∙ ap (limited size c.args.left) (sym lines))
    (puts_failed _ _ _ _ c.from_residual.ensures.0 c.in_err-put_line.ensures)

pub returns-clause-puts : goal.returns-clause-puts
returns-clause-puts g c =
    let view = c.args.view in
    let size = size_of view.size in
    let last = c.args.last.now in
    let some : 0 < c.args.left = omega (arith, c.if-left-eq0.false) in
    let line : Line = fault_line (naming_of view.naming) (stamp_micros view.now) c.args.address last.name last.stamp (active_or_lights last.lamps c.args.code) in
    let cut : c.fault_line-line.result.bytes.items ≡ take (size.width + 1) line.text = search rules in
    let by : c.by.result ≡ severity_by last.lamps = search rules in
    let there : is_there (holder_of view.listener.now) c.args.address last.name ≡ true = search rules in
    let lines : said_lines view c.args.address last c.args.code ≡ line ∷ [] = rw there refl in
    puts_as _ _ _ _ (ap (λ s. row_shown size (record { severity = s; text = c.fault_line-line.result.bytes.items })) (by ∙ severity_here last.lamps c.args.code)
    ∙ limited_one size c.args.left line.severity c.fault_line-line.result.bytes.items line.text some cut ∙ ap (limited size c.args.left) (sym lines))
    (puts_done _ _ _ _ c.in_ok-put_line.ensures)
