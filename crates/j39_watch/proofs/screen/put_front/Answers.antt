-- The first, and how many more there are.
use Rattle.j39_watch.proofs.Common.{◌<◌, ◌+◌, ◌-◌, ◌∙◌, ap, arith, length, refl, sym, take, capped, flat_map, puts_as, puts_done, puts_failed, puts_first, puts_nothing, puts_then}
use Rattle.j39_watch.specs.ScreenSoFar.{lines_of_view}
use Rattle.j39_watch.specs.Watch.{fitted, more_text, row_shown}
use Rattle.j39_watch.specs.WatchSoFar.{limited}
use Rattle.j39_watch.proofs.ScreenLemmas.{length_none, length_some, text_none, text_some}
use Rattle.j39_watch.specs.NotesSoFar.{size_of}
use Rattle.j39_watch.proofs.screen.put_front.Goals as goal

pub returns-then-rows-eq0-clause-lines : goal.returns-then-rows-eq0-clause-lines
returns-then-rows-eq0-clause-lines g c =
    let view = c.args.view in
    let lines = lines_of_view view c.args.places.now c.args.values.now in
    let some : 0 < length lines = omega (arith, c.requires.counted, c.requires.many) in
    length_none lines some ∙ ap (λ n. length (fitted n lines)) (sym c.if-rows-eq0.true)

pub returns-then-rows-eq0-clause-puts : goal.returns-then-rows-eq0-clause-puts
returns-then-rows-eq0-clause-puts g c =
    let view = c.args.view in
    let lines = lines_of_view view c.args.places.now c.args.values.now in
    let some : 0 < length lines = omega (arith, c.requires.counted, c.requires.many) in
    puts_as _ _ _ _ (text_none (size_of view.size) lines some ∙ ap (λ n. flat_map (row_shown (size_of view.size)) (fitted n lines)) (sym c.if-rows-eq0.true)) (puts_nothing _ _)

pub returns-in_err-put_lines-clause-puts : goal.returns-in_err-put_lines-clause-puts
returns-in_err-put_lines-clause-puts g c =
    let view = c.args.view in
    let lines = lines_of_view view c.args.places.now c.args.values.now in
    let some : 0 < c.args.rows = omega (arith, c.if-rows-eq0.false) in
    let beyond : c.args.rows < length lines = omega (arith, c.requires.counted, c.requires.many) in
    let more = capped (length lines) - (c.args.rows - 1) in
    puts_as _ _ _ _ (text_some (size_of view.size) c.args.rows lines more (take (view.size.width + 1) (more_text more)) some beyond refl refl)
    (puts_first (limited (size_of view.size) (c.args.rows - 1) lines) _ _ _ _ c.from_residual.ensures.0 c.in_err-put_lines.ensures.puts)

pub returns-in_err-put_line-clause-puts : goal.returns-in_err-put_line-clause-puts
returns-in_err-put_line-clause-puts g c =
    let view = c.args.view in
    let lines = lines_of_view view c.args.places.now c.args.values.now in
    let some : 0 < c.args.rows = omega (arith, c.if-rows-eq0.false) in
    let beyond : c.args.rows < length lines = omega (arith, c.requires.counted, c.requires.many) in
    puts_as _ _ _ _ (text_some (size_of view.size) c.args.rows lines _ _ some beyond (λ i. c.requires.counted i - c.from.ensures i) c.more_line-more.ensures)
    (puts_then (limited (size_of view.size) (c.args.rows - 1) lines) _ _ _ _ _ _ c.in_ok-put_lines.ensures.puts (puts_failed _ _ _ _ c.from_residual-in_err-put_line.ensures.0 c.in_err-put_line.ensures))

pub returns-clause-lines : goal.returns-clause-lines
returns-clause-lines g c =
    let view = c.args.view in
    let lines = lines_of_view view c.args.places.now c.args.values.now in
    let some : 0 < c.args.rows = omega (arith, c.if-rows-eq0.false) in
    let beyond : c.args.rows < length lines = omega (arith, c.requires.counted, c.requires.many) in
    length_some (size_of view.size) c.args.rows lines some beyond

pub returns-clause-puts : goal.returns-clause-puts
returns-clause-puts g c =
    let view = c.args.view in
    let lines = lines_of_view view c.args.places.now c.args.values.now in
    let some : 0 < c.args.rows = omega (arith, c.if-rows-eq0.false) in
    let beyond : c.args.rows < length lines = omega (arith, c.requires.counted, c.requires.many) in
    puts_as _ _ _ _ (text_some (size_of view.size) c.args.rows lines _ _ some beyond (λ i. c.requires.counted i - c.from.ensures i) c.more_line-more.ensures)
    (puts_then (limited (size_of view.size) (c.args.rows - 1) lines) _ _ _ _ _ _ c.in_ok-put_lines.ensures.puts (puts_done _ _ _ _ c.in_ok-put_line.ensures))
