-- The line of the value, whose controller is there.
use Rattle.j39_watch.proofs.Common.{◌≡◌, ◌<◌, ◌+◌, ◌∷◌, ◌∙◌, [], true, ap, arith, refl, sym, take, stamp_micros, puts_as, puts_done, puts_failed, holder_of, naming_of}
use Rattle.j39_watch.proofs.ScreenLemmas.{limited_one}
use Rattle.j39_watch.specs.LatestSoFar.{latest_at, latest_row}
use Rattle.j39_watch.specs.NotesSoFar.{size_of}
use Rattle.j39_watch.specs.Watch.{Line, is_there, row_shown, value_line}
use Rattle.j39_watch.specs.WatchSoFar.{limited, value_lines}
use Rattle.j39_watch.proofs.screen.put_value.Goals as goal

pub returns-in_err-put_line-clause-puts : goal.returns-in_err-put_line-clause-puts
returns-in_err-put_line-clause-puts g c =
    let view = c.args.view in
    let size = size_of view.size in
    let now = stamp_micros view.now in
    let line : Line = value_line (naming_of view.naming) now (latest_at now (latest_row (c.args.origin, c.args.latest.now))) in
    let some : 0 < c.args.left = omega (arith, c.if-left-eq0.false) in
    let bytes = c.make_value_line.new.line.bytes.items in
    let cut : bytes ≡ take (size.width + 1) line.text = c.make_value_line.ensures.cut ∙ ap (λ w. take w line.text) c.requires in
    let there : is_there (holder_of view.listener.now) c.args.origin.address c.args.origin.name ≡ true = sym c.has.ensures ∙ c.if-not-has.false in
    let lines : value_lines (naming_of view.naming) (holder_of view.listener.now) now (c.args.origin, c.args.latest.now) ≡ line ∷ [] = rw there refl in
    puts_as _ _ _ _ (ap (λ s. row_shown size (record { severity = s; text = bytes })) c.of_value-severity.ensures
    ∙ limited_one size c.args.left line.severity bytes line.text some cut ∙ ap (limited size c.args.left) (sym lines))
    (puts_failed _ _ _ _ c.from_residual.ensures.0 c.in_err-put_line.ensures)

pub returns-clause-puts : goal.returns-clause-puts
returns-clause-puts g c =
    let view = c.args.view in
    let size = size_of view.size in
    let now = stamp_micros view.now in
    let line : Line = value_line (naming_of view.naming) now (latest_at now (latest_row (c.args.origin, c.args.latest.now))) in
    let some : 0 < c.args.left = omega (arith, c.if-left-eq0.false) in
    let bytes = c.make_value_line.new.line.bytes.items in
    let cut : bytes ≡ take (size.width + 1) line.text = c.make_value_line.ensures.cut ∙ ap (λ w. take w line.text) c.requires in
    let there : is_there (holder_of view.listener.now) c.args.origin.address c.args.origin.name ≡ true = sym c.has.ensures ∙ c.if-not-has.false in
    let lines : value_lines (naming_of view.naming) (holder_of view.listener.now) now (c.args.origin, c.args.latest.now) ≡ line ∷ [] = rw there refl in
    puts_as _ _ _ _ (ap (λ s. row_shown size (record { severity = s; text = bytes })) c.of_value-severity.ensures
    ∙ limited_one size c.args.left line.severity bytes line.text some cut ∙ ap (limited size c.args.left) (sym lines))
    (puts_done _ _ _ _ c.in_ok-put_line.ensures)
