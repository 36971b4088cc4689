-- A row more; after a fault a front of the rows that are left was written.
use Rattle.j39_watch.proofs.Common.{◌≡◌, ◌<◌, ◌+◌, ◌∙◌, ap, arith, get_or, length, sym, get_or_from_slice_get, stamp_micros, Origin, puts_as, puts_nothing, holder_of, pairs_of, naming_of}
use Rattle.j39_watch.proofs.ScreenLemmas.{each_left, each_more, each_stops, limited_none}
use Rattle.j39_watch.specs.WatchSoFar.{value_lines}
use Rattle.j39_watch.specs.declared.latest.Latest.{Latest}
use Rattle.j39_watch.specs.NotesSoFar.{size_of}
use Rattle.j39_watch.proofs.screen.put_values.Goals as goal

pub loop-at-init : goal.loop-at-init
loop-at-init g c =
    (omega arith, puts_as _ _ _ _ (sym (limited_none (size_of c.args.view.size) c.args.room)) (puts_nothing _ _), c.new-line.ensures.width ∙ ap (λ w. w + 1) (c.from.ensures ∙ c.width.ensures.value))

pub loop-at-preserved : goal.loop-at-preserved
loop-at-preserved g c =
    let view = c.args.view in
    let pairs = pairs_of c.args.values.now.rows in
    let f = value_lines (naming_of view.naming) (holder_of view.listener.now) (stamp_micros view.now) in
    let x : Origin × Latest = (c.pair_at.result.0, c.pair_at.result.1.now) in
    let below : c.loop-at.at < length pairs = omega (arith, c.len-at-end.ensures) in
    let is : x ≡ get_or pairs c.loop-at.at x = sym (get_or_from_slice_get pairs c.loop-at.at x x c.pair_at.ensures) in (
      each_left f pairs c.args.room c.loop-at.at _ _ x below is c.loop-at.invariant.0 c.in_ok-left.ensures.left,
      each_more f pairs (size_of view.size) c.args.room c.loop-at.at _ x _ _ _ _ below is c.loop-at.invariant.0 c.loop-at.invariant.1 c.in_ok-left.ensures.puts,
      c.in_ok-left.ensures.width ∙ c.loop-at.invariant.2,
    )

pub returns-in_err-left-clause-puts : goal.returns-in_err-left-clause-puts
returns-in_err-left-clause-puts g c =
    let view = c.args.view in
    let pairs = pairs_of c.args.values.now.rows in
    let f = value_lines (naming_of view.naming) (holder_of view.listener.now) (stamp_micros view.now) in
    let x : Origin × Latest = (c.pair_at.result.0, c.pair_at.result.1.now) in
    let below : c.loop-at.at < length pairs = omega (arith, c.len-at-end.ensures) in
    let is : x ≡ get_or pairs c.loop-at.at x = sym (get_or_from_slice_get pairs c.loop-at.at x x c.pair_at.ensures) in
    each_stops f pairs (size_of view.size) c.args.room c.loop-at.at _ x _ _ _ _ _ below is c.loop-at.invariant.0 c.from_residual.ensures.0 c.loop-at.invariant.1 c.in_err-left.ensures.puts
