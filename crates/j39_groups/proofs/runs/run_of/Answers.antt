-- The run of the group's place, where its first row is the group's.
use Rattle.std.proofs.Common.{◌∙◌, sym}
use Rattle.j39_groups.proofs.RunLemmas.{run_found, run_not_found}
use Rattle.j39_groups.proofs.runs.run_of.Goals as goal

pub slice_bounds-result-count : goal.slice_bounds-result-count
slice_bounds-result-count c =
    (run_found c.args.runs.now c.args.rows.now c.args.pgn c.place_of.result _ _ c.from-first.ensures c.from.ensures c.place_of.ensures.value c.place_of.ensures.fits
    c.place_of.ensures.own c.requires.runs c.requires.sound (sym c.is_at.ensures ∙ c.if-is_at.true)).1

pub slice_bounds-result-start : goal.slice_bounds-result-start
slice_bounds-result-start c =
    (run_found c.args.runs.now c.args.rows.now c.args.pgn c.place_of.result _ _ c.from-first.ensures c.from.ensures c.place_of.ensures.value c.place_of.ensures.fits
    c.place_of.ensures.own c.requires.runs c.requires.sound (sym c.is_at.ensures ∙ c.if-is_at.true)).1

pub slice_bounds-result-end : goal.slice_bounds-result-end
slice_bounds-result-end c =
    (run_found c.args.runs.now c.args.rows.now c.args.pgn c.place_of.result _ _ c.from-first.ensures c.from.ensures c.place_of.ensures.value c.place_of.ensures.fits
    c.place_of.ensures.own c.requires.runs c.requires.sound (sym c.is_at.ensures ∙ c.if-is_at.true)).2

pub returns-then-is_at-clause-same : goal.returns-then-is_at-clause-same
returns-then-is_at-clause-same c =
    (run_found c.args.runs.now c.args.rows.now c.args.pgn c.place_of.result _ _ c.from-first.ensures c.from.ensures c.place_of.ensures.value c.place_of.ensures.fits
    c.place_of.ensures.own c.requires.runs c.requires.sound (sym c.is_at.ensures ∙ c.if-is_at.true)).0

pub returns-else-is_at-clause-same : goal.returns-else-is_at-clause-same
returns-else-is_at-clause-same c =
    run_not_found c.args.runs.now c.args.rows.now c.args.pgn c.place_of.result _ c.from-first.ensures c.place_of.ensures.value c.place_of.ensures.fits
    c.place_of.ensures.own c.requires.runs c.requires.sound (sym c.is_at.ensures ∙ c.if-is_at.false)
