-- It is one of what this line gives.
use Rattle.std.proofs.Common.{◌+◌, ◌∙◌, ◌++◌, [], ◌∷◌, None, Some, ap, append_assoc, append-nil, arith, length, refl, slice_get, subst, sym}
use Rattle.j39_groups.specs.Models.{reading_of}
use Rattle.j39_groups.specs.Readings.{readings_in}
use Rattle.j39_table.specs.Tables.{SpellRows, row_lines}
use Rattle.j39_table.specs.Taking.{lines_left}
use Rattle.j39_table.proofs.LookupLemmas.{begins, further, none_yet, one_more, picked}
use Rattle.j39_table.proofs.lookup.pick_in.Goals as goal

pub loop-rest-init : goal.loop-rest-init
loop-rest-init c = ([], refl, λ rows none. none_yet rows c.args.pgn c.args.bytes.now c.args.left none)

pub loop-rest-preserved-in-Err : goal.loop-rest-preserved-in-Err
loop-rest-preserved-in-Err c =
    let so_far = c.loop-rest.invariant in
    let line = c.first_line.result.0.now in (
      so_far.0 ++ (line ∷ []),
      so_far.1 ∙ ap (λ rest. so_far.0 ++ lines_left rest) c.in-Some.is ∙ ap (λ lines. so_far.0 ++ lines) c.first_line.ensures
          ∙ sym (append_assoc so_far.0 (line ∷ []) (lines_left c.first_line.result.1)),
      λ rows spelled.
          let more = one_more so_far.0 line (Some c.in-Some-row_in.row) c.args.pgn c.args.bytes.now rows c.in-Some-row_in.ensures.found c.in-Some-row_in.ensures.comment spelled in
          further (readings_in more.front c.args.pgn c.args.bytes.now) _ c.args.left c.loop-rest.left c.in-Err.rest (so_far.2 more.front more.spelled) c.in-Err.ensures
          ∙ ap (λ rs. length rs + c.in-Err.rest) (sym more.readings),
    )

pub loop-rest-preserved : goal.loop-rest-preserved
loop-rest-preserved c =
    let so_far = c.loop-rest.invariant in
    let line = c.first_line.result.0.now in (
      so_far.0 ++ (line ∷ []),
      so_far.1 ∙ ap (λ rest. so_far.0 ++ lines_left rest) c.in-Some.is ∙ ap (λ lines. so_far.0 ++ lines) c.first_line.ensures
          ∙ sym (append_assoc so_far.0 (line ∷ []) (lines_left c.first_line.result.1)),
      λ rows spelled.
          let more = one_more so_far.0 line None c.args.pgn c.args.bytes.now rows c.in_default-row_in.ensures.found c.in_default-row_in.ensures.comment spelled in
          further (readings_in more.front c.args.pgn c.args.bytes.now) [] c.args.left c.loop-rest.left c.loop-rest.left (so_far.2 more.front more.spelled) (omega arith)
          ∙ ap (λ rs. length rs + c.loop-rest.left) (sym more.readings),
    )

pub returns-in-Ok : goal.returns-in-Ok
returns-in-Ok c rows spelled =
    let so_far = c.loop-rest.invariant in
    let line = c.first_line.result.0.now in
    let are = so_far.1 ∙ ap (λ rest. so_far.0 ++ lines_left rest) c.in-Some.is ∙ ap (λ lines. so_far.0 ++ lines) c.first_line.ensures
    ∙ sym (append_assoc so_far.0 (line ∷ []) (lines_left c.first_line.result.1)) in
    let first = begins (so_far.0 ++ (line ∷ [])) (lines_left c.first_line.result.1) rows c.args.pgn c.args.bytes.now
    (subst (λ lines. SpellRows (row_lines lines) rows) are spelled) in
    let more = one_more so_far.0 line (Some c.in-Some-row_in.row) c.args.pgn c.args.bytes.now first.front c.in-Some-row_in.ensures.found
    c.in-Some-row_in.ensures.comment first.spelled in
    ap (λ rs. slice_get rs c.args.left) (first.readings ∙ ap (λ rs. rs ++ first.after) more.readings)
    ∙ picked (readings_in more.front c.args.pgn c.args.bytes.now) _ first.after c.args.left c.loop-rest.left (reading_of c.in-Ok.reading)
    (so_far.2 more.front more.spelled) c.in-Ok.ensures

pub returns : goal.returns
returns c rows spelled =
    let so_far = c.loop-rest.invariant in
    so_far.2 rows
    (subst (λ lines. SpellRows (row_lines lines) rows) (so_far.1 ∙ ap (λ rest. so_far.0 ++ lines_left rest) c.in_default.is ∙ append-nil so_far.0) spelled)
