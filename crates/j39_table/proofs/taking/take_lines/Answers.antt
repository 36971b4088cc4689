-- Each line in turn is passed over, or taken, or wrong.
use Rattle.std.proofs.Common.{◌+◌, ◌∙◌, ◌++◌, [], ◌∷◌, length, refl, ap, sym, append_assoc, arith, length-append, rules}
use Rattle.j39_table.specs.Taking.{lines_left}
use Rattle.j39_table.proofs.TableLemmas.{few_lines, passed_line, reads_before, spelled_line}
use Rattle.j39_table.proofs.taking.take_lines.Goals as goal

pub loop-rest-init : goal.loop-rest-init
loop-rest-init g c = ([], refl, refl, record { items = []; spelled = tt; few = omega arith; has = c.requires.empty }, refl)

pub overflow_add-number : goal.overflow_add-number
overflow_add-number g c =
    let so_far = c.loop-rest.invariant in
    omega (arith, ap length so_far.1, length-append so_far.0 (lines_left c.loop-rest.rest), few_lines c.args.text.now)

pub returns-then-taken-ge-MOST-clause-lines : goal.returns-then-taken-ge-MOST-clause-lines
returns-then-taken-ge-MOST-clause-lines g c =
    let so_far = c.loop-rest.invariant in
    let are = so_far.1 ∙ ap (λ rest. so_far.0 ++ lines_left rest) c.in-Some.is ∙ ap (λ lines. so_far.0 ++ lines) c.first_line.ensures in
    c.requires.many c.args.text.now (c.loop-rest.number + 1) (record {
      line = c.first_line.result.0.now;
      count = length so_far.0;
      number_is = ap (λ n. n + 1) so_far.2;
      before =
          reads_before g.T.Taker.spells c.args.text.now so_far.0 (lines_left c.first_line.result.1) c.first_line.result.0.now so_far.3.items are
          (sym c.is_row_line.ensures ∙ c.if-is_row_line.true) so_far.3.spelled;
      full = (let many = so_far.4 in let few = so_far.3.few in omega (arith, many, few));
    })

pub loop-rest-preserved-then-is_row_line : goal.loop-rest-preserved-then-is_row_line
loop-rest-preserved-then-is_row_line g c =
    let so_far = c.loop-rest.invariant in
    let are = so_far.1 ∙ ap (λ rest. so_far.0 ++ lines_left rest) c.in-Some.is ∙ ap (λ lines. so_far.0 ++ lines) c.first_line.ensures in
    let is_row = sym c.is_row_line.ensures ∙ c.if-is_row_line.true in
    let one = c.in_ok-take.ensures c.args.text.now (length so_far.0)
    (reads_before g.T.Taker.spells c.args.text.now so_far.0 (lines_left c.first_line.result.1) c.first_line.result.0.now so_far.3.items are is_row so_far.3.spelled)
    (ap (λ n. n + 1) so_far.2) so_far.3.has in
    let many = length-append so_far.3.items (one.0 ∷ []) ∙ ap (λ n. n + 1) so_far.4 in (
      so_far.0 ++ (c.first_line.result.0.now ∷ []),
      are ∙ sym (append_assoc so_far.0 (c.first_line.result.0.now ∷ []) (lines_left c.first_line.result.1)),
      ap (λ n. n + 1) so_far.2 ∙ sym (length-append so_far.0 (c.first_line.result.0.now ∷ [])),
      record {
        items = so_far.3.items ++ (one.0 ∷ []);
        spelled = spelled_line g.T.Taker.spells so_far.0 c.first_line.result.0.now so_far.3.items one.0 is_row so_far.3.spelled one.1;
        few = omega (arith, many);
        has = one.2;
      },
      many,
    )

pub returns-in_err-take-clause-lines : goal.returns-in_err-take-clause-lines
returns-in_err-take-clause-lines g c =
    let so_far = c.loop-rest.invariant in
    let are = so_far.1 ∙ ap (λ rest. so_far.0 ++ lines_left rest) c.in-Some.is ∙ ap (λ lines. so_far.0 ++ lines) c.first_line.ensures in
    let wrong = c.in_err-take.ensures c.args.text.now (length so_far.0)
    (reads_before g.T.Taker.spells c.args.text.now so_far.0 (lines_left c.first_line.result.1) c.first_line.result.0.now so_far.3.items are
    (sym c.is_row_line.ensures ∙ c.if-is_row_line.true) so_far.3.spelled)
    (ap (λ n. n + 1) so_far.2) so_far.3.has in
    search rules

pub loop-rest-preserved : goal.loop-rest-preserved
loop-rest-preserved g c =
    let so_far = c.loop-rest.invariant in
    let are = so_far.1 ∙ ap (λ rest. so_far.0 ++ lines_left rest) c.in-Some.is ∙ ap (λ lines. so_far.0 ++ lines) c.first_line.ensures in (
      so_far.0 ++ (c.first_line.result.0.now ∷ []),
      are ∙ sym (append_assoc so_far.0 (c.first_line.result.0.now ∷ []) (lines_left c.first_line.result.1)),
      ap (λ n. n + 1) so_far.2 ∙ sym (length-append so_far.0 (c.first_line.result.0.now ∷ [])),
      record {
        items = so_far.3.items;
        spelled =
            passed_line g.T.Taker.spells so_far.0 c.first_line.result.0.now so_far.3.items (sym c.is_row_line.ensures ∙ c.if-is_row_line.false) so_far.3.spelled;
        few = so_far.3.few;
        has = so_far.3.has;
      },
      so_far.4,
    )
