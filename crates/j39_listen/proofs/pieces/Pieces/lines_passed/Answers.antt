-- Line by line.
use Rattle.std.proofs.Common.{◌∙◌, ◌++◌, ◌∷◌, ◌+◌, [], ap, arith, length, refl, sym, append_assoc}
use Rattle.std.proofs.lemmas.List.{length-append}
use Rattle.j39_io.specs.Chars.{newline}
use Rattle.j39_listen.proofs.PassLemmas.{begins-none, line_at, line_long, passed-more, passes, passes-none}
use Rattle.j39_listen.proofs.pieces.Pieces.lines_passed.Goals as goal

pub returns-in_default-clause-passed : goal.returns-in_default-clause-passed
returns-in_default-clause-passed g c = passes-none g.A.Account.has_met c.args.self.now c.args.bytes.now

pub returns-then-not-is_between_lines-clause-passed : goal.returns-then-not-is_between_lines-clause-passed
returns-then-not-is_between_lines-clause-passed g c = passes-none g.A.Account.has_met c.args.self.now c.args.bytes.now

pub loop-line-init : goal.loop-line-init
loop-line-init g c = ([], refl, omega arith, begins-none g.A.Account.has_met c.args.self.now (c.is_between_lines.ensures c.if-not-is_between_lines.false))

pub returns-then-not-passes_over-clause-passed : goal.returns-then-not-passes_over-clause-passed
returns-then-not-passes_over-clause-passed g c =
    let inv = c.loop-line.invariant in
    passes g.A.Account.has_met c.args.self.now c.args.bytes.now inv.0 _ _ (c.is_between_lines.ensures c.if-not-is_between_lines.false) inv.1 inv.3

pub returns-then-not-passes_over-clause-line : goal.returns-then-not-passes_over-clause-line
returns-then-not-passes_over-clause-line g c =
    let found = c.in-Some-line_on.ensures in
    let long = line_long _ _ _ _ found in
    line_at c.args.self.now.splitter _ c.in-Some.bus _ _ _ _ (c.is_between_lines.ensures c.if-not-is_between_lines.false) c.in-Some.is (omega (arith, long)) found

pub overflow_add-passed : goal.overflow_add-passed
overflow_add-passed g c =
    let inv = c.loop-line.invariant in
    let size = ap length inv.1 ∙ length-append inv.0 c.loop-line.rest.now in
    omega (arith, size)

pub loop-line-preserved : goal.loop-line-preserved
loop-line-preserved g c =
    let inv = c.loop-line.invariant in
    let found = c.in-Some-line_on.ensures in
    let line = found.line ++ (newline ∷ []) in
    let cut = found.takes.bytes_are ∙ sym (append_assoc found.line (newline ∷ []) c.in-Some-line_on.behind.now) in
    let size = length-append inv.0 line ∙ ap (λ n. length inv.0 + n) (length-append found.line (newline ∷ [])) in (
      inv.0 ++ line,
      inv.1 ∙ ap (λ t. inv.0 ++ t) cut ∙ sym (append_assoc inv.0 line c.in-Some-line_on.behind.now),
      omega (arith, size),
      passed-more g.A.Account.has_met c.args.self.now inv.0 _ _ _ _ _ c.in-Some.is found (λ subject held. c.passes_over.ensures c.if-not-passes_over.false subject _ _ held found.spells.is_its.id_is) inv.3,
    )

pub returns-clause-passed : goal.returns-clause-passed
returns-clause-passed g c =
    let inv = c.loop-line.invariant in
    passes g.A.Account.has_met c.args.self.now c.args.bytes.now inv.0 _ _ (c.is_between_lines.ensures c.if-not-is_between_lines.false) inv.1 inv.3
