-- The log that isn't opened is one of those behind the first.
use Rattle.std.proofs.Common.{◌≡◌, ◌+◌, ◌++◌, ◌∷◌, ◌∙◌, [], ap, arith, length, length-append, refl, suc, List, ℕ}
use Rattle.std.proofs.lemmas.List.Elements.{All-nil}
use Rattle.std.proofs.lemmas.List.{take_all}
use Rattle.j39_cli.specs.FileEnds.{IsEndsOfSome}
use Rattle.j1939.proofs.OpenedLemmas.{named_next, seen_more, texts, unopened_later}
use Rattle.j1939.proofs.input.opened.Goals as goal

pub returns-in-Err-clause-err : goal.returns-in-Err-clause-err
returns-in-Err-clause-err c =
    let is : c.args.files.now ≡ c.in-Some.first.now ∷ c.in-Some.behind.now = c.in-Some.ensures.cases.0 in
    unopened_later c.args.files.now c.in-Some.behind.now c.in-Some.first.now _ c.loop-file.file-index c.in-Err.why is c.loop-file-test.true c.in-Err.ensures.err

pub loop-file-init : goal.loop-file-init
loop-file-init c =
    let one = c.keep.ensures c.if-not-keep.false in (
      ap length c.new-later.ensures.items,
      rw (one, c.new-seen.ensures.items, c.in-Some.ensures.cases.0) (ap (λ (name : List ℕ). name ∷ []) c.in_ok-first.ensures.file),
      seen_more _ _ c.in_ok-first.first.ends (rw c.new-seen.ensures.items (All-nil IsEndsOfSome)) c.in_ok-first.ensures.seen one,
    )

pub loop-file-preserved : goal.loop-file-preserved
loop-file-preserved c =
    let log = c.keep-in-loop-file.ensures c.if-not-keep-2.false in
    let ends = c.keep-in-loop-file-2.ensures c.if-not-keep-3.false in
    let a = ap length log ∙ length-append c.loop-file.later.items (c.in-Ok.log.input ∷ []) in
    let i = c.loop-file.invariant.0 in (
      omega (arith, a, i),
      named_next c.args.files.now c.in-Some.behind.now c.in-Some.first.now _ c.loop-file.file-index _ _ _ c.in-Ok.log.ends c.in-Some.ensures.cases.0 c.loop-file-test.true
          c.loop-file.invariant.1 ends c.in-Ok.ensures.file refl,
      seen_more _ _ c.in-Ok.log.ends c.loop-file.invariant.2 c.in-Ok.ensures.seen ends,
    )

pub returns-clause-names : goal.returns-clause-names
returns-clause-names c =
    let is : c.args.files.now ≡ c.in-Some.first.now ∷ c.in-Some.behind.now = c.in-Some.ensures.cases.0 in
    let all = c.loop-file-test.false in
    let long : length c.args.files.now ≡ suc (length c.in-Some.behind.now) = ap length is in
    c.loop-file.invariant.1 ∙ ap texts (take_all (c.loop-file.file-index + 1) c.args.files.now (omega (arith, all, long)))

pub returns-clause-seen : goal.returns-clause-seen
returns-clause-seen c = c.loop-file.invariant.2
