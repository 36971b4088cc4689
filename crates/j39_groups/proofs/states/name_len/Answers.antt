-- No ` = ` without an `=`; a byte more is the name's, or ` = ` stands here.
use Rattle.std.proofs.Common.{◌∙◌, arith, sym, true, false, drop}
use Rattle.j39_groups.proofs.StateLemmas.{name_ends, name_more, name_whole, tail_is, whole_name}
use Rattle.j39_groups.proofs.states.name_len.Goals as goal

pub returns-then-starts_with-clause-value : goal.returns-then-starts_with-clause-value
returns-then-starts_with-clause-value c =
    let ends = name_ends (drop c.bytes.at c.args.name.now) (tail_is c.args.name.now c.bytes.at true _ c.starts_with.ensures.value c.if-starts_with.true) in
    let from = c.bytes.invariant.from in omega (arith, ends, from)

pub bytes-preserved : goal.bytes-preserved
bytes-preserved c = record {
  inside = (let below = c.bytes-test.true in omega (arith, below));
  from =
      c.bytes.invariant.from
      ∙ name_more c.args.name.now c.bytes.at c.bytes-test.true (tail_is c.args.name.now c.bytes.at false _ c.starts_with.ensures.value c.if-starts_with.false);
}

pub returns-clause-value : goal.returns-clause-value
returns-clause-value c =
    let ends = name_whole c.args.name.now c.bytes.at (omega arith) in
    let from = c.bytes.invariant.from in omega (arith, ends, from)

pub returns-then-not-contains-clause-value : goal.returns-then-not-contains-clause-value
returns-then-not-contains-clause-value c = sym (whole_name c.args.name.now (sym c.if-not-contains.ensures.value))
