-- A read of the current one takes of what is left.
use Rattle.j39_cli.proofs.Common.{◌≡◌, Bool, [], arith, map, reverse, subst, take, Consumes}
use Rattle.j39_cli.specs.JoinedSoFar.{left_of}
use Rattle.j39_cli.proofs.JoinedLemmas.{is_open-last, left-kept, left-read}
use Rattle.j39_cli.proofs.joined.Joined.read.Goals as goal

pub returns-then-n-gt0-clause-bytes : goal.returns-then-n-gt0-clause-bytes
returns-then-n-gt0-clause-bytes g c =
    let self = c.args.self.now in
    let later = map g.R.Source.remaining (reverse self.later.items) in
    let bytes = take c.in-Ok.n c.pull.new.buf in (
      subst (λ (b : Bool). Consumes (left_of self.is_open (g.R.Source.remaining self.current) later) (left_of b (g.R.Source.remaining c.pull.new.self) later) bytes)
          (is_open-last self.is_open c.pull.new.buf c.in-Ok.n c.if-n-gt0.true c.in-Ok.ensures.bound.0)
          (left-read self.is_open _ _ later bytes c.in-Ok.ensures.bytes.0),
      c.in-Ok.ensures.bytes.1,
    )

pub returns-else-n-gt0-clause-bytes : goal.returns-else-n-gt0-clause-bytes
returns-else-n-gt0-clause-bytes g c =
    let self = c.args.self.now in
    let later = map g.R.Source.remaining (reverse self.later.items) in
    let none : c.in-Ok.n ≡ 0 = omega (arith, c.if-n-gt0.false) in (
      rw none (left-read self.is_open _ _ later [] (rw none at c.in-Ok.ensures.bytes.0)),
      c.in-Ok.ensures.bytes.1,
    )

pub returns-in-Err-clause-bytes : goal.returns-in-Err-clause-bytes
returns-in-Err-clause-bytes g c =
    left-kept c.args.self.now.is_open _ _ (map g.R.Source.remaining (reverse c.args.self.now.later.items)) c.in-Err.ensures.bytes
