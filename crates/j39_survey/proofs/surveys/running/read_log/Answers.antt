-- The bytes that were taken, at the end and at each fault.
use Rattle.j39_survey.proofs.Common.{ℕ, List, Option, [], ◌++◌, ◌∙◌, ◌≡◌, ◌+◌, ◌-◌, subst, ap, append-nil, take, arith, length, length-append, length-take, refl, Consumes, Consumes-all, Consumes-nil, Consumes-trans}
use Rattle.j39_survey.proofs.surveys.running.read_log.Goals as goal

-- the read at the end gives nothing, so all that was taken was taken before it
at_end : (a b d : Option (List ℕ)) (taken : List ℕ) (n : ℕ) (buf : List ℕ) → n ≡ 0 → Consumes a b taken → Consumes b d (take n buf)
    → Consumes a d taken
at_end a b d taken n buf none first last =
    subst (Consumes a d) (ap (λ n. taken ++ take n buf) none ∙ append-nil taken) (Consumes-trans a b d taken (take n buf) first last)

pub pieces-init : goal.pieces-init
pieces-init g c = ([], Consumes-nil (g.R.Source.remaining c.args.source.now), (λ given h. h), omega arith, refl)

pub pieces-preserved : goal.pieces-preserved
pieces-preserved g c =
    let inv = c.pieces.invariant in
    let bytes = take c.in-Ok.n c.pull.new.buf in
    let len : length (inv.0 ++ bytes) + (c.pieces.room - c.in-Ok.n) ≡ c.args.limit =
    omega (arith, length-append inv.0 bytes, length-take c.in-Ok.n c.pull.new.buf, c.in-Ok.ensures.bound) in (
      inv.0 ++ bytes,
      Consumes-trans _ _ _ inv.0 bytes inv.1 c.in-Ok.ensures.bytes.0,
      (λ given h. c.in-Ok-take.ensures.taken given inv.0 (inv.2 given h)),
      len,
      c.in-Ok.ensures.mark ∙ inv.4,
    )

pub returns-in-Ok-finish-clause-read_all : goal.returns-in-Ok-finish-clause-read_all
returns-in-Ok-finish-clause-read_all g c = λ given h.
    let inv = c.pieces.invariant in
    let lines = c.in-Ok-finish.ensures.surveyed given inv.0 (inv.2 given h) in
    let consumed = at_end _ _ _ inv.0 c.in-Ok.n c.pull.new.buf c.if-n-eq0.true inv.1 c.in-Ok.ensures.bytes.0 in
    record {
      taken = inv.0;
      consumed = consumed;
      whole = Consumes-all _ _ inv.0 [] inv.0 consumed (c.in-Ok.ensures.bytes.1 c.if-n-eq0.true (omega arith)) refl;
      fits = omega arith;
      lines = lines.0;
      are_lines = lines.1;
      surveyed = lines.2;
    }

-- ---- a line that asks for memory

pub returns-in-Err-clause-memory : goal.returns-in-Err-clause-memory
returns-in-Err-clause-memory g c = λ fails given h.
    let inv = c.pieces.invariant in
    record {
      taken = inv.0;
      consumed = at_end _ _ _ inv.0 c.in-Ok.n c.pull.new.buf c.if-n-eq0.true inv.1 c.in-Ok.ensures.bytes.0;
      among = c.in-Err.ensures.asked given inv.0 (inv.2 given h);
    }

pub returns-in-Err-take-clause-memory : goal.returns-in-Err-take-clause-memory
returns-in-Err-take-clause-memory g c = λ fails given h.
    let inv = c.pieces.invariant in
    let bytes = take c.in-Ok.n c.pull.new.buf in
    record {
      taken = inv.0 ++ bytes;
      consumed = Consumes-trans _ _ _ inv.0 bytes inv.1 c.in-Ok.ensures.bytes.0;
      among = c.in-Err-take.ensures.asked given inv.0 (inv.2 given h);
    }

pub returns-in-Err-take-clause-took : goal.returns-in-Err-take-clause-took
returns-in-Err-take-clause-took g c = (_, Consumes-trans _ _ _ c.pieces.invariant.0 _ c.pieces.invariant.1 c.in-Ok.ensures.bytes.0)

pub returns-in-Err-take-clause-within : goal.returns-in-Err-take-clause-within
returns-in-Err-take-clause-within g c = λ other.
    let inv = c.pieces.invariant in
    let bytes = take c.in-Ok.n c.pull.new.buf in
    record {
      taken = inv.0 ++ bytes;
      consumed = Consumes-trans _ _ _ inv.0 bytes inv.1 c.in-Ok.ensures.bytes.0;
      fits = omega (arith, length-append inv.0 bytes, length-take c.in-Ok.n c.pull.new.buf, c.in-Ok.ensures.bound);
    }

-- ---- a read that passes the limit

pub returns-then-n-room-clause-took : goal.returns-then-n-room-clause-took
returns-then-n-room-clause-took g c = (_, Consumes-trans _ _ _ c.pieces.invariant.0 _ c.pieces.invariant.1 c.in-Ok.ensures.bytes.0)

pub returns-then-n-room-clause-at_limit : goal.returns-then-n-room-clause-at_limit
returns-then-n-room-clause-at_limit g c = λ too_long.
    let inv = c.pieces.invariant in
    let bytes = take c.in-Ok.n c.pull.new.buf in (
      inv.0,
      record {
        read = bytes;
        consumed = Consumes-trans _ _ _ inv.0 bytes inv.1 c.in-Ok.ensures.bytes.0;
        fits = omega arith;
        passes = omega (arith, length-append inv.0 bytes, length-take c.in-Ok.n c.pull.new.buf, c.in-Ok.ensures.bound);
        piece = omega (arith, length-take c.in-Ok.n c.pull.new.buf, c.in-Ok.ensures.bound);
      },
    )
