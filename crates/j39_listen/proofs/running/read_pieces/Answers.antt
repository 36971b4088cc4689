-- The bytes that were taken, at each fault.
use Rattle.std.proofs.Common.{rules, ℕ, List, Option, [], ◌++◌, ◌∙◌, ◌≡◌, ◌+◌, ◌-◌, subst, ap, append-nil, take, arith, length, length-append, length-take, refl}
use Rattle.std.proofs.lemmas.Grind.{common_steps}
use Rattle.std.specs.Io.KnownBytes.{Consumes}
use Rattle.std.proofs.KnownBytes.{Consumes-kept, Consumes-nil, Consumes-trans}
use Rattle.std.specs.Prelude.{Err}
use Rattle.j39_listen.proofs.AskLemmas.{same_run_fault}
use Rattle.j39_listen.proofs.KeepingUp.{keeps_up}
use Rattle.j39_listen.proofs.PieceLemmas.{at_fault, front_of_all, front_of_more, front_of_no_more, front_of_taken, front_of_whole, no_fault, on_err_from, on_ok_from, so_of_whole}
use Rattle.j39_listen.proofs.running.read_pieces.Goals as goal

-- the read at the end gives nothing, so all that was taken was taken before it
at_end : (a b d : Option (List ℕ)) (taken : List ℕ) (n : ℕ) (buf : List ℕ) → n ≡ 0 → Consumes a b taken → Consumes b d (take n buf)
    → Consumes a d taken
at_end a b d taken n buf none first last =
    subst (Consumes a d) (ap (λ n. taken ++ take n buf) none ∙ append-nil taken) (Consumes-trans a b d taken (take n buf) first last)

pub pieces-init : goal.pieces-init
pieces-init g c = ([], Consumes-nil (g.R.Source.remaining c.args.source.now), (λ subject given h. h), omega arith, refl, refl, (λ flushed. flushed))

pub pieces-preserved : goal.pieces-preserved
pieces-preserved g c =
    let inv = c.pieces.invariant in
    let bytes = take c.in-Ok.n c.pull.new.buf in
    let len : length (inv.0 ++ bytes) + (c.pieces.room - c.in-Ok.n) ≡ c.args.limit =
    omega (arith, length-append inv.0 bytes, length-take c.in-Ok.n c.pull.new.buf, c.in-Ok.ensures.bound) in (
      inv.0 ++ bytes,
      Consumes-trans _ _ _ inv.0 bytes inv.1 c.in-Ok.ensures.bytes.0,
      (λ subject given h. c.in-Ok-take.ensures.taken subject given inv.0 _ (inv.2 subject given h)),
      len,
      c.in-Ok.ensures.mark ∙ inv.4,
      c.in-Ok-take.ensures.unmarked no_fault ∙ inv.5,
      (λ _. c.in-Ok-take.ensures.flushed),
    )

-- ---- the reader failed

pub returns-in_default-clause-ended : goal.returns-in_default-clause-ended
returns-in_default-clause-ended g c =
    let inv = c.pieces.invariant in
    record {
      short = tt;
      too_long = λ e. absurd (cc);
      read = search rules;
      read_unmarked = search rules;
      write = λ e. absurd (cc);
      write_unmarked = search rules;
      within = λ other. record { taken = inv.0; consumed = Consumes-kept _ _ _ inv.0 inv.1 c.in_default.ensures.bytes; fits = omega arith };
    }

pub returns-in_default-clause-ran : goal.returns-in_default-clause-ran
returns-in_default-clause-ran g c = λ subject given h.
    let inv = c.pieces.invariant in
    record {
      ended = returns-in_default-clause-ended g c;
      writes = tt;
      memory = λ e. absurd (cc);
      at_limit = λ e. absurd (cc);
      cut_short = λ e. absurd (cc);
      prefix = record {
        taken = inv.0;
        consumed = Consumes-kept _ _ _ inv.0 inv.1 c.in_default.ensures.bytes;
        written = front_of_taken (g.A.Account.has_met subject) (g.A.Account.makes subject) (c.laws.ensures.begins subject) given inv.0 c.pieces.pieces _ _ (inv.2 subject given h);
      };
    }

-- ---- the log is at its end

pub returns-then-n-eq0-clause-ended : goal.returns-then-n-eq0-clause-ended
returns-then-n-eq0-clause-ended g c =
    let inv = c.pieces.invariant in
    let consumed = at_end _ _ _ inv.0 c.in-Ok.n c.pull.new.buf c.if-n-eq0.true inv.1 c.in-Ok.ensures.bytes.0 in
    record {
      short = search rules;
      too_long = search rules;
      read = search rules;
      read_unmarked = search rules;
      write = search rules;
      write_unmarked = search rules;
      within = λ other. record { taken = inv.0; consumed = consumed; fits = omega arith };
    }

pub returns-then-n-eq0-clause-ran : goal.returns-then-n-eq0-clause-ran
returns-then-n-eq0-clause-ran g c = λ subject given h.
    let inv = c.pieces.invariant in
    let consumed = at_end _ _ _ inv.0 c.in-Ok.n c.pull.new.buf c.if-n-eq0.true inv.1 c.in-Ok.ensures.bytes.0 in
    record {
      ended = returns-then-n-eq0-clause-ended g c;
      writes = search rules;
      memory = λ fails. record { taken = inv.0; consumed = consumed; among = c.finish.ensures.asked fails subject given inv.0 _ (inv.2 subject given h) };
      at_limit = λ e. absurd (c.finish.ensures.not_long e);
      cut_short = λ fails. front_of_whole (g.A.Account.makes subject) given _ _ inv.0 _ _ consumed
          (c.in-Ok.ensures.bytes.1 c.if-n-eq0.true (search rules)) (at_fault fails c.finish.ensures.front subject given inv.0 _ (inv.2 subject given h));
      prefix = on_err_from c.finish.result _ _ (λ front. record { taken = inv.0; consumed = consumed; written = front subject given inv.0 _ (inv.2 subject given h) })
          c.finish.ensures.front;
    }

pub returns-then-n-eq0-clause-met : goal.returns-then-n-eq0-clause-met
returns-then-n-eq0-clause-met g c =
    let inv = c.pieces.invariant in
    let consumed = at_end _ _ _ inv.0 c.in-Ok.n c.pull.new.buf c.if-n-eq0.true inv.1 c.in-Ok.ensures.bytes.0 in
    on_ok_from c.finish.result _ _ (λ met subject given h. so_of_whole _ _ inv.0 _ consumed (c.in-Ok.ensures.bytes.1 c.if-n-eq0.true (search rules))
    (met subject given inv.0 _ (inv.2 subject given h))) c.finish.ensures.met

-- ---- the log is too long

pub returns-then-n-room-clause-ended : goal.returns-then-n-room-clause-ended
returns-then-n-room-clause-ended g c = record {
  short = tt;
  too_long = grind (arith, common_steps);
  read = λ e. absurd (cc);
  read_unmarked = search rules;
  write = λ e. absurd (cc);
  write_unmarked = search rules;
  within = λ other. absurd (other refl);
}

pub returns-then-n-room-clause-ran : goal.returns-then-n-room-clause-ran
returns-then-n-room-clause-ran g c = λ subject given h.
    let inv = c.pieces.invariant in
    let bytes = take c.in-Ok.n c.pull.new.buf in
    let consumed = Consumes-trans _ _ _ inv.0 bytes inv.1 c.in-Ok.ensures.bytes.0 in
    record {
      ended = returns-then-n-room-clause-ended g c;
      writes = tt;
      memory = λ e. absurd (cc);
      at_limit = λ too_long. record {
        taken = inv.0;
        passed = record {
          read = bytes;
          consumed = consumed;
          fits = omega arith;
          passes = omega (arith, length-append inv.0 bytes, length-take c.in-Ok.n c.pull.new.buf, c.in-Ok.ensures.bound);
          piece = omega (arith, length-take c.in-Ok.n c.pull.new.buf, c.in-Ok.ensures.bound);
        };
        written = front_of_taken (g.A.Account.has_met subject) (g.A.Account.makes subject) (c.laws.ensures.begins subject) given inv.0 c.pieces.pieces _ _ (inv.2 subject given h);
      };
      cut_short = λ e. absurd (cc);
      prefix = record {
        taken = inv.0 ++ bytes;
        consumed = consumed;
        written = front_of_more (g.A.Account.has_met subject) (g.A.Account.makes subject) (c.laws.ensures.begins subject) given inv.0 bytes c.pieces.pieces _ _ (inv.2 subject given h);
      };
    }

-- ---- a fault in a piece

pub returns-in-Err-clause-ended : goal.returns-in-Err-clause-ended
returns-in-Err-clause-ended g c =
    let inv = c.pieces.invariant in
    let bytes = take c.in-Ok.n c.pull.new.buf in
    let consumed = Consumes-trans _ _ _ inv.0 bytes inv.1 c.in-Ok.ensures.bytes.0 in
    record {
      short = tt;
      too_long = search rules;
      read = search rules;
      read_unmarked = search rules;
      write = search rules;
      write_unmarked = search rules;
      within = λ other. record {
        taken = inv.0 ++ bytes;
        consumed = consumed;
        fits = omega (arith, length-append inv.0 bytes, length-take c.in-Ok.n c.pull.new.buf, c.in-Ok.ensures.bound);
      };
    }

pub returns-in-Err-clause-ran : goal.returns-in-Err-clause-ran
returns-in-Err-clause-ran g c = λ subject given h.
    let inv = c.pieces.invariant in
    let bytes = take c.in-Ok.n c.pull.new.buf in
    let consumed = Consumes-trans _ _ _ inv.0 bytes inv.1 c.in-Ok.ensures.bytes.0 in
    record {
      ended = returns-in-Err-clause-ended g c;
      writes = tt;
      memory = λ fails. record {
        taken = inv.0 ++ bytes;
        consumed = consumed;
        among = c.in-Err.ensures.asked (ap Err (same_run_fault _ _ fails)) subject given inv.0 _ (inv.2 subject given h);
      };
      at_limit = λ too_long. absurd (c.in-Err.ensures.not_long (ap Err (same_run_fault _ _ too_long)));
      cut_short = λ fails. front_of_all (g.A.Account.makes subject) given _ _ (inv.0 ++ bytes) _ _ consumed
          (c.in-Err.ensures.front subject given inv.0 _ (inv.2 subject given h));
      prefix = record {
        taken = inv.0 ++ bytes;
        consumed = consumed;
        written = front_of_no_more (g.A.Account.makes subject) given (inv.0 ++ bytes) _ _ (c.in-Err.ensures.front subject given inv.0 _ (inv.2 subject given h));
      };
    }

pub returns-in-Err-clause-flushed : goal.returns-in-Err-clause-flushed
returns-in-Err-clause-flushed g c = record {
  at_end = tt;
  at_reads = search rules;
  at_memory = λ fails before. c.in-Err.ensures.passed_on (ap Err (same_run_fault _ _ fails));
}

pub returns-in_default-clause-kept_up : goal.returns-in_default-clause-kept_up
returns-in_default-clause-kept_up g c = λ read subject given h.
    let inv = c.pieces.invariant in
    keeps_up (g.A.Account.has_met subject) given _ _ inv.0 c.pieces.pieces _ _ (Consumes-kept _ _ _ inv.0 inv.1 c.in_default.ensures.bytes) (inv.2 subject given h)

pub returns-then-n-eq0-clause-kept_up : goal.returns-then-n-eq0-clause-kept_up
returns-then-n-eq0-clause-kept_up g c = λ read. absurd (c.finish.ensures.not_read read)

pub returns-in-Err-clause-kept_up : goal.returns-in-Err-clause-kept_up
returns-in-Err-clause-kept_up g c = λ read. absurd (c.in-Err.ensures.not_read (ap Err (same_run_fault _ _ read)))
