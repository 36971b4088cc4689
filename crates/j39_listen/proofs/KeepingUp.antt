-- What a run had written where a read ended it.
use Rattle.std.proofs.Common.{ℕ, List, [], Option, inl, refl, subst}
use Rattle.std.specs.Io.KnownBytes.{Appends, Consumes}
use Rattle.std.proofs.KnownBytes.{Appends-trans}
use Rattle.j39_frame.specs.Frame.{FrameRecord}
use Rattle.j39_log.specs.Log.{frames_of}
use Rattle.j39_listen.specs.Counting.{counts_of}
use Rattle.j39_listen.specs.Headed.{Headed, headed}
use Rattle.j39_listen.specs.Output.{Making, Meeting, Output}
use Rattle.j39_listen.specs.PiecesSoFar.{HasTaken, KeepsUp}
use Rattle.j39_listen.specs.Run.{WritesWholeLines, run_bus}
use Rattle.j39_listen.specs.declared.pieces.Pieces.{Pieces}
use Rattle.j39_listen.proofs.RunLemmas.{has_run_bus}

-- the whole lines of the bytes so far were met
pub keeps_up : {A : Type 0} (has_met : Meeting A) (given remaining remaining' : Option (List ℕ)) (taken : List ℕ) (run : Pieces A) (old new : Option (List ℕ))
    → Consumes remaining remaining' taken → HasTaken has_met given taken run old new → KeepsUp has_met [] given remaining remaining' old new
keeps_up has_met given remaining remaining' taken run old new consumed h =
    let read = h.has_read in
    let made = read.met.made (run_bus given read.spelled) (has_run_bus given read.spelled) in
    record {
      lines = read.lines;
      begun = h.begun;
      whole = h.begins.whole;
      consumed = subst (Consumes remaining remaining') read.taken_is consumed;
      spelled = read.spelled;
      is_log = record { lines = read.lines; are_lines = record { whole = read.whole; bytes_are = inl refl }; spell_each = read.spell_each };
      account = run.lines.account;
      output = made.output;
      met = made.met;
      written = made.written;
    }

-- so were they behind a head
pub keeps_up_behind : {A : Type 0} (has_met : Meeting A) (head : List ℕ) (given remaining remaining' old mid new : Option (List ℕ))
    → Appends old mid head → KeepsUp has_met [] given remaining remaining' mid new → KeepsUp has_met head given remaining remaining' old new
keeps_up_behind has_met head given remaining remaining' old mid new first k = record {
  lines = k.lines;
  begun = k.begun;
  whole = k.whole;
  consumed = k.consumed;
  spelled = k.spelled;
  is_log = k.is_log;
  account = k.account;
  output = k.output;
  met = k.met;
  written = Appends-trans old mid new head k.output.text first k.written;
}

-- an account that writes all that it makes as it meets the frames
pub whole_behind : {A : Type 0} (has_met : Meeting A) (makes : Making)
    → ((bus : List ℕ) (a : A) (F : List FrameRecord) (output : Output) → has_met bus a F output → makes bus F output)
    → (head : List ℕ) (given remaining remaining' old new : Option (List ℕ)) → KeepsUp has_met head given remaining remaining' old new
    → WritesWholeLines (Headed head makes) given remaining remaining' old new
whole_behind has_met makes is_made head given remaining remaining' old new k = record {
  lines = k.lines;
  begun = k.begun;
  whole = k.whole;
  consumed = k.consumed;
  counts = counts_of given k.spelled (headed head k.output);
  writes = record {
    spelled = k.spelled;
    is_log = k.is_log;
    output = headed head k.output;
    is_made = (k.output, is_made (run_bus given k.spelled) k.account (frames_of given k.spelled) k.output k.met, refl);
    counts_are = refl;
    written = k.written;
  };
}

pub whole_lines : {A : Type 0} (has_met : Meeting A) (makes : Making)
    → ((bus : List ℕ) (a : A) (F : List FrameRecord) (output : Output) → has_met bus a F output → makes bus F output)
    → (given remaining remaining' old new : Option (List ℕ)) → KeepsUp has_met [] given remaining remaining' old new
    → WritesWholeLines makes given remaining remaining' old new
whole_lines has_met makes is_made given remaining remaining' old new k = record {
  lines = k.lines;
  begun = k.begun;
  whole = k.whole;
  consumed = k.consumed;
  counts = counts_of given k.spelled k.output;
  writes = record {
    spelled = k.spelled;
    is_log = k.is_log;
    output = k.output;
    is_made = is_made (run_bus given k.spelled) k.account (frames_of given k.spelled) k.output k.met;
    counts_are = refl;
    written = k.written;
  };
}
