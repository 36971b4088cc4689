-- What was written behind a head, of a run that was finished and of one that stopped; for `run_headed`.
use Rattle.std.proofs.Common.{◌≡◌, ◌++◌, ℕ, List, [], Option, Some, None, sym, ap, ◌∙◌, append_assoc, refl}
use Rattle.std.specs.Prelude.{IfSome, Result}
use Rattle.std.proofs.lemmas.Option.{IfSome_then}
use Rattle.std.specs.Io.KnownBytes.{Appends}
use Rattle.std.proofs.KnownBytes.{Appends-trans, Consumes-nil}
use Rattle.j39_io.specs.Device.{AppendsFront}
use Rattle.j39_io.specs.Turn.{Device, Turn}
use Rattle.j39_listen.specs.Asking.{Wanting}
use Rattle.j39_listen.specs.Headed.{Headed, headed}
use Rattle.j39_listen.specs.Output.{Making, Output}
use Rattle.j39_listen.specs.Run.{StopsAtLimit, StopsWithin, Writes, WritesFront}
use Rattle.j39_listen.specs.Ran.{Ended, Ran}
use Rattle.j39_listen.specs.declared.counts.Counts.{Counts}
use Rattle.j39_listen.specs.declared.running.RunFault.{RunFault}
use Rattle.j39_listen.proofs.PieceLemmas.{if_ok, on_err_from}

-- the whole behind the head
pub writes_headed : (head : List ℕ) (makes : Making) (given : Option (List ℕ)) (log : List ℕ) (counts : Counts) (old mid new : Option (List ℕ))
    → Appends old mid head → Writes makes given log counts mid new → Writes (Headed head makes) given log counts old new
writes_headed head makes given log counts old mid new first w = record {
  spelled = w.spelled;
  is_log = w.is_log;
  output = headed head w.output;
  is_made = (w.output, w.is_made, refl);
  counts_are = w.counts_are;
  written = Appends-trans old mid new head w.output.text first w.written;
}

-- a front behind the head
pub front_headed : (head : List ℕ) (makes : Making) (given : Option (List ℕ)) (taken : List ℕ) (old mid new : Option (List ℕ))
    → Appends old mid head → WritesFront makes given taken mid new → WritesFront (Headed head makes) given taken old new
front_headed head makes given taken old mid new first w = λ spelled output is_log (below, is_made, is).
    let f = w spelled below is_log is_made in (
      head ++ f.0,
      f.1,
      ap (λ (o : Output). o.text) is ∙ ap (λ t. head ++ t) f.2 ∙ sym (append_assoc head f.0 f.1),
      Appends-trans old mid new head f.0 first f.3,
    )

pub stops_headed : (head : List ℕ) (makes : Making) (given remaining remaining' old mid new : Option (List ℕ))
    → Appends old mid head → StopsWithin makes given remaining remaining' mid new → StopsWithin (Headed head makes) given remaining remaining' old new
stops_headed head makes given remaining remaining' old mid new first s =
    record { taken = s.taken; consumed = s.consumed; written = front_headed head makes given s.taken old mid new first s.written }

pub limit_headed : (head : List ℕ) (makes : Making) (limit : ℕ) (given remaining remaining' old mid new : Option (List ℕ))
    → Appends old mid head → StopsAtLimit makes limit given remaining remaining' mid new
    → StopsAtLimit (Headed head makes) limit given remaining remaining' old new
limit_headed head makes limit given remaining remaining' old mid new first s = record {
  taken = s.taken;
  passed = s.passed;
  written = front_headed head makes given s.taken old mid new first s.written;
}

-- a fault in the head itself: of whatever log it comes, this is a front
pub front_in_head : (head : List ℕ) (makes : Making) (given : Option (List ℕ)) (taken : List ℕ) (old new : Option (List ℕ)) → AppendsFront old new head
    → WritesFront (Headed head makes) given taken old new
front_in_head head makes given taken old new (front, rest, is_front, written) = λ spelled output is_log (below, is_made, is). (
  front,
  rest ++ below.text,
  ap (λ (o : Output). o.text) is ∙ ap (λ t. t ++ below.text) is_front ∙ append_assoc front rest below.text,
  written,
)

-- and nothing was read
pub stops_in_head : (head : List ℕ) (makes : Making) (given remaining old new : Option (List ℕ)) → AppendsFront old new head
    → StopsWithin (Headed head makes) given remaining remaining old new
stops_in_head head makes given remaining old new front =
    record { taken = []; consumed = Consumes-nil remaining; written = front_in_head head makes given [] old new front }

-- so of the whole log, where it is known
pub cut_in_head : (head : List ℕ) (makes : Making) (given remaining old new : Option (List ℕ)) → AppendsFront old new head
    → IfSome remaining (λ log. WritesFront (Headed head makes) given log old new)
cut_in_head head makes given None old new front = tt
cut_in_head head makes given (Some log) old new front = front_in_head head makes given log old new front

-- a run behind the head: how it ended, and what it wrote with the head
pub ended_headed : {T : Type 0} (limit : ℕ) (result : Result T RunFault) (log : Turn) (old mid new : Device)
    → mid.has_failed ≡ old.has_failed → Ended limit result log (record { old = mid; new = new })
    → Ended limit result log (record { old = old; new = new })
ended_headed limit result log old mid new unmarked e = record {
  short = e.short;
  too_long = e.too_long;
  read = e.read;
  read_unmarked = e.read_unmarked;
  write = e.write;
  write_unmarked = λ other. e.write_unmarked other ∙ unmarked;
  within = e.within;
}

pub ran_headed : (head : List ℕ) (makes : Making) (asks : Wanting) (given : Option (List ℕ)) (limit : ℕ) (result : Result Counts RunFault)
    → (log : Turn) (old mid new : Device) → Appends old.bytes mid.bytes head → mid.has_failed ≡ old.has_failed
    → Ran makes asks given limit result log (record { old = mid; new = new })
    → Ran (Headed head makes) asks given limit result log (record { old = old; new = new })
ran_headed head makes asks given limit result log old mid new first unmarked r = record {
  ended = ended_headed limit result log old mid new unmarked r.ended;
  writes = if_ok result _ _ (λ counts written. IfSome_then log.old.bytes written (λ (bytes : List ℕ) w.
      writes_headed head makes given bytes counts old.bytes mid.bytes new.bytes first w)) r.writes;
  memory = r.memory;
  at_limit = λ e. limit_headed head makes limit given log.old.bytes log.new.bytes old.bytes mid.bytes new.bytes first (r.at_limit e);
  cut_short = λ e. IfSome_then log.old.bytes (r.cut_short e) (λ (bytes : List ℕ) w. front_headed head makes given bytes old.bytes mid.bytes new.bytes first w);
  prefix = on_err_from result _ _ (stops_headed head makes given log.old.bytes log.new.bytes old.bytes mid.bytes new.bytes first) r.prefix;
}
