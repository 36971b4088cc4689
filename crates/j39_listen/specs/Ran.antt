-- What every run over a log promises: how it ended, what it took of the log, and what it wrote.
use Rattle.std.specs.Prelude.{◌≡◌, ◌≢◌, ◌<◌, ◌≤◌, ◌⊎◌, ℕ, Bool, true, List, Option, Result, Err, IfOk, IfSome, OnErr, OnOk, length}
use Rattle.j39_io.specs.Turn.{IsUnmarked, Turn}
use Rattle.j39_listen.specs.Asking.{AsksWithin, Wanting}
use Rattle.j39_listen.specs.Output.{Making}
use Rattle.j39_listen.specs.Run.{StopsAtLimit, StopsWithin, TakesWithin, Writes, WritesFront}
use Rattle.j39_listen.specs.declared.counts.Counts.{Counts}
use Rattle.j39_listen.specs.declared.running.RunFault.{RunFault}
use Rattle.j39_listen.specs.declared.running.RunFault.TheVariants.{Memory, Read, Write, TooLong}

-- how a run over a log of at most `limit` bytes ended, whatever it writes: each fault comes only where its device failed,
-- or the log is longer than the limit
pub record Ended {T : Type 0} (limit : ℕ) (result : Result T RunFault) (log out : Turn) : Type 0 where
  -- a run that ended well has read a log that is no longer than the limit
  pub short : OnOk result (IfSome log.old.bytes (λ bytes. length bytes ≤ limit))
  -- `TooLong` is said of a longer log alone
  pub too_long : result ≡ Err TooLong → IfSome log.old.bytes (λ bytes. limit < length bytes)
  -- `Read` leaves the mark of the reader set
  pub read : result ≡ Err Read → log.new.has_failed ≡ true
  -- under every other answer it is as it was
  pub read_unmarked : result ≢ Err Read → IsUnmarked log
  -- `Write` leaves the mark of the writer set
  pub write : result ≡ Err Write → out.new.has_failed ≡ true
  -- under every other answer it is as it was
  pub write_unmarked : result ≢ Err Write → IsUnmarked out
  -- the bytes that were taken pass the limit only where `TooLong` is answered
  pub within : result ≢ Err TooLong → TakesWithin limit log.old.bytes log.new.bytes

-- a run over a log on the given bus, or on that of its first frame: what it makes of the frames, and at which of them it
-- may want memory
pub record Ran (makes : Making) (asks : Wanting) (given : Option (List ℕ)) (limit : ℕ) (result : Result Counts RunFault)
    (log out : Turn) : Type 0 where
  pub ended : Ended limit result log out
  -- a run that ended well wrote what is made of the log's frames, and nothing else, and counted it
  pub writes : IfOk result (λ counts. IfSome log.old.bytes
      (λ bytes. Writes makes given bytes counts out.old.bytes out.new.bytes))
  -- want of memory comes only at a frame that asks for some
  pub memory : result ≡ Err Memory → AsksWithin asks given log.old.bytes log.new.bytes
  -- under `TooLong` the bytes that were taken pass the limit, and of the read that passes it nothing is handled
  pub at_limit : result ≡ Err TooLong
      → StopsAtLimit makes limit given log.old.bytes log.new.bytes out.old.bytes out.new.bytes
  -- before a fault of the writer it wrote a front of what is made of the whole log
  pub cut_short : result ≡ Err Write → IfSome log.old.bytes
      (λ bytes. WritesFront makes given bytes out.old.bytes out.new.bytes)
  -- before any fault it wrote a front of what is made of the bytes that were read
  pub prefix : OnErr result (StopsWithin makes given log.old.bytes log.new.bytes out.old.bytes out.new.bytes)

-- whether the writer has passed on all that it took, before a run and after it: what a run writes is passed on at the end
-- and before each read, so a reader of a live bus waits for no value
pub record PassesOn {T : Type 0} (result : Result T RunFault) (before after : Bool) : Type 0 where
  -- all of it after a run that ended well
  pub at_end : OnOk result (after ≡ true)
  -- and where a read ended the run, if all was passed on before the run
  pub at_reads : (result ≡ Err Read) ⊎ (result ≡ Err TooLong) → before ≡ true → after ≡ true
  -- so where memory was refused: what the lines before it made is passed on
  pub at_memory : result ≡ Err Memory → before ≡ true → after ≡ true
