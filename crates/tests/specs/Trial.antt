-- The device for tests: what its calls set, and what it counts.
use Rattle.std.specs.Prelude.{◌≡◌, ◌+◌, ◌^◌, ℕ, Bool, List, true, false, take, length}
use Rattle.tests.specs.declared.trial.Trial.{Trial}
use Rattle.tests.specs.declared.trial.Full.{Full}
use Rattle.tests.specs.declared.trial.Full.TheVariants.{Fails}

-- the bytes that it gives
abbrev pub trial_given : Trial → List ℕ
trial_given trial = trial.given.items

-- how many bytes it takes
abbrev pub trial_room : Trial → ℕ
trial_room trial = length trial.room.items

abbrev pub trial_reads : Trial → ℕ
trial_reads trial = trial.reads

abbrev pub trial_flushes : Trial → ℕ
trial_flushes trial = trial.flushes

abbrev pub trial_held : Trial → ℕ
trial_held trial = trial.held

-- the bytes that it took
abbrev pub trial_written : Trial → List ℕ
trial_written trial = take trial.held trial.room.items

-- nothing was read or written, and no call is told to fail before the room is used up
pub record IsFresh (trial : Trial) : Type 0 where
  pub unread : trial.next ≡ 0
  pub unwritten : trial.held ≡ 0
  pub no_reads : trial.reads ≡ 0
  pub no_flushes : trial.flushes ≡ 0
  pub whole_pieces : trial.most + 1 ≡ 2 ^ 64
  pub no_failing_read : trial.failing_read ≡ 0
  pub fails_when_full : trial.full ≡ Fails
  pub no_failing_flush : trial.fails_flush ≡ false

-- the device with what calls set
abbrev set : ℕ → ℕ → Full → Bool → Trial → Trial
set most failing_read full fails_flush trial = record {
  given = trial.given;
  next = trial.next;
  most = most;
  reads = trial.reads;
  failing_read = failing_read;
  room = trial.room;
  held = trial.held;
  full = full;
  flushes = trial.flushes;
  fails_flush = fails_flush;
}

abbrev pub in_pieces_of : ℕ → Trial → Trial
in_pieces_of most trial = set most trial.failing_read trial.full trial.fails_flush trial

abbrev pub with_failing_read : ℕ → Trial → Trial
with_failing_read nth trial = set trial.most nth trial.full trial.fails_flush trial

abbrev pub with_full : Full → Trial → Trial
with_full full trial = set trial.most trial.failing_read full trial.fails_flush trial

abbrev pub with_failing_flush : Trial → Trial
with_failing_flush trial = set trial.most trial.failing_read trial.full true trial
