-- Messages of codes in packets that were announced and did not come whole (J1939-21, 5.10; J1939-73, 5.7).
use Rattle.std.specs.Prelude.{◌≡◌, ◌-◌, ◌&&◌, ℕ, Bool, false, List, Option, Some, None, Result, IfOk, IfSome, count_by, is_some, length, nat_lt}
use Rattle.std.specs.Result.{result_map_both}
use Rattle.j39_faults.specs.FaultGroups.{kind_of}
use Rattle.j39_frame.specs.Frame.{FrameRecord}
use Rattle.j39_io.specs.Turn.{Turn}
use Rattle.j39_log.specs.Log.{IsLog, frames_of}
use Rattle.j39_log.specs.Spelled.{Spelled}
use Rattle.j39_transport.specs.Announced.{announced_by}
use Rattle.j39_listen.specs.Asking.{Wanting}
use Rattle.j39_listen.specs.Counting.{capped}
use Rattle.j39_listen.specs.Heard.{AreHeardWith, Hearing}
use Rattle.j39_listen.specs.Output.{Making}
use Rattle.j39_listen.specs.Ran.{Ran}
use Rattle.j39_listen.specs.declared.counts.Counts.{Counts}
use Rattle.j39_listen.specs.declared.running.RunFault.{RunFault}
use Rattle.j39_fault_reports.specs.News.{is_fault_group}
use Rattle.j39_fault_reports.specs.declared.fault_news.run.FaultCounts.{FaultCounts}

-- a group of codes
abbrev pub is_code_group : Option ℕ → Bool
is_code_group None = false
is_code_group (Some pgn) = is_some (kind_of pgn)

-- a BAM or an RTS announces a message of codes
abbrev pub announces_codes : FrameRecord → Bool
announces_codes f = is_code_group (announced_by f)

-- a message of codes came in packets: one frame has 8 bytes at most
abbrev pub is_whole : Hearing → Bool
is_whole h = is_some (kind_of h.message.pgn) && nat_lt 8 (length h.message.bytes)

-- how many were announced in the frames, but for those that came whole: these were heard
abbrev pub broken_in : List FrameRecord → List Hearing → ℕ
broken_in F heard = capped (count_by announces_codes F) - capped (count_by is_whole heard)

-- so many were broken in the frames of a log
pub record AreBroken (given : Option (List ℕ)) (log : List ℕ) (n : ℕ) : Type 0 where
  pub spelled : List Spelled
  pub is_log : IsLog log spelled
  pub heard : List Hearing
  pub are_heard : AreHeardWith is_fault_group (frames_of given spelled) heard
  pub broken_is : n ≡ broken_in (frames_of given spelled) heard

-- what a run that tells faults counts as every run does
abbrev pub counts_in : Result FaultCounts RunFault → Result Counts RunFault
counts_in = result_map_both (λ told. told.counts) (λ fault. fault)

-- a run that tells faults ended so, as a run that makes this may, and counted the broken messages of its log
pub record ToldFaults (makes : Making) (asks : Wanting) (given : Option (List ℕ)) (limit : ℕ)
    (result : Result FaultCounts RunFault) (log out : Turn) : Type 0 where
  pub ran : Ran makes asks given limit (counts_in result) log out
  pub broken : IfOk result (λ told. IfSome log.old.bytes (λ bytes. AreBroken given bytes told.broken))
