-- Text that is written from its first byte to its last, part by part, and lines that wait to be written together.
use Rattle.std.specs.Prelude.{◌≡◌, ◌+◌, ◌++◌, ℕ, List, OnErr, OnOk, Result, length, take}
use Rattle.std.specs.List.{between}
use Rattle.j39_io.specs.Puts.{Puts}
use Rattle.j39_io.specs.Turn.{Turn}
use Rattle.j39_reports.specs.declared.head.Head.{Head}
use Rattle.j39_reports.specs.declared.waiting.Waiting.{Waiting}

-- the text stands from at up to end, and what precedes it is as it was
pub record WritesBehind (old new : List ℕ) (at end : ℕ) (text : List ℕ) : Type 0 where
  pub ends : at + length text ≡ end
  pub written : take end new ≡ take at old ++ text

-- what each entry of a message begins with
abbrev pub head_text : Head → List ℕ
head_text head = between head.from 192 head.block

-- what waits
abbrev pub waiting_text : Waiting → List ℕ
waiting_text waiting = take waiting.at waiting.block

-- behind what waited before came a text: what was written of both, and what waits now, are both; or a fault came, and a front of
-- both was written
pub record Gathers {T E : Type 0} (before text after : List ℕ) (result : Result T E) (sink : Turn) : Type 0 where
  pub out : List ℕ
  pub puts : Puts out result sink
  pub all : OnOk result (out ++ after ≡ before ++ text)
  pub front : OnErr result (out ≡ before ++ text)
