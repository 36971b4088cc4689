-- Another second that is remembered changes nothing of what was taken.
use Rattle.std.specs.Prelude.{IfOk}
use Rattle.j39_survey.proofs.Common.{ℕ, List, Option, Result, Ok, Err, OnErr}
use Rattle.j39_log.specs.declared.fast.last_second.LastSecond.{LastSecond}
use Rattle.j39_survey.specs.SurveySoFar.{HasTaken}
use Rattle.j39_survey.specs.declared.surveys.pieces.Pieces.{Pieces}
use Rattle.j39_survey.proofs.surveys.pieces.Pieces.take_line.Goals as goal

with_second : (pieces : Pieces) (second : LastSecond) (given : Option (List ℕ)) (taken : List ℕ) → HasTaken pieces given taken
    → HasTaken (record { splitter = pieces.splitter; survey = pieces.survey; second = second }) given taken
with_second pieces second given taken h = record {
  begun = h.begun;
  begins = h.begins;
  lines = h.lines;
  whole = h.whole;
  spelled = h.spelled;
  taken_is = h.taken_is;
  surveyed = h.surveyed;
}

if_ok : {E : Type 0} (pieces : Pieces) (second : LastSecond) (result : Result ℕ E) (P : ℕ → Option (List ℕ) → List ℕ → Type 0)
    → IfOk result (λ n. (given : Option (List ℕ)) (taken : List ℕ)
    → HasTaken (record { splitter = pieces.splitter; survey = pieces.survey; second = second }) given taken → P n given taken)
    → IfOk result (λ n. (given : Option (List ℕ)) (taken : List ℕ) → HasTaken pieces given taken → P n given taken)
if_ok pieces second (Ok n) P h = λ given taken t. h given taken (with_second pieces second given taken t)
if_ok pieces second (Err e) P h = h

on_err : {E : Type 0} (pieces : Pieces) (second : LastSecond) (result : Result ℕ E) (P : Option (List ℕ) → List ℕ → Type 0)
    → OnErr result ((given : Option (List ℕ)) (taken : List ℕ)
    → HasTaken (record { splitter = pieces.splitter; survey = pieces.survey; second = second }) given taken → P given taken)
    → OnErr result ((given : Option (List ℕ)) (taken : List ℕ) → HasTaken pieces given taken → P given taken)
on_err pieces second (Ok n) P h = h
on_err pieces second (Err e) P h = λ given taken t. h given taken (with_second pieces second given taken t)

pub returns-then-is_network_group-clause-asked : goal.returns-then-is_network_group-clause-asked
returns-then-is_network_group-clause-asked c = on_err c.args.self.now _ c.take_network.result _ c.take_network.ensures.asked

pub returns-clause-taken : goal.returns-clause-taken
returns-clause-taken c = if_ok c.args.self.now _ c.take_frame.result _ c.take_frame.ensures.taken

pub returns-clause-asked : goal.returns-clause-asked
returns-clause-asked c = on_err c.args.self.now _ c.take_frame.result _ c.take_frame.ensures.asked
