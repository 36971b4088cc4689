-- What a program in C keeps of answers (J1939-21, 5.4.2), and its controller.
use Rattle.std.specs.Prelude.{◌≡◌, ◌<◌, ◌≤◌, ◌^◌, ℕ, ℤ, pos, List, length, if◌then◌else◌}
use Rattle.j39_application.specs.Answers.{Deed, IsTurn, LeadsOn, answers, calls, can_answer, takes, turned}
use Rattle.j39_application.specs.Shown.{answers_of}
use Rattle.j39_application.specs.declared.answers.Answers.{Answers}
use Rattle.j39_node.specs.History.{Asked}
use Rattle.j39_node.specs.History.Call.{TakeRequest}
use Rattle.j39_node.specs.declared.controller.Controller.{Controller}
use Rattle.j39_c.specs.Codes.{told}
use Rattle.j39_c.specs.Controllers.{Continues, IsAsked, Says, request_in}
use Rattle.j39_c.specs.declared.handed_out.PlainRequest.{PlainRequest}

-- 1: this request, the oldest that waited, is open from now on; 0: no box was free, and nothing changes, or none waited, and only time
-- passes
pub record TakesAsked (micros : ℕ) (code : ℤ) (x : PlainRequest) (old new : Answers × Controller) : Type 0 where
  pub full : length (answers_of old.0).requests ≡ (answers_of old.0).boxes → (code ≡ pos 0) × (new ≡ old)
  pub takes : length (answers_of old.0).requests < (answers_of old.0).boxes
      → answers_of new.0 ≡ takes micros (told code (request_in x)) (answers_of old.0)
  pub goes : length (answers_of old.0).requests < (answers_of old.0).boxes
      → Continues (TakeRequest (told code (request_in x))) old.1 new.1
  pub asker : Says (IsAsked code x) old.1

-- what an answer may be: of a group, 0 to 1,785 bytes
pub record CanKeep (pgn : ℕ) (bytes : List ℕ) : Type 0 where
  pub group : pgn < 2 ^ 18
  pub most : length bytes ≤ 1785

-- 1: the oldest open one like it that has no answer gets these bytes; 0: there is none
pub record KeepsAnswer (r : Asked) (bytes : List ℕ) (code : ℤ) (old new : Answers) : Type 0 where
  pub kept : answers_of new ≡ answers r bytes (answers_of old)
  pub known : code ≡ (if can_answer r bytes (answers_of old) then pos 1 else pos 0)

-- each that is open has its turn
abbrev pub TakesTurn : ℕ → Answers × Controller → Answers × Controller → Type 0
TakesTurn micros old new = (ds : List Deed) × IsTurn micros (answers_of old.0) ds
    × (answers_of new.0 ≡ turned micros ds (answers_of old.0)) × LeadsOn (calls ds) old.1 new.1
