-- What a program in C keeps for NAMEs (J1939-81, 4.2), and its controller.
use Rattle.std.specs.Prelude.{◌≡◌, ℕ, ℤ, pos, Option, Some, None, Result, Ok, Err, slice_get}
use Rattle.j39_application.specs.Outbox.{Errand, answer, keeps, tells}
use Rattle.j39_application.specs.Sending.{coded}
use Rattle.j39_application.specs.Shown.{outbox_of}
use Rattle.j39_application.specs.declared.letter.Settled.{Settled}
use Rattle.j39_application.specs.declared.letter.Settled.TheVariants.{HandedIn, Refused, Gone}
use Rattle.j39_application.specs.declared.outbox.Outbox.{Outbox}
use Rattle.j39_node.specs.declared.kinds.Refused.{Refused as Why}
use Rattle.j39_c.specs.Controllers.{IsRefusal}
use Rattle.j39_c.specs.declared.outbox.PlainSettled.{PlainSettled}

-- 1: this is the number of what is kept; else why it isn't
abbrev pub IsNumbered : ℤ → ℕ → Result ℕ Why → Type 0
IsNumbered code number (Ok n) = (code ≡ pos 1) × (number ≡ n)
IsNumbered code number (Err why) = IsRefusal why code

-- a message or a request to a NAME is kept behind the others, or refused, and then nothing changes
pub record Posts (micros name : ℕ) (errand : Errand) (code : ℤ) (number : ℕ) (old new : Outbox) : Type 0 where
  pub answered : IsNumbered code number (answer errand (outbox_of old))
  pub kept : outbox_of new ≡ keeps micros name errand (outbox_of old)

-- how one was settled: 1 handed in, under this token, 2 refused for good, and why, 3 gone
abbrev pub IsSettledSo : ℤ → PlainSettled → Settled → Type 0
IsSettledSo code x (HandedIn t) = (code ≡ pos 1) × (x.token ≡ coded t.way t.number) × (x.refusal ≡ pos 0)
IsSettledSo code x (Refused why) = (code ≡ pos 2) × (x.token ≡ 0) × IsRefusal why x.refusal
IsSettledSo code x Gone = (code ≡ pos 3) × (x.token ≡ 0) × (x.refusal ≡ pos 0)

-- that is in x, with its number; 0: none is left
abbrev pub IsSettled : ℤ → PlainSettled → Option (ℕ × Settled) → Type 0
IsSettled code x None = code ≡ pos 0
IsSettled code x (Some (number, how)) = (x.number ≡ number) × IsSettledSo code x how

-- the oldest that was settled is told, and its box is free
pub record TellsSettled (code : ℤ) (x : PlainSettled) (old new : Outbox) : Type 0 where
  pub oldest : IsSettled code x (slice_get (outbox_of old).settled 0)
  pub frees : outbox_of new ≡ tells (outbox_of old)
