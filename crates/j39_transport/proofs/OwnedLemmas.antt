-- A sender goes on with its message.
use Rattle.std.proofs.Common.{◌≡◌, ℕ, Option, None, Some, refl, sym, ap, ◌∙◌}
use Rattle.j39_transport.specs.Cutting.{ToSend}
use Rattle.j39_transport.specs.Message.{MessageRecord}
use Rattle.j39_transport.specs.Sending.{SenderRecord, SendEvent, Tick, Heard, send_step, hears, SendStep}
use Rattle.j39_transport.specs.SenderModel.{sender_of}
use Rattle.j39_transport.specs.Signals.{Signal, said_between}
use Rattle.j39_transport.specs.declared.sender.Course.{Course}
use Rattle.j39_transport.proofs.SenderLemmas.{ticked, hears_signal}

keeps_heard : (s : SenderRecord) (o : Option Signal) (now : ℕ) → (hears o now s).message ≡ s.message
unfolding hears
keeps_heard s None now = refl
keeps_heard s (Some a) now = (hears_signal s a now).message_is

keeps : (s : SenderRecord) (e : SendEvent) (now : ℕ) → (send_step s e now).after.message ≡ s.message
unfolding send_step
keeps s Tick now = (ticked s s.state now refl).message_is
keeps s (Heard f) now = keeps_heard s (said_between s.destination s.message.source f) now

-- the sender of its message, so far with it, is the sender again
pub again : (old s : SenderRecord) (m own : MessageRecord) (k : Course) → sender_of own k ≡ old → m ≡ old.message
    → s ≡ sender_of m k → s ≡ old
again old s m own k view message is =
    is ∙ ap (λ (x : MessageRecord). sender_of x k) (message ∙ sym (ap (λ (r : SenderRecord). r.message) view)) ∙ view

-- what a step made of it, with its own message again, is what the step made
pub goes_on : (old s new : SenderRecord) (own : MessageRecord) (j k : Course) (e : SendEvent) (now : ℕ) (a : Option ToSend)
    → sender_of own j ≡ old → s ≡ old → SendStep s e now a new → sender_of new.message k ≡ new → sender_of own k ≡ new
goes_on old s new own j k e now a view is step made =
    ap (λ (m : MessageRecord). sender_of m k)
    (ap (λ (r : SenderRecord). r.message) (view ∙ sym is)
    ∙ sym (ap (λ (r : SenderRecord). r.message) step.after ∙ keeps s e now)) ∙ made
