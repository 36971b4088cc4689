-- A receiver that was handed a frame took the step of it.
use Rattle.std.proofs.Common.{◌≡◌, ℕ, Bool, true, false, ◌||◌, Option, refl, ap, sym, ◌∙◌}
use Rattle.std.specs.Option.{is_some}
use Rattle.j39_frame.specs.Frame.{FrameRecord}
use Rattle.j39_transport.specs.Frames.{source_of}
use Rattle.j39_transport.specs.Key.{Directed}
use Rattle.j39_transport.specs.Reception.{ReceptionRecord, takes_signal}
use Rattle.j39_transport.specs.Receiving.{BoxedReceiver, ReceiverAnswer, Heard, HearStep, RecvResult, answer_in, lent_after, recv_step, result_of, said_to}
use Rattle.j39_transport.specs.ReceiverModel.{BuffersRecord, Lends, has_box, lent_by, reacted}
use Rattle.j39_transport.specs.Signals.{Signal}
use Rattle.j39_transport.specs.declared.reception.Step.{Step}
use Rattle.j39_transport.specs.declared.reception.Step.TheVariants.{Quiet, Says, Aborts, Delivers}

session_is : (step : Step) (b : BuffersRecord) → b.session ≡ (reacted step b).session
session_is Quiet b = refl
session_is (Says a) b = refl
session_is (Aborts a) b = refl
session_is (Delivers a) b = refl

-- where there was a box, there is one
box_kept : (a b : Bool) → b ≡ true → (a || b) ≡ true
box_kept true b e = refl
box_kept false b e = e

abbrev pub boxed : ℕ → BuffersRecord → BoxedReceiver
boxed own b = record { state = record { own = own; session = b.session }; has_box = has_box b; lent = lent_by b }

module _ (f : FrameRecord) (now own source : ℕ) (signal : Option Signal) (old new : BuffersRecord) (step : Step)
    (from : source ≡ source_of f.id) (says : signal ≡ said_to own f)
    (does : reacted step new ≡ takes_signal (Directed source own) signal now (has_box new) old.session) where
  stepped : result_of own source (reacted step new) ≡ (recv_step (record { own = own; session = old.session }) (Heard f) now (has_box new))
  unfolding recv_step
  stepped = ap (result_of own source) does ∙ (λ i. result_of own (from i) (takes_signal (Directed (from i) own) (says i) now (has_box new) old.session))

  pub hear_step : (answer : ReceiverAnswer) → answer ≡ answer_in (result_of own source (reacted step new))
      → has_box new ≡ (is_some new.session || has_box old) → Lends now step old new → HearStep (boxed own old) f now answer (boxed own new)
  hear_step answer e box lends = record {
    step = record {
      found = has_box new;
      after = ap (λ (s : Option ReceptionRecord). record { own = own; session = s }) (session_is step new) ∙ ap (λ (x : RecvResult). x.after) stepped;
      answers = e ∙ ap answer_in stepped;
    };
    finds = λ had. box ∙ box_kept (is_some new.session) (has_box old) had;
    box_is = box;
    lends = lends ∙ ap (λ (a : ReceiverAnswer). lent_after now a.delivers new.session (lent_by old)) (sym e);
  }
