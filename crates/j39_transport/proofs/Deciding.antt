-- With each frame a message is whole, or none is: law `whole_or_none`.
use Rattle.std.proofs.Common.{◌⊎◌, List, [], ◌∷◌, ◌++◌, sym, subst, inl, inr, append_assoc, append-nil}
use Rattle.j39_frame.specs.Frame.{FrameRecord}
use Rattle.j39_transport.proofs.AllKeys.{table_new}
use Rattle.j39_transport.proofs.AnswerLemmas.{answers_at}
use Rattle.j39_transport.proofs.StepLemmas.{kept_after, kept_forgotten}
use Rattle.j39_transport.specs.Answers.{AnswersAt, NoneWhole, Outcome, WholeBy}
use Rattle.j39_transport.specs.Answers.Outcome.{Ignored, Taken, Whole}
use Rattle.j39_transport.specs.Events.{Event}
use Rattle.j39_transport.specs.Events.Event.{Forget, Frame}
use Rattle.j39_transport.specs.Signals.{said_by}
use Rattle.j39_transport.specs.AssemblerLaws.{WholeOrNoneLaw}
use Rattle.j39_transport.specs.Message.{MessageRecord}
use Rattle.j39_transport.specs.Stands.{AreKept}
use Rattle.j39_transport.specs.AssemblerStep.{OpenMessagesRecord, answer, empty_state, state_after, state_without}

abbrev Stood : List Event → Type 0
Stood E = (a : OpenMessagesRecord) × AreKept E a

-- a state that stands for E can be taken on by whatever events
taken_on : (E es : List Event) → Stood E → Stood (E ++ es)
taken_on E [] h = subst Stood (sym (append-nil E)) h
taken_on E (Frame f ∷ es) h = subst Stood (append_assoc E (Frame f ∷ []) es)
    (taken_on (E ++ Frame f ∷ []) es (state_after h.0 f (said_by f), kept_after E f h.0 h.1))
taken_on E (Forget t ∷ es) h = subst Stood (append_assoc E (Forget t ∷ []) es)
    (taken_on (E ++ Forget t ∷ []) es (state_without h.0 t, kept_forgotten E t h.0 h.1))

decided_by : (E : List Event) (f : FrameRecord) (o : Outcome) → AnswersAt E f o → ((m : MessageRecord) × WholeBy E f m) ⊎ NoneWhole E f
decided_by E f (Whole source group bytes stamp) h = inl (record { source = source; pgn = group; bytes = bytes }, h.1)
decided_by E f Taken h = inr h.1
decided_by E f Ignored h = inr h.1

pub whole_or_none : WholeOrNoneLaw
whole_or_none E f =
    let s = taken_on [] E (empty_state, table_new) in
    decided_by E f (answer s.0 f (said_by f)) (answers_at E f s.0 s.1)
