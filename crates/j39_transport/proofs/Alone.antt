-- Where no third sends, all sessions and messages are of the one source: law `transfers`, without a third.
use Rattle.std.proofs.Common.{◌≡◌, ℕ, ◌<◌, not, Bool, true, false, ◌&&◌, List, [], ◌∷◌, Option, Some, None, refl, sym, ap, ◌∙◌, subst}
use Rattle.std.proofs.lemmas.Bool.{cond_both}
use Rattle.j39_transport.specs.Key.{Directed}
use Rattle.j39_transport.specs.Message.{MessageRecord}
use Rattle.j39_transport.specs.Net.{World, with_delivery, replied, carried, NetEvent, SenderTick, ReceiverTick, Next, Third, is_over, is_busy_with, happens, run, start, of_source, AreBetween, AreAlone, TransfersAloneLaw}
use Rattle.j39_transport.specs.Receiving.{RecvResult, partner_of, result_of, recv_step}
use Rattle.j39_transport.specs.Reception.{Reaction, takes_signal, takes_tick}
use Rattle.j39_transport.specs.Sending.{SenderRecord, SendResult, ticks_in, send_step, sent_by, is_idle}
use Rattle.j39_transport.specs.Signals.{Signal}
use Rattle.j39_transport.proofs.Delivering.{Stands, received, step_stands, start_stands}
use Rattle.j39_transport.proofs.SenderLemmas.{OwnIf, Ticked, ticked, own_can_say}
use Rattle.j39_transport.proofs.ThirdLemmas.{IfOpen, IfGiven, Keeps, keeps_signal, keeps_tick, one_of_source}

abbrev Is : ℕ → ℕ → Type 0
Is source v = v ≡ source

record IsAll (source : ℕ) (w : World) : Type 0 where
  session_is : IfOpen (Is source) w.receiver.session
  delivered_is : of_source source w.delivered ≡ w.delivered

one_more : (source : ℕ) (o : Option MessageRecord) (ms : List MessageRecord) → IfGiven (Is source) o → of_source source ms ≡ ms
    → of_source source (with_delivery o ms) ≡ with_delivery o ms
one_more source None ms g e = e
one_more source (Some m) ms g e = one_of_source source m ms g ∙ ap (λ (l : List MessageRecord). m ∷ l) e

replied_all : (source partner : ℕ) (w : World) (s : SenderRecord) (x : Reaction) (now : ℕ) (is_lost : Bool) → Keeps (Is source) x → IsAll source w
    → IsAll source (replied w s (result_of w.receiver.own partner x) now is_lost)
replied_all source partner w s x now is_lost k h = record { session_is = k.session_is; delivered_is = one_more source x.delivers w.delivered k.delivers_is h.delivered_is }

carried_all : (source to : ℕ) (w : World) (r : SendResult) (o : Option Signal) (now : ℕ) (is_lost answer_lost found : Bool) → source < 254 → to < 254 → Stands source to w
    → OwnIf w.sender.message (is_idle w.sender.state) o → IsAll source w → IsAll source (carried w r.after (sent_by w.sender o) now is_lost answer_lost found)
carried_all source to w r None now is_lost answer_lost found f t st own h = record { session_is = h.session_is; delivered_is = h.delivered_is }
carried_all source to w r (Some a) now true answer_lost found f t st own h = record { session_is = h.session_is; delivered_is = h.delivered_is }
carried_all source to w r (Some a) now false answer_lost found f t st own h =
    let n = st.ends_are in
    let x : Reaction = takes_signal (Directed w.sender.message.source w.receiver.own) (Some a) now found w.receiver.session in
    subst (λ (y : RecvResult). IsAll source (replied w r.after y now answer_lost))
    (sym (received source to w a now found f t n (own_can_say w.sender.message (is_idle w.sender.state) a n.long own)))
    (replied_all source source w r.after x now answer_lost
    (keeps_signal (Is source) (Directed w.sender.message.source w.receiver.own) (Some a) now found w.receiver.session n.source_is h.session_is) h)

abbrev IsNoThird : NetEvent → Type 0
IsNoThird (SenderTick now a b c) = Unit {0}
IsNoThird (ReceiverTick now a) = Unit {0}
IsNoThird (Next m) = Unit {0}
IsNoThird (Third f now a b c d) = ⊥

step_all : (source to : ℕ) (w : World) (e : NetEvent) → source < 254 → to < 254 → Stands source to w → IsNoThird e → IsAll source w → IsAll source (happens w e)
unfolding happens send_step recv_step
step_all source to w (SenderTick now is_lost answer_lost found) f t st a h =
    let k : Ticked w.sender (ticks_in w.sender.state now w.sender) = ticked w.sender w.sender.state now refl in
    carried_all source to w (ticks_in w.sender.state now w.sender) (ticks_in w.sender.state now w.sender).says now is_lost answer_lost found f t st k.says_own h
step_all source to w (ReceiverTick now is_lost) f t st a h =
    replied_all source (partner_of w.receiver.session) w w.sender (takes_tick now w.receiver.session) now is_lost (keeps_tick (Is source) now w.receiver.session h.session_is) h
step_all source to w (Next m) f t st a h = cond_both (is_over w.sender.state && not (is_busy_with w.sender.message.source w.receiver.session)) _ _ (IsAll source)
    (λ c. record { session_is = h.session_is; delivered_is = h.delivered_is }) (λ c. h)
step_all source to w (Third x now b c d e) f t st a h = absurd a

run_all : (source to : ℕ) (es : List NetEvent) (w : World) → source < 254 → to < 254 → AreBetween source to es → AreAlone es → Stands source to w → IsAll source w → IsAll source (run es w)
unfolding run
run_all source to [] w f t g a st h = h
run_all source to (SenderTick now x y z ∷ es) w f t g a st h =
    let e : NetEvent = SenderTick now x y z in
    run_all source to es (happens w e) f t g a (step_stands source to w e f t tt st) (step_all source to w e f t st tt h)
run_all source to (ReceiverTick now x ∷ es) w f t g a st h =
    let e : NetEvent = ReceiverTick now x in
    run_all source to es (happens w e) f t g a (step_stands source to w e f t tt st) (step_all source to w e f t st tt h)
run_all source to (Next m ∷ es) w f t g a st h =
    run_all source to es (happens w (Next m)) f t g.1 a (step_stands source to w (Next m) f t g.0 st) (step_all source to w (Next m) f t st tt h)
run_all source to (Third x now b c d e ∷ es) w f t g a st h = absurd a

pub alone : TransfersAloneLaw
unfolding start
alone source to f t m es h g a =
    (run_all source to es (start to m) f t g a (start_stands source to m h) (record { session_is = tt; delivered_is = refl })).delivered_is
