-- A sender sends the frames of its message.
use Rattle.std.proofs.Common.{◌≡◌, ℕ, ◌+◌, ◌≤◌, nat_lt, Option, IfSome, refl, sym, subst, inl, inr, arith}
use Rattle.std.proofs.lemmas.Bool.{cond_both}
use Rattle.j39_transport.specs.Cutting.{ToSend, announcement_of, packet_of, cut_frame}
use Rattle.j39_transport.specs.Key.{Directed}
use Rattle.j39_transport.specs.Message.{packets_of}
use Rattle.j39_transport.specs.Sending.{SenderRecord, SendState, SendResult, SendEvent, Tick, Heard, Idle, Waiting, Sending, Done, Failed, sends_packet, ticks_in, send_step, sent_by, SendStep, IsOwn}
use Rattle.j39_transport.specs.SenderModel.{IsState, IsSender}
use Rattle.j39_transport.specs.Signals.{written}
use Rattle.j39_transport.proofs.CuttingLemmas.{cut_packet}

abbrev AreOwn : SenderRecord → SendResult → Type 0
AreOwn s r = IfSome (sent_by s r.says) (IsOwn s)

own_tick : (s : SenderRecord) (st : SendState) (now : ℕ) → s.state ≡ st → IsSender s → AreOwn s (ticks_in st now s)
unfolding ticks_in sends_packet written cut_frame announcement_of packet_of
own_tick s Idle now e h = inl (0, omega arith, refl)
own_tick s (Waiting limit) now e h = cond_both (nat_lt (s.since + limit) now) _ _ (AreOwn s) (λ t. inr refl) (λ t. tt)
own_tick s (Sending next last) now e h =
    let g : IsState (packets_of s.message) (Sending next last) = subst (IsState (packets_of s.message)) e h.state in
    inl (next, own_few next last (packets_of s.message) g, sym (cut_packet (Directed s.message.source s.destination) s.message next g.0))
  where
    own_few : (a b c : ℕ) → (1 ≤ a) × (a ≤ b) × (b ≤ c) → a ≤ c
    own_few a b c g = let x : a ≤ b = g.1 in let y : b ≤ c = g.2 in omega arith
own_tick s Done now e h = tt
own_tick s (Failed reason) now e h = tt

-- what is answered at an event is the sender's own
pub sends_own : (old : SenderRecord) (event : SendEvent) (now : ℕ) (answer : Option ToSend) (new : SenderRecord)
    → IsSender old → SendStep old event now answer new → IfSome answer (IsOwn old)
unfolding send_step
sends_own old Tick now answer new h s = subst (λ (o : Option ToSend). IfSome o (IsOwn old)) (sym s.answers) (own_tick old old.state now refl h)
sends_own old (Heard f) now answer new h s = subst (λ (o : Option ToSend). IfSome o (IsOwn old)) (sym s.answers) tt
