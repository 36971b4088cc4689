-- What hears nothing more comes to rest soon in a loop that ticks often: law `rests`.
use Rattle.std.proofs.Common.{◌≡◌, ℕ, zero, suc, ◌+◌, ◌-◌, ◌*◌, ◌<◌, ◌≤◌, ◌==◌, nat_lt, Bool, true, false, List, [], ◌∷◌, length, Option, Some, None, refl, sym, ap, subst, arith, eqb-true, if◌then◌else◌}
use Rattle.std.proofs.Math.Nat.{mul-le-mul_right, suc-mul}
use Rattle.std.proofs.lemmas.Bool.{cond_both, eqb-false, ltb-false}
use Rattle.j39_transport.specs.Liveness.{AreWithin, has_sent, has_received, last_of, ticked_receiver, ticked_sender, time_of, SenderRestsSoonLaw, ReceiverRestsSoonLaw}
use Rattle.j39_transport.specs.Message.{MessageRecord, IsLong, packets_of}
use Rattle.j39_transport.specs.Net.{is_over}
use Rattle.j39_transport.specs.Protocol.{timer_t3}
use Rattle.j39_transport.specs.Receiving.{ReceiverRecord, recv_step, new_receiver}
use Rattle.j39_transport.specs.Receiving as receiving
use Rattle.j39_transport.specs.Reception.{ReceptionRecord, Reaction, asks_again, granted_at, grants, limit_of, quiet, takes_tick}
use Rattle.j39_transport.specs.SenderModel.{IsState}
use Rattle.j39_transport.specs.Sending.{SenderRecord, SendResult, SendState, Idle, Waiting, Sending, Done, Failed, new_sender, send_step, sends_packet, ticks_in, waits}
use Rattle.j39_transport.proofs.Resting.{AsksFew, IsSound, all_few, all_sound, limit_most, new_sound, tick_sound}

-- ---- a sender

-- it is over behind the moment end at the latest, where it is ticked so from this moment on
EndsBy : ℕ → ℕ → ℕ → ℕ → SendState → Type 0
EndsBy end gap moment since Idle = moment + gap + 1250000 ≤ end
EndsBy end gap moment since (Waiting limit) = (moment ≤ end) × (since + 1250000 ≤ end)
EndsBy end gap moment since (Sending next last) = (packets : ℕ) × (packets + next ≡ last + 1) × (moment + packets * gap + 1250000 ≤ end)
EndsBy end gap moment since Done = Unit {0}
EndsBy end gap moment since (Failed reason) = Unit {0}

packet_ends : (end gap moment now next last : ℕ) (s : SenderRecord) → next ≤ last → moment ≤ now → now ≤ moment + gap
    → EndsBy end gap moment s.since (Sending next last)
    → EndsBy end gap now (sends_packet next last now s).after.since (sends_packet next last now s).after.state
unfolding sends_packet EndsBy
packet_ends end gap moment now next last s in_order later within (zero, here, by) = absurd (omega arith)
packet_ends end gap moment now next last s in_order later within (suc packets, here, by) =
    let product : suc packets * gap ≡ packets * gap + gap = suc-mul packets gap in
    let long : moment + (packets * gap + gap) + 1250000 ≤ end = subst (λ (n : ℕ). moment + n + 1250000 ≤ end) product by in
    of packets long here (next == last) refl
  where
    of : (packets : ℕ) → moment + (packets * gap + gap) + 1250000 ≤ end → suc packets + next ≡ last + 1 → (b : Bool) → (next == last) ≡ b
        → EndsBy end gap now (if b then now else s.since) (if b then Waiting timer_t3 else Sending (next + 1) last)
    of packets long here true is = (omega arith, omega arith)
    of packets long here false is = (packets, omega arith, omega arith)

tick_ends : (m : MessageRecord) (end gap moment now : ℕ) (s : SenderRecord) (st : SendState) → s.state ≡ st → IsState (packets_of m) st
    → moment ≤ now → now ≤ moment + gap → EndsBy end gap moment s.since st
    → EndsBy end gap now (ticks_in st now s).after.since (ticks_in st now s).after.state
unfolding ticks_in EndsBy
tick_ends m end gap moment now s Idle e h later within by = (omega arith, omega arith)
tick_ends m end gap moment now s (Waiting limit) e h later within by =
    cond_both (nat_lt (s.since + limit) now) _ _ (λ (r : SendResult). EndsBy end gap now r.after.since r.after.state)
    (λ t. tt)
    (λ t. let l : now ≤ s.since + limit = ltb-false _ _ t in
    subst (λ (x : SendState). EndsBy end gap now s.since x) (sym e) (omega arith, by.1))
tick_ends m end gap moment now s (Sending next last) e h later within by = packet_ends end gap moment now next last s h.1 later within by
tick_ends m end gap moment now s Done e h later within by = subst (λ (x : SendState). EndsBy end gap now s.since x) (sym e) tt
tick_ends m end gap moment now s (Failed reason) e h later within by = subst (λ (x : SendState). EndsBy end gap now s.since x) (sym e) tt

over_behind : (end gap moment : ℕ) (since : ℕ) (st : SendState) → EndsBy end gap moment since st → end < moment → is_over st ≡ true
unfolding EndsBy
over_behind end gap moment since Idle by behind = absurd (omega arith)
over_behind end gap moment since (Waiting limit) by behind = absurd (let n : moment ≤ end = by.0 in omega arith)
over_behind end gap moment since (Sending next last) (packets, here, by) behind = absurd (omega arith)
over_behind end gap moment since Done by behind = refl
over_behind end gap moment since (Failed reason) by behind = refl

sender_ends : (m : MessageRecord) (moments : List ℕ) (end gap moment : ℕ) (s : SenderRecord) → IsSound m s → EndsBy end gap moment s.since s.state
    → AreWithin gap moment moments → end < last_of moment moments → is_over (ticked_sender moments s).state ≡ true
unfolding has_sent send_step
sender_ends m [] end gap moment s sound by within behind = over_behind end gap moment s.since s.state by behind
sender_ends m (now ∷ moments) end gap moment s sound by within behind =
    sender_ends m moments end gap now (ticks_in s.state now s).after (tick_sound m s s.state now sound.message_is refl sound.state_is)
    (tick_ends m end gap moment now s s.state refl sound.state_is within.0 within.1 by) within.2 behind

-- all of its packets are left at most
begins_by : (p gap moment since : ℕ) (st : SendState) → IsState p st → since ≤ moment
    → EndsBy (moment + 1250000 + (p + 1) * gap) gap moment since st
unfolding EndsBy
begins_by p gap moment since Idle h b = let product : suc p * gap ≡ p * gap + gap = suc-mul p gap in omega (arith, product)
begins_by p gap moment since (Waiting limit) h b = (omega arith, omega arith)
begins_by p gap moment since (Sending next last) h b = (
  last + 1 - next,
  omega arith,
  let few : (last + 1 - next) * gap ≤ (p + 1) * gap = mul-le-mul_right gap (omega arith) in omega (arith, few),
)
begins_by p gap moment since Done h b = tt
begins_by p gap moment since (Failed reason) h b = tt

pub sender_soon : SenderRestsSoonLaw
sender_soon m to long es gap moment moments since within behind =
    let s : SenderRecord = has_sent es (new_sender m to) in
    let sound : IsSound m s = all_sound m es (new_sender m to) (new_sound m to) in
    sender_ends m moments (moment + 1250000 + (packets_of m + 1) * gap) gap moment s sound
    (begins_by (packets_of m) gap moment s.since s.state sound.state_is since) within behind

-- ---- a receiver

-- its session is over behind the moment end at the latest: so often it may still ask, or give up
record Rests (end gap moment : ℕ) (r : ReceptionRecord) : Type 0 where
  rounds : ℕ
  asked : rounds + r.asks ≡ 3
  few : r.asks ≤ 2
  by : r.message.last + rounds * (1250000 + gap) ≤ end
  not_behind : moment ≤ end
  heard : moment ≤ r.message.last + 1250000

RestsBy : ℕ → ℕ → ℕ → Option ReceptionRecord → Type 0
RestsBy end gap moment None = Unit {0}
RestsBy end gap moment (Some r) = Rests end gap moment r

asks_rests : (end gap moment now rounds : ℕ) (r : ReceptionRecord) → rounds + r.asks ≡ 3 → r.asks ≤ 2 → moment ≤ now → now ≤ moment + gap
    → r.message.last + rounds * (1250000 + gap) ≤ end → moment ≤ r.message.last + 1250000
    → RestsBy end gap now (asks_again now r).session
unfolding asks_again grants granted_at RestsBy
asks_rests end gap moment now zero r asked few later within by heard = absurd (omega arith)
asks_rests end gap moment now (suc rounds) r asked few later within by heard =
    let product : suc rounds * (1250000 + gap) ≡ rounds * (1250000 + gap) + (1250000 + gap) = suc-mul rounds (1250000 + gap) in
    let long : r.message.last + (rounds * (1250000 + gap) + (1250000 + gap)) ≤ end = subst (λ (n : ℕ). r.message.last + n ≤ end) product by in
    cond_both (r.asks == 2) _ _ (λ (x : Reaction). RestsBy end gap now x.session)
    (λ t. tt)
    (λ t. let n = eqb-false r.asks 2 t in record {
      rounds = rounds;
      asked = omega arith;
      few = omega arith;
      by = omega arith;
      not_behind = omega arith;
      heard = omega arith;
    })

tick_rests : (end gap moment now : ℕ) (o : Option ReceptionRecord) → moment ≤ now → now ≤ moment + gap → RestsBy end gap moment o
    → RestsBy end gap now (takes_tick now o).session
unfolding takes_tick RestsBy
tick_rests end gap moment now None later within by = tt
tick_rests end gap moment now (Some r) later within by = cond_both (nat_lt (r.message.last + limit_of r) now) _ _ (λ (x : Reaction). RestsBy end gap now x.session)
    (λ t. asks_rests end gap moment now by.rounds r by.asked by.few later within by.by by.heard)
    (λ t. let n : limit_of r ≤ 1250000 = limit_most r in let l : now ≤ r.message.last + limit_of r = ltb-false _ _ t in
    quiet_still n l by.few by.rounds by.asked by.by)
  where
    quiet_still : limit_of r ≤ 1250000 → now ≤ r.message.last + limit_of r → r.asks ≤ 2 → (rounds : ℕ) → rounds + r.asks ≡ 3
        → r.message.last + rounds * (1250000 + gap) ≤ end → Rests end gap now r
    quiet_still n l few zero asked by = absurd (omega arith)
    quiet_still n l few (suc rounds) asked by =
        let product : suc rounds * (1250000 + gap) ≡ rounds * (1250000 + gap) + (1250000 + gap) = suc-mul rounds (1250000 + gap) in
        let long : r.message.last + (rounds * (1250000 + gap) + (1250000 + gap)) ≤ end = subst (λ (k : ℕ). r.message.last + k ≤ end) product by in
        record { rounds = suc rounds; asked = asked; few = few; by = by; not_behind = omega arith; heard = omega arith }

receiver_ends : (moments : List ℕ) (end gap moment : ℕ) (r : ReceiverRecord) → RestsBy end gap moment r.session → AreWithin gap moment moments
    → end < last_of moment moments → (ticked_receiver moments r).session ≡ None
unfolding has_received recv_step RestsBy
receiver_ends [] end gap moment r by within behind = none r.session by
  where
    none : (o : Option ReceptionRecord) → RestsBy end gap moment o → o ≡ None
    none None by = refl
    none (Some q) by = absurd (let n : moment ≤ end = by.not_behind in omega arith)
receiver_ends (now ∷ moments) end gap moment r by within behind =
    receiver_ends moments end gap now (recv_step r receiving.Tick now true).after (tick_rests end gap moment now r.session within.0 within.1 by) within.2 behind

pub receiver_soon : ReceiverRestsSoonLaw
unfolding RestsBy
receiver_soon own es gap moments within behind =
    let r : ReceiverRecord = has_received es (new_receiver own) in
    receiver_ends moments (time_of r.session + 3 * (1250000 + gap)) gap (time_of r.session) r
    (all_by r.session (all_few es (new_receiver own) tt)) within behind
  where
    all_by : (o : Option ReceptionRecord) → AsksFew o → RestsBy (time_of o + 3 * (1250000 + gap)) gap (time_of o) o
    all_by None few = tt
    all_by (Some q) few = record {
      rounds = 3 - q.asks;
      asked = omega arith;
      few = few;
      by = let rest : (3 - q.asks) * (1250000 + gap) ≤ 3 * (1250000 + gap) = mul-le-mul_right (1250000 + gap) (omega arith) in omega (arith, rest);
      not_behind = omega arith;
      heard = omega arith;
    }
