-- A broadcast sends the frames of its message, in order and in time.
use Rattle.std.proofs.Common.{◌≡◌, ℕ, ◌+◌, ◌≤◌, nat_lt, List, [], ◌∷◌, ◌++◌, length, refl, sym, ap, ◌∙◌, subst, arith, Bool, true, false, cond}
use Rattle.std.proofs.lemmas.Bool.{cond_both, ltb-false}
use Rattle.std.proofs.lemmas.List.{map_push}
use Rattle.std.proofs.lemmas.List.FromFn.{map-range_with_len_more}
use Rattle.j39_frame.specs.Frame.{FrameRecord}
use Rattle.j39_transport.specs.Message.{MessageRecord, packets_of, as_broadcast}
use Rattle.j39_transport.specs.Cutting.{without_stamp, at_moment, cut_frame, first_frames}
use Rattle.j39_transport.specs.Protocol.{gap}
use Rattle.j39_transport.specs.Broadcasting.{next_moment, AreSpaced, PollAnswer, Send, WaitUntil, Done, answer_after, with_answer, BroadcastRecord, HasSent}
use Rattle.j39_transport.specs.Polling.{Polled, poll_step, PollStep}

spaced_more : (sent : List FrameRecord) (f : FrameRecord) → AreSpaced sent → next_moment sent ≤ f.stamp → AreSpaced (sent ++ f ∷ [])
spaced_more [] f s h = tt
spaced_more (g ∷ []) f s h = (h, tt)
spaced_more (g ∷ e ∷ sent) f s h = (s.0, spaced_more (e ∷ sent) f s.1 h)

pub next_after : (sent : List FrameRecord) (f : FrameRecord) → next_moment (sent ++ f ∷ []) ≡ f.stamp + gap
next_after [] f = refl
next_after (g ∷ []) f = refl
next_after (g ∷ e ∷ sent) f = next_after (e ∷ sent) f

one_more : (sent : List FrameRecord) (f : FrameRecord) → length (sent ++ f ∷ []) ≡ length sent + 1
one_more [] f = refl
one_more (g ∷ sent) f = omega (arith, one_more sent f)

-- the broadcast takes the step that the answer says, whatever frames it has sent
abbrev Goes : BroadcastRecord → List FrameRecord → ℕ → Polled → Type 0
Goes b sent now r = HasSent r.after (with_answer sent now r.answer)

sends : (b : BroadcastRecord) (sent : List FrameRecord) (now : ℕ) → HasSent b sent → b.due ≤ now
    → HasSent (record { message = b.message; count = b.count + 1; due = now + gap }) (sent ++ at_moment now (cut_frame (as_broadcast b.message) b.message b.count) ∷ [])
sends b sent now h d =
    let m : MessageRecord = b.message in
    let f : FrameRecord = at_moment now (cut_frame (as_broadcast m) m b.count) in
    let count : b.count ≡ length sent = h.count in
    let due : b.due ≡ next_moment sent = h.due in
    let n : length (sent ++ f ∷ []) ≡ length sent + 1 = one_more sent f in
    record {
      first = record {
        frames = map_push without_stamp sent f
            ∙ ((λ i. h.first.frames i ++ cut_frame (as_broadcast m) m (count i) ∷ [])
            ∙ (sym (map-range_with_len_more (cut_frame (as_broadcast m) m) 0 (length sent) (length sent) (omega arith))
            ∙ ap (first_frames (as_broadcast m) m) (sym n)));
        spaced = spaced_more sent f h.first.spaced (omega arith);
      };
      count = omega arith;
      due = sym (next_after sent f);
    }

goes : (b : BroadcastRecord) (sent : List FrameRecord) (now : ℕ) → HasSent b sent → Goes b sent now (poll_step b now)
unfolding poll_step
goes b sent now h =
    cond_both (nat_lt (packets_of b.message) b.count) _ _ (Goes b sent now) (λ t. h)
    (λ t. cond_both (nat_lt now b.due) _ _ (Goes b sent now) (λ u. h) (λ u. sends b sent now h (ltb-false _ _ u)))

answer_of_choice : (c : Bool) (x y : Polled) → (cond c x y).answer ≡ cond c x.answer y.answer
answer_of_choice true x y = refl
answer_of_choice false x y = refl

answers : (b : BroadcastRecord) (sent : List FrameRecord) (now : ℕ) → HasSent b sent → (poll_step b now).answer ≡ answer_after b.message sent now
unfolding poll_step
answers b sent now h =
    let m : MessageRecord = b.message in
    answer_of_choice (nat_lt (packets_of m) b.count) _ _
    ∙ (ap (cond (nat_lt (packets_of m) b.count) Done) (answer_of_choice (nat_lt now b.due) _ _)
    ∙ (λ i. cond (nat_lt (packets_of m) (h.count i)) Done
    (cond (nat_lt now (h.due i)) (WaitUntil (h.due i)) (Send (cut_frame (as_broadcast m) m (h.count i))))))

stays : (b : BroadcastRecord) (now : ℕ) → (poll_step b now).after.message ≡ b.message
unfolding poll_step
stays b now =
    cond_both (nat_lt (packets_of b.message) b.count) _ _ (λ (r : Polled). r.after.message ≡ b.message) (λ t. refl)
    (λ t. cond_both (nat_lt now b.due) _ _ (λ (r : Polled). r.after.message ≡ b.message) (λ u. refl) (λ u. refl))

pub has_sent : (b new : BroadcastRecord) (now : ℕ) (answer : PollAnswer) (sent : List FrameRecord) → PollStep b now answer new → HasSent b sent → HasSent new (with_answer sent now answer)
has_sent b new now answer sent s h =
    subst (λ (n : BroadcastRecord). HasSent n (with_answer sent now answer)) (sym s.after)
    (subst (λ (a : PollAnswer). HasSent (poll_step b now).after (with_answer sent now a)) (sym s.answers) (goes b sent now h))

pub is_answer : (b new : BroadcastRecord) (now : ℕ) (answer : PollAnswer) (sent : List FrameRecord) → PollStep b now answer new → HasSent b sent → answer ≡ answer_after b.message sent now
is_answer b new now answer sent s h = s.answers ∙ answers b sent now h

pub same_message : (b new : BroadcastRecord) (now : ℕ) (answer : PollAnswer) → PollStep b now answer new → new.message ≡ b.message
same_message b new now answer s = ap (λ (n : BroadcastRecord). n.message) s.after ∙ stays b now
