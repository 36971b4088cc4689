-- What is heard: a message of 1,785 bytes at most, and what is so of an answer.
use Rattle.j39_fault_reports.proofs.Common.{IfOk, OnOk, Result, Ok, Err, ◌≡◌, ◌≤◌, ◌∙◌, ℕ, true, false, Bool, List, [], ◌∷◌, ◌++◌, ap, arith, inl, inr, length, length-take, refl, sym, both_ways, FrameRecord, announcement_facts, Whole, joined_at, Event, at, Key, Hearing, IsHeardWith, frames_only, frame_new}
use Rattle.j39_transport.specs.Events.{announces, size}
use Rattle.j39_transport.specs.Events.Event.{Frame, Forget}

small_announced : (k : Key) (e : Event) → announces k e ≡ true → size e ≤ 1785
unfolding announces size
small_announced k (Frame f) h = (announcement_facts k f h).small
small_announced k (Forget t) h = absurd (both_ways false refl h)

whole_short : (E : List Event) (i : ℕ) (k : Key) (g : ℕ) (b : List ℕ) → Whole E i k g b → length b ≤ 1785
whole_short E i k g b w =
    let l = length-take (size (at E w.start)) (joined_at E w.places) in
    let s = small_announced k (at E w.start) w.chain.announced in
    let n = ap length w.bytes_are in
    omega arith

pub short_heard : (singles : ℕ → Bool) (F : List FrameRecord) (f : FrameRecord) (h : Hearing) → length f.bytes ≤ 8
    → IsHeardWith singles (F ++ f ∷ []) (length F) h → length h.message.bytes ≤ 1785
short_heard singles F f h short heard = elim heard.carried [
  | inl s ↦ (let n : length h.message.bytes ≡ length f.bytes = ap length (sym s.bytes_are ∙ ap (λ (x : FrameRecord). x.bytes) (frame_new F f)) in omega arith)
  | inr a ↦ whole_short (frames_only (F ++ f ∷ [])) (length F) a.key h.message.pgn h.message.bytes a.whole
]

-- what is so of an answer, and of good ones
pub both_ok : {T E : Type 0} {P R : T → Type 0} {Q : Type 0} (r : Result T E) → ((x : T) → P x → Q → R x) → IfOk r P → OnOk r Q → IfOk r R
both_ok (Ok x) f p q = f x p q
both_ok (Err e) f p q = tt
