-- What a step leaves of one transfer.
use Rattle.j39_transfers.proofs.Common.{if◌then◌else◌, ◌∙◌, ◌≡◌, ◌≢◌, ◌||◌, ap, arith, Bool, breaks, cond_both, false, FrameRecord, gives_up, has_some, hears_in, is_left, is_over, is_spent, leaves_in, listens, ne_eqb, None, Option, refl, sends_in, Some, source_of, to, Transfer, true, ℕ}
use Rattle.j39_transport.specs.Frames as frames
use Rattle.j39_transport.specs.Sending.{aborted, acknowledged, cleared, Heard, hears, send_step, SenderRecord, sends_packet, SendState, Tick, ticks_in}
use Rattle.j39_transport.specs.Signals.{said_between, Signal}
use Rattle.j39_transport.specs.SenderNext.{granted_by}
use Rattle.j39_transfers.specs.Transfers.{ending_by, granted_after, heard_in, is_ended, spent_after}
use Rattle.j39_transfers.specs.declared.kinds.Ending.{Ending}
use Rattle.j39_transfers.specs.declared.kinds.Ending.TheVariants as how

-- to whom it goes, and its message, stay
abbrev pub IsSame : SenderRecord → SenderRecord → Type 0
IsSame s r = (r.destination ≡ s.destination) × (r.message ≡ s.message)

pub same_aborted : (reason : ℕ) (s : SenderRecord) → IsSame s (aborted reason s)
unfolding aborted
same_aborted reason s = (grind arith, grind arith)

same_hears : (o : Option Signal) (now : ℕ) (s : SenderRecord) → IsSame s (hears o now s)
unfolding hears cleared acknowledged aborted
same_hears o now s = (grind arith, grind arith)

pub same_heard_step : (s : SenderRecord) (f : FrameRecord) (now : ℕ) → IsSame s (send_step s (Heard f) now).after
unfolding send_step
same_heard_step s f now = same_hears (said_between s.destination s.message.source f) now s

pub same_ticked : (s : SenderRecord) (now : ℕ) → IsSame s (send_step s Tick now).after
unfolding send_step ticks_in sends_packet
same_ticked s now = (grind arith, grind arith)

abbrev pub IsKept : Transfer → Transfer → Type 0
IsKept x y = (to y ≡ to x) × (y.token ≡ x.token)

pub keeps_heard : (f : FrameRecord) (now : ℕ) (x : Transfer) → IsKept x (hears_in f now x)
keeps_heard f now x = cond_both (is_over x || is_spent x) x (listens f now x) (IsKept x) (λ e. (refl, refl)) (λ e. ((same_heard_step x.sender f now).0, refl))

pub keeps_broken : (e : Ending) (now : ℕ) (x : Transfer) → IsKept x (breaks e now x)
keeps_broken e now x = cond_both (is_over x) x (record x { broken = Some e; last = now }) (IsKept x) (λ i. (refl, refl)) (λ i. (refl, refl))

pub keeps_left : (gone : Option ℕ) (holder : ℕ → Option ℕ) (now : ℕ) (x : Transfer) → IsKept x (leaves_in gone holder now x)
keeps_left gone holder now x =
    cond_both (is_left gone holder x) (breaks how.Gone now x) (record x { name = holder (to x) }) (IsKept x) (λ e. keeps_broken how.Gone now x) (λ e. (refl, refl))

pub keeps_sent : (now : ℕ) (x : Transfer) → IsKept x (sends_in now x)
keeps_sent now x =
    cond_both (gives_up x) (aborted 5 x.sender) (send_step x.sender Tick now).after (λ (s : SenderRecord). IsKept x (record x { sender = s; last = now }))
    (λ e. ((same_aborted 5 x.sender).0, refl)) (λ e. ((same_ticked x.sender now).0, refl))

-- ---- a frame of another

pub unsaid : (s d : ℕ) (f : FrameRecord) → source_of f.id ≢ s → said_between s d f ≡ None
unfolding said_between frames.source_of
unsaid s d f n = let e = ne_eqb (source_of f.id) s n in grind (arith, e)

pub unsaid_to : (s d : ℕ) (f : FrameRecord) → frames.destination_of f.id ≢ d → said_between s d f ≡ None
unfolding said_between
unsaid_to s d f n = let e = ne_eqb (frames.destination_of f.id) d n in grind (arith, e)

pub not_ended : (st : SendState) (b : Option Ending) → has_some (ending_by st b) ≡ false → is_ended st ≡ false
not_ended st b e = grind (arith, e)

nothing_heard : (f : FrameRecord) (now : ℕ) (x : Transfer) → said_between x.sender.destination x.sender.message.source f ≡ None → is_over x ≡ false → listens f now x ≡ x
unfolding send_step hears
nothing_heard f now x e o =
    let s : heard_in f now x ≡ x.sender = ap (λ (q : Option Signal). hears q now x.sender) e in
    let g : granted_by x.sender (said_between x.sender.destination x.sender.message.source f) ≡ None = ap (granted_by x.sender) e in
    let n : (has_some (granted_by x.sender (said_between x.sender.destination x.sender.message.source f)) || is_ended (heard_in f now x).state) ≡ false =
    (λ i. has_some (g i) || is_ended (s i).state) ∙ not_ended x.sender.state x.broken o in
    λ i. (let y : Transfer = record x {
      sender = s i;
      granted = granted_after (g i) x.granted;
      spent = spent_after (g i) x.granted x.spent;
      last = if n i then now else x.last;
    } in y)

same_unsaid : (f : FrameRecord) (now : ℕ) (x : Transfer) → said_between x.sender.destination x.sender.message.source f ≡ None → hears_in f now x ≡ x
same_unsaid f now x u = go (is_over x) refl
  where
    go : (b : Bool) → is_over x ≡ b → (if b || is_spent x then x else listens f now x) ≡ x
    go true e = refl
    go false e = cond_both (is_spent x) x (listens f now x) (λ (y : Transfer). y ≡ x) (λ i. refl) (λ i. nothing_heard f now x u e)

pub same_heard : (f : FrameRecord) (now : ℕ) (x : Transfer) → source_of f.id ≢ to x → hears_in f now x ≡ x
same_heard f now x n = same_unsaid f now x (unsaid (to x) x.sender.message.source f n)

pub same_elsewhere : (f : FrameRecord) (now : ℕ) (x : Transfer) → frames.destination_of f.id ≢ x.sender.message.source → hears_in f now x ≡ x
same_elsewhere f now x n = same_unsaid f now x (unsaid_to (to x) x.sender.message.source f n)
