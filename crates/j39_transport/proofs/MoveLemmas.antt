-- How an event moves a session, by what it is to the session.
use Rattle.std.proofs.Common.{◌≡◌, ℕ, suc, ◌+◌, Bool, true, false, if◌then◌else◌, ◌&&◌, ◌||◌, List, Option, Some, None, refl, ap, ◌∙◌, arith, nat_lt, ◌==◌}
use Rattle.j39_transport.specs.Key.{Key, limit}
use Rattle.j39_transport.specs.Events.{Event, announces, sends, grants, ends, number, payload, stamp}
use Rattle.j39_transport.specs.OpenAtEvent.{is_over, moved, is_late}
use Rattle.j39_transport.specs.Session.{SessionRecord, touched, grown}
use Rattle.j39_transport.specs.AssemblerStep as step
use Rattle.j39_transport.specs.AssemblerStep.{moves, left_by, packed}

abbrev pub moved_by : (A S G N : Bool) → (lim num st : ℕ) → List ℕ → SessionRecord → Option SessionRecord
moved_by A S G N lim num st d x =
    if N || ((A || S || G) && nat_lt (x.last + lim) st) then None
    else if S && num == suc x.count
    then (if suc x.count == x.packets then None else Some (grown (if A || S || G then st else x.last) d x))
    else Some (touched (if A || S || G then st else x.last) x)

pub moved_as : (k : Key) (e : Event) (x : SessionRecord) (A S G N : Bool) → announces k e ≡ A → sends k e ≡ S → grants k x.group e ≡ G → ends k x.group e ≡ N
    → moved k e x ≡ moved_by A S G N (limit k) (number e) (stamp e) (payload e) x
unfolding is_late
moved_as k e x A S G N a s g n = λ i. moved_by (a i) (s i) (g i) (n i) (limit k) (number e) (stamp e) (payload e) x

-- ---- each case computed

-- nothing of the session
pub moved_none : (k : Key) (e : Event) (x : SessionRecord) → announces k e ≡ false → sends k e ≡ false → grants k x.group e ≡ false → ends k x.group e ≡ false → moved k e x ≡ Some x
moved_none k e x a s g n = moved_as k e x false false false false a s g n

-- an end
pub moved_end : (k : Key) (e : Event) (x : SessionRecord) → announces k e ≡ false → ends k x.group e ≡ true → moved k e x ≡ None
moved_end k e x a n = moved_as k e x false (sends k e) (grants k x.group e) true a refl refl n

-- a CTS
pub moved_grant : (k : Key) (e : Event) (x : SessionRecord) → announces k e ≡ false → sends k e ≡ false → grants k x.group e ≡ true → ends k x.group e ≡ false
    → moved k e x ≡ (if nat_lt (x.last + limit k) (stamp e) then None else Some (touched (stamp e) x))
moved_grant k e x a s g n = moved_as k e x false false true false a s g n

-- a packet
pub moved_packet : (k : Key) (e : Event) (x : SessionRecord) → announces k e ≡ false → sends k e ≡ true → grants k x.group e ≡ false → ends k x.group e ≡ false
    → moved k e x ≡ packed (limit k) (number e) (payload e) (stamp e) (Some x)
unfolding moves
moved_packet k e x a s g n = moved_as k e x false true false false a s g n ∙ code (limit k) (number e) (stamp e) (payload e) x
  where
    code : (lim num st : ℕ) (d : List ℕ) (x : SessionRecord)
        → (if nat_lt (x.last + lim) st then None
        else if num == suc x.count
        then (if suc x.count == x.packets then None else Some (grown st d x))
        else Some (touched st x))
        ≡ packed lim num d st (Some x)
    code lim num st d x =
        go (nat_lt (x.last + lim) st) (num == suc x.count) (suc x.count == x.packets)
        ∙ ap (λ n. left_by (if nat_lt (x.last + lim) st then step.Late else if num == n then (if n == x.packets then step.Ends (grown st d x) else step.Grows (grown st d x)) else step.Stays (touched st x))) (let e : suc x.count ≡ x.count + 1 = omega arith in e)
      where
        go : (a b c : Bool) → (if a then None else if b then (if c then None else Some (grown st d x)) else Some (touched st x))
            ≡ left_by (if a then step.Late else if b then (if c then step.Ends (grown st d x) else step.Grows (grown st d x)) else step.Stays (touched st x))
        go true b c = refl
        go false true true = refl
        go false true false = refl
        go false false c = refl

abbrev pub over_by : (A S G N : Bool) → (lim st : ℕ) → SessionRecord → Bool
over_by A S G N lim st x = N || ((A || S || G) && nat_lt (x.last + lim) st)

-- a packet ends it where it is late
pub sent_over : (k : Key) (e : Event) (x : SessionRecord) → announces k e ≡ false → sends k e ≡ true → grants k x.group e ≡ false → ends k x.group e ≡ false
    → is_over k e x ≡ nat_lt (x.last + limit k) (stamp e)
unfolding is_late
sent_over k e x a s g n = λ i. over_by (a i) (s i) (g i) (n i) (limit k) (stamp e) x
