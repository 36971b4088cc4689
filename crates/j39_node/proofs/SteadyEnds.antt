-- That every transfer ends, to a driver that takes one frame at least in each g.
use Rattle.j39_node.proofs.Common.{age, all_replies, and_parts, ap, AreAnswered, arith, At, Bool, broadcast_from, Call, Controller, counts_for, destination_of, due, false, FrameRecord, has_some, if◌then◌else◌, Is, is_acknowledgment, is_apart, is_claim, is_open_to, is_over, is_reply, is_same, is_there, IsSteady, IsTrue, later, List, Message, moment, nat_eq, next_other, next_transfer, next_transfer_ended, None, NoneTold, not-false, not_both, Ok, open_to, Option, others, packets_of, passed_in, ready, refl, Reply, Running, since_take, slice_get, Some, step, subst, suc, sym, TakeFrame, taken_for, tells_transfer, timer_t3, Transfer, true, turns, Who, yields, ℕ, ◌&&◌, ◌*◌, ◌++◌, ◌+◌, ◌<◌, ◌||◌, ◌∙◌, ◌∷◌, ◌≡◌, ◌≢◌, ◌≤◌}
use Rattle.j39_node.proofs.KindLemmas.{kind_by, of_session_it, replies_it, steers_it}
use Rattle.j39_node.proofs.EndLaws.{DueTo, Pace, counts_is, ends_then, first_of}
use Rattle.j39_node.proofs.OpenLemmas.{none_open_due, turn_open}
use Rattle.j39_node.proofs.PortLemmas.{transfer_says}
use Rattle.j39_node.proofs.PromptLaws.{answered_from, takes}
use Rattle.j39_node.proofs.ReceptionLemmas.{no_reply}
use Rattle.j39_node.proofs.SoundLemmas.{FrameCase, no_transfer, none_other, turned}
use Rattle.j39_node.proofs.SoundLemmas.FrameCase.{claims, acknowledges, replies, sends as sends_one, packs, transfers}
use Rattle.j39_node.proofs.SteadyLaws.{few_turns, one, since_most, steers, there_by, turns_then, one_most}
use Rattle.j39_node.proofs.SteadySteps.{Account, account_goes, account_holds, account_passes, account_rests, account_steers, no_older}

-- ---- what a frame that isn't one of the transfer costs

-- a claim or an acknowledgment; a frame that counts; or a reply to an address to which no transfer is open, which where one of the
-- transfer is due doesn't follow another
data Kind (w : Who) (H : List Call) (now : ℕ) (f : FrameRecord) (is_due : Type 0) : Type 0 where
  steered : (is_due → turns H < 2) → turns (At now (TakeFrame (Some f)) ∷ H) ≡ suc (turns H) → counts_for w H f ≡ false
      → yields w (At now (TakeFrame (Some f)) ∷ H) ≡ yields w H → Kind w H now f is_due
  counted : turns (At now (TakeFrame (Some f)) ∷ H) ≡ 0 → counts_for w H f ≡ true → Kind w H now f is_due
  answered : turns (At now (TakeFrame (Some f)) ∷ H) ≡ 0 → counts_for w H f ≡ false → yields w (At now (TakeFrame (Some f)) ∷ H) ≡ true
      → (is_due → yields w H ≡ false) → Kind w H now f is_due

yields_is : (w : Who) (H : List Call) (now : ℕ) (f : FrameRecord) (a b : Bool) → (is_claim f || is_acknowledgment f) ≡ a → is_reply (all_replies w H) f ≡ b
    → yields w (At now (TakeFrame (Some f)) ∷ H) ≡ (if a then yields w H else b)
yields_is w H now f a b x y = λ i. if x i then yields w H else y i

-- then a transfer's frame is next
moves_then : (w : Who) (to : ℕ) (H : List Call) (now : ℕ) → DueTo w to H now → (m : Message) × (next_transfer w H now ≡ Some m)
moves_then w to H now d = go (next_transfer w H now) refl
  where
    go : (o : Option Message) → next_transfer w H now ≡ o → (m : Message) × (next_transfer w H now ≡ Some m)
    go None e = absurd (not_both _ (none_open_due w to H now d.1.0 e d.1.1) d.1.2)
    go (Some m) e = (m, e)

due_there : (w : Who) (to : ℕ) (H : List Call) (now : ℕ) → DueTo w to H now → is_there (next_other w H now) ≡ true
due_there w to H now d = there_by w H now d.0
    (λ e. (let x = moves_then w to H now d in let y = (none_other w H now e).1 in let z : None ≡ Some x.0 = sym y ∙ x.1 in absurd (cc)))

steered_by : (w : Who) (to : ℕ) (H : List Call) (now : ℕ) (f : FrameRecord) → AreAnswered w H → (c : FrameCase w H now f) → ((kind_by c).claim || (kind_by c).acknowledgment) ≡ true
    → (kind_by c).session ≡ false → Kind w H now f (DueTo w to H now)
steered_by w to H now f right c e k =
    let a = steers_it w H now f right c ∙ e in
    let t = no_transfer f (of_session_it w H now f right c ∙ k) in
    steered (λ d. few_turns w H now f c (due_there w to H now d) (steers w H now f right c) a) (turns_then H now f true a)
    (counts_is w H f true false _ a (no_reply (all_replies w H) f t) refl) (yields_is w H now f true false a (no_reply (all_replies w H) f t))

-- a frame that is no reply counts
plain_counts : (w : Who) (H : List Call) (f : FrameRecord) → (is_claim f || is_acknowledgment f) ≡ false → is_reply (all_replies w H) f ≡ false → counts_for w H f ≡ true
plain_counts w H f a r = counts_is w H f false false _ a r refl

-- to the destination of a transfer's frame one is open
open_there : (w : Who) (H : List Call) (now : ℕ) (m : Message) → AreAnswered w H → next_transfer w H now ≡ Some m → is_open_to w H m.destination ≡ true
open_there w H now m right e =
    let t = transfer_says w H now m right e in
    ap (λ (x : Message). is_open_to w H x.destination) (sym t.frame) ∙ ap has_some (turn_open w H now t.running t.turn_is)

kind_of : (w : Who) (to : ℕ) (H : List Call) (now : ℕ) (f : FrameRecord) → AreAnswered w H → FrameCase w H now f → Kind w H now f (DueTo w to H now)
kind_of w to H now f right (claims o e) = steered_by w to H now f right (claims o e) refl refl
kind_of w to H now f right (acknowledges m o h g e way) = steered_by w to H now f right (acknowledges m o h g e way) refl refl
kind_of w to H now f right (replies m o h n g e) = go (is_open_to w H (destination_of f.id)) refl
  where
    case : FrameCase w H now f
    case = replies m o h n g e

    a : (is_claim f || is_acknowledgment f) ≡ false
    a = steers_it w H now f right case

    r : is_reply (all_replies w H) f ≡ true
    r = replies_it w H now f right case

    silent : is_open_to w H (destination_of f.id) ≡ false → DueTo w to H now → yields w H ≡ false
    silent x d = by (yields w H) (turned w H now (Some Reply) n.1).2
      where
        there : destination_of f.id ≡ m.destination
        there = ap (λ (y : ℕ × Message). y.1.destination) e

        same_one : (p q : Option ℕ) → is_same p q ≡ true → p ≡ q
        same_one p q e = grind (arith, e)

        same_as : (t r : Option Message) (p q : Message) → t ≡ Some p → r ≡ Some q → is_apart t r ≡ false → p.destination ≡ q.destination
        same_as t r p q i j z =
            let that = and_parts (nat_eq p.group q.group) _ (not-false _ (sym (λ n. is_apart (i n) (j n)) ∙ z)) in
            same_one p.destination q.destination (and_parts (is_same p.destination q.destination) _ that.1).0

        apart : is_apart (next_transfer w H now) (slice_get (all_replies w H) 0) ≡ false → ⊥
        apart z =
            let y = moves_then w to H now d in
            let q = same_as (next_transfer w H now) (slice_get (all_replies w H) 0) y.0 m y.1 g z in
            not_both _ x (ap (is_open_to w H) (there ∙ sym q) ∙ open_there w H now y.0 right y.1)

        by : (y : Bool) → (y && ((ready w H now).message || ((ready w H now).packet || (ready w H now).transfer))) ≡ false → y ≡ false
        by false z = refl
        by true z = absurd (apart (last (ready w H now).message (ready w H now).packet (ready w H now).transfer z))
          where
            last : (p q s : Bool) → (p || (q || s)) ≡ false → s ≡ false
            last p q s i = grind (arith, i)

    go : (d : Bool) → is_open_to w H (destination_of f.id) ≡ d → Kind w H now f (DueTo w to H now)
    go true x = counted (turns_then H now f false a) (counts_is w H f false true true a r x)
    go false x = answered (turns_then H now f false a) (counts_is w H f false true false a r x) (yields_is w H now f false true a r) (silent x)
kind_of w to H now f right (sends_one x o h n g e) =
    let a = steers_it w H now f right (sends_one x o h n g e) in counted (turns_then H now f false a) (plain_counts w H f a (replies_it w H now f right (sends_one x o h n g e)))
kind_of w to H now f right (packs m o h n g e) =
    let a = steers_it w H now f right (packs m o h n g e) in counted (turns_then H now f false a) (plain_counts w H f a (replies_it w H now f right (packs m o h n g e)))
kind_of w to H now f right (transfers m o h n g e) =
    let a = steers_it w H now f right (transfers m o h n g e) in counted (turns_then H now f false a) (plain_counts w H f a (replies_it w H now f right (transfers m o h n g e)))

-- ---- what it pays

abbrev limit : ℕ → ℕ → ℕ → ℕ
limit g most o = most * (timer_t3 + 3 * g) + (o + 1) * (6 * g)

module _ (w : Who) (B : List Call) (g most to : ℕ) where
  record Paid (later : List Call) (n base waited streak : ℕ) : Type 0 where
    paid : ℕ
    others : ℕ
    account : Account g n paid base waited (since_take later B) streak others (turns (later ++ B)) (taken_for w later B) (yields w (later ++ B))

  -- a call by which no frame is taken, nor is none
  passes : (call : Call) (later : List Call) (n m base waited streak : ℕ) → takes call ≡ false → n ≤ m → Paid later n base waited streak
      → Paid (call ∷ later) m base (waited + step (later ++ B) (moment (call ∷ later ++ B))) streak
  passes (At now (TakeFrame answer)) later n m base waited streak e l h = absurd (let z : true ≡ false = e in cc)
  passes call later n m base waited streak e l h = record {
    paid = h.paid;
    others = h.others;
    account = account_passes g n m h.paid base waited (since_take later B) streak h.others (turns (later ++ B)) (taken_for w later B) (step (later ++ B) (moment (call ∷ later ++ B))) (yields w (later ++ B)) l h.account;
  }

  -- what is accounted behind a frame
  accounts : (now : ℕ) (f : FrameRecord) (later : List Call) (n paid base waited streak others t : ℕ) (b y : Bool) → turns (At now (TakeFrame (Some f)) ∷ later ++ B) ≡ t
      → counts_for w (later ++ B) f ≡ b → yields w (At now (TakeFrame (Some f)) ∷ later ++ B) ≡ y
      → Account g n paid base waited 0 streak others t (if b then suc (taken_for w later B) else taken_for w later B) y → Paid (At now (TakeFrame (Some f)) ∷ later) n base waited streak
  accounts now f later n paid base waited streak others t b y a d e h = record {
    paid = paid;
    others = others;
    account = subst (λ (x : ℕ). Account g n paid base waited 0 streak others x (taken_for w (At now (TakeFrame (Some f)) ∷ later) B) (yields w (At now (TakeFrame (Some f)) ∷ later ++ B))) (sym a)
        (subst (λ (x : ℕ). Account g n paid base waited 0 streak others t x (yields w (At now (TakeFrame (Some f)) ∷ later ++ B))) (sym (ap (λ (c : Bool). if c then suc (taken_for w later B) else taken_for w later B) d))
        (subst (λ (x : Bool). Account g n paid base waited 0 streak others t (if b then suc (taken_for w later B) else taken_for w later B) x) (sym e) h));
  }

  -- a frame of another is taken while nothing of it is due
  beside : (now : ℕ) (f : FrameRecord) (later : List Call) (n base waited : ℕ) → Kind w (later ++ B) now f (DueTo w to (later ++ B) now) → Paid later n base waited 0
      → Paid (At now (TakeFrame (Some f)) ∷ later) n base 0 0
  beside now f later n base waited (steered a b d e) h =
      accounts now f later n h.paid base 0 0 h.others _ false _ b d e
      (account_rests g n h.paid base waited (since_take later B) 0 h.others (turns (later ++ B)) (taken_for w later B) 0 _ _ (yields w (later ++ B)) _ refl h.account.few h.account)
  beside now f later n base waited (counted b d) h =
      accounts now f later n h.paid base 0 0 h.others _ true _ b d refl
      (account_rests g n h.paid base waited (since_take later B) 0 h.others (turns (later ++ B)) (taken_for w later B) 0 _ _ (yields w (later ++ B)) _ refl
      (let x = h.account.few in let y = one_most (yields w (later ++ B)) in omega (arith, x, y)) h.account)
  beside now f later n base waited (answered b d e i) h =
      accounts now f later n h.paid base 0 0 h.others _ false _ b d e
      (account_rests g n h.paid base waited (since_take later B) 0 h.others (turns (later ++ B)) (taken_for w later B) 0 _ _ (yields w (later ++ B)) _ refl
      (let x = h.account.few in let y = one_most (yields w (later ++ B)) in omega (arith, x, y)) h.account)

  -- and while one is
  before : (now : ℕ) (f : FrameRecord) (later : List Call) (n base waited streak : ℕ) → Kind w (later ++ B) now f (DueTo w to (later ++ B) now) → DueTo w to (later ++ B) now
      → since_take later B + step (later ++ B) now ≤ g → Paid later n base waited streak
      → (k : ℕ) × Paid (At now (TakeFrame (Some f)) ∷ later) n base (waited + step (later ++ B) now) k
  before now f later n base waited streak (steered a b d e) due p h = (
    streak + g,
    accounts now f later n (h.paid + g) base (waited + step (later ++ B) now) (streak + g) h.others _ false _ b d e
        (account_steers g n h.paid base waited (since_take later B) streak h.others (turns (later ++ B)) (taken_for w later B) (step (later ++ B) now) (yields w (later ++ B)) (a due) p h.account),
  )
  before now f later n base waited streak (counted b d) due p h = (
    0,
    accounts now f later n (h.paid + g) base (waited + step (later ++ B) now) 0 (suc h.others) _ true _ b d refl
        (account_goes g n n h.paid base waited (since_take later B) streak h.others (turns (later ++ B)) (taken_for w later B) (step (later ++ B) now) base (waited + step (later ++ B) now) _
        (yields w (later ++ B)) _ (omega arith) refl p
        (let x = h.account.few in let y = one_most (yields w (later ++ B)) in omega (arith, x, y)) h.account),
  )
  before now f later n base waited streak (answered b d e i) due p h = (
    0,
    accounts now f later n (h.paid + g) base (waited + step (later ++ B) now) 0 (suc h.others) _ false _ b d e
        (account_goes g n n h.paid base waited (since_take later B) streak h.others (turns (later ++ B)) (taken_for w later B) (step (later ++ B) now) base (waited + step (later ++ B) now) _
        (yields w (later ++ B)) _ (omega arith) refl p
        (let x = h.account.few in let y = ap one (i due) in omega (arith, x, y)) h.account),
  )

  -- its own frame
  owns : (now : ℕ) (f : FrameRecord) (later : List Call) (n m base waited streak base_then waited_then : ℕ) → (is_claim f || is_acknowledgment f) ≡ false → counts_for w (later ++ B) f ≡ true
      → since_take later B + step (later ++ B) now ≤ g → n ≤ m → base_then + waited_then ≡ base + (waited + step (later ++ B) now) → Paid later n base waited streak
      → Paid (At now (TakeFrame (Some f)) ∷ later) m base_then waited_then 0
  owns now f later n m base waited streak base_then waited_then a d p l e h =
      accounts now f later m (h.paid + g) base_then waited_then 0 (suc h.others) _ true _ (turns_then (later ++ B) now f false a) d refl
      (account_goes g n m h.paid base waited (since_take later B) streak h.others (turns (later ++ B)) (taken_for w later B) (step (later ++ B) now) base_then waited_then _
      (yields w (later ++ B)) _ l e p
      (let x = h.account.few in let y = one_most (yields w (later ++ B)) in omega (arith, x, y)) h.account)

  steady : Pace w B g most to since_take Paid (λ later. limit g most (taken_for w later B))
  steady = record {
    passes = passes;
    holds = λ when f later n m base waited streak l p h. record {
      paid = h.paid;
      others = h.others;
      account = account_holds g n m h.paid base waited (since_take later B) streak h.others (turns (later ++ B)) (taken_for w later B) (step (later ++ B) when) (yields w (later ++ B)) l p h.account;
    };
    rests = λ now later n base waited h. record {
      paid = h.paid;
      others = h.others;
      account = account_rests g n h.paid base waited (since_take later B) 0 h.others (turns (later ++ B)) (taken_for w later B) 0 _ _ (yields w (later ++ B)) _ refl h.account.few h.account;
    };
    beside = λ now f later n base waited right case h. beside now f later n base waited (kind_of w to (later ++ B) now f right case) h;
    before = λ now f later n base waited streak right case due p h. before now f later n base waited streak (kind_of w to (later ++ B) now f right case) due p h;
    goes = λ now f later n m base waited streak plain counts p l h. owns now f later n m base waited streak base (waited + step (later ++ B) now) plain counts p l refl h;
    waits = λ now f later n m base waited streak plain counts p l h. owns now f later n m base waited streak (base + (waited + step (later ++ B) now)) 0 plain counts p (omega (arith, l)) (omega arith) h;
    older = λ later n base waited streak age s l a p h.
        no_older g n most age h.paid base waited (since_take later B) streak h.others (turns (later ++ B)) (taken_for w later B) s (yields w (later ++ B)) l a p h.account;
  }

pub transfer_goes : (w : Who) (later earlier : List Call) (c : Controller) (g now priority group to k : ℕ) (bytes : List ℕ)
    → Is w (later ++ At now (Transfer priority group to bytes (Ok k)) ∷ earlier) c → NoneTold (tells_transfer k) later
    → IsSteady g later (At now (Transfer priority group to bytes (Ok k)) ∷ earlier)
    → age w (later ++ At now (Transfer priority group to bytes (Ok k)) ∷ earlier) < 9000000000000000
    → (packets_of (broadcast_from w group bytes) + 65) * (timer_t3 + 3 * g) + (taken_for w later (At now (Transfer priority group to bytes (Ok k)) ∷ earlier) + 1) * (6 * g)
    < passed_in later (At now (Transfer priority group to bytes (Ok k)) ∷ earlier)
    → (x : Running) × (open_to w to (later ++ At now (Transfer priority group to bytes (Ok k)) ∷ earlier) ≡ Some x) × (x.token ≡ k)
    × IsTrue (is_over x) × (next_transfer_ended w (later ++ At now (Transfer priority group to bytes (Ok k)) ∷ earlier) ≢ None)
transfer_goes w later earlier c g now priority group to k bytes is none paced short l =
    let B = At now (Transfer priority group to bytes (Ok k)) ∷ earlier in
    let m = broadcast_from w group bytes in
    let x = steady w B g (packets_of m + 65) to in
    ends_then w B g k to m since_take (Paid w B g (packets_of m + 65) to) (λ later. limit g (packets_of m + 65) (taken_for w later B)) x later is.answered none paced short
    (first_of w earlier g now priority group to k bytes since_take (Paid w B g (packets_of m + 65) to) (λ later. limit g (packets_of m + 65) (taken_for w later B)) x
    (answered_from w later B is.answered)
    (record { paid = 0; others = 0; account = record { base_most = omega arith; all_most = omega arith; paid_most = omega arith; streak_most = omega arith; few = omega arith } }))
    l (since_most g later B paced)
