-- A driver that comes in time takes a claim in time.
use Rattle.std.proofs.Common.{[], if◌then◌else◌, ◌&&◌, ◌++◌, ◌+◌, ◌-◌, ◌*◌, ◌<◌, ◌∙◌, ◌∷◌, ◌≡◌, ◌≤◌, ◌||◌, ◌⊎◌, ap, arith, Bool, false, inl, inr, List, nat_eq, nat_le, None, not, Option, refl, Some, subst, suc, sym, true, ℕ}
use Rattle.std.proofs.lemmas.Bool.{and_parts, cases_Bool, leb-true, or_left, or_right}
use Rattle.j39_frame.specs.Frame.{FrameRecord}
use Rattle.j39_address.specs.Claim.{claim_of}
use Rattle.j39_node.proofs.KindLemmas.{acknowledges_it, claims_it}
use Rattle.j39_node.proofs.SoundLemmas.{claim_is, claims_or_held, frame_case, FrameCase, stays_lost}
use Rattle.j39_node.proofs.SoundLemmas.FrameCase.{acknowledges, claims}
use Rattle.j39_node.specs.History.{address_after, Call, calls, delayed, is_acknowledgment, is_claim, is_larger, is_lost, Message, owes_claim, step, turns, Who}
use Rattle.j39_node.specs.History.Call.{At}
use Rattle.j39_node.specs.History.Act.{Again, Hear, TakeFrame}
use Rattle.j39_node.specs.Is.{AreAnswered, claim_due, claim_goes, gives_way, is_there, next_other}
use Rattle.j39_net.proofs.NetLemmas.{behind_it}
use Rattle.j39_node.proofs.Tests.{not_both}
use Rattle.j39_net.specs.Net.{ComesIn, Defends, InTime, TakesClaim}

-- ---- the next frame, where a claim is owed

claim_comes : (w : Who) (H : List Call) (now : ℕ) → owes_claim w H ≡ true → is_lost (address_after w H) ≡ false → gives_way w H now ≡ false → claim_goes w H now ≡ true
claim_comes w H now o l g = claim_is w H now g ∙ λ i. o i && (not (l i) || nat_eq (delayed w H - step H now) 0)

-- it is the claim, or another behind two claims or acknowledgments
record Gives (w : Who) (H : List Call) (f : FrameRecord) : Type 0 where
  pub claim : is_claim f ≡ false
  pub acknowledgment : is_acknowledgment f ≡ false
  pub turns : 2 ≤ turns H

plain : (w : Who) (H : List Call) (now : ℕ) (f : FrameRecord) → AreAnswered w H → FrameCase w H now f → gives_way w H now ≡ true
    → (is_claim f ≡ false) × (is_acknowledgment f ≡ false)
plain w H now f right (claims o e) g = absurd (not_both (not (gives_way w H now)) (ap not g) (and_parts (claim_due w H now) (not (gives_way w H now)) o).1)
plain w H now f right (acknowledges m o h k e way) g = absurd (not_both (gives_way w H now) way g)
plain w H now f right case g = (claims_it w H now f right case, acknowledges_it w H now f right case)

owed : (w : Who) (H : List Call) (now : ℕ) (f : FrameRecord) → AreAnswered w (At now (TakeFrame (Some f)) ∷ H) → owes_claim w H ≡ true
    → is_lost (address_after w H) ≡ false → (is_claim f ≡ true) ⊎ Gives w H f
owed w H now f a o l = go (cases_Bool (gives_way w H now))
  where
    case : FrameCase w H now f
    case = frame_case w H now f a.1

    go : (gives_way w H now ≡ true) ⊎ (gives_way w H now ≡ false) → (is_claim f ≡ true) ⊎ Gives w H f
    go (inl g) =
        let p = plain w H now f a.0 case g in
        inr (record { claim = p.0; acknowledgment = p.1; turns = leb-true 2 (turns H) (and_parts (nat_le 2 (turns H)) (is_there (next_other w H now)) g).0 })
    go (inr g) = elim (claims_or_held case) [
      | inl x ↦ inl (ap (λ (y : ℕ × Message). nat_eq y.1.group 60928) x.1)
      | inr x ↦ absurd (not_both (claim_goes w H now) x.0 (claim_comes w H now o l g))
    ]

some_goes : (w : Who) (H : List Call) (now : ℕ) → AreAnswered w (At now (TakeFrame None) ∷ H) → owes_claim w H ≡ true → is_lost (address_after w H) ≡ false → ⊥
some_goes w H now a o l = grind (arith, a, o, l)

-- ---- how far its driver is

-- by this moment a claim was taken in time; or none was taken, or one that the claim gave way to
data Stage (w : Who) (g when end : ℕ) (later B : List Call) : Type 0 where
  taken : TakesClaim (when + 2 * g) later → Stage w g when end later B
  waits : owes_claim w (later ++ B) ≡ true → end ≤ when + g → Stage w g when end later B
  given : owes_claim w (later ++ B) ≡ true → turns (later ++ B) ≡ 0 → end ≤ when + 2 * g → Stage w g when end later B

longer : (end : ℕ) (call : Call) (later : List Call) → TakesClaim end later → TakesClaim end (call ∷ later)
longer end call later t = record { later = call ∷ t.later; at = t.at; claim = t.claim; earlier = t.earlier; is = ap (λ l. call ∷ l) t.is; claims = t.claims; in_time = t.in_time }

takes_it : (w : Who) (g when end now : ℕ) (f : FrameRecord) (later B : List Call) → is_claim f ≡ true → now ≤ when + 2 * g
    → Stage w g when end (At now (TakeFrame (Some f)) ∷ later) B
takes_it w g when end now f later B e l = taken (record { later = []; at = now; claim = f; earlier = later; is = refl; claims = e; in_time = l })

-- another frame is taken
gives_it : (w : Who) (g when end now : ℕ) (f : FrameRecord) (later B : List Call) → Gives w (later ++ B) f → owes_claim w (later ++ B) ≡ true
    → end ≤ when + 2 * g → Stage w g when end (At now (TakeFrame (Some f)) ∷ later) B
gives_it w g when end now f later B x o l = given
    (ap (λ (b : Bool). if b then false else owes_claim w (later ++ B)) x.claim ∙ o)
    (λ i. if x.claim i || x.acknowledgment i then suc (turns (later ++ B)) else 0) l

-- the driver came
came : (w : Who) (g when end now : ℕ) (answer : Option FrameRecord) (later B : List Call) → AreAnswered w (At now (TakeFrame answer) ∷ (later ++ B))
    → is_lost (address_after w (later ++ B)) ≡ false → end ≤ now + g → Stage w g when now later B → Stage w g when end (At now (TakeFrame answer) ∷ later) B
came w g when end now answer later B a l p (taken t) = taken (longer (when + 2 * g) (At now (TakeFrame answer)) later t)
came w g when end now None later B a l p (waits o q) = absurd (some_goes w (later ++ B) now a o l)
came w g when end now None later B a l p (given o z q) = absurd (some_goes w (later ++ B) now a o l)
came w g when end now (Some f) later B a l p (waits o q) = elim (owed w (later ++ B) now f a o l) [
  | inl e ↦ takes_it w g when end now f later B e (omega (arith, q))
  | inr x ↦ gives_it w g when end now f later B x o (omega (arith, p, q))
]
came w g when end now (Some f) later B a l p (given o z q) = elim (owed w (later ++ B) now f a o l) [
  | inl e ↦ takes_it w g when end now f later B e q
  | inr x ↦ absurd (let t = x.turns in omega (arith, t, z))
]

-- anything else leaves it, as long as the claim is owed
leaves : (w : Who) (g when end : ℕ) (call : Call) (later B : List Call) → (owes_claim w (later ++ B) ≡ true → owes_claim w (call ∷ (later ++ B)) ≡ true)
    → turns (call ∷ (later ++ B)) ≡ turns (later ++ B) → Stage w g when end later B → Stage w g when end (call ∷ later) B
leaves w g when end call later B owes same (taken t) = taken (longer (when + 2 * g) call later t)
leaves w g when end call later B owes same (waits o q) = waits (owes o) q
leaves w g when end call later B owes same (given o z q) = given (owes o) (same ∙ z) q

kept : (w : Who) (H : List Call) (call : Call) → is_lost (address_after w (call ∷ H)) ≡ false → is_lost (address_after w H) ≡ false
kept w H call l = elim (cases_Bool (is_lost (address_after w H))) [
  | inl e ↦ absurd (not_both (is_lost (address_after w (call ∷ H))) l (stays_lost w H call e))
  | inr e ↦ e
]

kept_since : (w : Who) (later B : List Call) → is_lost (address_after w (later ++ B)) ≡ false → is_lost (address_after w B) ≡ false
kept_since w [] B l = l
kept_since w (call ∷ later) B l = kept_since w later B (kept w (later ++ B) call l)

-- the driver came before a moment
comes_by : (g start when end : ℕ) (E : List Call) → InTime start when E → ComesIn g start end E → end ≤ when + g
comes_by g start when end [] t p = omega (arith, t, p)
comes_by g start when end (At now (TakeFrame answer) ∷ E) t p = let a = t.0 in let b = p.0 in omega (arith, a, b)
comes_by g start when end (At now act ∷ E) t p = let a = t.0 in let b = comes_by g start now end E t.1 p in omega (arith, a, b)
comes_by g start when end (call ∷ E) t p = comes_by g start when end E t p

staged : (w : Who) (g start when end : ℕ) (later B : List Call) → AreAnswered w (later ++ B) → is_lost (address_after w (later ++ B)) ≡ false
    → ComesIn g start end (later ++ B) → ((end : ℕ) → ComesIn g start end B → end ≤ when + g) → owes_claim w B ≡ true → Stage w g when end later B
staged w g start when end [] B a l p first o = waits o (first end p)
staged w g start when end (At now (TakeFrame answer) ∷ later) B a l p first o =
    let k = kept w (later ++ B) (At now (TakeFrame answer)) l in came w g when end now answer later B a k p.0 (staged w g start when now later B a.0 k p.1 first o)
staged w g start when end (At now (Hear f) ∷ later) B a l p first o =
    leaves w g when end (At now (Hear f)) later B (or_left _ _) refl (staged w g start when end later B a.0 (kept w (later ++ B) (At now (Hear f)) l) p first o)
staged w g start when end (At now Again ∷ later) B a l p first o =
    leaves w g when end (At now Again) later B (λ z. refl) refl (staged w g start when end later B a.0 (kept w (later ++ B) (At now Again) l) p first o)
staged w g start when end (call ∷ later) B a l p first o =
    leaves w g when end call later B (λ z. z) refl (staged w g start when end later B a.0 (kept w (later ++ B) call l) p first o)

-- ---- a claim is answered

called : (w : Who) (H : List Call) (now : ℕ) (f : FrameRecord) → is_larger w (claim_of f) ≡ true → is_lost (address_after w H) ≡ false → owes_claim w (At now (Hear f) ∷ H) ≡ true
called w H now f e l = or_right (owes_claim w H) (calls w H now f) (grind (arith, e, l))

in_end : (w : Who) (g late when now : ℕ) (later B : List Call) → 2 * g < late → when + late ≤ now → Stage w g when now later B → TakesClaim (when + late) later
in_end w g late when now later B l m (taken t) =
    record { later = t.later; at = t.at; claim = t.claim; earlier = t.earlier; is = t.is; claims = t.claims; in_time = let a = t.in_time in omega (arith, a, l) }
in_end w g late when now later B l m (waits o q) = absurd (omega (arith, l, m, q))
in_end w g late when now later B l m (given o z q) = absurd (omega (arith, l, m, q))

pub defends : (w : Who) (H : List Call) (g late start now : ℕ) → AreAnswered w H → InTime start now H → ComesIn g start now H → is_lost (address_after w H) ≡ false
    → 2 * g < late → Defends (λ when. when + late) now w H
defends w H g late start now a t comes l less later E when f is larger past =
    let B = At when (Hear f) ∷ E in
    let stays = ap (λ G. is_lost (address_after w G)) (sym is) ∙ l in
    in_end w g late when now later B less past
    (staged w g start when now later B (subst (AreAnswered w) is a) stays (subst (ComesIn g start now) is comes)
    (λ end. comes_by g start when end E (behind_it start now when (Hear f) later E (subst (InTime start now) is t)))
    (called w E when f larger (kept w E (At when (Hear f)) (kept_since w later B stays))))
