-- What a call answers that accepts something: by whether the address is held, whether it may be sent, and whether there is no room.
use Rattle.j39_node.proofs.Common.{arith, if◌then◌else◌, ◌||◌, ◌↔◌, ◌≡◌, List, Call, Draft, BadValue, Bool, Err, false, Full, IsTrue, NoAddress, Ok, refl, Refused, Result, true, Who, ℕ, answer_to_send, answer_to_ask, answer_to_broadcast, answer_to_transfer, can_ask, holds, can_send, is_full, can_broadcast, length, can_transfer, request_for, accepted, is_asking, is_busy, all_transfers, open_ask, broadcasts, is_refused_now, is_tried}

abbrev pub answer_by : {T : Type 0} → Bool → Bool → Bool → T → Result T Refused
answer_by a b f x = if a then (if b then (if f then Err Full else Ok x) else Err BadValue) else Err NoAddress

pub answer_is : {T : Type 0} (x : T) {a b f l m n : Bool} → a ≡ l → b ≡ m → f ≡ n → answer_by a b f x ≡ answer_by l m n x
answer_is x p q r = λ i. answer_by (p i) (q i) (r i) x

-- it was accepted
abbrev pub Accepts : {T : Type 0} → Bool → Bool → Bool → T → T → Type 0
Accepts a b f x k = (a ≡ true) × (b ≡ true) × (f ≡ false) × (k ≡ x)

pub accepts : {T : Type 0} (a b f : Bool) (x k : T) → Ok k ≡ answer_by a b f x → Accepts a b f x k
accepts true true false x k e = (refl, refl, refl, (let z : k ≡ x = cc in z))
accepts a b f x k e = absurd (cc)

pub send_accepts : (w : Who) (H : List Call) (now k : ℕ) (d : Draft) → Ok k ≡ answer_to_send w H now d → Accepts (holds w H now) (can_send w d) (is_full w H) (length (accepted w H)) k
send_accepts w H now k d e = accepts (holds w H now) (can_send w d) (is_full w H) (length (accepted w H)) k e

pub ask_accepts : (w : Who) (H : List Call) (now group to k : ℕ) → Ok k ≡ answer_to_ask w H now group to
    → Accepts (holds w H now) (can_ask w group to) (is_full w H || is_asking (open_ask H)) (length (accepted w H)) k
ask_accepts w H now group to k e = accepts (holds w H now) (can_ask w group to) (is_full w H || is_asking (open_ask H)) (length (accepted w H)) k e

pub broadcast_accepts : (w : Who) (H : List Call) (now group k : ℕ) (bytes : List ℕ) → Ok k ≡ answer_to_broadcast w H now group bytes
    → Accepts (holds w H now) (can_broadcast group bytes) (is_busy w H) (length (broadcasts w H)) k
broadcast_accepts w H now group k bytes e = accepts (holds w H now) (can_broadcast group bytes) (is_busy w H) (length (broadcasts w H)) k e

pub transfer_accepts : (w : Who) (H : List Call) (now priority group to k : ℕ) (bytes : List ℕ) → Ok k ≡ answer_to_transfer w H now priority group to bytes
    → Accepts (holds w H now) (can_transfer w priority group to bytes) (is_refused_now w H now priority group to bytes) (length (all_transfers w H)) k
transfer_accepts w H now priority group to k bytes e = accepts (holds w H now) (can_transfer w priority group to bytes) (is_refused_now w H now priority group to bytes) (length (all_transfers w H)) k e

-- what is tried can be sent
tried_by : (a b f : Bool) (k : ℕ) (r : Result ℕ Refused) (last : Bool) → r ≡ answer_by a b f k → is_tried r last ≡ true → b ≡ true
tried_by a b f k r last e t = grind (arith, e, t)

pub transfer_tried : (w : Who) (H : List Call) (now priority group to : ℕ) (bytes : List ℕ) (r : Result ℕ Refused) (last : Bool) → r ≡ answer_to_transfer w H now priority group to bytes
    → is_tried r last ≡ true → can_transfer w priority group to bytes ≡ true
transfer_tried w H now priority group to bytes r last e t =
    tried_by (holds w H now) (can_transfer w priority group to bytes) (is_refused_now w H now priority group to bytes) (length (all_transfers w H)) r last e t

-- it is, where nothing stands against it
pub is_accepted : {T : Type 0} (a b f : Bool) (x : T) (answer : Result T Refused) → answer ≡ answer_by a b f x → IsTrue a → IsTrue b → (f ≡ true → ⊥) → answer ≡ Ok x
is_accepted a b f x answer e g i j = grind (arith, e, g, i, j)

pub refused_address : {T : Type 0} (a b f : Bool) (x : T) (answer : Result T Refused) → answer ≡ answer_by a b f x → (answer ≡ Err NoAddress ↔ (IsTrue a → ⊥))
refused_address a b f x answer e = grind (arith, e)

pub refused_value : {T : Type 0} (a b f : Bool) (x : T) (answer : Result T Refused) → answer ≡ answer_by a b f x
    → (answer ≡ Err BadValue ↔ (IsTrue a × (IsTrue b → ⊥)))
refused_value a b f x answer e = grind (arith, e)

-- there is no room where this is so
pub refused_full : {T : Type 0} {P : Type 0} (a b f : Bool) (x : T) (answer : Result T Refused) → answer ≡ answer_by a b f x → (f ≡ true → P) → (f ≡ false → P → ⊥)
    → (answer ≡ Err Full ↔ (IsTrue a × IsTrue b × P))
refused_full a b f x answer e g i = grind (arith, e, g, i)

-- a request is a message that may be sent
pub sendable : (w : Who) (group to : ℕ) → can_ask w group to ≡ true → can_send w (request_for group to) ≡ true
sendable w group to e = grind (arith, e)
