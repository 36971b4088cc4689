-- How long a transfer waits for a driver that takes one frame at least, by what each take costs.
use Rattle.j39_node.proofs.Common.{Bool, age, ap, arith, others, suc, suc-mul, timer_t3, ℕ, ◌*◌, ◌+◌, ◌<◌, ◌≡◌, ◌≤◌, mul-add}
use Rattle.j39_node.proofs.EndSteps.{times_more}
use Rattle.j39_node.proofs.SteadyLaws.{most_others, one, turn_most, turn_more, turn_time, one_most}

-- ---- what the takes cost

-- so much time is paid for by takes at which a frame of it was due; since the last of these that was neither a claim nor an acknowledgment so
-- much
pub record Account (g n paid base waited since streak others t o : ℕ) (y : Bool) : Type 0 where
  pub base_most : base ≤ paid + n * g
  pub all_most : base + waited ≤ paid + n * g + since
  pub paid_most : paid ≤ others * (3 * g) + n * (2 * g) + streak
  pub streak_most : streak ≤ turn_time g t
  pub few : others ≤ 2 * o + one y

pub account_passes : (g n m paid base waited since streak others t o s : ℕ) (y : Bool) → n ≤ m → Account g n paid base waited since streak others t o y
    → Account g m paid base (waited + s) (since + s) streak others t o y
account_passes g n m paid base waited since streak others t o s y l h =
    let a = times_more n m g l in let b = times_more n m (2 * g) l in record {
      base_most = (let x = h.base_most in omega (arith, a, x));
      all_most = (let x = h.all_most in omega (arith, a, x));
      paid_most = (let x = h.paid_most in omega (arith, b, x));
      streak_most = h.streak_most;
      few = h.few;
    }

-- it is held
pub account_holds : (g n m paid base waited since streak others t o s : ℕ) (y : Bool) → suc n ≤ m → since + s ≤ g
    → Account g n paid base waited since streak others t o y → Account g m paid (base + (waited + s)) 0 (since + s) 0 others t o y
account_holds g n m paid base waited since streak others t o s y l p h =
    let a = times_more (suc n) m g l in let b = times_more (suc n) m (2 * g) l in
    let c = suc-mul n g in let d = suc-mul n (2 * g) in let e = turn_most g t in let k = h.streak_most in record {
      base_most = (let x = h.all_most in omega (arith, a, c, x, p));
      all_most = (let x = h.all_most in omega (arith, a, c, x));
      paid_most = (let x = h.paid_most in omega (arith, b, d, e, k, x));
      streak_most = omega arith;
      few = h.few;
    }

-- nothing of it is due at a take
pub account_rests : (g n paid base waited since streak others t o since_then t_then o_then : ℕ) (y y_then : Bool) → streak ≡ 0 → others ≤ 2 * o_then + one y_then
    → Account g n paid base waited since streak others t o y → Account g n paid base 0 since_then 0 others t_then o_then y_then
account_rests g n paid base waited since streak others t o since_then t_then o_then y y_then z l h = record {
  base_most = h.base_most;
  all_most = (let x = h.base_most in omega (arith, x));
  paid_most = (let x = h.paid_most in omega (arith, x, z));
  streak_most = omega arith;
  few = l;
}

-- a claim or an acknowledgment goes before it
pub account_steers : (g n paid base waited since streak others t o s : ℕ) (y : Bool) → t < 2 → since + s ≤ g
    → Account g n paid base waited since streak others t o y → Account g n (paid + g) base (waited + s) 0 (streak + g) others (suc t) o y
account_steers g n paid base waited since streak others t o s y l p h = record {
  base_most = (let x = h.base_most in omega (arith, x));
  all_most = (let x = h.all_most in omega (arith, x, p));
  paid_most = (let x = h.paid_most in omega (arith, x));
  streak_most = (let x = h.streak_most in let e = turn_more g t l in omega (arith, x, e));
  few = h.few;
}

-- another goes before it, or its own
pub account_goes : (g n m paid base waited since streak others t o s base_then waited_then o_then : ℕ) (y y_then : Bool) → n ≤ m → base_then + waited_then ≡ base + (waited + s)
    → since + s ≤ g → suc others ≤ 2 * o_then + one y_then
    → Account g n paid base waited since streak others t o y → Account g m (paid + g) base_then waited_then 0 0 (suc others) 0 o_then y_then
account_goes g n m paid base waited since streak others t o s base_then waited_then o_then y y_then i q p l h =
    let a = times_more n m g i in let b = times_more n m (2 * g) i in
    let d = suc-mul others (3 * g) in let e = turn_most g t in let k = h.streak_most in record {
      base_most = (let x = h.all_most in omega (arith, a, x, q, p));
      all_most = (let x = h.all_most in omega (arith, a, x, q, p));
      paid_most = (let x = h.paid_most in omega (arith, b, x, d, e, k));
      streak_most = omega arith;
      few = l;
    }

-- so it is no older than this
pub no_older : (g n k age paid base waited since streak others t o s : ℕ) (y : Bool) → n ≤ k → age ≤ k * timer_t3 + base + waited → since + s ≤ g
    → Account g n paid base waited since streak others t o y → age + s ≤ k * (timer_t3 + 3 * g) + (o + 1) * (6 * g)
no_older g n k age paid base waited since streak others t o s y l a p h =
    let b = h.all_most in let c = h.paid_most in let d = h.streak_most in let e = turn_most g t in
    let i = mul-add n g (2 * g) in let j = mul-add k timer_t3 (3 * g) in
    let u : n * (g + 2 * g) ≡ n * (3 * g) = ap (λ (x : ℕ). n * x) (omega arith) in
    let m = times_more n k (3 * g) l in
    let f = h.few in let v = one_most y in
    let q = most_others g o others (omega (arith, f, v)) in
    omega (arith, a, b, c, d, e, i, j, u, m, q, p)
