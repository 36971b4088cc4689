use Rattle.j39_node.proofs.Common.{[], ◌*◌, ◌++◌, ◌+◌, ◌∷◌, ◌≡◌, arith, At, Bool, Broadcast, busy, Call, false, idle, IsSteady, List, message_start, moment, nine, NoneTold, Ok, refl, since_take, suc, tells_broadcast, tells_transfer, transfer_accepted, zero, ℕ}
use Rattle.j39_node.proofs.ending_laws.an_example_of_steadiness.Goals as goal

-- takes that answer none, each a second after the one before
module _ (start : ℕ) (busy B : List Call) (taken : since_take busy B ≡ 0) (at : moment (busy ++ B) ≡ start) where
  taken_so : (n : ℕ) → (since_take (idle start n ++ busy) B ≡ 0) × (moment ((idle start n ++ busy) ++ B) ≡ start + n * 1000000)
  taken_so n = (grind arith, grind arith)

  idle_steady : (n : ℕ) → IsSteady 1000000 busy B → IsSteady 1000000 (idle start n ++ busy) B
  idle_steady zero h = h
  idle_steady (suc n) h = (idle_steady n h, ((let s = taken_so n in let a = s.0 in let b = s.1 in omega (arith, a, b)), refl))

idle_tells : (tells : Call → Bool) (start n : ℕ) (busy : List Call) → ((m : ℕ) → tells (At m (Rattle.j39_node.specs.History.Act.TakeFrame Rattle.std.proofs.Common.None)) ≡ false)
    → NoneTold tells busy → NoneTold tells (idle start n ++ busy)
idle_tells tells start zero busy k h = h
idle_tells tells start (suc n) busy k h = (k (start + suc n * 1000000), idle_tells tells start n busy k h)

pub returns-clause-steady : goal.returns-clause-steady
returns-clause-steady c =
    let later : List Call = busy ++ transfer_accepted ++ At 300000 (Broadcast 65226 nine (Ok 0)) ∷ [] in
    let h : IsSteady 1000000 later message_start = ((((((((((((tt, (omega arith, refl)), (omega arith, refl)), (omega arith, refl)), (omega arith, refl)), (omega arith, refl)), (omega arith, refl)), (omega arith, refl)), (omega arith, refl)), (omega arith, refl)), (omega arith, refl)), (omega arith, refl)), (omega arith, refl)) in
    idle_steady 610000 later message_start refl refl 334 h

pub returns-clause-not_told : goal.returns-clause-not_told
returns-clause-not_told c =
    let t : NoneTold (tells_transfer 0) busy = (refl, (refl, (refl, (refl, (refl, (refl, (refl, (refl, (refl, (refl, tt)))))))))) in
    let b : NoneTold tells_broadcast (busy ++ transfer_accepted) = (refl, (refl, (refl, (refl, (refl, (refl, (refl, (refl, (refl, (refl, (refl, tt))))))))))) in
    (idle_tells (tells_transfer 0) 610000 334 busy (λ m. refl) t, idle_tells tells_broadcast 610000 334 (busy ++ transfer_accepted) (λ m. refl) b)
