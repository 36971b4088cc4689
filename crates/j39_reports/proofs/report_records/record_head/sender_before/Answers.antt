-- The parts, one before the other.
use Rattle.j39_reports.proofs.Common.{List, ℕ, ◌≡◌, ◌++◌, ◌∷◌, [], refl, subst, append_assoc, before_then, WritesBefore}
use Rattle.j39_reports.proofs.report_records.record_head.sender_before.Goals as goal

regroup : (old new : List ℕ) (end start : ℕ) (address destination name : List ℕ)
    → WritesBefore old new end start (address ++ ((44 ∷ []) ++ (destination ++ ((44 ∷ []) ++ name))))
    → WritesBefore old new end start (address ++ (44 ∷ []) ++ destination ++ (44 ∷ []) ++ name)
regroup old new end start address destination name written =
    let same : address ++ ((44 ∷ []) ++ (destination ++ ((44 ∷ []) ++ name))) ≡ address ++ (44 ∷ []) ++ destination ++ (44 ∷ []) ++ name = simp append_assoc refl in
    subst (λ (text : List ℕ). WritesBefore old new end start text) same written

pub returns-clause-written : goal.returns-clause-written
returns-clause-written c =
    regroup _ _ _ _ _ _ _
    (before_then _ _ _ _ _ _ _ _ (before_then _ _ _ _ _ _ _ _ (before_then _ _ _ _ _ _ _ _ (before_then _ _ _ _ _ _ _ _
    c.name_before-name.ensures.written c.byte_before-second.ensures) c.destination_before-destination.ensures.written)
    c.byte_before-first.ensures) c.hex_before.ensures.written)
