-- Codes of one SPN and FMI are named by the same codes.
use Rattle.std.proofs.Common.{◌≡◌, ◌&&◌, ◌==◌, true, List, [], ◌∷◌, Some, refl, ap₂, if◌then◌else◌}
use Rattle.std.proofs.lemmas.Bool.{and_parts}
use Rattle.std.proofs.lemmas.Bool.Decides.{Decides-eqb}
use Rattle.j39_faults.specs.declared.code.Code.{Code}
use Rattle.j39_faults.specs.Changes.{is_same_fault, named_in}
use Rattle.j39_faults.specs.Sameness.{is_same_parameter}
use Rattle.j39_faults.proofs.SamenessLemmas.{decides_parameter}

-- the SPN and the FMI
pub same_fault : (a b : Code) → is_same_fault a b ≡ true → (a.parameter ≡ b.parameter) × (a.fmi ≡ b.fmi)
same_fault a b same =
    let parts = and_parts (is_same_parameter a.parameter b.parameter) (a.fmi == b.fmi) same in
    ((decides_parameter a.parameter b.parameter).0 parts.0, (Decides-eqb a.fmi b.fmi).0 parts.1)

pub named_same : (a b : Code) → is_same_fault a b ≡ true → (ks : List Code) → named_in ks a ≡ named_in ks b
named_same a b same [] = refl
named_same a b same (k ∷ ks) =
    let is = same_fault a b same in
    let first : is_same_fault k a ≡ is_same_fault k b =
    (λ i. is_same_parameter k.parameter (is.0 i) && k.fmi == is.1 i) in
    λ i. if first i then Some k else named_same a b same ks i

pub same_self : (a : Code) → is_same_fault a a ≡ true
same_self a = ap₂ (λ x y. x && y) ((decides_parameter a.parameter a.parameter).1 refl) ((Decides-eqb a.fmi a.fmi).1 refl)
