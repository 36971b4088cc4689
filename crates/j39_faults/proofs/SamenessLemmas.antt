-- The test of what two messages tell is true exactly where they tell the same.
use Rattle.std.proofs.Common.{◌≡◌, ℕ, List, [], ◌∷◌, Bool, Option, Some, None, refl, ap, option_map}
use Rattle.std.specs.Bool.{Decides}
use Rattle.std.proofs.lemmas.Bool.Decides.{Decides-and, Decides-eqb}
use Rattle.std.proofs.lemmas.Slice.Eq.{bytes_eq-Decides}
use Rattle.j39_faults.specs.declared.code.Candidates.{Candidates}
use Rattle.j39_faults.specs.declared.code.Code.{Code}
use Rattle.j39_faults.specs.declared.code.Parameter.{Parameter}
use Rattle.j39_faults.specs.declared.code.Parameter.TheVariants.{Known, OneOf}
use Rattle.j39_faults.specs.declared.lamps.Lamps.{Lamps}
use Rattle.j39_faults.specs.declared.conversion.Version.{Version}
use Rattle.j39_faults.specs.Conversions.{codes_by}
use Rattle.j39_faults.specs.LampBits.{lamps_of}
use Rattle.j39_faults.specs.Sameness.{is_same_code, is_same_count, is_same_parameter, is_same_spns, said_by, same_codes, same_lamps, tells_same}
use Rattle.j39_faults.specs.Text.{lamps_text}

decides_as : {P Q : Type 0} (r : Bool) → Decides r P → (P → Q) → (Q → P) → Decides r Q
decides_as r d to from = (λ is. to (d.0 is), λ q. d.1 (from q))

decides_spns : (a b : Candidates) → Decides (is_same_spns a b) (a ≡ b)
decides_spns a b =
    decides_as _ (Decides-and _ _ (Decides-and _ _ (Decides-eqb a.version_1 b.version_1) (Decides-eqb a.version_2 b.version_2)) (Decides-eqb a.version_3 b.version_3))
    (λ same. (λ i. record { version_1 = same.0.0 i; version_2 = same.0.1 i; version_3 = same.1 i }))
    (λ same. ((ap (λ (x : Candidates). x.version_1) same, ap (λ (x : Candidates). x.version_2) same), ap (λ (x : Candidates). x.version_3) same))

pub decides_parameter : (a b : Parameter) → Decides (is_same_parameter a b) (a ≡ b)
decides_parameter (Known a) (Known b) = decides_as _ (Decides-eqb a b) (λ same. ap Known same) (λ same. cc)
decides_parameter (Known a) (OneOf b) = (λ is. cc, λ same. cc)
decides_parameter (OneOf a) (Known b) = (λ is. cc, λ same. cc)
decides_parameter (OneOf a) (OneOf b) = decides_as _ (decides_spns a b) (λ same. ap OneOf same) (λ same. cc)

decides_count : (a b : Option ℕ) → Decides (is_same_count a b) (a ≡ b)
decides_count None None = (λ is. refl, λ same. refl)
decides_count None (Some b) = (λ is. cc, λ same. cc)
decides_count (Some a) None = (λ is. cc, λ same. cc)
decides_count (Some a) (Some b) = decides_as _ (Decides-eqb a b) (λ same. ap (λ (x : ℕ). Some x) same) (λ same. cc)

decides_code : (a b : Code) → Decides (is_same_code a b) (a ≡ b)
decides_code a b =
    decides_as _ (Decides-and _ _ (Decides-and _ _ (decides_parameter a.parameter b.parameter) (Decides-eqb a.fmi b.fmi)) (decides_count a.count b.count))
    (λ same. (λ i. record { parameter = same.0.0 i; fmi = same.0.1 i; count = same.1 i }))
    (λ same. ((ap (λ (x : Code). x.parameter) same, ap (λ (x : Code). x.fmi) same), ap (λ (x : Code). x.count) same))

decides_codes : (xs ys : List Code) → Decides (same_codes xs ys) (xs ≡ ys)
decides_codes [] [] = (λ is. refl, λ same. refl)
decides_codes [] (y ∷ ys) = (λ is. cc, λ same. cc)
decides_codes (x ∷ xs) [] = (λ is. cc, λ same. cc)
decides_codes (x ∷ xs) (y ∷ ys) =
    decides_as _ (Decides-and _ _ (decides_code x y) (decides_codes xs ys)) (λ same. (λ i. same.0 i ∷ same.1 i)) (λ same. (cc, cc))

decides_lamps : (a b : Option Lamps) → Decides (same_lamps a b) (option_map lamps_text a ≡ option_map lamps_text b)
decides_lamps None None = (λ is. refl, λ same. refl)
decides_lamps None (Some b) = (λ is. cc, λ same. cc)
decides_lamps (Some a) None = (λ is. cc, λ same. cc)
decides_lamps (Some a) (Some b) = decides_as _ (bytes_eq-Decides (lamps_text a) (lamps_text b)) (λ same. ap (λ (x : List ℕ). Some x) same) (λ same. cc)

pub decides : (v : Option Version) (a b : List ℕ) → Decides (tells_same v a b) (said_by v a ≡ said_by v b)
decides v a b =
    decides_as _ (Decides-and _ _ (decides_lamps (lamps_of a) (lamps_of b)) (decides_codes (codes_by v a) (codes_by v b)))
    (λ same. (λ i. record { lamps = same.0 i; codes = same.1 i }))
    (λ same. (ap (λ s. s.lamps) same, ap (λ s. s.codes) same))
