-- What the failure mode identifiers mean (J1939-73, appendix A).
use Rattle.std.specs.Prelude.{◌==◌, ℕ, List, [], ◌∷◌, slice_get, unwrap_or, codes, if◌then◌else◌}

-- from FMI 0 on
abbrev pub first_words : List (List ℕ)
first_words =
    codes "data valid but above normal operational range, most severe level"
    ∷ codes "data valid but below normal operational range, most severe level"
    ∷ codes "data erratic, intermittent or incorrect"
    ∷ codes "voltage above normal, or shorted to high source"
    ∷ codes "voltage below normal, or shorted to low source"
    ∷ codes "current below normal or open circuit"
    ∷ codes "current above normal or grounded circuit"
    ∷ codes "mechanical system not responding or out of adjustment"
    ∷ codes "abnormal frequency or pulse width or period"
    ∷ codes "abnormal update rate"
    ∷ codes "abnormal rate of change"
    ∷ codes "root cause not known"
    ∷ codes "bad intelligent device or component"
    ∷ codes "out of calibration"
    ∷ codes "special instructions"
    ∷ codes "data valid but above normal operating range, least severe level"
    ∷ codes "data valid but above normal operating range, moderately severe level"
    ∷ codes "data valid but below normal operating range, least severe level"
    ∷ codes "data valid but below normal operating range, moderately severe level"
    ∷ codes "received network data in error"
    ∷ codes "data drifted high"
    ∷ codes "data drifted low" ∷ []

-- 22 to 30 are reserved
abbrev pub fmi_words : ℕ → List ℕ
fmi_words fmi = unwrap_or (slice_get first_words fmi) (if fmi == 31 then codes "condition exists" else codes "reserved")
