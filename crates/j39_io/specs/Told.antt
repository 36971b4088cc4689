-- A device with its marks.
use Rattle.std.specs.Prelude.{Bool}
use Rattle.j39_io.specs.declared.device.Told.{Told}

abbrev pub told_device : {T : Type 0} → Told T → T
told_device told = told.device

-- whether a fault has come
abbrev pub is_marked : {T : Type 0} → Told T → Bool
is_marked told = told.has_failed

-- whether all that it took was passed on
abbrev pub is_passed_on : {T : Type 0} → Told T → Bool
is_passed_on told = told.is_flushed
