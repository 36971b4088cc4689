-- What a call makes of a device.
use Rattle.std.specs.Prelude.{◌≡◌, ℕ, Bool, false, List, Option}
use Rattle.std.specs.Io.KnownBytes.{Appends}

-- a device at a moment: the bytes that are left in it or held by it, where its type tells them, and whether a fault
-- has come
pub record Device : Type 0 where
  pub bytes : Option (List ℕ)
  pub has_failed : Bool

-- a device before a call and after it
pub record Turn : Type 0 where
  pub old : Device
  pub new : Device

-- what a call made of a device, by what tells its bytes and its mark
abbrev pub turn : {T : Type 0} → (T → Option (List ℕ)) → (T → Bool) → T → T → Turn
turn bytes has_failed old new = record {
  old = record { bytes = bytes old; has_failed = has_failed old };
  new = record { bytes = bytes new; has_failed = has_failed new };
}

-- the call left the mark alone
abbrev pub IsUnmarked : Turn → Type 0
IsUnmarked t = t.new.has_failed ≡ t.old.has_failed

-- a writer that no fault has come to holds the text after the bytes of before
abbrev pub Writes : Turn → List ℕ → Type 0
Writes t text = t.new.has_failed ≡ false → Appends t.old.bytes t.new.bytes text
