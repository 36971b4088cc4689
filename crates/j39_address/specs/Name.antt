-- The 64 bits of a NAME and its ten fields, by division and remainder (J1939-81, 4.1.1).
use Rattle.std.specs.Prelude.{◌<◌, ℕ, ◌/◌, ◌%◌, ◌^◌}
use Rattle.j39_address.specs.declared.name.Name.{Name}

-- the 64 bits of a NAME
abbrev pub name_raw : Name → ℕ
name_raw name = name.bits

-- the fields, from the top
pub record NameFields : Type 0 where
  pub arbitrary : ℕ
  pub industry : ℕ
  pub system_instance : ℕ
  pub system : ℕ
  pub reserved : ℕ
  pub function : ℕ
  pub function_instance : ℕ
  pub ecu_instance : ℕ
  pub manufacturer : ℕ
  pub identity : ℕ

abbrev pub fields_of : ℕ → NameFields
fields_of raw = record {
  arbitrary = raw / 2 ^ 63;
  industry = raw / 2 ^ 60 % 2 ^ 3;
  system_instance = raw / 2 ^ 56 % 2 ^ 4;
  system = raw / 2 ^ 49 % 2 ^ 7;
  reserved = raw / 2 ^ 48 % 2;
  function = raw / 2 ^ 40 % 2 ^ 8;
  function_instance = raw / 2 ^ 35 % 2 ^ 5;
  ecu_instance = raw / 2 ^ 32 % 2 ^ 3;
  manufacturer = raw / 2 ^ 21 % 2 ^ 11;
  identity = raw % 2 ^ 21;
}

-- the record of ten fields, from the top
abbrev pub name_fields : ℕ → ℕ → ℕ → ℕ → ℕ → ℕ → ℕ → ℕ → ℕ → ℕ → NameFields
name_fields arbitrary industry system_instance system reserved function function_instance ecu_instance manufacturer identity = record {
  arbitrary = arbitrary;
  industry = industry;
  system_instance = system_instance;
  system = system;
  reserved = reserved;
  function = function;
  function_instance = function_instance;
  ecu_instance = ecu_instance;
  manufacturer = manufacturer;
  identity = identity;
}

-- each field fits its bits
pub record AreNameFields (f : NameFields) : Type 0 where
  pub arbitrary : f.arbitrary < 2
  pub industry : f.industry < 2 ^ 3
  pub system_instance : f.system_instance < 2 ^ 4
  pub system : f.system < 2 ^ 7
  pub reserved : f.reserved < 2
  pub function : f.function < 2 ^ 8
  pub function_instance : f.function_instance < 2 ^ 5
  pub ecu_instance : f.ecu_instance < 2 ^ 3
  pub manufacturer : f.manufacturer < 2 ^ 11
  pub identity : f.identity < 2 ^ 21
