-- The fields of identifiers and NAMEs as C has them.
use Rattle.std.specs.Prelude.{◌≡◌, ◌<◌, ◌^◌, ℕ, nat_lt, if◌then◌else◌, Option, Some, None}
use Rattle.j39_address.specs.Name.{NameFields, name_fields}
use Rattle.j39_frame.specs.Address.{global_address}
use Rattle.j39_frame.specs.Identifier.{CanCompose, destination_of, pf_of, pgn_of, priority_of, source_of}
use Rattle.j39_c.specs.declared.fields.IdFields.{IdFields}
use Rattle.j39_c.specs.declared.fields.NameParts.{NameParts}

-- a destination, or to all
abbrev pub or_all : Option ℕ → ℕ
or_all None = global_address
or_all (Some a) = a

-- they are the fields of an identifier
pub record AreFieldsOf (fields : IdFields) (id : ℕ) : Type 0 where
  pub pgn : fields.pgn ≡ pgn_of id
  pub priority : fields.priority ≡ priority_of id
  pub source : fields.source ≡ source_of id
  pub destination : fields.destination ≡ or_all (destination_of id)

pub record CanBeComposed (fields : IdFields) : Type 0 where
  pub pgn : fields.pgn < 2 ^ 18
  pub parts : CanCompose fields.priority fields.pgn

-- an identifier has these fields, and the destination where its group has one
pub record IsComposed (fields : IdFields) (id : ℕ) : Type 0 where
  pub fits : id < 2 ^ 29
  pub pgn : pgn_of id ≡ fields.pgn
  pub priority : priority_of id ≡ fields.priority
  pub source : source_of id ≡ fields.source
  pub destination : destination_of id ≡ (if nat_lt (pf_of id) 240 then Some fields.destination else None)

abbrev pub name_fields_in : NameParts → NameFields
name_fields_in p = name_fields p.arbitrary p.industry p.system_instance p.system p.reserved p.function
    p.function_instance p.ecu_instance p.manufacturer p.identity
