-- codes and lamps
pub mod CodeLemmas
pub mod LampLemmas
pub mod SamenessLemmas
pub mod NamedLemmas
-- writing them
pub mod NumberLemmas
pub mod MessageLemmas
