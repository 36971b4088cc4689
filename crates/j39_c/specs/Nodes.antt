-- How far a node is, in two numbers.
use Rattle.std.specs.Prelude.{◌≡◌, ℕ, ℤ, pos}
use Rattle.j39_frame.specs.Address.{null_address}
use Rattle.j39_address.specs.Node.{NodeStatus}
use Rattle.j39_address.specs.Node.NodeStatus.{Idle, Claiming, Holding, Cannot}

-- the code, and the address that is claimed or held, or the null address
abbrev pub IsStatus : NodeStatus → ℤ → ℕ → Type 0
IsStatus Idle code address = (code ≡ pos 0) × (address ≡ null_address)
IsStatus (Claiming a) code address = (code ≡ pos 1) × (address ≡ a)
IsStatus (Holding a) code address = (code ≡ pos 2) × (address ≡ a)
IsStatus Cannot code address = (code ≡ pos 3) × (address ≡ null_address)
