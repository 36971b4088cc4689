-- What a message of more than eight bytes goes under (J1939-21, 5.10).
use Rattle.std.specs.Prelude.{ℕ, zero, suc, Bool, ◌&&◌, ◌==◌, if◌then◌else◌, nat_lt, List, [], ◌∷◌, ◌++◌}
use Rattle.j39_frame.specs.Address.{null_address, global_address}
use Rattle.j39_transport.specs.Protocol.{request_to_send, broadcast_announce, broadcast_limit, directed_limit}

-- broadcast by s, or sent by s to d
pub data Key : Type 0 where
  Broadcast : ℕ → Key
  Directed : ℕ → ℕ → Key

-- where its packets come from, and where they go
abbrev pub sender : Key → ℕ
sender (Broadcast s) = s
sender (Directed s d) = s

abbrev pub goes_to : Key → ℕ
goes_to (Broadcast s) = global_address
goes_to (Directed s d) = d

-- the key of what goes from s to d: to all, where d is the global address
unfoldable pub key_between : ℕ → ℕ → Key
key_between s d = if d == global_address then Broadcast s else Directed s d

-- the first byte of its announcement: a broadcast announce message (BAM), or a request to send (RTS)
abbrev pub opening : Key → ℕ
opening (Broadcast s) = broadcast_announce
opening (Directed s d) = request_to_send

-- both are addresses that a controller can hold
abbrev pub is_key : Key → Bool
is_key (Broadcast s) = nat_lt s null_address
is_key (Directed s d) = nat_lt s null_address && nat_lt d null_address

-- how much later than the frame of a message before it a frame of it may be
abbrev pub limit : Key → ℕ
limit (Broadcast s) = broadcast_limit
limit (Directed s d) = directed_limit

-- all keys: the broadcasts of each of the 254 addresses, and each pair of them
unfoldable pub broadcast_keys : ℕ → List Key
broadcast_keys zero = []
broadcast_keys (suc n) = Broadcast n ∷ broadcast_keys n

unfoldable pub row : ℕ → ℕ → List Key
row s zero = []
row s (suc n) = Directed s n ∷ row s n

unfoldable pub pairs : ℕ → List Key
pairs zero = []
pairs (suc m) = row m 254 ++ pairs m

unfoldable pub all_keys : List Key
all_keys = broadcast_keys 254 ++ pairs 254
