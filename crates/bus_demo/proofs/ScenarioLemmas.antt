-- Players of a scenario, one behind another.
use Rattle.std.proofs.Common.{◌≡◌, ◌<◌, ◌+◌, ◌∙◌, ◌++◌, ◌∷◌, [], ℕ, Err, IfOk, List, Ok, Result, ap, get_or, length, map, subst, sym, take}
use Rattle.std.proofs.lemmas.List.{map-append, take_more}
use Rattle.j39_frame.specs.Address.{IsAddress}
use Rattle.bus_demo.specs.Scenario.{ArePlayed, HaveAddresses, IsPlayed, Member, member_of}
use Rattle.bus_demo.specs.declared.bus.player.Player.{Player}
use Rattle.bus_demo.specs.declared.bus.role.Role.{Role}

pub one_played : (ms : List Member) (players : List Player) (m : Member) (player : Player) → ArePlayed ms players → IsPlayed m player
    → ArePlayed (ms ++ m ∷ []) (players ++ player ∷ [])
one_played [] [] m player so_far is = (is, tt)
one_played [] (p ∷ ps) m player so_far is = absurd so_far
one_played (x ∷ ms) [] m player so_far is = absurd so_far
one_played (x ∷ ms) (p ∷ ps) m player so_far is = (so_far.0, one_played ms ps m player so_far.1 is)

-- all of some and one more have addresses
pub first_addresses : (ms : List Member) (m : Member) → HaveAddresses (ms ++ m ∷ []) → HaveAddresses ms × IsAddress m.address
first_addresses [] m have = (tt, have.0)
first_addresses (x ∷ ms) m have = let rest = first_addresses ms m have.1 in ((have.0, rest.0), rest.1)

-- what is played of some is played of others that are the same
module _ (X E : Type 0) (items : X → List Player) where
  pub same_played : (result : Result X E) (ms ns : List Member) → ms ≡ ns → HaveAddresses ns
      → IfOk result (λ x. HaveAddresses ms → ArePlayed ms (items x)) → IfOk result (λ x. ArePlayed ns (items x))
  same_played (Ok x) ms ns same have h = subst (λ (ls : List Member). ArePlayed ls (items x)) same (h (subst HaveAddresses (sym same) have))
  same_played (Err e) ms ns same have h = tt

-- one role more has joined
pub played_more : (roles : List Role) (n : ℕ) (d : Role) (old new : List Player) → n < length roles
    → (HaveAddresses (map member_of (take n roles)) → ArePlayed (map member_of (take n roles)) old)
    → (IsAddress (get_or roles n d).preferred → (player : Player) × IsPlayed (member_of (get_or roles n d)) player × (new ≡ old ++ player ∷ []))
    → HaveAddresses (map member_of (take (n + 1) roles)) → ArePlayed (map member_of (take (n + 1) roles)) new
played_more roles n d old new inside so_far joins have =
    let before = map member_of (take n roles) in
    let m = member_of (get_or roles n d) in
    let more : map member_of (take (n + 1) roles) ≡ before ++ m ∷ [] =
    ap (map member_of) (take_more roles n d inside) ∙ map-append member_of (take n roles) (get_or roles n d ∷ []) in
    let both = first_addresses before m (subst HaveAddresses more have) in
    let one = joins both.1 in
    subst (λ (ms : List Member). ArePlayed ms new) (sym more)
    (subst (λ (ps : List Player). ArePlayed (before ++ m ∷ []) ps) (sym one.2) (one_played before old m one.0 (so_far both.0) one.1))
