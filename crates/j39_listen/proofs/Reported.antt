-- Frames of groups that are heard in one frame, and frames of the transport protocol.
use Rattle.std.specs.Prelude.{List, None, Some, drop, if◌then◌else◌, length, not, slice_index, ◌&&◌}
use Rattle.std.specs.List.{list_any}
use Rattle.std.proofs.Common.{◌≡◌, ◌==◌, ℕ, Bool, true, false, refl, sym, ap, ◌∙◌, subst, eqb-true}
use Rattle.std.proofs.lemmas.Bool.{both_ways, false_from_ne_true}
use Rattle.j39_frame.specs.Frame.{FrameRecord}
use Rattle.j39_frame.specs.Identifier.{pgn_of, source_of}
use Rattle.j39_frame.specs.Network.{transport_control_group, transport_data_group}
use Rattle.j39_groups.specs.Readings.{is_network_group, is_reported_in}
use Rattle.j39_groups.specs.Row.{RowRecord}
use Rattle.j39_listen.specs.Heard.{LeavesNetwork}
use Rattle.j39_transport.specs.Frames as transport
use Rattle.j39_transport.specs.Announced.{announced_by, announced_in}
use Rattle.j39_transport.specs.Frames.{group_of, is_announcement, is_packet}
use Rattle.j39_transport.specs.Signals.{Packet, packet_in, said_by}
use Rattle.j39_transport.specs.Key.{Key, is_key, key_between, sender}
use Rattle.j39_transport.proofs.FrameFacts.{announcement_facts, packet_facts}

group_is : (id : ℕ) → group_of id ≡ pgn_of id
unfolding group_of
group_is id = refl

same_source : (id : ℕ) → transport.source_of id ≡ source_of id
unfolding transport.source_of
same_source id = refl

pub packet_group : (k : Key) (f : FrameRecord) → is_packet k f ≡ true → pgn_of f.id ≡ 60160
packet_group k f p = sym (group_is f.id) ∙ (packet_facts k f p).pgn

pub packet_source : (k : Key) (f : FrameRecord) → is_packet k f ≡ true → source_of f.id ≡ sender k
packet_source k f p = sym (same_source f.id) ∙ (packet_facts k f p).source

-- a table of parameters reports none of the network's groups
pub reported_leaves : (groups : List RowRecord) → LeavesNetwork (is_reported_in groups)
unfolding is_reported_in
reported_leaves groups pgn network = ap (λ (b : Bool). not b && list_any (λ row. row.pgn == pgn) groups) network

pub not_single : (singles : ℕ → Bool) → LeavesNetwork singles → (g : ℕ) → singles g ≡ true → g ≡ 60160 → ⊥
not_single singles leaves g r e = both_ways _ (leaves 60160 refl) (subst (λ (x : ℕ). singles x ≡ true) e r)

-- a frame of another group than that of announcements announces nothing
pub announced_none : (f : FrameRecord) → (pgn_of f.id == transport_control_group) ≡ false → announced_by f ≡ None
unfolding said_by packet_in group_of
announced_none f other = rw other (by (group_of f.id == transport_data_group && length f.bytes == 8) (is_key (key_between (transport.source_of f.id) (transport.destination_of f.id))))
  where
    by : (d p : Bool) → announced_in (if d then (if p then Some (Packet (slice_index f.bytes 0) (drop 1 f.bytes)) else None) else None) ≡ None
    by true true = refl
    by true false = refl
    by false p = refl

-- no frame of the transport protocol is of a reported group
pub unreported_announcement : (groups : List RowRecord) (k : Key) (f : FrameRecord) → is_announcement k f ≡ true → is_reported_in groups (pgn_of f.id) ≡ false
unreported_announcement groups k f h = ap (is_reported_in groups) (sym (group_is f.id) ∙ (announcement_facts k f h).pgn) ∙ reported_leaves groups 60416 refl

pub unreported_packet : (groups : List RowRecord) (k : Key) (f : FrameRecord) → is_packet k f ≡ true → is_reported_in groups (pgn_of f.id) ≡ false
unreported_packet groups k f h = ap (is_reported_in groups) (packet_group k f h) ∙ reported_leaves groups 60160 refl

-- nor is a frame of a group that isn't the network's one of the transport protocol
pub no_transport : (f : FrameRecord) → is_network_group (pgn_of f.id) ≡ false → said_by f ≡ None
unfolding said_by
no_transport f free =
    let no_data : (group_of f.id == transport_data_group) ≡ false = false_from_ne_true _ (λ e. both_ways _ free (ap is_network_group (sym (group_is f.id) ∙ eqb-true _ _ e))) in
    let no_control : (group_of f.id == transport_control_group) ≡ false = false_from_ne_true _ (λ e. both_ways _ free (ap is_network_group (sym (group_is f.id) ∙ eqb-true _ _ e))) in
    rw (no_data, no_control) refl

-- so a group that a table reports isn't the network's
pub reported_free : (groups : List RowRecord) (g : ℕ) → is_reported_in groups g ≡ true → is_network_group g ≡ false
reported_free groups g reported = false_from_ne_true _ (λ network. both_ways _ (reported_leaves groups g network) reported)

pub claims_silent : (singles : ℕ → Bool) → LeavesNetwork singles → (g : ℕ) → g ≡ 60928 → singles g ≡ false
claims_silent singles leaves g e = ap singles e ∙ leaves 60928 refl
