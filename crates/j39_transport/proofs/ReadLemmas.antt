-- What a frame is, by what it is read as.
use Rattle.std.proofs.Common.{◌≡◌, ◌≢◌, ℕ, ◌<◌, Bool, true, false, ◌&&◌, List, length, drop, Option, Some, None, refl, sym, ap, ◌∙◌, subst, inl, inr, arith, nat_lt, ◌==◌, eqb-true, eq-eqb, ne_eqb, ltb-true, slice_index}
use Rattle.std.proofs.lemmas.Bool.{cond_both, cond-false, and_parts, and_from, and_left, or_from, both_ways, false_from_ne_true, eqb-false}
use Rattle.j39_frame.specs.Address.{global_address}
use Rattle.j39_frame.specs.Frame.{FrameRecord}
use Rattle.j39_frame.specs.Network.{transport_control_group, transport_data_group}
use Rattle.j39_transport.specs.Key.{Key, sender, goes_to, opening, is_key, key_between}
use Rattle.j39_transport.specs.Frames.{goes, group_of, source_of, destination_of, size_named, packets_named, pgn_named, names_message, is_announcement, is_packet, is_control, is_clear_to_send, is_end}
use Rattle.j39_transport.specs.Key.Key.{Broadcast, Directed}
use Rattle.j39_transport.specs.Protocol.{request_to_send, clear_to_send, acknowledgment, connection_abort, broadcast_announce}
use Rattle.j39_transport.specs.Signals.{Signal, BroadcastAnnounce, RequestToSend, ClearToSend, Acknowledgment, Abort, Packet, broadcast_in, request_in, packet_in, control_in, said_by}
use Rattle.j39_transport.specs.AssemblerStep.{key_of}
use Rattle.j39_transport.proofs.FrameFacts.{announcement_facts, packet_facts, closing_facts, allowing_facts}

-- the frame is nothing of any message
pub record IsNoFrame (f : FrameRecord) : Type 0 where
  pub no_announcement : (k : Key) → is_announcement k f ≡ false
  pub no_packet : (k : Key) → is_packet k f ≡ false
  pub no_grant : (k : Key) (g : ℕ) → is_clear_to_send k g f ≡ false
  pub no_end : (k : Key) (g : ℕ) → is_end k g f ≡ false

pub record IsControl (b s d g : ℕ) (f : FrameRecord) : Type 0 where
  pub goes_back : goes transport_control_group d s f ≡ true
  pub no_rts : b ≢ request_to_send
  pub no_bam : b ≢ broadcast_announce
  pub first : slice_index f.bytes 0 ≡ b
  pub group_is : g ≡ pgn_named f

pub record IsAnnouncing (k : Key) (g n p : ℕ) (f : FrameRecord) : Type 0 where
  pub announces_it : is_announcement k f ≡ true
  pub group_is : g ≡ pgn_named f
  pub size_is : n ≡ size_named f
  pub packets_are : p ≡ packets_named f

pub record IsPacking (k : Key) (n : ℕ) (bs : List ℕ) (f : FrameRecord) : Type 0 where
  pub packs_it : is_packet k f ≡ true
  pub number_is : n ≡ slice_index f.bytes 0
  pub data_are : bs ≡ drop 1 f.bytes

abbrev pub Facts : FrameRecord → Option Signal → Type 0
Facts f None = IsNoFrame f
Facts f (Some (BroadcastAnnounce size packets pgn)) = IsAnnouncing (Broadcast (source_of f.id)) pgn size packets f
Facts f (Some (RequestToSend size packets most pgn)) = IsAnnouncing (Directed (source_of f.id) (destination_of f.id)) pgn size packets f
Facts f (Some (ClearToSend count next pgn)) = IsControl clear_to_send (destination_of f.id) (source_of f.id) pgn f
Facts f (Some (Acknowledgment size packets pgn)) = IsControl acknowledgment (destination_of f.id) (source_of f.id) pgn f
Facts f (Some (Abort reason pgn)) = IsControl connection_abort (destination_of f.id) (source_of f.id) pgn f
Facts f (Some (Packet number part)) = IsPacking (key_of f) number part f

-- ---- by the group

-- where no frame of the two groups with 8 bytes goes
and4 : (a b c d : Bool) → (a && b && c && d) ≡ true → (a ≡ true) × (b ≡ true) × (c ≡ true) × (d ≡ true)
and4 a b c d h =
    let x = and_parts (a && b && c) d h in
    let y = and_parts (a && b) c x.0 in
    let z = and_parts a b y.0 in
    (z.0, z.1, y.1, x.1)

goes_eight : (g s d : ℕ) (f : FrameRecord) → goes g s d f ≡ true → (group_of f.id == g && length f.bytes == 8) ≡ true
unfolding goes
goes_eight g s d f h =
    let a = and4 (group_of f.id == g) (destination_of f.id == d) (source_of f.id == s) (length f.bytes == 8) h in
    and_from (group_of f.id == g) (length f.bytes == 8) a.0 a.3

pub announced_parts : (k : Key) (f : FrameRecord) → is_announcement k f ≡ true → (is_key k ≡ true) × (goes transport_control_group (sender k) (goes_to k) f ≡ true) × ((slice_index f.bytes 0 == opening k) ≡ true) × (names_message f ≡ true)
unfolding is_announcement
announced_parts k f h = and4 (is_key k) (goes transport_control_group (sender k) (goes_to k) f) (slice_index f.bytes 0 == opening k) (names_message f) h

announcement_goes : (k : Key) (f : FrameRecord) → is_announcement k f ≡ true → goes transport_control_group (sender k) (goes_to k) f ≡ true
announcement_goes k f h = (announced_parts k f h).1

packet_goes : (k : Key) (f : FrameRecord) → is_packet k f ≡ true → goes transport_data_group (sender k) (goes_to k) f ≡ true
unfolding is_packet
packet_goes k f h = (and_parts (is_key k) (goes transport_data_group (sender k) (goes_to k) f) h).1

answer_goes : (b s d g : ℕ) (f : FrameRecord) → is_control b s d g f ≡ true → goes transport_control_group s d f ≡ true
unfolding is_control
answer_goes b s d g f h = (and_parts (goes transport_control_group s d f) (slice_index f.bytes 0 == b) (and_parts (goes transport_control_group s d f && slice_index f.bytes 0 == b) (pgn_named f == g) h).0).0

no_answer : (f : FrameRecord) → (group_of f.id == transport_control_group && length f.bytes == 8) ≡ false → (b s d g : ℕ) → is_control b s d g f ≡ false
no_answer f h b s d g = false_from_ne_true _ (λ t. both_ways _ h (goes_eight _ _ _ f (answer_goes b s d g f t)))

no_allow : (f : FrameRecord) → (group_of f.id == transport_control_group && length f.bytes == 8) ≡ false → (k : Key) (g : ℕ) → is_clear_to_send k g f ≡ false
unfolding is_clear_to_send
no_allow f h (Broadcast s) g = refl
no_allow f h (Directed s d) g = no_answer f h clear_to_send d s g

no_closing : (f : FrameRecord) → (group_of f.id == transport_control_group && length f.bytes == 8) ≡ false → (k : Key) (g : ℕ) → is_end k g f ≡ false
unfolding is_end
no_closing f h (Broadcast s) g = refl
no_closing f h (Directed s d) g = or_from _ _ (or_from _ _ (no_answer f h acknowledgment d s g) (no_answer f h connection_abort d s g)) (no_answer f h connection_abort s d g)

no_control : (f : FrameRecord) → (group_of f.id == transport_control_group && length f.bytes == 8) ≡ false → ((k : Key) → is_announcement k f ≡ false) × ((k : Key) (g : ℕ) → is_clear_to_send k g f ≡ false) × ((k : Key) (g : ℕ) → is_end k g f ≡ false)
no_control f h = ((λ k. false_from_ne_true _ (λ t. both_ways _ h (goes_eight _ _ _ f (announcement_goes k f t)))), no_allow f h, no_closing f h)

no_packet_here : (f : FrameRecord) → (group_of f.id == transport_data_group && length f.bytes == 8) ≡ false → (k : Key) → is_packet k f ≡ false
no_packet_here f h k = false_from_ne_true _ (λ t. both_ways _ h (goes_eight _ _ _ f (packet_goes k f t)))

-- one group is not the other
not_both_groups : (f : FrameRecord) (a b : ℕ) → group_of f.id ≡ a → a ≢ b → (group_of f.id == b && length f.bytes == 8) ≡ false
not_both_groups f a b h n = and_left _ _ (ne_eqb _ _ (λ e. n (sym h ∙ e)))

nothing_here : (f : FrameRecord) → (group_of f.id == transport_control_group && length f.bytes == 8) ≡ false → (group_of f.id == transport_data_group && length f.bytes == 8) ≡ false → IsNoFrame f
nothing_here f a b =
    let c = no_control f a in
    record { no_announcement = c.0; no_packet = no_packet_here f b; no_grant = c.1; no_end = c.2 }

goes_from : (g : ℕ) (f : FrameRecord) → group_of f.id ≡ g → length f.bytes ≡ 8 → goes g (source_of f.id) (destination_of f.id) f ≡ true
unfolding goes
goes_from g f a b = and_from _ _ (and_from _ _ (and_from _ _ (eq-eqb _ _ a) (eq-eqb _ _ refl)) (eq-eqb _ _ refl)) (eq-eqb _ _ b)

-- ---- the key

-- a key of addresses is that of its source and where it goes
pub key_is : (k : Key) → is_key k ≡ true → key_between (sender k) (goes_to k) ≡ k
unfolding key_between
key_is (Broadcast s) h = refl
key_is (Directed s d) h = cond-false (d == 255) (Broadcast s) (Directed s d) (ne_eqb _ _ (λ e. (let l : d < 254 = ltb-true _ _ (and_parts (nat_lt s 254) (nat_lt d 254) h).1 in omega arith)))

between_is : (s d : ℕ) → (sender (key_between s d) ≡ s) × (goes_to (key_between s d) ≡ d)
unfolding key_between
between_is s d = cond_both (d == 255) _ _ (λ (k : Key). (sender k ≡ s) × (goes_to k ≡ d))
    (λ t. (refl, sym (eqb-true _ _ t)))
    (λ t. (refl, refl))

-- ---- a packet

packet_is : (f : FrameRecord) → group_of f.id ≡ transport_data_group → length f.bytes ≡ 8 → Facts f (packet_in f)
unfolding packet_in is_packet
packet_is f a b = cond_both (is_key (key_of f)) _ _ (Facts f)
    (λ t. (let w = between_is (source_of f.id) (destination_of f.id) in record {
      packs_it = and_from _ _ t (subst (λ (x : ℕ). goes transport_data_group x (goes_to (key_of f)) f ≡ true) (sym w.0) (subst (λ (x : ℕ). goes transport_data_group (source_of f.id) x f ≡ true) (sym w.1) (goes_from transport_data_group f a b)));
      number_is = refl;
      data_are = refl;
    }))
    (λ t. (let c = no_control f (not_both_groups f transport_data_group transport_control_group a (omega arith)) in record {
      no_announcement = c.0;
      no_packet = λ k. false_from_ne_true _ (λ u. (let p = packet_facts k f u in
          both_ways _ t (ap is_key ((λ i. key_between (p.source i) (p.destination i)) ∙ key_is k p.key) ∙ p.key)));
      no_grant = c.1;
      no_end = c.2;
    }))

-- ---- a control frame

module _ (f : FrameRecord) (a : group_of f.id ≡ transport_control_group) (b : length f.bytes ≡ 8) where
  -- an announcement of none
  none_announced : (n : ℕ) → slice_index f.bytes 0 ≡ n → n ≢ clear_to_send → n ≢ acknowledgment → n ≢ connection_abort
      → ((k : Key) → is_announcement k f ≡ true → ⊥) → IsNoFrame f
  none_announced n e not_cts not_ack not_abort none = record {
    no_announcement = λ k. false_from_ne_true _ (none k);
    no_packet = no_packet_here f (not_both_groups f transport_control_group transport_data_group a (omega arith));
    no_grant = λ k g. false_from_ne_true _ (λ t. not_cts (sym e ∙ (allowing_facts k g f t).1));
    no_end = λ k g. false_from_ne_true _ (λ t. elim (closing_facts k g f t).1 [ inl u ↦ not_ack (sym e ∙ u) | inr u ↦ not_abort (sym e ∙ u) ]);
  }

  announces_here : (k : Key) → sender k ≡ source_of f.id → goes_to k ≡ destination_of f.id → slice_index f.bytes 0 ≡ opening k
      → is_key k ≡ true → names_message f ≡ true → IsAnnouncing k (pgn_named f) (size_named f) (packets_named f) f
  unfolding is_announcement
  announces_here k s d e h n = record {
    announces_it = and_from _ _ (and_from _ _ (and_from _ _ h
        (subst (λ (x : ℕ). goes transport_control_group x (goes_to k) f ≡ true) (sym s) (subst (λ (x : ℕ). goes transport_control_group (source_of f.id) x f ≡ true) (sym d) (goes_from transport_control_group f a b))))
        (eq-eqb _ _ e)) n;
    group_is = refl;
    size_is = refl;
    packets_are = refl;
  }

  request_is : slice_index f.bytes 0 ≡ request_to_send → Facts f (request_in f)
  unfolding request_in
  request_is e = cond_both (is_key (Directed (source_of f.id) (destination_of f.id)) && names_message f) _ _ (Facts f)
      (λ t. (let p = and_parts (is_key (Directed (source_of f.id) (destination_of f.id))) (names_message f) t in
      announces_here (Directed (source_of f.id) (destination_of f.id)) refl refl e p.0 p.1))
      (λ t. none_announced request_to_send e (λ x. omega arith) (λ x. omega arith) (λ x. omega arith) (none t))
    where
      none : (is_key (Directed (source_of f.id) (destination_of f.id)) && names_message f) ≡ false → (k : Key) → is_announcement k f ≡ true → ⊥
      none t (Broadcast s) u = let p : slice_index f.bytes 0 ≡ 32 = (announcement_facts (Broadcast s) f u).first in let q : slice_index f.bytes 0 ≡ 16 = e in omega arith
      none t (Directed s d) u =
          let p = announcement_facts (Directed s d) f u in
          both_ways _ t (and_from _ _ (ap is_key (λ i. Directed (p.source i) (p.destination i)) ∙ p.key) p.names)

  broadcast_is : slice_index f.bytes 0 ≡ broadcast_announce → Facts f (broadcast_in f)
  unfolding broadcast_in
  broadcast_is e = cond_both (is_key (Broadcast (source_of f.id)) && destination_of f.id == global_address && names_message f) _ _ (Facts f)
      (λ t. (let p = and_parts (is_key (Broadcast (source_of f.id)) && destination_of f.id == global_address) (names_message f) t in
      let q = and_parts (is_key (Broadcast (source_of f.id))) (destination_of f.id == global_address) p.0 in
      announces_here (Broadcast (source_of f.id)) refl (sym (eqb-true _ _ q.1)) e q.0 p.1))
      (λ t. none_announced broadcast_announce e (λ x. omega arith) (λ x. omega arith) (λ x. omega arith) (none t))
    where
      none : (is_key (Broadcast (source_of f.id)) && destination_of f.id == global_address && names_message f) ≡ false → (k : Key) → is_announcement k f ≡ true → ⊥
      none t (Broadcast s) u =
          let p = announcement_facts (Broadcast s) f u in
          both_ways _ t (and_from _ _ (and_from _ _ (ap is_key (λ i. Broadcast (p.source i)) ∙ p.key) (eq-eqb _ _ p.destination)) p.names)
      none t (Directed s d) u = let p : slice_index f.bytes 0 ≡ 16 = (announcement_facts (Directed s d) f u).first in let q : slice_index f.bytes 0 ≡ 32 = e in omega arith

  answer_is : (n : ℕ) → n ≢ request_to_send → n ≢ broadcast_announce → (slice_index f.bytes 0 == n) ≡ true → IsControl n (destination_of f.id) (source_of f.id) (pgn_named f) f
  answer_is n not_rts not_bam t = record { goes_back = goes_from transport_control_group f a b; no_rts = not_rts; no_bam = not_bam; first = eqb-true _ _ t; group_is = refl }

  control_is : Facts f (control_in f)
  unfolding control_in
  control_is = cond_both (slice_index f.bytes 0 == request_to_send) _ _ (Facts f) (λ r. request_is (eqb-true _ _ r))
      (λ r. cond_both (slice_index f.bytes 0 == broadcast_announce) _ _ (Facts f) (λ s. broadcast_is (eqb-true _ _ s))
      (λ s. cond_both (slice_index f.bytes 0 == clear_to_send) _ _ (Facts f) (answer_is clear_to_send (λ e. omega arith) (λ e. omega arith))
      (λ t. cond_both (slice_index f.bytes 0 == acknowledgment) _ _ (Facts f) (answer_is acknowledgment (λ e. omega arith) (λ e. omega arith))
      (λ u. cond_both (slice_index f.bytes 0 == connection_abort) _ _ (Facts f) (answer_is connection_abort (λ e. omega arith) (λ e. omega arith))
      (λ v. record {
        no_announcement = λ k. false_from_ne_true _ (opens k r s);
        no_packet = no_packet_here f (not_both_groups f transport_control_group transport_data_group a (omega arith));
        no_grant = λ k g. false_from_ne_true _ (λ w. eqb-false _ _ t (allowing_facts k g f w).1);
        no_end = λ k g. false_from_ne_true _ (λ w. elim (closing_facts k g f w).1 [ inl x ↦ eqb-false _ _ u x | inr x ↦ eqb-false _ _ v x ]);
      })))))
    where
      opens : (k : Key) → (slice_index f.bytes 0 == request_to_send) ≡ false → (slice_index f.bytes 0 == broadcast_announce) ≡ false → is_announcement k f ≡ true → ⊥
      opens (Broadcast x) r s w = eqb-false _ _ s (announcement_facts (Broadcast x) f w).first
      opens (Directed x y) r s w = eqb-false _ _ r (announcement_facts (Directed x y) f w).first

-- ---- any frame

pub read_is : (f : FrameRecord) → Facts f (said_by f)
unfolding said_by
read_is f = cond_both (group_of f.id == transport_data_group && length f.bytes == 8) _ _ (Facts f)
    (λ t. (let p = and_parts _ _ t in packet_is f (eqb-true _ _ p.0) (eqb-true _ _ p.1)))
    (λ t. cond_both (group_of f.id == transport_control_group && length f.bytes == 8) _ _ (Facts f)
    (λ u. (let p = and_parts _ _ u in control_is f (eqb-true _ _ p.0) (eqb-true _ _ p.1)))
    (λ u. nothing_here f u t))
