-- What a member takes of transfers to one address.
use Rattle.std.proofs.Common.{[], ◌&&◌, ◌==◌, ◌+◌, ◌*◌, ◌<◌, ◌||◌, ◌∙◌, ◌∷◌, ◌≡◌, ◌≢◌, ◌≤◌, ap, arith, Bool, drop, eqb-true, false, length, List, lt-ltb, map, nat_eq, None, not, Option, refl, slice_index, Some, subst, suc, sym, true, ℕ}
use Rattle.std.proofs.lemmas.Bool.{and_parts, cond_both, ne_eqb}
use Rattle.j39_frame.specs.Frame.{FrameRecord}
use Rattle.j39_frame.specs.Identifier.{destination_of, pgn_of, ps_of, source_of}
use Rattle.j39_transport.proofs.FrameFacts.{announcement_facts}
use Rattle.j39_transport.proofs.FrameLemmas.{announces as announces_it}
use Rattle.j39_transport.proofs.PacketLemmas.{packet_length}
use Rattle.j39_transport.specs.Cutting.{announcement_of, at_moment, packet_data}
use Rattle.j39_transport.specs.Frames as frame
use Rattle.j39_transport.specs.Frames.{names_message, packets_named, pgn_named, size_named}
use Rattle.j39_transport.specs.Key.{Broadcast, Directed, is_key, key_between}
use Rattle.j39_transport.specs.Message.{IsLong, MessageRecord, packets_of}
use Rattle.j39_transport.specs.Sending.{request_of}
use Rattle.j39_transport.specs.Signals.{Abort, Acknowledgment, broadcast_in, BroadcastAnnounce, ClearToSend, control_in, Packet, packet_in, request_in, RequestToSend, said_between, said_by, Signal}
use Rattle.std.proofs.lemmas.List.Elements.{All-head}
use Rattle.std.proofs.lemmas.Slice.Eq.{bytes_eq-Decides}
use Rattle.std.specs.List.{All, slice_get}
use Rattle.std.specs.Str.{bytes_eq}
use Rattle.j39_transport.specs.Sending.{is_running, send_step, Tick}
use Rattle.j39_sessions.specs.Sessions.{is_same, Reply}
use Rattle.j39_node.proofs.HearingLemmas.{same_is}
use Rattle.j39_node.proofs.MoveSteps.{Moved, running_some, signal_case, SignalCase}
use Rattle.j39_node.proofs.PacketLemmas.{goes_there}
use Rattle.j39_node.proofs.ReceptionLemmas.{reply_of}
use Rattle.j39_node.proofs.TransferLaws.{given_up}
use Rattle.j39_node.specs.History.{Call, is_session, is_some, is_transfer, Message, message_of, Who}
use Rattle.j39_node.specs.Reception.{events, is_move, is_that, reception, replies as all_replies, said_from}
use Rattle.j39_node.specs.Transfers.{move}
use Rattle.j39_transfers.specs.Transfers.{gives_up, is_spent, signal_by, Transfer as Running}
use Rattle.j39_net.proofs.ReplyLemmas.{all_answer, IsAnswer}
use Rattle.j39_net.proofs.BroadcastFacts.{same_names}
use Rattle.j39_net.proofs.StepLemmas.{IsNoRts}

-- ---- what is taken says

-- of the group of its kind, a request and an acknowledgment by its first byte
abbrev Kind : FrameRecord → Option Signal → Type 0
Kind f None = Unit {0}
Kind f (Some (RequestToSend size packets most pgn)) = (pgn_of f.id ≡ 60416) × (slice_index f.bytes 0 ≡ 16)
Kind f (Some (Packet number part)) = pgn_of f.id ≡ 60160
Kind f (Some (BroadcastAnnounce size packets pgn)) = Unit {0}
Kind f (Some (ClearToSend count next pgn)) = Unit {0}
Kind f (Some (Acknowledgment size packets pgn)) = (pgn_of f.id ≡ 60416) × (slice_index f.bytes 0 ≡ 19)
Kind f (Some (Abort reason pgn)) = Unit {0}

control_kind : (f : FrameRecord) → pgn_of f.id ≡ 60416 → Kind f (control_in f)
unfolding control_in request_in broadcast_in
control_kind f g =
    cond_both (slice_index f.bytes 0 == 16) (request_in f) _ (Kind f)
    (λ t. cond_both (is_key (Directed (frame.source_of f.id) (frame.destination_of f.id)) && names_message f) (Some (RequestToSend (size_named f) (packets_named f) (slice_index f.bytes 4) (pgn_named f))) None (Kind f)
    (λ u. (g, eqb-true _ _ t)) (λ u. tt))
    (λ t. cond_both (slice_index f.bytes 0 == 32) (broadcast_in f) _ (Kind f)
    (λ u. cond_both (is_key (Broadcast (frame.source_of f.id)) && frame.destination_of f.id == 255 && names_message f) (Some (BroadcastAnnounce (size_named f) (packets_named f) (pgn_named f))) None (Kind f) (λ v. tt) (λ v. tt))
    (λ u. cond_both (slice_index f.bytes 0 == 17) (Some (ClearToSend (slice_index f.bytes 1) (slice_index f.bytes 2) (pgn_named f))) _ (Kind f) (λ v. tt)
    (λ v. cond_both (slice_index f.bytes 0 == 19) (Some (Acknowledgment (size_named f) (packets_named f) (pgn_named f))) _ (Kind f) (λ x. (g, eqb-true _ _ x))
    (λ x. cond_both (slice_index f.bytes 0 == 255) (Some (Abort (slice_index f.bytes 1) (pgn_named f))) None (Kind f) (λ y. tt) (λ y. tt)))))

kind_is : (f : FrameRecord) → Kind f (said_by f)
unfolding said_by packet_in frame.group_of
kind_is f =
    cond_both (frame.group_of f.id == 60160 && length f.bytes == 8) (packet_in f) _ (Kind f)
    (λ t. cond_both (is_key (key_between (frame.source_of f.id) (frame.destination_of f.id))) (Some (Packet (slice_index f.bytes 0) (drop 1 f.bytes))) None (Kind f)
    (λ u. eqb-true _ _ (and_parts (frame.group_of f.id == 60160) (length f.bytes == 8) t).0) (λ u. tt))
    (λ t. cond_both (frame.group_of f.id == 60416 && length f.bytes == 8) (control_in f) None (Kind f)
    (λ u. control_kind f (eqb-true _ _ (and_parts (frame.group_of f.id == 60416) (length f.bytes == 8) u).0)) (λ u. tt))

-- whence and where it goes, and what it is
pub record Goes (a d : ℕ) (f : FrameRecord) (s : Option Signal) : Type 0 where
  pub source : source_of f.id ≡ a
  pub destination : ps_of f.id ≡ d
  pub kind : Kind f s

pub parts_of : (a d : ℕ) (f : FrameRecord) (s : Signal) → said_between a d f ≡ Some s → Goes a d f (Some s)
unfolding said_between frame.source_of frame.destination_of
parts_of a d f s =
    cond_both (frame.source_of f.id == a && frame.destination_of f.id == d) (said_by f) None (λ o. o ≡ Some s → Goes a d f (Some s))
    (λ t e. (let p = and_parts (frame.source_of f.id == a) (frame.destination_of f.id == d) t in
    record { source = eqb-true _ _ p.0; destination = eqb-true _ _ p.1; kind = subst (Kind f) e (kind_is f) }))
    (λ t e. absurd (cc))

-- it goes to d
pub directed : (id d : ℕ) → destination_of id ≡ Some d → ps_of id ≡ d
directed id d e = grind (arith, e)

request_made : ℕ → MessageRecord → FrameRecord
request_made d b = at_moment 0 (announcement_of (Directed b.source d) b)

pub says_request : (a d : ℕ) (b : MessageRecord) (f : FrameRecord) → a < 254 → d < 254 → IsLong b → b.source ≡ a → message_of f ≡ move d b (request_of b) → said_between a d f ≡ Some (request_of b)
unfolding said_between said_by control_in request_in frame.group_of frame.source_of frame.destination_of request_made announcement_of
says_request a d b f l m long own e =
    let s : source_of f.id ≡ a = ap (λ (m : Message). m.source) e ∙ own in
    let g : pgn_of f.id ≡ 60416 = ap (λ (m : Message). m.group) e in
    let p : ps_of f.id ≡ d = directed f.id d (ap (λ (m : Message). m.destination) e) in
    let is : f.bytes ≡ (request_made d b).bytes = ap (λ (m : Message). m.bytes) e in
    let n : length f.bytes ≡ 8 = ap length is in
    let x = announces_it (Directed b.source d) b 0 long (let k = long.message.source in λ i. lt-ltb b.source 254 k i && lt-ltb d 254 m i) in
    let facts = announcement_facts (Directed b.source d) (request_made d b) x.announced in
    let z : slice_index f.bytes 0 ≡ 16 = ap (λ bs. slice_index bs 0) is in
    let most : slice_index f.bytes 4 ≡ 255 = ap (λ bs. slice_index bs 4) is in
    let names = same_names f (request_made d b) is ∙ facts.names in
    let size : size_named f ≡ length b.bytes = ap (λ (bs : List ℕ). slice_index bs 1 + 256 * slice_index bs 2) is ∙ x.size in
    let count : packets_named f ≡ packets_of b = ap (λ (bs : List ℕ). slice_index bs 3) is ∙ x.packets in
    let pgn : pgn_named f ≡ b.pgn = ap (λ (bs : List ℕ). slice_index bs 5 + 256 * slice_index bs 6 + 65536 * slice_index bs 7) is ∙ x.pgn in
    grind (arith, s, g, p, n, z, most, names, size, count, pgn, l, m)

pub says_packet : (a d i : ℕ) (b : MessageRecord) (f : FrameRecord) → a < 254 → d < 254 → b.source ≡ a → message_of f ≡ move d b (Packet i (packet_data b.bytes i))
    → said_between a d f ≡ Some (Packet i (packet_data b.bytes i))
unfolding said_between said_by packet_in key_between frame.group_of frame.source_of frame.destination_of
says_packet a d i b f l m own e =
    let s : source_of f.id ≡ a = ap (λ (m : Message). m.source) e ∙ own in
    let g : pgn_of f.id ≡ 60160 = ap (λ (m : Message). m.group) e in
    let p : ps_of f.id ≡ d = directed f.id d (ap (λ (m : Message). m.destination) e) in
    let is : f.bytes ≡ i ∷ packet_data b.bytes i = ap (λ (m : Message). m.bytes) e in
    let n : length f.bytes ≡ 8 = ap length is ∙ ap suc (packet_length b.bytes i) in
    let z : slice_index f.bytes 0 ≡ i = ap (λ bs. slice_index bs 0) is in
    let part : drop 1 f.bytes ≡ packet_data b.bytes i = ap (drop 1) is in
    grind (arith, s, g, p, n, z, part, l, m)

-- ---- what is neither a request nor a packet there

pub record IsBeside (a d : ℕ) (f : FrameRecord) : Type 0 where
  pub no_request : IsNoRts (said_between a d f)
  pub no_packet : (i : ℕ) (part : List ℕ) → said_between a d f ≢ Some (Packet i part)

pub beside_by : (a d : ℕ) (f : FrameRecord) → (ps_of f.id ≡ d → pgn_of f.id ≡ 60416 → slice_index f.bytes 0 ≡ 16 → ⊥) → (ps_of f.id ≡ d → pgn_of f.id ≡ 60160 → ⊥) → IsBeside a d f
beside_by a d f c k = record {
  no_request = λ size packets most pgn e. (let g = parts_of a d f (RequestToSend size packets most pgn) e in c g.destination g.kind.0 g.kind.1);
  no_packet = λ i part e. (let g = parts_of a d f (Packet i part) e in k g.destination g.kind);
}

-- the first reply is no request
reply_bytes : (own : ℕ) (L : List Reply) (m : Message) → All IsAnswer L → slice_get (map (said_from own) L) 0 ≡ Some m → slice_index m.bytes 0 ≢ 16
reply_bytes own [] m h e = absurd (cc)
reply_bytes own (x ∷ L) m h e =
    let z : said_from own x ≡ m = cc in subst (λ (n : Message). slice_index n.bytes 0 ≢ 16) z (All-head IsAnswer x L h)

not_that : (t b : Bool) → t ≡ true → (t && not b) ≡ false → b ≡ true
not_that t b e g = grind (arith, e, g)

to_one : (d : ℕ) (o : Option ℕ) → d < 254 → o ≡ Some d → not (is_some o 255) ≡ true
to_one d o l e = ap (λ (o : Option ℕ). not (is_some o 255)) e ∙ ap not (ne_eqb d 255 (λ z. absurd (omega (arith, l, z))))

-- so a frame that isn't of a transfer is neither
module _ (w : Who) (H : List Call) (f : FrameRecord) (d : ℕ) (small : d < 254) (other : is_move w H f ≡ false) where
  pub its_reply : ps_of f.id ≡ d → is_session f ≡ true → destination_of f.id ≡ Some (ps_of f.id) → is_that (message_of f) (slice_get (all_replies w H) 0) ≡ true
  its_reply p s g =
      not_that (is_transfer f) (is_that (message_of f) (slice_get (all_replies w H) 0))
      (let t = to_one d (destination_of f.id) small (g ∙ ap (λ (n : ℕ). (let o : Option ℕ = Some n in o)) p) in λ i. s i && t i) other

  -- the first of those that wait
  pub first_reply : is_that (message_of f) (slice_get (all_replies w H) 0) ≡ true → (x : Reply) × (xs : List Reply) × ((reception w H).replies ≡ x ∷ xs) × (destination_of f.id ≡ Some x.to) × (f.bytes ≡ x.bytes)
  first_reply = go (reception w H).replies refl
    where
      go : (L : List Reply) → (reception w H).replies ≡ L → is_that (message_of f) (slice_get (map (said_from (reception w H).own) L) 0) ≡ true
          → (x : Reply) × (xs : List Reply) × ((reception w H).replies ≡ x ∷ xs) × (destination_of f.id ≡ Some x.to) × (f.bytes ≡ x.bytes)
      go [] e t = absurd (cc)
      go (x ∷ xs) e t =
          let p = and_parts (nat_eq (pgn_of f.id) 60416) (is_same (destination_of f.id) (Some x.to) && bytes_eq f.bytes x.bytes) t in
          let q = and_parts (is_same (destination_of f.id) (Some x.to)) (bytes_eq f.bytes x.bytes) p.1 in
          (x, xs, e, same_is (destination_of f.id) (Some x.to) q.0, (bytes_eq-Decides f.bytes x.bytes).0 q.1)

  by_reply : is_that (message_of f) (slice_get (all_replies w H) 0) ≡ true → (pgn_of f.id ≡ 60416) × (slice_index f.bytes 0 ≢ 16)
  by_reply = go (slice_get (all_replies w H) 0) refl
    where
      go : (o : Option Message) → slice_get (all_replies w H) 0 ≡ o → is_that (message_of f) o ≡ true → (pgn_of f.id ≡ 60416) × (slice_index f.bytes 0 ≢ 16)
      go None e t = absurd (cc)
      go (Some m) e t =
          let p = and_parts (nat_eq (pgn_of f.id) m.group) (is_same (destination_of f.id) m.destination && bytes_eq f.bytes m.bytes) t in
          let q = and_parts (is_same (destination_of f.id) m.destination) (bytes_eq f.bytes m.bytes) p.1 in
          let bytes : f.bytes ≡ m.bytes = (bytes_eq-Decides f.bytes m.bytes).0 q.1 in (
            eqb-true _ _ p.0 ∙ (reply_of w H 0 m e).group,
            subst (λ (bs : List ℕ). slice_index bs 0 ≢ 16) (sym bytes)
                (reply_bytes (reception w H).own (reception w H).replies m (all_answer w.address w.window w.sessions (events w H)) e),
          )

  pub not_moved : (a : ℕ) → IsBeside a d f
  not_moved a = beside_by a d f
      (λ p g z. (by_reply (its_reply p (ap (λ (n : ℕ). nat_eq n 60416 || nat_eq n 60160) g) (goes_there f 60416 (omega arith) g))).1 z)
      (λ p g. (let r = by_reply (its_reply p (ap (λ (n : ℕ). nat_eq n 60416 || nat_eq n 60160) g) (goes_there f 60160 (omega arith) g)) in absurd (let x = r.0 in omega (arith, x, g))))

-- ---- which frame of a transfer

pub data MoveKind (m : MessageRecord) (xs : List Message) (a : Signal) : Type 0 where
  requests : xs ≡ [] → a ≡ request_of m → MoveKind m xs a
  packs : (i : ℕ) → xs ≢ [] → i ≤ packets_of m → a ≡ Packet i (packet_data m.bytes i) → MoveKind m xs a
  aborts : (reason : ℕ) → xs ≢ [] → a ≡ Abort reason m.pgn → MoveKind m xs a

ticking : (t : Running) (now : ℕ) (a : Signal) → gives_up t ≡ false → signal_by now t ≡ Some a → (send_step t.sender Tick now).says ≡ Some a
ticking t now a e f = grind (arith, e, f)

pub kind_of : (t : Running) (now : ℕ) (xs : List Message) (a : Signal) → Moved t.sender xs → signal_by now t ≡ Some a → MoveKind t.sender.message xs a
kind_of t now xs a h e = go (gives_up t) refl
  where
    by : SignalCase t.sender xs a → MoveKind t.sender.message xs a
    by (SignalCase.requests n z) = requests n z
    by (SignalCase.packs i n l k z) = packs i n k z
    by (SignalCase.times_out n z) = aborts 3 n z

    go : (b : Bool) → gives_up t ≡ b → MoveKind t.sender.message xs a
    go true g = aborts 5 (running_some _ _ xs t.sender.state h.state (and_parts (is_spent t) (is_running t.sender.state) g).1) (given_up t now a g e)
    go false g = by (signal_case t.sender now xs a h (ticking t now a g e))
