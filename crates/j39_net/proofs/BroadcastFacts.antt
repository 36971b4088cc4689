-- Frames of broadcasts, as they are taken and heard.
use Rattle.std.proofs.Common.{if◌then◌else◌, ◌&&◌, ◌==◌, ◌+◌, ◌*◌, ◌<◌, ◌||◌, ◌∙◌, ◌∷◌, ◌≡◌, ◌≤◌, ap, arith, Bool, drop, eq-eqb, false, inl, inr, length, List, lt-ltb, nat_eq, nat_lt, None, Option, refl, slice_index, Some, suc, true, ℕ}
use Rattle.std.proofs.lemmas.Bool.{cases_lt, ne_eqb}
use Rattle.j39_frame.specs.Frame.{FrameRecord}
use Rattle.j39_frame.specs.Identifier.{destination_of, page_of, pf_of, pgn_of, ps_of, source_of}
use Rattle.j39_transport.proofs.FrameFacts.{announcement_facts}
use Rattle.j39_transport.proofs.FrameLemmas.{announces as announces_it, AnnouncesOf}
use Rattle.j39_transport.proofs.PacketLemmas.{packet_length}
use Rattle.j39_transport.specs.Cutting.{announcement_of, at_moment, cut_frame, packet_data, packet_of}
use Rattle.j39_transport.specs.Frames as frame
use Rattle.j39_transport.specs.Frames.{names_message, packets_named, pgn_named, size_named}
use Rattle.j39_transport.specs.Key.{Broadcast}
use Rattle.j39_transport.specs.Message.{as_broadcast, IsLong, MessageRecord, packets_of}
use Rattle.j39_node.proofs.PacketsAnswer.{packs_to_all}
use Rattle.j39_node.specs.Hearing.{announces, packs}
use Rattle.j39_node.specs.History.{frame_of, is_claim, is_packet, is_session, is_some, Message, message_of}

pub announces_group : (f : FrameRecord) → announces f ≡ true → pgn_of f.id ≡ 60416
unfolding frame.group_of
announces_group f e = (announcement_facts (Broadcast (source_of f.id)) f e).pgn

packs_group : (f : FrameRecord) → packs f ≡ true → pgn_of f.id ≡ 60160
unfolding frame.is_packet frame.goes frame.group_of frame.source_of frame.destination_of
packs_group f e = grind (arith, e)

announces_ps : (f : FrameRecord) → announces f ≡ true → ps_of f.id ≡ 255
unfolding frame.destination_of
announces_ps f e = (announcement_facts (Broadcast (source_of f.id)) f e).destination

too_large : (page group rest : ℕ) → page * 65536 + group * 256 + rest ≡ 60416 → 240 ≤ group → ⊥
too_large page group rest e l = omega (arith, e, l)

-- the group of announcements has a destination
directed : (id : ℕ) → pgn_of id ≡ 60416 → ps_of id ≡ 255 → destination_of id ≡ Some 255
directed id e d = elim (cases_lt (pf_of id) 240) [
  | inl l ↦ ap (λ (t : Bool). if t then Some (ps_of id) else None) (lt-ltb (pf_of id) 240 l) ∙ ap (λ (n : ℕ). (let o : Option ℕ = Some n in o)) d
  | inr l ↦ absurd (too_large (page_of id) (pf_of id) (if nat_lt (pf_of id) 240 then 0 else ps_of id) e l)
]

pub announces_packet : (f : FrameRecord) → announces f ≡ true → is_packet f ≡ true
announces_packet f e =
    let s : is_session f ≡ true = ap (λ (g : ℕ). nat_eq g 60416 || nat_eq g 60160) (announces_group f e) in
    let d : is_some (destination_of f.id) 255 ≡ true = ap (λ (o : Option ℕ). is_some o 255) (directed f.id (announces_group f e) (announces_ps f e)) in
    λ i. s i && d i

pub packs_packet : (f : FrameRecord) → packs f ≡ true → is_packet f ≡ true
packs_packet f e =
    let s : is_session f ≡ true = ap (λ (g : ℕ). nat_eq g 60416 || nat_eq g 60160) (packs_group f e) in
    let d : is_some (destination_of f.id) 255 ≡ true = ap (λ (o : Option ℕ). is_some o 255) (packs_to_all f e) in
    λ i. s i && d i

pub announces_no_claim : (f : FrameRecord) → announces f ≡ true → is_claim f ≡ false
announces_no_claim f e = ap (λ (g : ℕ). nat_eq g 60928) (announces_group f e)

pub packs_no_claim : (f : FrameRecord) → packs f ≡ true → is_claim f ≡ false
packs_no_claim f e = ap (λ (g : ℕ). nat_eq g 60928) (packs_group f e)

-- no frame is both
pub not_packs : (f : FrameRecord) → pgn_of f.id ≡ 60416 → packs f ≡ true → ⊥
not_packs f e d = let z = packs_group f d in absurd (omega (arith, e, z))

pub not_announces : (f : FrameRecord) → pgn_of f.id ≡ 60160 → announces f ≡ true → ⊥
not_announces f e d = let z = announces_group f d in absurd (omega (arith, e, z))

-- ---- what is taken

pub record IsAnnouncement (b : MessageRecord) (f : FrameRecord) : Type 0 where
  pub source : source_of f.id ≡ b.source
  pub group : pgn_of f.id ≡ 60416
  pub announces : announces f ≡ true
  pub size : size_named f ≡ length b.bytes
  pub count : packets_named f ≡ packets_of b
  pub pgn : pgn_named f ≡ b.pgn

-- its destination
pub to_all : (id : ℕ) → destination_of id ≡ Some 255 → ps_of id ≡ 255
to_all id e = grind (arith, e)

pub made : (b : MessageRecord) → FrameRecord
made b = at_moment 0 (announcement_of (as_broadcast b) b)

bytes_made : (b : MessageRecord) (f : FrameRecord) → message_of f ≡ frame_of b 0 → f.bytes ≡ (made b).bytes
unfolding cut_frame made
bytes_made b f e = ap (λ (m : Message). m.bytes) e

eight : (b : MessageRecord) → length (made b).bytes ≡ 8
unfolding made announcement_of
eight b = refl

pub same_names : (f g : FrameRecord) → f.bytes ≡ g.bytes → names_message f ≡ names_message g
unfolding names_message
same_names f g e = λ i. names_message (record { stamp = 0; id = 0; bytes = e i })

announces_by : (f : FrameRecord) → source_of f.id < 254 → pgn_of f.id ≡ 60416 → ps_of f.id ≡ 255 → length f.bytes ≡ 8 → slice_index f.bytes 0 ≡ 32
    → names_message f ≡ true → announces f ≡ true
unfolding frame.is_announcement frame.goes frame.group_of frame.source_of frame.destination_of
announces_by f s g d l k n =
    let a : nat_lt (source_of f.id) 254 ≡ true = lt-ltb (source_of f.id) 254 s in
    let b : (pgn_of f.id == 60416) ≡ true = eq-eqb (pgn_of f.id) 60416 g in
    let c : (ps_of f.id == 255) ≡ true = eq-eqb (ps_of f.id) 255 d in
    let e : (source_of f.id == source_of f.id) ≡ true = eq-eqb (source_of f.id) (source_of f.id) refl in
    let h : (length f.bytes == 8) ≡ true = eq-eqb (length f.bytes) 8 l in
    let m : (slice_index f.bytes 0 == 32) ≡ true = eq-eqb (slice_index f.bytes 0) 32 k in
    λ i. a i && (b i && c i && e i && h i) && m i && n i

its : (b : MessageRecord) → IsLong b → AnnouncesOf (as_broadcast b) b (made b)
unfolding made
its b l = announces_it (as_broadcast b) b 0 l (lt-ltb b.source 254 l.message.source)

pub announcement : (b : MessageRecord) (f : FrameRecord) → IsLong b → message_of f ≡ frame_of b 0 → IsAnnouncement b f
announcement b f l e =
    let s : source_of f.id ≡ b.source = ap (λ (m : Message). m.source) e in
    let g : pgn_of f.id ≡ 60416 = ap (λ (m : Message). m.group) e in
    let d : ps_of f.id ≡ 255 = to_all f.id (ap (λ (m : Message). m.destination) e) in
    let is = bytes_made b f e in
    let a = its b l in
    let facts = announcement_facts (as_broadcast b) (made b) a.announced in
    record {
      source = s;
      group = g;
      announces = announces_by f (let z = l.message.source in omega (arith, z, s)) g d (ap length is ∙ eight b)
          (ap (λ bs. slice_index bs 0) is ∙ facts.first) (same_names f (made b) is ∙ facts.names);
      size = ap (λ (bs : List ℕ). slice_index bs 1 + 256 * slice_index bs 2) is ∙ a.size;
      count = ap (λ (bs : List ℕ). slice_index bs 3) is ∙ a.packets;
      pgn = ap (λ (bs : List ℕ). slice_index bs 5 + 256 * slice_index bs 6 + 65536 * slice_index bs 7) is ∙ a.pgn;
    }

pub record IsPacket (b : MessageRecord) (j : ℕ) (f : FrameRecord) : Type 0 where
  pub group : pgn_of f.id ≡ 60160
  pub number : slice_index f.bytes 0 ≡ suc j
  pub carried : drop 1 f.bytes ≡ packet_data b.bytes (suc j)

pub packet : (b : MessageRecord) (j : ℕ) (f : FrameRecord) → message_of f ≡ frame_of b (suc j) → IsPacket b j f
unfolding cut_frame packet_of
packet b j f e =
    let z : (suc j == 0) ≡ false = ne_eqb (suc j) 0 (λ d. omega (arith, d)) in
    let bytes : f.bytes ≡ suc j ∷ packet_data b.bytes (suc j) = ap (λ (m : Message). m.bytes) e
    ∙ ap (λ (t : Bool). (if t then announcement_of (as_broadcast b) b else packet_of (as_broadcast b) b (suc j)).bytes) z in
    record {
      group = ap (λ (m : Message). m.group) e ∙ ap (λ (t : Bool). if t then 60416 else 60160) z;
      number = ap (λ bs. slice_index bs 0) bytes;
      carried = ap (drop 1) bytes;
    }

pub packet_packs : (b : MessageRecord) (j : ℕ) (f : FrameRecord) → IsLong b → message_of f ≡ frame_of b (suc j) → (packs f ≡ true) × (source_of f.id ≡ b.source)
unfolding cut_frame packet_of frame.is_packet frame.goes frame.group_of frame.source_of frame.destination_of
packet_packs b j f l e =
    let s : source_of f.id ≡ b.source = ap (λ (m : Message). m.source) e in
    let z : (suc j == 0) ≡ false = ne_eqb (suc j) 0 (λ d. omega (arith, d)) in
    let bytes : f.bytes ≡ suc j ∷ packet_data b.bytes (suc j) = ap (λ (m : Message). m.bytes) e
    ∙ ap (λ (t : Bool). (if t then announcement_of (as_broadcast b) b else packet_of (as_broadcast b) b (suc j)).bytes) z in
    let a : nat_lt (source_of f.id) 254 ≡ true = lt-ltb (source_of f.id) 254 (let k = l.message.source in omega (arith, k, s)) in
    let g : (pgn_of f.id == 60160) ≡ true = eq-eqb (pgn_of f.id) 60160 (packet b j f e).group in
    let c : (ps_of f.id == 255) ≡ true = eq-eqb (ps_of f.id) 255 (to_all f.id (ap (λ (m : Message). m.destination) e)) in
    let d : (source_of f.id == source_of f.id) ≡ true = eq-eqb (source_of f.id) (source_of f.id) refl in
    let h : (length f.bytes == 8) ≡ true = eq-eqb (length f.bytes) 8 (ap length bytes ∙ ap suc (packet_length b.bytes (suc j))) in
    (λ i. a i && (g i && c i && d i && h i), s)
