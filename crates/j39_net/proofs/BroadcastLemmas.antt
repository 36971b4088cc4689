-- What is heard of broadcasts was taken.
use Rattle.std.proofs.Common.{[], ◌++◌, ◌+◌, ◌*◌, ◌<◌, ◌∙◌, ◌∷◌, ◌≡◌, ◌≤◌, ap, append-nil, append_assoc, arith, drop, false, inl, inr, length, length-append, List, None, Option, refl, slice_index, Some, subst, suc, sym, take, true, ℕ}
use Rattle.std.specs.Prelude.{replicate}
use Rattle.std.proofs.lemmas.Bool.{leb-false, leb-true}
use Rattle.std.proofs.lemmas.List.{length-take, take-take, take_at}
use Rattle.j39_frame.specs.Frame.{FrameRecord}
use Rattle.j39_frame.specs.Identifier.{pgn_of, source_of}
use Rattle.j39_transport.proofs.PacketLemmas.{joined_more}
use Rattle.j39_transport.specs.Cutting.{packet_data}
use Rattle.j39_transport.specs.Message.{IsLong, MessageRecord, packets_of}
use Rattle.j39_node.specs.Hearing.{announces, is_whole, message_by, OpenBroadcast, packs}
use Rattle.j39_node.specs.History.{frame_of, is_claim, is_packet, message_of}
use Rattle.j39_net.proofs.BroadcastFacts.{announcement, announces_no_claim, announces_packet, IsAnnouncement, IsPacket, not_announces, not_packs, packet, packs_no_claim, packs_packet}
use Rattle.j39_net.proofs.CourseLemmas.{Course}
use Rattle.j39_net.proofs.HearLemmas.{Hears, IsGrown, Listens, same_announces, same_packs, Step}
use Rattle.j39_net.proofs.PartLemmas.{part_longer, part_push}
use Rattle.j39_node.proofs.Tests.{not_both}
use Rattle.j39_net.proofs.ReportLemmas.{push_cases}
use Rattle.j39_net.specs.Net.{IsPart}

-- ---- what is taken, and heard of it

pub data Join (a : ℕ) (Missing : FrameRecord → Type 0) : List FrameRecord → List FrameRecord → Type 0 where
  none : Join a Missing [] []
  lost : (fs gs : List FrameRecord) (f : FrameRecord) → Missing f → Join a Missing fs gs → Join a Missing (fs ++ f ∷ []) gs
  comes : (fs gs : List FrameRecord) (f g : FrameRecord) → g.id ≡ f.id → g.bytes ≡ f.bytes → Join a Missing fs gs → Join a Missing (fs ++ f ∷ []) (gs ++ g ∷ [])
  other : (fs gs : List FrameRecord) (g : FrameRecord) → (source_of g.id ≡ a → is_claim g ≡ true) → Join a Missing fs gs → Join a Missing fs (gs ++ g ∷ [])

-- no announcement from there
abbrev pub Unannounced : ℕ → FrameRecord → Type 0
Unannounced a f = announces f ≡ true → source_of f.id ≡ a → ⊥

pub push_same : {T : Type 0} (xs us : List T) (g f : T) → xs ++ g ∷ [] ≡ us ++ f ∷ [] → (xs ≡ us) × (g ≡ f)
push_same xs us g f e = elim (push_cases xs us [] g f e) [
  | inl h ↦ h
  | inr h ↦ absurd (
      let a = ap length e in
      let b = ap length h.1 in
      let c = length-append xs (g ∷ []) in
      let d = length-append us (f ∷ []) in
      let k = length-append us (f ∷ h.0) in
      omega (arith, a, b, c, d, k))
]

pub none_pushed : {T : Type 0} (xs : List T) (g : T) → xs ++ g ∷ [] ≡ [] → ⊥
none_pushed xs g e = let a = ap length e in let b = length-append xs (g ∷ []) in absurd (omega (arith, a, b))

-- the last frame that was heard
pub record Last {S T : Type 0} (Step : FrameRecord → Option S → Option S → List T → Type 0) (gs : List FrameRecord) (g : FrameRecord) (p : Option S) (W : List T) : Type 0 where
  pub before : Option S
  pub whole : List T
  pub made : List T
  pub hears : Hears Step gs before whole
  pub step : Step g before p made
  pub is : W ≡ whole ++ made

module _ {S T : Type 0} (Step : FrameRecord → Option S → Option S → List T → Type 0) where
  pub last_heard : ((g : FrameRecord) (o p : Option S) (made : List T) → Step g o p made → Step g o None made) → (hs : List FrameRecord) (p : Option S) (W : List T) → Hears Step hs p W
      → (gs : List FrameRecord) (g : FrameRecord) → hs ≡ gs ++ g ∷ [] → Last Step gs g p W
  last_heard lose hs p W Hears.none gs g e = absurd (none_pushed gs g (sym e))
  last_heard lose hs p W (Hears.loses xs o V h) gs g e =
      let l = last_heard lose xs o V h gs g e in
      record { before = l.before; whole = l.whole; made = l.made; hears = l.hears; step = lose g l.before o l.made l.step; is = l.is }
  last_heard lose hs p W (Hears.heard xs x o q V made s h) gs g e =
      let z = push_same xs gs x g e in
      record {
        before = o;
        whole = V;
        made = made;
        hears = subst (λ ys. Hears Step ys o V) z.0 h;
        step = subst (λ y. Step y o q made) z.1 s;
        is = refl;
      }

  pub nothing_heard : (hs : List FrameRecord) (p : Option S) (W : List T) → Hears Step hs p W → hs ≡ [] → (p ≡ None) × (W ≡ [])
  nothing_heard hs p W Hears.none e = (refl, refl)
  nothing_heard hs p W (Hears.loses xs o V h) e = (refl, (nothing_heard xs o V h e).1)
  nothing_heard hs p W (Hears.heard xs x o q V made s h) e = absurd (none_pushed xs x e)

lose_step : (a : ℕ) (g : FrameRecord) (o p : Option OpenBroadcast) (made : List MessageRecord) → Step a g o p made → Step a g o None made
lose_step a g o p made (Step.ends q) = Step.ends q
lose_step a g o p made (Step.stays q c) = Step.ends q
lose_step a g o p made (Step.opens q y s e b) = Step.ends q
lose_step a g o p made (Step.grows x y s e h) = Step.ends (Some x)
lose_step a g o p made (Step.makes x y s e h w) = Step.makes x y s e h w

-- the last frame that was taken
pub data Latest (a : ℕ) (A : List MessageRecord) (o : Option (MessageRecord × ℕ)) (fs : List FrameRecord) (f : FrameRecord) : Type 0 where
  is_beside : is_packet f ≡ false → Course a A o fs → Latest a A o fs f
  has_begun : (A0 : List MessageRecord) (o0 : Option (MessageRecord × ℕ)) (b : MessageRecord) → A ≡ A0 ++ b ∷ [] → o ≡ Some (b, 1) → IsLong b → b.source ≡ a
      → message_of f ≡ frame_of b 0 → Course a A0 o0 fs → Latest a A o fs f
  has_gone : (b : MessageRecord) (j : ℕ) → o ≡ Some (b, suc (suc j)) → message_of f ≡ frame_of b (suc j) → suc j ≤ packets_of b → Course a A (Some (b, suc j)) fs → Latest a A o fs f

pub latest : (a : ℕ) (A : List MessageRecord) (o : Option (MessageRecord × ℕ)) (hs : List FrameRecord) → Course a A o hs → (fs : List FrameRecord) (f : FrameRecord) → hs ≡ fs ++ f ∷ []
    → Latest a A o fs f
latest a A o hs Course.none fs f e = absurd (none_pushed fs f (sym e))
latest a A o hs (Course.beside B q xs x p c) fs f e =
    let z = push_same xs fs x f e in is_beside (ap is_packet (sym z.1) ∙ p) (subst (Course a B q) z.0 c)
latest a A o hs (Course.begins B q xs x b long own m c) fs f e =
    let z = push_same xs fs x f e in has_begun B q b refl refl long own (ap message_of (sym z.1) ∙ m) (subst (Course a B q) z.0 c)
latest a A o hs (Course.goes_on B xs x b j m l c) fs f e =
    let z = push_same xs fs x f e in has_gone b j refl (ap message_of (sym z.1) ∙ m) l (subst (Course a B (Some (b, suc j))) z.0 c)

-- ---- what is open is of the last message that was announced

-- the packets that came are its first
pub record Fits (b : MessageRecord) (j : ℕ) (y : OpenBroadcast) : Type 0 where
  pub source : y.source ≡ b.source
  pub group : y.group ≡ b.pgn
  pub size : y.size ≡ length b.bytes
  pub count : suc y.count ≤ j
  pub bytes : y.bytes ≡ take (7 * y.count) (b.bytes ++ replicate 7 255)

record IsOpen (A : List MessageRecord) (o : Option (MessageRecord × ℕ)) (y : OpenBroadcast) (W : List MessageRecord) : Type 0 where
  pub before : List MessageRecord
  pub message : MessageRecord
  pub number : ℕ
  pub announced : A ≡ before ++ message ∷ []
  pub last : o ≡ Some (message, number)
  pub fits : Fits message number y
  pub part : IsPart W before

abbrev Kept : List MessageRecord → Option (MessageRecord × ℕ) → Option OpenBroadcast → List MessageRecord → Type 0
Kept A o None W = IsPart W A
Kept A o (Some y) W = IsOpen A o y W

whole_part : (A : List MessageRecord) (o : Option (MessageRecord × ℕ)) (p : Option OpenBroadcast) (W : List MessageRecord) → Kept A o p W → IsPart W A
whole_part A o None W h = h
whole_part A o (Some y) W h = subst (IsPart W) (sym h.announced) (part_longer W h.before (h.message ∷ []) h.part)

ended : (A : List MessageRecord) (o q : Option (MessageRecord × ℕ)) (p : Option OpenBroadcast) (W : List MessageRecord) → Kept A o p W → Kept A q None (W ++ [])
ended A o q p W h = subst (λ V. IsPart V A) (sym (append-nil W)) (whole_part A o p W h)

stayed : (A : List MessageRecord) (o : Option (MessageRecord × ℕ)) (p : Option OpenBroadcast) (W : List MessageRecord) → Kept A o p W → Kept A o p (W ++ [])
stayed A o p W h = subst (Kept A o p) (sym (append-nil W)) h

abbrev pub at_last : MessageRecord → ℕ → Option (MessageRecord × ℕ)
at_last b j = Some (b, j)

pub same_last : (m b : MessageRecord) (n j : ℕ) → at_last b j ≡ at_last m n → (b ≡ m) × (j ≡ n)
same_last m b n j e =
    let x : MessageRecord × ℕ = (b, j) in
    let y : MessageRecord × ℕ = (m, n) in
    let z : x ≡ y = cc in (ap (λ (v : MessageRecord × ℕ). v.0) z, ap (λ (v : MessageRecord × ℕ). v.1) z)

-- a packet more was taken
later_on : (A : List MessageRecord) (b : MessageRecord) (j : ℕ) (p : Option OpenBroadcast) (W : List MessageRecord) → Kept A (Some (b, suc j)) p W → Kept A (Some (b, suc (suc j))) p W
later_on A b j None W h = h
later_on A b j (Some y) W h =
    let z = same_last h.message b h.number (suc j) h.last in
    record {
      before = h.before;
      message = h.message;
      number = suc (suc j);
      announced = h.announced;
      last = ap (λ (v : MessageRecord). (let o : Option (MessageRecord × ℕ) = Some (v, suc (suc j)) in o)) z.0;
      fits = record {
        source = h.fits.source;
        group = h.fits.group;
        size = h.fits.size;
        count = let l = h.fits.count in let k = z.1 in omega (arith, l, k);
        bytes = h.fits.bytes;
      };
      part = h.part;
    }

-- what is no frame of a broadcast from there
beside_step : (a : ℕ) (g : FrameRecord) (A : List MessageRecord) (o : Option (MessageRecord × ℕ)) (q p : Option OpenBroadcast) (W made : List MessageRecord)
    → (announces g ≡ true → source_of g.id ≡ a → ⊥) → (packs g ≡ true → source_of g.id ≡ a → ⊥) → Step a g q p made → Kept A o q W → Kept A o p (W ++ made)
beside_step a g A o q p W made c d (Step.ends r) h = ended A o o q W h
beside_step a g A o q p W made c d (Step.stays r e) h = stayed A o q W h
beside_step a g A o q p W made c d (Step.opens r y s e b) h = absurd (c e s)
beside_step a g A o q p W made c d (Step.grows x y s e k) h = absurd (d e s)
beside_step a g A o q p W made c d (Step.makes x y s e k w) h = absurd (d e s)

-- an announcement
begin_step : (a : ℕ) (g : FrameRecord) (A : List MessageRecord) (o : Option (MessageRecord × ℕ)) (b : MessageRecord) (q p : Option OpenBroadcast) (W made : List MessageRecord)
    → b.source ≡ a → IsAnnouncement b g → Step a g q p made → Kept A o q W → Kept (A ++ b ∷ []) (Some (b, 1)) p (W ++ made)
begin_step a g A o b q p W made own i (Step.ends r) h = subst (λ V. IsPart V (A ++ b ∷ [])) (sym (append-nil W)) (part_longer W A (b ∷ []) (whole_part A o q W h))
begin_step a g A o b q p W made own i (Step.stays r e) h = absurd (not_both (announces g) (e (i.source ∙ own)) i.announces)
begin_step a g A o b q p W made own i (Step.opens r y s e n) h =
    subst (IsOpen (A ++ b ∷ []) (Some (b, 1)) y) (sym (append-nil W)) (record {
      before = A;
      message = b;
      number = 1;
      announced = refl;
      last = refl;
      fits = record {
        source = n.source ∙ sym own;
        group = n.group ∙ i.pgn;
        size = n.size ∙ i.size;
        count = let z = n.count in omega (arith, z);
        bytes = n.bytes ∙ ap (λ (k : ℕ). take (7 * k) (b.bytes ++ replicate 7 255)) (sym n.count);
      };
      part = whole_part A o q W h;
    })
begin_step a g A o b q p W made own i (Step.grows x y s e k) h = absurd (not_packs g i.group e)
begin_step a g A o b q p W made own i (Step.makes x y s e k w) h = absurd (not_packs g i.group e)

-- ---- a packet

-- the packet behind those that came
pub one_more : (b : MessageRecord) (j : ℕ) (g : FrameRecord) (x y : OpenBroadcast) → IsPacket b j g → IsGrown g x y → Fits b (suc j) x → Fits b (suc (suc j)) y
one_more b j g x y i k h =
    let n : x.count ≡ j = (let z = sym k.number ∙ i.number in omega (arith, z)) in
    let few : length x.bytes < x.size = leb-false x.size (length x.bytes) k.lacked in
    let long = ap length h.bytes ∙ length-take (7 * x.count) (b.bytes ++ replicate 7 255) in
    let all = length-append b.bytes (replicate 7 255) in
    let size = h.size in
    let within : 7 * x.count ≤ length b.bytes = omega (arith, few, long, all, size) in
    record {
      source = k.source ∙ h.source;
      group = k.group ∙ h.group;
      size = k.size ∙ h.size;
      count = let z = k.count in omega (arith, z, n);
      bytes = k.bytes ∙ ((λ t. h.bytes t ++ (i.carried ∙ ap (packet_data b.bytes) (let s : suc j ≡ x.count + 1 = omega (arith, n) in s)) t)
          ∙ (joined_more b.bytes x.count within ∙ ap (λ (c : ℕ). take (7 * c) (b.bytes ++ replicate 7 255)) (let z = k.count in let s : x.count + 1 ≡ y.count = omega (arith, z) in s)));
    }

-- the message that is whole
pub whole_is : (b : MessageRecord) (j : ℕ) (y : OpenBroadcast) → Fits b j y → is_whole y ≡ true → (message_by y).1 ≡ b
whole_is b j y h w =
    let enough : y.size ≤ length y.bytes = leb-true y.size (length y.bytes) w in
    let long = ap length h.bytes ∙ length-take (7 * y.count) (b.bytes ++ replicate 7 255) in
    let size = h.size in
    let within : length b.bytes ≤ 7 * y.count = omega (arith, enough, long, size) in
    let bytes : take y.size y.bytes ≡ b.bytes =
    (λ t. take (size t) (h.bytes t)) ∙ (take-take (length b.bytes) (7 * y.count) (b.bytes ++ replicate 7 255) within ∙ take_at b.bytes (replicate 7 255) (length b.bytes) refl) in
    λ t. record { source = h.source t; pgn = h.group t; bytes = bytes t }

packet_step : (a : ℕ) (g : FrameRecord) (A : List MessageRecord) (b : MessageRecord) (j : ℕ) (q p : Option OpenBroadcast) (W made : List MessageRecord)
    → IsPacket b j g → Step a g q p made → Kept A (Some (b, suc j)) q W → Kept A (Some (b, suc (suc j))) p (W ++ made)
packet_step a g A b j q p W made i (Step.ends r) h = ended A (Some (b, suc j)) (Some (b, suc (suc j))) q W h
packet_step a g A b j q p W made i (Step.stays r e) h = stayed A (Some (b, suc (suc j))) q W (later_on A b j q W h)
packet_step a g A b j q p W made i (Step.opens r y s e n) h = absurd (not_announces g i.group e)
packet_step a g A b j q p W made i (Step.grows x y s e k) h =
    let z = same_last h.message b h.number (suc j) h.last in
    subst (IsOpen A (Some (b, suc (suc j))) y) (sym (append-nil W)) (record {
      before = h.before;
      message = b;
      number = suc (suc j);
      announced = h.announced ∙ ap (λ (m : MessageRecord). h.before ++ m ∷ []) (sym z.0);
      last = refl;
      fits = one_more b j g x y i k (subst (λ m. Fits m (suc j) x) (sym z.0) (subst (λ n. Fits h.message n x) (sym z.1) h.fits));
      part = h.part;
    })
packet_step a g A b j q p W made i (Step.makes x y s e k w) h =
    let z = same_last h.message b h.number (suc j) h.last in
    let f = one_more b j g x y i k (subst (λ m. Fits m (suc j) x) (sym z.0) (subst (λ n. Fits h.message n x) (sym z.1) h.fits)) in
    subst (IsPart (W ++ (message_by y).1 ∷ [])) (sym (h.announced ∙ ap (λ (m : MessageRecord). h.before ++ m ∷ []) (sym z.0 ∙ sym (whole_is b (suc (suc j)) y f w))))
    (part_push W h.before (message_by y).1 h.part)

-- ---- all of it

is_same : (b : MessageRecord) (f g : FrameRecord) → g.id ≡ f.id → g.bytes ≡ f.bytes → IsAnnouncement b f → IsAnnouncement b g
is_same b f g e d i = record {
  source = ap source_of e ∙ i.source;
  group = ap pgn_of e ∙ i.group;
  announces = same_announces f g e d ∙ i.announces;
  size = ap (λ (bs : List ℕ). slice_index bs 1 + 256 * slice_index bs 2) d ∙ i.size;
  count = ap (λ (bs : List ℕ). slice_index bs 3) d ∙ i.count;
  pgn = ap (λ (bs : List ℕ). slice_index bs 5 + 256 * slice_index bs 6 + 65536 * slice_index bs 7) d ∙ i.pgn;
}

same_packet : (b : MessageRecord) (j : ℕ) (f g : FrameRecord) → g.id ≡ f.id → g.bytes ≡ f.bytes → IsPacket b j f → IsPacket b j g
same_packet b j f g e d i = record { group = ap pgn_of e ∙ i.group; number = ap (λ bs. slice_index bs 0) d ∙ i.number; carried = ap (drop 1) d ∙ i.carried }

Holds : ℕ → List FrameRecord → List FrameRecord → Type 0
Holds a fs gs = (A : List MessageRecord) (o : Option (MessageRecord × ℕ)) (p : Option OpenBroadcast) (W : List MessageRecord) → Course a A o fs → Listens a gs p W → Kept A o p W

lost_one : (a : ℕ) (fs gs : List FrameRecord) (f : FrameRecord) → (announces f ≡ true → source_of f.id ≡ a → ⊥) → Holds a fs gs → Holds a (fs ++ f ∷ []) gs
unfolding Holds
lost_one a fs gs f c h A o p W course l = go (latest a A o (fs ++ f ∷ []) course fs f refl)
  where
    go : Latest a A o fs f → Kept A o p W
    go (is_beside e k) = h A o p W k l
    go (has_begun A0 q b e d long own m k) = let i = announcement b f long m in absurd (c i.announces (i.source ∙ own))
    go (has_gone b j d m n k) = subst (λ q. Kept A q p W) (sym d) (later_on A b j p W (h A (Some (b, suc j)) p W k l))

other_one : (a : ℕ) (fs gs : List FrameRecord) (g : FrameRecord) → (source_of g.id ≡ a → is_claim g ≡ true) → Holds a fs gs → Holds a fs (gs ++ g ∷ [])
unfolding Holds
other_one a fs gs g c h A o p W course l =
    let x = last_heard (Step a) (lose_step a) (gs ++ g ∷ []) p W l gs g refl in
    subst (Kept A o p) (sym x.is) (beside_step a g A o x.before p x.whole x.made
    (λ e s. not_both (is_claim g) (announces_no_claim g e) (c s)) (λ e s. not_both (is_claim g) (packs_no_claim g e) (c s)) x.step (h A o x.before x.whole course x.hears))

comes_one : (a : ℕ) (fs gs : List FrameRecord) (f g : FrameRecord) → g.id ≡ f.id → g.bytes ≡ f.bytes → Holds a fs gs → Holds a (fs ++ f ∷ []) (gs ++ g ∷ [])
unfolding Holds
comes_one a fs gs f g id bytes h A o p W course l = subst (Kept A o p) (sym x.is) (go (latest a A o (fs ++ f ∷ []) course fs f refl))
  where
    x : Last (Step a) gs g p W
    x = last_heard (Step a) (lose_step a) (gs ++ g ∷ []) p W l gs g refl

    go : Latest a A o fs f → Kept A o p (x.whole ++ x.made)
    go (is_beside e k) = beside_step a g A o x.before p x.whole x.made
        (λ z s. not_both (is_packet f) e (announces_packet f (sym (same_announces f g id bytes) ∙ z)))
        (λ z s. not_both (is_packet f) e (packs_packet f (sym (same_packs f g id bytes) ∙ z))) x.step (h A o x.before x.whole k x.hears)
    go (has_begun A0 q b e d long own m k) =
        subst (λ B. Kept B o p (x.whole ++ x.made)) (sym e) (subst (λ r. Kept (A0 ++ b ∷ []) r p (x.whole ++ x.made)) (sym d)
        (begin_step a g A0 q b x.before p x.whole x.made own (is_same b f g id bytes (announcement b f long m)) x.step (h A0 q x.before x.whole k x.hears)))
    go (has_gone b j d m n k) =
        subst (λ r. Kept A r p (x.whole ++ x.made)) (sym d)
        (packet_step a g A b j x.before p x.whole x.made (same_packet b j f g id bytes (packet b j f m)) x.step (h A (Some (b, suc j)) x.before x.whole k x.hears))

nothing_one : (a : ℕ) (fs : List FrameRecord) → Holds a fs []
unfolding Holds
nothing_one a fs A o p W course l =
    let x = nothing_heard (Step a) [] p W l refl in subst (λ q. Kept A o q W) (sym x.0) (subst (λ V. IsPart V A) (sym x.1) tt)

-- behind what was taken before anything was heard
all_held : (a : ℕ) (early fs gs : List FrameRecord) → Join a (Unannounced a) fs gs → Holds a (early ++ fs) gs
all_held a early fs gs Join.none = nothing_one a (early ++ [])
all_held a early fs gs (Join.lost us vs f c h) =
    subst (λ xs. Holds a xs vs) (append_assoc early us (f ∷ [])) (lost_one a (early ++ us) vs f c (all_held a early us vs h))
all_held a early fs gs (Join.comes us vs f g e d h) =
    subst (λ xs. Holds a xs (vs ++ g ∷ [])) (append_assoc early us (f ∷ [])) (comes_one a (early ++ us) vs f g e d (all_held a early us vs h))
all_held a early fs gs (Join.other us vs g c h) = other_one a (early ++ us) vs g c (all_held a early us vs h)

pub heard_once : (a : ℕ) (early fs gs : List FrameRecord) → Join a (Unannounced a) fs gs → (A : List MessageRecord) (o : Option (MessageRecord × ℕ)) (p : Option OpenBroadcast) (W : List MessageRecord)
    → Course a A o (early ++ fs) → Listens a gs p W → IsPart W A
unfolding Holds
heard_once a early fs gs h A o p W c l = whole_part A o p W (all_held a early fs gs h A o p W c l)
