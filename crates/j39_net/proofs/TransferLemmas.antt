-- What is heard of transfers was taken.
use Rattle.std.proofs.Common.{[], ◌++◌, ◌+◌, ◌*◌, ◌<◌, ◌^◌, ◌∙◌, ◌∷◌, ◌≡◌, ◌≢◌, ◌≤◌, ap, append-nil, append_assoc, arith, eqb-true, false, length, List, None, Option, refl, Some, subst, suc, sym, take, true, ℕ}
use Rattle.std.specs.Prelude.{replicate}
use Rattle.std.proofs.lemmas.List.{take-take, take_at}
use Rattle.std.specs.List.{All}
use Rattle.j39_frame.specs.Frame.{FrameRecord}
use Rattle.j39_frame.specs.Identifier.{pgn_of, source_of}
use Rattle.j39_transport.proofs.PacketLemmas.{joined_more}
use Rattle.j39_transport.specs.Cutting.{packet_data}
use Rattle.j39_transport.specs.Key.{Directed}
use Rattle.j39_transport.specs.Message.{IsLong, MessageRecord, packets_of}
use Rattle.j39_transport.specs.Reception.{message_of}
use Rattle.j39_transport.specs.Sending.{request_of}
use Rattle.j39_transport.specs.Session.{grown, opened, SessionRecord}
use Rattle.j39_transport.specs.Signals.{Packet, RequestToSend, said_between, Signal}
use Rattle.j39_node.specs.History.{frames, is_claim}
use Rattle.j39_node.specs.Prompt.{claims_anew}
use Rattle.j39_node.specs.Reception.{delivered, session}
use Rattle.j39_node.specs.Transfers.{transfers}
use Rattle.j39_net.proofs.BroadcastLemmas.{Join, last_heard, Last, none_pushed, nothing_heard, push_same}
use Rattle.j39_net.proofs.CarriedLemmas.{joined}
use Rattle.j39_net.proofs.HearLemmas.{Hears, wholes}
use Rattle.j39_net.proofs.MoveCourse.{IsBeside, parts_of}
use Rattle.j39_net.proofs.PartLemmas.{part_longer, part_push, part_trans}
use Rattle.j39_net.proofs.SessionLemmas.{Asks, hears_transfers, plain, same_said, trace, wholes_are}
use Rattle.j39_net.proofs.StepLemmas.{all_some, IsNoRts, loses, mark, no_mark, somes, somes_more, somes_step, Step}
use Rattle.j39_net.proofs.TransferCourse.{Course, coursed}
use Rattle.j39_net.specs.Net.{hears, IsMember, IsNoRequest, IsPart, Member, messages_to, Net, OnlySends, Passed}

-- ---- the last frame that was taken

data Latest (a d : ℕ) (A : List MessageRecord) (fs : List FrameRecord) (f : FrameRecord) : Type 0 where
  is_beside : IsBeside a d f → Course a d A fs → Latest a d A fs f
  has_begun : (B : List MessageRecord) (b : MessageRecord) → A ≡ B ++ b ∷ [] → IsLong b → b.source ≡ a → said_between a d f ≡ Some (request_of b) → Course a d B fs → Latest a d A fs f
  has_gone : (B : List MessageRecord) (b : MessageRecord) (i : ℕ) → A ≡ B ++ b ∷ [] → said_between a d f ≡ Some (Packet i (packet_data b.bytes i)) → i ≤ packets_of b
      → Course a d (B ++ b ∷ []) fs → Latest a d A fs f

latest : (a d : ℕ) (A : List MessageRecord) (hs : List FrameRecord) → Course a d A hs → (fs : List FrameRecord) (f : FrameRecord) → hs ≡ fs ++ f ∷ [] → Latest a d A fs f
latest a d A hs Course.none fs f e = absurd (none_pushed fs f (sym e))
latest a d A hs (Course.beside B xs x p c) fs f e =
    let z = push_same xs fs x f e in is_beside (subst (IsBeside a d) z.1 p) (subst (Course a d B) z.0 c)
latest a d A hs (Course.begins B xs x b long own m c) fs f e =
    let z = push_same xs fs x f e in has_begun B b refl long own (ap (said_between a d) (sym z.1) ∙ m) (subst (Course a d B) z.0 c)
latest a d A hs (Course.packs B xs x b i m l c) fs f e =
    let z = push_same xs fs x f e in has_gone B b i refl (ap (said_between a d) (sym z.1) ∙ m) l (subst (Course a d (B ++ b ∷ [])) z.0 c)

-- ---- what is open is of the last message that was requested

-- the packets that came are its first
record Fits (b : MessageRecord) (y : SessionRecord) : Type 0 where
  source : y.source ≡ b.source
  group : y.group ≡ b.pgn
  size : y.size ≡ length b.bytes
  packets : y.packets ≡ packets_of b
  bytes : y.bytes ≡ take (7 * y.count) (b.bytes ++ replicate 7 255)

record IsOpen (A : List MessageRecord) (y : SessionRecord) (W : List MessageRecord) : Type 0 where
  before : List MessageRecord
  message : MessageRecord
  requested : A ≡ before ++ message ∷ []
  fits : Fits message y
  part : IsPart W before

abbrev Kept : List MessageRecord → Option SessionRecord → List MessageRecord → Type 0
Kept A None W = IsPart W A
Kept A (Some y) W = IsOpen A y W

whole_part : (A : List MessageRecord) (p : Option SessionRecord) (W : List MessageRecord) → Kept A p W → IsPart W A
whole_part A None W h = h
whole_part A (Some y) W h = subst (IsPart W) (sym h.requested) (part_longer W h.before (h.message ∷ []) h.part)

ended : (A : List MessageRecord) (p : Option SessionRecord) (W : List MessageRecord) → Kept A p W → Kept A None (W ++ [])
ended A p W h = subst (λ V. IsPart V A) (sym (append-nil W)) (whole_part A p W h)

stayed : (A : List MessageRecord) (p : Option SessionRecord) (W : List MessageRecord) → Kept A p W → Kept A p (W ++ [])
stayed A p W h = subst (Kept A p) (sym (append-nil W)) h

-- what is neither a request nor a packet
beside_step : (a d : ℕ) (s : Option Signal) (A : List MessageRecord) (q p : Option SessionRecord) (W made : List MessageRecord)
    → IsNoRts s → ((i : ℕ) (part : List ℕ) → s ≢ Some (Packet i part)) → Step a d s q p made → Kept A q W → Kept A p (W ++ made)
beside_step a d s A q p W made c k (Step.ends r) h = ended A q W h
beside_step a d s A q p W made c k (Step.stays r e) h = stayed A q W h
beside_step a d s A q p W made c k (Step.opens r size packets most pgn e) h = absurd (c size packets most pgn e)
beside_step a d s A q p W made c k (Step.grows x part e) h = absurd (k (suc x.count) part e)
beside_step a d s A q p W made c k (Step.makes x part e w) h = absurd (k (suc x.count) part e)

record SameRequest (b : MessageRecord) (size packets pgn : ℕ) : Type 0 where
  size_is : size ≡ length b.bytes
  packets_are : packets ≡ packets_of b
  pgn_is : pgn ≡ b.pgn

same_request : (b : MessageRecord) (s : Option Signal) (size packets most pgn : ℕ) → s ≡ Some (request_of b) → s ≡ Some (RequestToSend size packets most pgn) → SameRequest b size packets pgn
same_request b s size packets most pgn e k =
    let z : Some (RequestToSend size packets most pgn) ≡ Some (RequestToSend (length b.bytes) (packets_of b) 255 b.pgn) = sym k ∙ e in
    record { size_is = cc; packets_are = cc; pgn_is = cc }

no_packet : (b : MessageRecord) (s : Option Signal) (i : ℕ) (part : List ℕ) → s ≡ Some (request_of b) → s ≡ Some (Packet i part) → ⊥
no_packet b s i part e k = absurd (let z : Some (Packet i part) ≡ Some (request_of b) = sym k ∙ e in cc)

-- a request
begin_step : (a d : ℕ) (s : Option Signal) (A : List MessageRecord) (b : MessageRecord) (q p : Option SessionRecord) (W made : List MessageRecord)
    → b.source ≡ a → s ≡ Some (request_of b) → Step a d s q p made → Kept A q W → Kept (A ++ b ∷ []) p (W ++ made)
begin_step a d s A b q p W made own i (Step.ends r) h = subst (λ V. IsPart V (A ++ b ∷ [])) (sym (append-nil W)) (part_longer W A (b ∷ []) (whole_part A q W h))
begin_step a d s A b q p W made own i (Step.stays r e) h = absurd (e (length b.bytes) (packets_of b) 255 b.pgn i)
begin_step a d s A b q p W made own i (Step.opens r size packets most pgn e) h =
    let z = same_request b s size packets most pgn i e in
    subst (IsOpen (A ++ b ∷ []) (opened (Directed a d) pgn size packets 0)) (sym (append-nil W)) (record {
      before = A;
      message = b;
      requested = refl;
      fits = record { source = sym own; group = z.pgn_is; size = z.size_is; packets = z.packets_are; bytes = refl };
      part = whole_part A q W h;
    })
begin_step a d s A b q p W made own i (Step.grows x part e) h = absurd (no_packet b s (suc x.count) part i e)
begin_step a d s A b q p W made own i (Step.makes x part e w) h = absurd (no_packet b s (suc x.count) part i e)

-- ---- a packet

same_packet : (b : MessageRecord) (s : Option Signal) (i k : ℕ) (part : List ℕ) → s ≡ Some (Packet i (packet_data b.bytes i)) → s ≡ Some (Packet k part) → (i ≡ k) × (part ≡ packet_data b.bytes k)
same_packet b s i k part e g =
    let z : Some (Packet i (packet_data b.bytes i)) ≡ Some (Packet k part) = sym e ∙ g in
    let y : i ≡ k = cc in
    let x : packet_data b.bytes i ≡ part = cc in
    (y, sym x ∙ ap (packet_data b.bytes) y)

-- the packet behind those that came
one_more : (b : MessageRecord) (x : SessionRecord) (part : List ℕ) → suc x.count ≤ packets_of b → part ≡ packet_data b.bytes (suc x.count) → Fits b x → Fits b (grown 0 part x)
one_more b x part l e h =
    let within : 7 * x.count ≤ length b.bytes = omega (arith, l) in
    record {
      source = h.source;
      group = h.group;
      size = h.size;
      packets = h.packets;
      bytes = (λ t. h.bytes t ++ (e ∙ ap (packet_data b.bytes) (let s : suc x.count ≡ x.count + 1 = omega arith in s)) t)
          ∙ (joined_more b.bytes x.count within ∙ ap (λ (c : ℕ). take (7 * c) (b.bytes ++ replicate 7 255)) (let s : x.count + 1 ≡ suc x.count = omega arith in s));
    }

whole_is : (b : MessageRecord) (y : SessionRecord) → Fits b y → y.count ≡ y.packets → message_of y ≡ b
whole_is b y h w =
    let size = h.size in
    let packets = h.packets in
    let within : length b.bytes ≤ 7 * y.count = omega (arith, w, packets) in
    let bytes : take y.size y.bytes ≡ b.bytes =
    (λ t. take (size t) (h.bytes t)) ∙ (take-take (length b.bytes) (7 * y.count) (b.bytes ++ replicate 7 255) within ∙ take_at b.bytes (replicate 7 255) (length b.bytes) refl) in
    λ t. record { source = h.source t; pgn = h.group t; bytes = bytes t }

-- what is whole is the last that was requested
made_is : (a d : ℕ) (s : Option Signal) (A B : List MessageRecord) (b : MessageRecord) (i : ℕ) (x : SessionRecord) (part : List ℕ) (W : List MessageRecord)
    → A ≡ B ++ b ∷ [] → s ≡ Some (Packet i (packet_data b.bytes i)) → i ≤ packets_of b → s ≡ Some (Packet (suc x.count) part) → suc x.count ≡ x.packets → (h : IsOpen A x W)
    → A ≡ h.before ++ message_of (grown 0 part x) ∷ []
made_is a d s A B b i x part W is e l k w h =
    let g = same_packet b s i (suc x.count) part e k in
    let z = push_same h.before B h.message b (sym h.requested ∙ is) in
    let f = one_more b x part (let y = g.0 in omega (arith, l, y)) g.1 (subst (λ m. Fits m x) z.1 h.fits) in
    h.requested ∙ ap (λ (m : MessageRecord). h.before ++ m ∷ []) (z.1 ∙ sym (whole_is b (grown 0 part x) f w))

packet_step : (a d : ℕ) (s : Option Signal) (A B : List MessageRecord) (b : MessageRecord) (i : ℕ) (q p : Option SessionRecord) (W made : List MessageRecord)
    → A ≡ B ++ b ∷ [] → s ≡ Some (Packet i (packet_data b.bytes i)) → i ≤ packets_of b → Step a d s q p made → Kept A q W → Kept A p (W ++ made)
packet_step a d s A B b i q p W made is e l (Step.ends r) h = ended A q W h
packet_step a d s A B b i q p W made is e l (Step.stays r n) h = stayed A q W h
packet_step a d s A B b i q p W made is e l (Step.opens r size packets most pgn k) h =
    absurd (let z : Some (Packet i (packet_data b.bytes i)) ≡ Some (RequestToSend size packets most pgn) = sym e ∙ k in cc)
packet_step a d s A B b i q p W made is e l (Step.grows x part k) h =
    let g = same_packet b s i (suc x.count) part e k in
    let z = push_same h.before B h.message b (sym h.requested ∙ is) in
    subst (IsOpen A (grown 0 part x)) (sym (append-nil W)) (record {
      before = h.before;
      message = b;
      requested = h.requested ∙ ap (λ (m : MessageRecord). h.before ++ m ∷ []) z.1;
      fits = one_more b x part (let y = g.0 in omega (arith, l, y)) g.1 (subst (λ m. Fits m x) z.1 h.fits);
      part = h.part;
    })
packet_step a d s A B b i q p W made is e l (Step.makes x part k w) h =
    subst (IsPart (W ++ message_of (grown 0 part x) ∷ [])) (sym (made_is a d s A B b i x part W is e l k w h)) (part_push W h.before (message_of (grown 0 part x)) h.part)

-- ---- what was whole last

-- what is whole behind the last request is the last that was requested
abbrev pub IsLast : List MessageRecord → List (Option MessageRecord) → Type 0
IsLast A T = (V : List (Option MessageRecord)) (m : MessageRecord) → T ≡ V ++ Some m ∷ [] → (before : List MessageRecord) × (A ≡ before ++ m ∷ [])

same_last : (A : List MessageRecord) (V : List (Option MessageRecord)) → IsLast A V → IsLast A (V ++ [])
same_last A V h = subst (IsLast A) (sym (append-nil V)) h

last_beside : (a d : ℕ) (s : Option Signal) (A : List MessageRecord) (V : List (Option MessageRecord)) (q p : Option SessionRecord) (made : List MessageRecord)
    → IsNoRts s → ((i : ℕ) (part : List ℕ) → s ≢ Some (Packet i part)) → Step a d s q p made → IsLast A V → IsLast A (V ++ (mark s ++ all_some made))
last_beside a d s A V q p made c k (Step.ends r) h = subst (λ M. IsLast A (V ++ (M ++ []))) (sym (no_mark s c)) (same_last A V h)
last_beside a d s A V q p made c k (Step.stays r e) h = subst (λ M. IsLast A (V ++ (M ++ []))) (sym (no_mark s c)) (same_last A V h)
last_beside a d s A V q p made c k (Step.opens r size packets most pgn e) h = absurd (c size packets most pgn e)
last_beside a d s A V q p made c k (Step.grows x part e) h = absurd (k (suc x.count) part e)
last_beside a d s A V q p made c k (Step.makes x part e w) h = absurd (k (suc x.count) part e)

none_last : (A : List MessageRecord) (V : List (Option MessageRecord)) → IsLast A (V ++ None ∷ [])
none_last A V U m e = absurd (let z = (push_same V U None (Some m) e).1 in cc)

last_begin : (a d : ℕ) (s : Option Signal) (A : List MessageRecord) (b : MessageRecord) (V : List (Option MessageRecord)) (q p : Option SessionRecord) (made : List MessageRecord)
    → s ≡ Some (request_of b) → Step a d s q p made → IsLast A (V ++ (mark s ++ all_some made))
last_begin a d s A b V q p made i (Step.ends r) = subst (λ t. IsLast A (V ++ (mark t ++ []))) (sym i) (none_last A V)
last_begin a d s A b V q p made i (Step.stays r e) = absurd (e (length b.bytes) (packets_of b) 255 b.pgn i)
last_begin a d s A b V q p made i (Step.opens r size packets most pgn e) = subst (λ t. IsLast A (V ++ (mark t ++ []))) (sym i) (none_last A V)
last_begin a d s A b V q p made i (Step.grows x part e) = absurd (no_packet b s (suc x.count) part i e)
last_begin a d s A b V q p made i (Step.makes x part e w) = absurd (no_packet b s (suc x.count) part i e)

last_packet : (a d : ℕ) (s : Option Signal) (A B : List MessageRecord) (b : MessageRecord) (i : ℕ) (V : List (Option MessageRecord)) (q p : Option SessionRecord) (W made : List MessageRecord)
    → A ≡ B ++ b ∷ [] → s ≡ Some (Packet i (packet_data b.bytes i)) → i ≤ packets_of b → Step a d s q p made → Kept A q W → IsLast A V → IsLast A (V ++ (mark s ++ all_some made))
last_packet a d s A B b i V q p W made is e l (Step.ends r) k h = subst (λ t. IsLast A (V ++ (mark t ++ []))) (sym e) (same_last A V h)
last_packet a d s A B b i V q p W made is e l (Step.stays r n) k h = subst (λ t. IsLast A (V ++ (mark t ++ []))) (sym e) (same_last A V h)
last_packet a d s A B b i V q p W made is e l (Step.opens r size packets most pgn g) k h = subst (λ t. IsLast A (V ++ (mark t ++ []))) (sym e) (same_last A V h)
last_packet a d s A B b i V q p W made is e l (Step.grows x part g) k h = subst (λ t. IsLast A (V ++ (mark t ++ []))) (sym e) (same_last A V h)
last_packet a d s A B b i V q p W made is e l (Step.makes x part g w) k h =
    subst (λ t. IsLast A (V ++ (mark t ++ Some (message_of (grown 0 part x)) ∷ []))) (sym e)
    (λ U m z. (
      k.before,
      made_is a d s A B b i x part W is e l g w k ∙ ap (λ (m : MessageRecord). k.before ++ m ∷ []) (let y = (push_same V U (Some (message_of (grown 0 part x))) (Some m) z).1 in (let v : message_of (grown 0 part x) ≡ m = cc in v)),
    ))

-- ---- all of it

Holds : ℕ → ℕ → List FrameRecord → List FrameRecord → Type 0
Holds a d fs gs = (A : List MessageRecord) (p : Option SessionRecord) (T : List (Option MessageRecord)) → Course a d A fs → Hears (Asks a d) gs p T → Kept A p (somes T) × IsLast A T

lose : (a d : ℕ) (g : FrameRecord) (o p : Option SessionRecord) (T : List (Option MessageRecord)) → Asks a d g o p T → Asks a d g o None T
lose a d g o p T s = record { made = s.made; step = loses a d (said_between a d g) o p s.made s.step; adds = s.adds }

lost_one : (a d : ℕ) (fs gs : List FrameRecord) (f : FrameRecord) → IsNoRequest a d f → Holds a d fs gs → Holds a d (fs ++ f ∷ []) gs
unfolding Holds
lost_one a d fs gs f c h A p T course l = go (latest a d A (fs ++ f ∷ []) course fs f refl)
  where
    go : Latest a d A fs f → Kept A p (somes T) × IsLast A T
    go (is_beside e k) = h A p T k l
    go (has_begun B b e long own m k) = absurd (c (length b.bytes) (packets_of b) 255 b.pgn m)
    go (has_gone B b i e m n k) = subst (λ A. Kept A p (somes T) × IsLast A T) (sym e) (h (B ++ b ∷ []) p T k l)

-- by the last frame that was heard
by_last : (a d : ℕ) (gs : List FrameRecord) (g : FrameRecord) (A : List MessageRecord) (p : Option SessionRecord) (T : List (Option MessageRecord)) (x : Last (Asks a d) gs g p T)
    → Kept A p (somes x.whole ++ x.step.made) → IsLast A (x.whole ++ (mark (said_between a d g) ++ all_some x.step.made)) → Kept A p (somes T) × IsLast A T
by_last a d gs g A p T x k l =
    let is = x.is ∙ ap (λ M. x.whole ++ M) x.step.adds in (
      subst (Kept A p) (sym (ap somes is ∙ (somes_more x.whole (mark (said_between a d g) ++ all_some x.step.made) ∙ ap (λ M. somes x.whole ++ M) (somes_step (said_between a d g) x.step.made)))) k,
      subst (IsLast A) (sym is) l,
    )

-- from others come claims alone
other_one : (a d : ℕ) (fs gs : List FrameRecord) (g : FrameRecord) → IsBeside a d g → Holds a d fs gs → Holds a d fs (gs ++ g ∷ [])
unfolding Holds
other_one a d fs gs g c h A p T course l =
    let x = last_heard (Asks a d) (lose a d) (gs ++ g ∷ []) p T l gs g refl in
    let k = h A x.before x.whole course x.hears in
    by_last a d gs g A p T x (beside_step a d (said_between a d g) A x.before p (somes x.whole) x.step.made c.no_request c.no_packet x.step.step k.0)
    (last_beside a d (said_between a d g) A x.whole x.before p x.step.made c.no_request c.no_packet x.step.step k.1)

comes_one : (a d : ℕ) (fs gs : List FrameRecord) (f g : FrameRecord) → g.id ≡ f.id → g.bytes ≡ f.bytes → Holds a d fs gs → Holds a d (fs ++ f ∷ []) (gs ++ g ∷ [])
unfolding Holds
comes_one a d fs gs f g id bytes h A p T course l = go (latest a d A (fs ++ f ∷ []) course fs f refl)
  where
    x : Last (Asks a d) gs g p T
    x = last_heard (Asks a d) (lose a d) (gs ++ g ∷ []) p T l gs g refl

    same : said_between a d g ≡ said_between a d f
    same = same_said a d f g id bytes

    go : Latest a d A fs f → Kept A p (somes T) × IsLast A T
    go (is_beside e k) =
        let c : IsNoRts (said_between a d g) = λ size packets most pgn z. e.no_request size packets most pgn (sym same ∙ z) in
        let n : (i : ℕ) (part : List ℕ) → said_between a d g ≢ Some (Packet i part) = λ i part z. e.no_packet i part (sym same ∙ z) in
        let r = h A x.before x.whole k x.hears in
        by_last a d gs g A p T x (beside_step a d (said_between a d g) A x.before p (somes x.whole) x.step.made c n x.step.step r.0)
        (last_beside a d (said_between a d g) A x.whole x.before p x.step.made c n x.step.step r.1)
    go (has_begun B b e long own m k) =
        let r = h B x.before x.whole k x.hears in
        subst (λ A. Kept A p (somes T) × IsLast A T) (sym e)
        (by_last a d gs g (B ++ b ∷ []) p T x (begin_step a d (said_between a d g) B b x.before p (somes x.whole) x.step.made own (same ∙ m) x.step.step r.0)
        (last_begin a d (said_between a d g) (B ++ b ∷ []) b x.whole x.before p x.step.made (same ∙ m) x.step.step))
    go (has_gone B b i e m n k) =
        let r = h (B ++ b ∷ []) x.before x.whole k x.hears in
        subst (λ A. Kept A p (somes T) × IsLast A T) (sym e)
        (by_last a d gs g (B ++ b ∷ []) p T x (packet_step a d (said_between a d g) (B ++ b ∷ []) B b i x.before p (somes x.whole) x.step.made refl (same ∙ m) n x.step.step r.0)
        (last_packet a d (said_between a d g) (B ++ b ∷ []) B b i x.whole x.before p (somes x.whole) x.step.made refl (same ∙ m) n x.step.step r.0 r.1))

-- none was whole
nothing_last : (A : List MessageRecord) → IsLast A []
nothing_last A V m e = absurd (none_pushed V (Some m) (sym e))

nothing_one : (a d : ℕ) (fs : List FrameRecord) → Holds a d fs []
unfolding Holds
nothing_one a d fs A p T course l =
    let x = nothing_heard (Asks a d) [] p T l refl in
    subst (λ V. Kept A p (somes V) × IsLast A V) (sym x.1) (subst (λ q. Kept A q []) (sym x.0) tt, nothing_last A)

claims_beside : (a d : ℕ) (g : FrameRecord) → (source_of g.id ≡ a → is_claim g ≡ true) → IsBeside a d g
claims_beside a d g c = record {
  no_request = λ size packets most pgn e. (let p = parts_of a d g (RequestToSend size packets most pgn) e in claimed 60416 p.kind.0 (c p.source) (λ z. absurd (omega (arith, z))));
  no_packet = λ i part e. (let p = parts_of a d g (Packet i part) e in claimed 60160 p.kind (c p.source) (λ z. absurd (omega (arith, z))));
}
  where
    claimed : (group : ℕ) → pgn_of g.id ≡ group → is_claim g ≡ true → (group ≡ 60928 → ⊥) → ⊥
    claimed group e k n = n (sym e ∙ eqb-true (pgn_of g.id) 60928 k)

-- behind what was taken before anything was heard
all_held : (a d : ℕ) (early fs gs : List FrameRecord) → Join a (IsNoRequest a d) fs gs → Holds a d (early ++ fs) gs
all_held a d early fs gs Join.none = nothing_one a d (early ++ [])
all_held a d early fs gs (Join.lost us vs f c h) =
    subst (λ xs. Holds a d xs vs) (append_assoc early us (f ∷ [])) (lost_one a d (early ++ us) vs f c (all_held a d early us vs h))
all_held a d early fs gs (Join.comes us vs f g e b h) =
    subst (λ xs. Holds a d xs (vs ++ g ∷ [])) (append_assoc early us (f ∷ [])) (comes_one a d (early ++ us) vs f g e b (all_held a d early us vs h))
all_held a d early fs gs (Join.other us vs g c h) = other_one a d (early ++ us) vs g (claims_beside a d g c) (all_held a d early us vs h)

pub heard_once : (a d : ℕ) (early fs gs : List FrameRecord) → Join a (IsNoRequest a d) fs gs → (A : List MessageRecord) (p : Option SessionRecord) (T : List (Option MessageRecord))
    → Course a d A (early ++ fs) → Hears (Asks a d) gs p T → IsPart (somes T) A × IsLast A T
unfolding Holds
heard_once a d early fs gs h A p T c l = let r = all_held a d early fs gs h A p T c l in (whole_part A p (somes T) r.0, r.1)

pub transfers_once : (delay now i j : ℕ) (L : List Passed) (members : List Member) (m n : Member)
    → Net delay now (IsNoRequest m.who.address n.who.address) L members → IsMember members i m → IsMember members j n → i ≢ j
    → OnlySends L i m.who.address → All (λ call. claims_anew call ≡ false) n.history → All (λ (x : ℕ × MessageRecord). x.1.pgn < 2 ^ 18) (transfers m.who m.history)
    → IsPart (wholes m.who.address (delivered n.who n.history)) (messages_to n.who.address (transfers m.who m.history))
transfers_once delay now i j L members m n net hm hn apart o anew fits =
    let a = m.who.address in
    let d = n.who.address in
    let c = coursed m.who d m.history (net.address i m hm) (net.address j n hn) fits (net.answered i m hm) in
    let e = joined delay i j n.since a (IsNoRequest a d) (λ f g id bytes h size packets most pgn z. h size packets most pgn (same_said a d f g id bytes ∙ z)) apart L 0
    (frames m.history) (hears n.history) net.ordered o (net.sent i m hm) (net.heard j n hn) in
    let W = wholes a (delivered n.who n.history) in
    part_trans W c.asked (messages_to d (transfers m.who m.history))
    (subst (λ W. IsPart W c.asked) (wholes_are n.who a n.history)
    (heard_once a d e.early e.rest (hears n.history) e.join c.asked (plain (session n.who n.history a)) (trace n.who a n.history)
    (subst (Course a d c.asked) e.is c.course) (hears_transfers n.who a (net.address i m hm) n.history anew)).0) c.part
