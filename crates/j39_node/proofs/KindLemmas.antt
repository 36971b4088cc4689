-- What kind a frame is that is taken.
use Rattle.j39_node.proofs.SoundLemmas.FrameCase.{claims, acknowledges, replies, sends, packs, transfers}
use Rattle.j39_node.proofs.Common.{acknowledged, all_replies, ap, AreAnswered, arith, Bool, Call, due, false, FrameRecord, is_acknowledgment, is_claim, is_move, is_packet, is_reply, is_session, length, List, Message, Move, Some, true, Who, ℕ, ◌&&◌, ◌||◌, ◌≡◌}
use Rattle.j39_node.proofs.SoundLemmas.{FrameCase, is_moved, reply_no_move, is_directed, due_taken, IsDue, reply_taken, own_taken, own_of, transfer_taken, apart_is, reply_is, turned, sound}
use Rattle.j39_node.proofs.ReceptionLemmas.{reply_of}
use Rattle.j39_node.proofs.QueueLemmas.{all_at}

-- a claim, an acknowledgment, one of a session, of a broadcast, the first reply, one of a transfer
pub record Kind : Type 0 where
  pub claim : Bool
  pub acknowledgment : Bool
  pub session : Bool
  pub packet : Bool
  pub reply : Bool
  pub move : Bool

abbrev pub kind : Who → List Call → FrameRecord → Kind
kind w H f = record {
  claim = is_claim f;
  acknowledgment = is_acknowledgment f;
  session = is_session f;
  packet = is_packet f;
  reply = is_reply (all_replies w H) f;
  move = is_move w H f;
}

abbrev pub single : Bool → Bool → Kind
single c a = record { claim = c; acknowledgment = a; session = false; packet = false; reply = false; move = false }

abbrev pub of_session : Bool → Bool → Bool → Kind
of_session p r m = record { claim = false; acknowledgment = false; session = true; packet = p; reply = r; move = m }

kind_single : (w : Who) (H : List Call) (f : FrameRecord) (c a : Bool) → is_claim f ≡ c → is_acknowledgment f ≡ a → is_session f ≡ false → kind w H f ≡ single c a
kind_single w H f c a e g i = grind (arith, e, g, i)

-- by what was next
abbrev pub kind_by : {w : Who} {H : List Call} {now : ℕ} {f : FrameRecord} → FrameCase w H now f → Kind
kind_by (claims o e) = single true false
kind_by (acknowledges m o h g e way) = single false true
kind_by (replies m o h n g e) = of_session false true false
kind_by (sends x o h n g e) = single false false
kind_by (packs m o h n g e) = of_session true false false
kind_by (transfers m o h n g e) = of_session false false true

pub kind_is : (w : Who) (H : List Call) (now : ℕ) (f : FrameRecord) → AreAnswered w H → (c : FrameCase w H now f) → kind w H f ≡ kind_by c
kind_is w H now f right (claims o e) = grind arith
kind_is w H now f right (acknowledges m o h g e way) =
    let r = due_taken w f now m e (all_at (IsDue w) (due w H) (length (acknowledged H)) m (sound w H right).desk.0 g) in kind_single w H f false true r.0 r.1 r.2
kind_is w H now f right (replies m o h n g e) =
    let r = reply_taken w.address f now m e (reply_of w H 0 m g) in
    let that = ap (λ (y : ℕ × Message). y.1) e in
    λ i. record { claim = r.0 i; acknowledgment = r.1 i; session = r.2 i; packet = r.3 i; reply = is_directed f r.2 r.3 i && reply_is w H f m g that i; move = reply_no_move w H f m g that i }
kind_is w H now f right (sends x o h n g e) =
    let own = own_taken w f now x e (own_of w H x right g) in kind_single w H f false false own.0 own.1 own.2
kind_is w H now f right (packs m o h n g e) = grind arith
kind_is w H now f right (transfers m o h n g e) =
    let r = transfer_taken w H now f m right e g in
    let apart = apart_is w H now f m g (ap (λ (y : ℕ × Message). y.1) e) (turned w H now (Some Move) n.1).1 in
    λ i. record { claim = r.claim i; acknowledgment = r.plain i; session = r.session i; packet = r.packet i; reply = r.transfer i && apart i; move = is_moved w H f r.transfer apart i }

module _ (w : Who) (H : List Call) (now : ℕ) (f : FrameRecord) (right : AreAnswered w H) (c : FrameCase w H now f) where
  pub claims_it : is_claim f ≡ (kind_by c).claim
  claims_it = ap (λ (k : Kind). k.claim) (kind_is w H now f right c)

  pub acknowledges_it : is_acknowledgment f ≡ (kind_by c).acknowledgment
  acknowledges_it = ap (λ (k : Kind). k.acknowledgment) (kind_is w H now f right c)

  -- a claim or an acknowledgment
  pub steers_it : (is_claim f || is_acknowledgment f) ≡ ((kind_by c).claim || (kind_by c).acknowledgment)
  steers_it = ap (λ (k : Kind). k.claim || k.acknowledgment) (kind_is w H now f right c)

  pub of_session_it : is_session f ≡ (kind_by c).session
  of_session_it = ap (λ (k : Kind). k.session) (kind_is w H now f right c)

  pub packs_it : is_packet f ≡ (kind_by c).packet
  packs_it = ap (λ (k : Kind). k.packet) (kind_is w H now f right c)

  pub replies_it : is_reply (all_replies w H) f ≡ (kind_by c).reply
  replies_it = ap (λ (k : Kind). k.reply) (kind_is w H now f right c)

  pub moves_it : is_move w H f ≡ (kind_by c).move
  moves_it = ap (λ (k : Kind). k.move) (kind_is w H now f right c)
