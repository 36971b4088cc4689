-- At each frame a message is heard or none, and each list of frames has a report.
use Rattle.std.proofs.Common.{◌≡◌, ℕ, zero, suc, ◌<◌, ◌≤◌, Bool, true, false, List, [], ◌∷◌, ◌++◌, length, take, Option, Some, None, refl, sym, ap, ◌∙◌, subst, inl, inr, arith, flat_map, nat_lt, length-take, get_or-take}
use Rattle.std.proofs.lemmas.Bool.{cases_lt}
use Rattle.std.proofs.lemmas.List.{get_or_append_left, get_or_push, length_push}
use Rattle.j39_address.specs.Claim.{claims_of}
use Rattle.j39_frame.specs.Frame.{FrameRecord}
use Rattle.j39_frame.specs.Identifier.{pgn_of, source_of}
use Rattle.j39_groups.specs.Readings.{is_reported_in}
use Rattle.j39_groups.specs.Row.{RowRecord}
use Rattle.j39_listen.proofs.Causal.{SameBelow, heard_at_same}
use Rattle.j39_listen.proofs.Feeding.{forgets_exist, heard_next}
use Rattle.j39_listen.proofs.Held.{held_is, holder_of}
use Rattle.j39_listen.proofs.Reported.{reported_leaves}
use Rattle.j39_listen.specs.Heard.{AreHeardWith, HeardAtWith, HeardBelowWith, Hearing, LeavesNetwork, frame_at, or_none}
use Rattle.j39_listen.specs.OneFrameMore.{Assembled, Next, NextBy, alone_of, heard_of}
use Rattle.j39_listen.specs.Report.{Entry, IsReport, entries_of}
use Rattle.j39_transport.proofs.Deciding.{whole_or_none}
use Rattle.j39_transport.specs.Events.{Event}
use Rattle.j39_transport.specs.Message.{MessageRecord}

-- ---- the next frame

assembled_exists : (E : List Event) (f : FrameRecord) → (c : Option MessageRecord) × Assembled E f c
assembled_exists E f = elim (whole_or_none E f) [ inl w ↦ (Some w.0, w.1) | inr n ↦ (None, n) ]

next_exists : (singles : ℕ → Bool) (E : List Event) (f : FrameRecord) → (c : Option MessageRecord) × Next singles E f c
next_exists singles E f = by_tests (singles (pgn_of f.id)) (nat_lt (source_of f.id) 254)
  where
    by_tests : (reported below : Bool) → (c : Option MessageRecord) × NextBy reported below E f c
    by_tests true true = (Some (alone_of f), refl)
    by_tests true false = (None, refl)
    by_tests false below = assembled_exists E f

heard_last : (singles : ℕ → Bool) → LeavesNetwork singles → (F : List FrameRecord) (f : FrameRecord) → (o : Option Hearing) × HeardAtWith singles (F ++ f ∷ []) (length F) o
heard_last singles leaves F f =
    let e = forgets_exist F (length F) in
    let n = next_exists singles e.0 f in
    let name = holder_of (claims_of F) (length F) (source_of f.id) in
    (heard_of f name n.0, heard_next singles leaves F e.0 f e.1 n.0 name n.1 (held_is (claims_of F) (length F) (source_of f.id)))

-- ---- a frame within a list

module _ (singles : ℕ → Bool) (leaves : LeavesNetwork singles) (F : List FrameRecord) (i : ℕ) (l : i < length F) where
  taken : length (take i F) ≡ i
  taken = omega (arith, length-take i F)

  same_first : SameBelow (take i F ++ frame_at F i ∷ []) F (suc i)
  same_first =
      let n : length (take i F) ≡ i = taken in
      record {
        in_F = omega (arith, length_push (take i F) (frame_at F i));
        in_G = l;
        same = λ j m. elim (cases_lt j i) [
          | inl k ↦ sym (get_or_append_left (take i F) (frame_at F i ∷ []) (record { stamp = 0; id = 0; bytes = [] }) j (omega arith) ∙ get_or-take i F j (record { stamp = 0; id = 0; bytes = [] }) k)
          | inr k ↦ (let e : j ≡ i = omega arith in ap (frame_at F) e ∙ sym (get_or_push (take i F) (frame_at F i) (record { stamp = 0; id = 0; bytes = [] }) j (omega arith)))
        ];
      }

  pub heard_exists : (o : Option Hearing) × HeardAtWith singles F i o
  heard_exists =
      let h = heard_last singles leaves (take i F) (frame_at F i) in
      (h.0, heard_at_same singles (take i F ++ frame_at F i ∷ []) F i h.0 same_first (subst (λ (n : ℕ). HeardAtWith singles (take i F ++ frame_at F i ∷ []) n h.0) taken h.1))

-- ---- the whole list

below_exists : (singles : ℕ → Bool) → LeavesNetwork singles → (F : List FrameRecord) (n : ℕ) → n ≤ length F → (heard : List Hearing) × HeardBelowWith singles F n heard
below_exists singles leaves F zero l = ([], refl)
below_exists singles leaves F (suc n) l =
    let before = below_exists singles leaves F n (omega arith) in
    let here = heard_exists singles leaves F n l in
    (before.0 ++ or_none here.0, (before.0, here.0, before.1, here.1, refl))

pub all_heard : (singles : ℕ → Bool) → LeavesNetwork singles → (F : List FrameRecord) → (heard : List Hearing) × AreHeardWith singles F heard
all_heard singles leaves F = below_exists singles leaves F (length F) (omega arith)

pub report_exists : (groups : List RowRecord) (F : List FrameRecord) → (entries : List Entry) × IsReport groups F entries
report_exists groups F = let h = all_heard (is_reported_in groups) (reported_leaves groups) F in (flat_map (entries_of groups) h.0, (h.0, h.1, refl))
