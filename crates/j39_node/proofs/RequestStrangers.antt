-- A frame of who wasn't asked, or to another address, says nothing to a request, and ends none.
use Rattle.j39_node.proofs.Common.{and-false, Answered, ap, arith, At, Bool, Call, claim_of, comes, destination_of, false, FrameRecord, Hear, if◌then◌else◌, is_acknowledgment, is_answer, is_of, is_smaller, List, made, made_of, made_whole, MessageRecord, nat_eq, next_ask_ended, None, open_ask, Option, option_map, option_or, pgn_of, Question, reaches, refl, says_to, seeks, slice_get, Some, source_of, sym, Tick, time_heard, Who, whole, ℕ, ◌&&◌, ◌||◌, ◌∙◌, ◌∷◌, ◌≡◌, ◌≢◌}
use Rattle.j39_node.specs.Asking.{is_reply, said_by}
use Rattle.j39_node.proofs.ListenLemmas.{unequal}
use Rattle.j39_node.proofs.PacketLemmas.{not_session}
use Rattle.j39_node.proofs.PacketsAnswer.{made_by_packet, packs_to_all}
use Rattle.j39_node.proofs.ReceptionLaws.{none_whole, whole_source}

-- ---- what a frame makes whole is of _ its source

made_source : (w : Who) (H : List Call) (when : ℕ) (f : FrameRecord) (x : ℕ × ℕ) → made w H when f ≡ Some x → x.0 ≡ source_of f.id
made_source w H when f x e = go (whole w H when f) (made_whole w H when f) refl refl e
  where
    go : (a : Option MessageRecord) (b : Option (ℕ × MessageRecord)) → whole w H when f ≡ a → made_whole w H when f ≡ b
        → option_or (made_of a) (made_of (option_map (λ (y : ℕ × MessageRecord). y.1) b)) ≡ Some x → x.0 ≡ source_of f.id
    go (Some m) b i k z =
        let y : (m.source, m.pgn) ≡ x = cc in
        ap (λ (u : ℕ × ℕ). u.0) (sym y) ∙ whole_source w H when f m i
    go None (Some p) i k z = let y : (p.1.source, p.1.pgn) ≡ x = cc in ap (λ (u : ℕ × ℕ). u.0) (sym y) ∙ (made_by_packet w H when f p k).1
    go None None i k z = absurd (cc)

-- ---- another says nothing

silent_by : (w : Who) (q : Question) (f : FrameRecord) (o : Option (ℕ × ℕ)) → seeks q o ≡ false → is_answer q f ≡ false → is_reply w q f ≡ false
    → says_to w q f o ≡ None
silent_by w q f o a b c = grind (arith, a, b, c)

pub of_another : (w : Who) (H : List Call) (when : ℕ) (f : FrameRecord) (q : Question) → q.to ≢ 255 → source_of f.id ≢ q.to → says_to w q f (made w H when f) ≡ None
of_another w H when f q n m =
    silent_by w q f (made w H when f) (whole_one (made w H when f) refl)
    ((λ i. nat_eq (pgn_of f.id) q.group && (unequal q.to 255 n i || unequal (source_of f.id) q.to m i)) ∙ and-false (nat_eq (pgn_of f.id) q.group))
    (ap (λ (b : Bool). is_acknowledgment f && (b && is_of w.address q.group f.bytes)) (unequal (source_of f.id) q.to m) ∙ and-false (is_acknowledgment f))
  where
    whole_one : (o : Option (ℕ × ℕ)) → made w H when f ≡ o → seeks q o ≡ false
    whole_one None e = refl
    whole_one (Some x) e =
        (λ i. nat_eq x.1 q.group && (unequal q.to 255 n i || (ap (λ (a : ℕ). nat_eq a q.to) (made_source w H when f x e) ∙ unequal (source_of f.id) q.to m) i))
        ∙ and-false (nat_eq x.1 q.group)

pub to_another : (w : Who) (H : List Call) (when : ℕ) (f : FrameRecord) (q : Question) (a : ℕ) → destination_of f.id ≡ Some a → a ≢ 255 → a ≢ w.address
    → says_to w q f (made w H when f) ≡ None
to_another w H when f q a d n m =
    ap (says_to w q f) none_made ∙ ap (λ (b : Bool). if b then (if is_answer q f then Some Answered else if is_reply w q f then said_by (slice_get f.bytes 0) else None) else None) unreached
  where
    elsewhere : (b : ℕ) → a ≢ b → destination_of f.id ≢ Some b
    elsewhere b k e = k (let z : Some a ≡ Some b = sym d ∙ e in cc)

    unreached : reaches w f ≡ false
    unreached = grind arith

    none_to : whole w H when f ≡ None
    none_to = none_whole w H when f (not_session w.address f (elsewhere w.address m))

    none_cast : made_whole w H when f ≡ None
    none_cast = go (made_whole w H when f) refl
      where
        go : (o : Option (ℕ × MessageRecord)) → made_whole w H when f ≡ o → o ≡ None
        go None e = refl
        go (Some p) e = absurd (elsewhere 255 n (packs_to_all f (made_by_packet w H when f p e).0))

    none_made : made w H when f ≡ None
    none_made = λ i. option_or (made_of (none_to i)) (made_of (option_map (λ (y : ℕ × MessageRecord). y.1) (none_cast i)))

-- ---- what says nothing ends nothing

pub ends : (w : Who) (H : List Call) (when : ℕ) (f : FrameRecord) (q : Question) → open_ask H ≡ Some q → says_to w q f (made w H when f) ≡ None
    → is_smaller w (claim_of f) ≡ false → comes w (At when (Hear f) ∷ H) (time_heard (At when Tick ∷ H)) ≡ comes w H (time_heard (At when Tick ∷ H))
    → comes w (At when Tick ∷ H) (time_heard (At when Tick ∷ H)) ≡ comes w H (time_heard (At when Tick ∷ H))
    → next_ask_ended w (At when (Hear f) ∷ H) ≡ next_ask_ended w (At when Tick ∷ H)
ends w H when f q e g i j k = grind (arith, e, g, i, j, k)
