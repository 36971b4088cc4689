-- What is heard of a source is the same with and without another source's frames.
use Rattle.j39_node.proofs.Common.{[], if◌then◌else◌, ◌++◌, ◌+◌, ◌-◌, ◌||◌, ◌∙◌, ◌∷◌, ◌≡◌, ◌≢◌, inl, inr, announces, ap, append-nil, arith, At, Bool, Call, called, claim_of, claimed_again, false, found, found_in, FrameRecord, has_room, Hear, heard_at, hearing, hears_it, holder, is_claim, is_message, later, List, listed, listening, made_whole, MessageRecord, nat_eq, None, not, of, OpenBroadcast, opens, Option, packed, packs, refl, ReleaseBroadcast, restarts, Some, source_of, staying, subst, sym, TakeFrame, Tick, time_heard, true, Who, whole_broadcasts, whole_of, ℕ, called_for, calls_whom, waned, taken_whom, whom, destination_of}
use Rattle.j39_node.specs.Reception.{asks_claims, held_then}
use Rattle.j39_node.specs.History.{of_other}
use Rattle.j39_node.specs.Apart.{AreApartBy, FindsBox, both, first, is_quiet, none, second, sent_by, stranger}
use Rattle.j39_node.specs.Hearing.{is_over}
use Rattle.std.proofs.lemmas.List.Elements.{filter-append}
use Rattle.std.proofs.lemmas.Bool.{cases_eq}
use Rattle.j39_node.proofs.HearingLaws.{as_ticked, others_leave}
use Rattle.j39_node.proofs.HearingLemmas.{kept_by, of_filter, of_its, open_part, stands}
use Rattle.j39_node.proofs.PacketsAnswer.{made_by_packet}

-- what is heard of a, and all that it hangs on
record Same (w : Who) (a : ℕ) (H G : List Call) : Type 0 where
  pub at : heard_at H ≡ heard_at G
  pub time : time_heard H ≡ time_heard G
  pub calls : called w H ≡ called w G
  pub holds : holder w H ≡ holder w G
  pub hears : hearing w H a ≡ hearing w G a
  pub wholes : sent_by a (whole_broadcasts w H) ≡ sent_by a (whole_broadcasts w G)

-- what f makes of the one of its source, where there is room
abbrev by_kind : Who → Option ℕ → ℕ → FrameRecord → Option OpenBroadcast → Option OpenBroadcast
by_kind w name now f o = if announces f then opens w name now f o else if packs f then packed now f o else o

its_kind : (w : Who) (H : List Call) (when : ℕ) (f : FrameRecord) → FindsBox w (source_of f.id) (At when (Hear f)) H
    → hears_it w (holder w (At when (Hear f) ∷ H) (source_of f.id)) (time_heard (At when (Hear f) ∷ H)) f (has_room w.boxes (source_of f.id) (found_in w H when f)) (found w H when f (source_of f.id))
    ≡ by_kind w (holder w (At when (Hear f) ∷ H) (source_of f.id)) (time_heard (At when (Hear f) ∷ H)) f (found w H when f (source_of f.id))
its_kind w H when f e = grind arith

its_now : (w : Who) (H : List Call) (when : ℕ) (f : FrameRecord) → FindsBox w (source_of f.id) (At when (Hear f)) H → hearing w (At when (Hear f) ∷ H) (source_of f.id)
    ≡ (if announces f || packs f then open_part (by_kind w (holder w (At when (Hear f) ∷ H) (source_of f.id)) (time_heard (At when (Hear f) ∷ H)) f (found w H when f (source_of f.id))) else found w H when f (source_of f.id))
its_now w H when f b =
    of_its w.boxes w (holder w (At when (Hear f) ∷ H) (source_of f.id)) (time_heard (At when (Hear f) ∷ H)) f (found_in w H when f)
    ∙ ap (λ (o : Option OpenBroadcast). if announces f || packs f then open_part o else found w H when f (source_of f.id)) (its_kind w H when f b)

module _ (w : Who) (a : ℕ) (H G : List Call) (s : Same w a H G) where
  -- who holds what, and the time, by a frame at this moment
  holds_now : (f : FrameRecord) (when : ℕ) → holder w (At when (Hear f) ∷ H) ≡ holder w (At when (Hear f) ∷ G)
  holds_now f when = λ i b. held_then b (of_other w (claim_of f)) (s.holds i b)

  same_found : (when : ℕ) (f : FrameRecord) → found w H when f a ≡ found w G when f a
  same_found when f =
      of_filter (λ y. not (is_over (restarts w H when f) (holder w (At when (Hear f) ∷ H)) (time_heard (At when (Hear f) ∷ H)) y)) a (listening w H).current (stands w H).apart
      ∙ ((λ i. kept_by (λ y. not (is_over (claimed_again (s.holds i) (waned (when - s.at i) (s.calls i)) (claim_of f)) (holds_now f when i) (later (s.time i) (when - s.at i)) y)) (s.hears i))
      ∙ sym (of_filter (λ y. not (is_over (restarts w G when f) (holder w (At when (Hear f) ∷ G)) (time_heard (At when (Hear f) ∷ G)) y)) a (listening w G).current (stands w G).apart))

  ticked : (now : ℕ) → hearing w (At now Tick ∷ H) a ≡ hearing w (At now Tick ∷ G) a
  ticked now =
      of_filter (λ y. not (is_over None (holder w H) (time_heard (At now Tick ∷ H)) y)) a (listening w H).current (stands w H).apart
      ∙ ((λ i. kept_by (λ y. not (is_over None (s.holds i) (later (s.time i) (now - s.at i)) y)) (s.hears i))
      ∙ sym (of_filter (λ y. not (is_over None (holder w G) (time_heard (At now Tick ∷ G)) y)) a (listening w G).current (stands w G).apart))

  claims_same : (now : ℕ) (f : FrameRecord) → hearing w (At now (TakeFrame (Some f)) ∷ H) a ≡ hearing w (At now (TakeFrame (Some f)) ∷ G) a
  claims_same now f = go (is_claim f)
    where
      go : (b : Bool) → of a (if b then staying None (λ c. if b then held_then c (claim_of f) (holder w H c) else holder w H c) (time_heard H) (listening w H) else listening w H).current
          ≡ of a (if b then staying None (λ c. if b then held_then c (claim_of f) (holder w G c) else holder w G c) (time_heard G) (listening w G) else listening w G).current
      go true =
          of_filter (λ y. not (is_over None (λ c. held_then c (claim_of f) (holder w H c)) (time_heard H) y)) a (listening w H).current (stands w H).apart
          ∙ ((λ i. kept_by (λ y. not (is_over None (λ c. held_then c (claim_of f) (s.holds i c)) (s.time i) y)) (s.hears i))
          ∙ sym (of_filter (λ y. not (is_over None (λ c. held_then c (claim_of f) (holder w G c)) (time_heard G) y)) a (listening w G).current (stands w G).apart))
      go false = s.hears

-- of a frame of another source nothing is whole of this one
none_sent : (w : Who) (a : ℕ) (H : List Call) (when : ℕ) (f : FrameRecord) → source_of f.id ≢ a → sent_by a (listed (made_whole w H when f)) ≡ []
none_sent w a H when f n = let k = λ (p : ℕ × MessageRecord). made_by_packet w H when f p in grind (arith, n, k)

sent_more : (w : Who) (a : ℕ) (H : List Call) (when : ℕ) (f : FrameRecord) → source_of f.id ≢ a → sent_by a (whole_broadcasts w (At when (Hear f) ∷ H)) ≡ sent_by a (whole_broadcasts w H)
sent_more w a H when f n =
    filter-append (λ m. nat_eq a m.1.source) (whole_broadcasts w H) (listed (made_whole w H when f))
    ∙ (ap (λ z. sent_by a (whole_broadcasts w H) ++ z) (none_sent w a H when f n) ∙ append-nil (sent_by a (whole_broadcasts w H)))

-- a frame of its own
module _ (w : Who) (H G : List Call) (when : ℕ) (f : FrameRecord) (s : Same w (source_of f.id) H G) (b : FindsBox w (source_of f.id) (At when (Hear f)) H) (d : FindsBox w (source_of f.id) (At when (Hear f)) G) where
  its_heard : hearing w (At when (Hear f) ∷ H) (source_of f.id) ≡ hearing w (At when (Hear f) ∷ G) (source_of f.id)
  its_heard =
      its_now w H when f b
      ∙ ((λ i. (let o = same_found w (source_of f.id) H G s when f i in
      if announces f || packs f then open_part (by_kind w (holds_now w (source_of f.id) H G s f when i (source_of f.id)) (later (s.time i) (when - s.at i)) f o) else o))
      ∙ sym (its_now w G when f d))

  its_whole : made_whole w H when f ≡ made_whole w G when f
  its_whole =
      ap (λ (o : Option OpenBroadcast). if announces f || packs f then whole_of o else None) (its_kind w H when f b)
      ∙ ((λ i. if announces f || packs f then whole_of (by_kind w (holds_now w (source_of f.id) H G s f when i (source_of f.id)) (later (s.time i) (when - s.at i)) f (same_found w (source_of f.id) H G s when f i)) else None)
      ∙ ap (λ (o : Option OpenBroadcast). if announces f || packs f then whole_of o else None) (sym (its_kind w G when f d)))

  its_sent : sent_by (source_of f.id) (whole_broadcasts w (At when (Hear f) ∷ H)) ≡ sent_by (source_of f.id) (whole_broadcasts w (At when (Hear f) ∷ G))
  its_sent =
      filter-append (λ m. nat_eq (source_of f.id) m.1.source) (whole_broadcasts w H) (listed (made_whole w H when f))
      ∙ ((λ i. s.wholes i ++ sent_by (source_of f.id) (listed (its_whole i)))
      ∙ sym (filter-append (λ m. nat_eq (source_of f.id) m.1.source) (whole_broadcasts w G) (listed (made_whole w G when f))))

same_heard : (w : Who) (a : ℕ) (H G : List Call) (when : ℕ) (f : FrameRecord) → Same w a H G → FindsBox w a (At when (Hear f)) H → FindsBox w a (At when (Hear f)) G
    → Same w a (At when (Hear f) ∷ H) (At when (Hear f) ∷ G)
same_heard w a H G when f s b d = elim (cases_eq (source_of f.id) a) [
  | inl e ↦ subst (λ (c : ℕ). Same w c H G → FindsBox w c (At when (Hear f)) H → FindsBox w c (At when (Hear f)) G → Same w c (At when (Hear f) ∷ H) (At when (Hear f) ∷ G)) e
      (λ s b d. with (source_of f.id) s (its_heard w H G when f s b d) (its_sent w H G when f s b d)) s b d
  | inr n ↦
      with a s (others_leave w H when a f n ∙ (same_found w a H G s when f ∙ sym (others_leave w G when a f n))) (sent_more w a H when f n ∙ (s.wholes ∙ sym (sent_more w a G when f n)))
]
  where
    with : (c : ℕ) (s : Same w c H G) → hearing w (At when (Hear f) ∷ H) c ≡ hearing w (At when (Hear f) ∷ G) c
        → sent_by c (whole_broadcasts w (At when (Hear f) ∷ H)) ≡ sent_by c (whole_broadcasts w (At when (Hear f) ∷ G)) → Same w c (At when (Hear f) ∷ H) (At when (Hear f) ∷ G)
    with c s h k = record {
      at = refl;
      time = λ i. later (s.time i) (when - s.at i);
      calls = λ i. called_for 1250000 (calls_whom (s.holds i) f (claim_of f)) (waned (when - s.at i) (s.calls i));
      holds = holds_now w c H G s f when;
      hears = h;
      wholes = k;
    }

-- a stranger's frame, and a tick
same_ticked : (w : Who) (a : ℕ) (H G : List Call) (when : ℕ) (f : FrameRecord) → Same w a H G → source_of f.id ≢ a → claim_of f ≡ None → asks_claims f ≡ false
    → Same w a (At when (Hear f) ∷ H) (At when Tick ∷ G)
same_ticked w a H G when f s n e q = record {
  at = refl;
  time = λ i. later (s.time i) (when - s.at i);
  calls = (λ i. called_for 1250000 (calls_whom (holder w H) f (e i)) (waned (when - heard_at H) (called w H)))
      ∙ ((λ i. called_for 1250000 (if q i then Some (whom (destination_of f.id)) else None) (waned (when - heard_at H) (called w H))) ∙ λ i. waned (when - s.at i) (s.calls i));
  holds = (λ i b. held_then b (of_other w (e i)) (holder w H b)) ∙ s.holds;
  hears = as_ticked w H when a f e n ∙ ticked w a H G s when;
  wholes = sent_more w a H when f n ∙ s.wholes;
}

-- a quiet call
quiet_same : (w : Who) (a : ℕ) (call : Call) (H : List Call) → is_quiet call ≡ true → Same w a (call ∷ H) H
quiet_same w a (At now (Hear f)) H e = absurd (cc)
quiet_same w a (At now Tick) H e = absurd (cc)
quiet_same w a (At now (TakeFrame (Some f))) H e =
    let c : is_claim f ≡ false = grind (arith, e) in
    let q : taken_whom (is_claim f) (is_message f) f ≡ None = grind (arith, e) in record {
      at = refl;
      time = refl;
      calls = ap (λ (o : Option ℕ). called_for (1250000 + (now - heard_at H)) o (called w H)) q;
      holds = λ i b. if c i then held_then b (claim_of f) (holder w H b) else holder w H b;
      hears = λ i. of a (if c i then staying None (holder w (At now (TakeFrame (Some f)) ∷ H)) (time_heard H) (listening w H) else listening w H).current;
      wholes = refl;
    }
quiet_same w a (ReleaseBroadcast true) H e = record { at = refl; time = refl; calls = refl; holds = refl; hears = refl; wholes = refl }
quiet_same w a call H e = record { at = refl; time = refl; calls = refl; holds = refl; hears = refl; wholes = refl }

joined : (w : Who) (a : ℕ) (H G K : List Call) → Same w a H G → Same w a G K → Same w a H K
joined w a H G K s t = record { at = s.at ∙ t.at; time = s.time ∙ t.time; calls = s.calls ∙ t.calls; holds = s.holds ∙ t.holds; hears = s.hears ∙ t.hears; wholes = s.wholes ∙ t.wholes }

back : (w : Who) (a : ℕ) (H G : List Call) → Same w a H G → Same w a G H
back w a H G s = record { at = sym s.at; time = sym s.time; calls = sym s.calls; holds = sym s.holds; hears = sym s.hears; wholes = sym s.wholes }

same_both : (w : Who) (a : ℕ) (call : Call) (H G : List Call) → FindsBox w a call H → FindsBox w a call G → Same w a H G → Same w a (call ∷ H) (call ∷ G)
same_both w a (At now (Hear f)) H G b d s = same_heard w a H G now f s b d
same_both w a (At now Tick) H G b d s = record {
  at = refl;
  time = λ i. later (s.time i) (now - s.at i);
  calls = λ i. waned (now - s.at i) (s.calls i);
  holds = s.holds;
  hears = ticked w a H G s now;
  wholes = s.wholes;
}
same_both w a (At now (TakeFrame (Some f))) H G b d s = record {
  at = s.at;
  time = s.time;
  calls = λ i. called_for (1250000 + (now - s.at i)) (taken_whom (is_claim f) (is_message f) f) (s.calls i);
  holds = λ i c. if is_claim f then held_then c (claim_of f) (s.holds i c) else s.holds i c;
  hears = claims_same w a H G s now f;
  wholes = s.wholes;
}
same_both w a call H G b d s = go (is_quiet call) refl
  where
    go : (v : Bool) → is_quiet call ≡ v → Same w a (call ∷ H) (call ∷ G)
    go true e = joined w a (call ∷ H) H (call ∷ G) (quiet_same w a call H e) (joined w a H G (call ∷ G) s (back w a (call ∷ G) G (quiet_same w a call G e)))
    go false e = absurd (cc)

same : (w : Who) (x a : ℕ) → x ≢ a → (H G : List Call) → AreApartBy w x a H G → Same w a H G
same w x a n K L none = record { at = refl; time = refl; calls = refl; holds = refl; hears = refl; wholes = refl }
same w x a n K L (both call H G b d h) = same_both w a call H G b d (same w x a n H G h)
same w x a n K L (stranger now f H G e c q h) = same_ticked w a H G now f (same w x a n H G h) (λ z. n (sym e ∙ z)) c q
same w x a n K L (first call H G e h) = joined w a (call ∷ H) H G (quiet_same w a call H e) (same w x a n H G h)
same w x a n K L (second call H G e h) = joined w a H G (call ∷ G) (same w x a n H G h) (back w a (call ∷ G) G (quiet_same w a call G e))

pub apart : (w : Who) (x a : ℕ) (H G : List Call) → x ≢ a → AreApartBy w x a H G → (hearing w H a ≡ hearing w G a) × (sent_by a (whole_broadcasts w H) ≡ sent_by a (whole_broadcasts w G))
apart w x a H G n h = let s = same w x a n H G h in (s.hears, s.wholes)
