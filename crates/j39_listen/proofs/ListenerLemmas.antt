-- What a listener stands for after one frame more, and what it hears at it.
use Rattle.std.proofs.Common.{◌≡◌, ℕ, suc, Bool, true, false, List, [], ◌∷◌, ◌++◌, map, length, Option, Some, None, refl, sym, ap, ◌∙◌, subst, arith, eqb-true, append-nil, append_assoc, nat_lt, ◌==◌}
use Rattle.std.proofs.lemmas.Bool.{both_ways, cond_both, false_from_ne_true}
use Rattle.std.proofs.lemmas.List.{length-map, length_push, map_push}
use Rattle.std.specs.Prelude.{Result, Ok, Err, MatchResult}
use Rattle.j39_address.specs.Changes.{AreChanged}
use Rattle.j39_address.specs.Claim.{Claim, claim_of, claims_of}
use Rattle.j39_address.specs.Claims.{Knows, StandsFor}
use Rattle.j39_address.specs.declared.claims.Claims.{Claims}
use Rattle.j39_address.specs.Holder.{IsHolder, IsHolderAfter}
use Rattle.j39_address.proofs.NotingLemmas.{claims_of-push, quiet_changed, quiet_stands}
use Rattle.j39_frame.specs.Frame.{FrameRecord}
use Rattle.j39_frame.specs.Identifier.{pgn_of, source_of}
use Rattle.j39_groups.specs.Readings.{is_network_group}
use Rattle.j39_transport.specs.Answers.{AreHeldAfter, AreOpenAfter, NoneWhole, WholeBy}
use Rattle.j39_transport.specs.Events.{Event}
use Rattle.j39_transport.specs.Events.Event.{Frame, Forget}
use Rattle.j39_transport.specs.Signals.{said_by}
use Rattle.j39_transport.specs.Message.{MessageRecord}
use Rattle.j39_transport.specs.Stands.{Stands}
use Rattle.j39_transport.specs.AssemblerStep.{AssemblerRecord, fed, spare_after, state_after}
use Rattle.j39_listen.specs.Forgets.{Changed, WithForgets}
use Rattle.j39_listen.specs.Heard.{HeardAtWith, Hearing, IsHeardWith, LeavesNetwork, sent_to}
use Rattle.j39_listen.specs.Listening.{Hears}
use Rattle.j39_listen.specs.OneFrameMore.{IsMany, Next, NextBy, alone_of, heard_alone, hearing_alone}
use Rattle.j39_listen.specs.declared.listener.Listener.{Listener}
use Rattle.j39_listen.proofs.Causal.{forgets_more, holder_prefix}
use Rattle.j39_listen.proofs.Feeding.{heard_next}
use Rattle.j39_transport.proofs.BoxLemmas.{stands_after}
use Rattle.j39_transport.proofs.Taken.{assembled_sent}
use Rattle.j39_listen.proofs.Held.{held_is, holder_of}
use Rattle.j39_listen.proofs.Reported.{claims_silent, no_transport, packet_group}
use Rattle.j39_listen.proofs.Unique.{forgets_unique}

-- ---- holders after frames, and before a place

after_is : (F : List FrameRecord) (a : ℕ) (o : Option ℕ) → IsHolderAfter (claims_of F) a o → IsHolder (claims_of F) (length F) a o
after_is F a o h = subst (λ (n : ℕ). IsHolder (claims_of F) n a o) (length-map F claim_of) h

is_after : (F : List FrameRecord) (a : ℕ) (o : Option ℕ) → IsHolder (claims_of F) (length F) a o → IsHolderAfter (claims_of F) a o
is_after F a o h = subst (λ (n : ℕ). IsHolder (claims_of F) n a o) (sym (length-map F claim_of)) h

pub changed_next : (F : List FrameRecord) (f : FrameRecord) (xs : List ℕ) → AreChanged (claims_of F) (claims_of (F ++ f ∷ [])) xs
    → Changed (claims_of (F ++ f ∷ [])) (length F) xs
changed_next F f xs h =
    let n : length (F ++ f ∷ []) ≡ suc (length F) = omega (arith, length_push F f) in
    let before : (a : ℕ) (o : Option ℕ) → IsHolder (claims_of (F ++ f ∷ [])) (length F) a o → IsHolderAfter (claims_of F) a o =
    λ a o x. is_after F a o ((holder_prefix F (f ∷ []) (length F) a o (omega arith)).1 x) in
    let since : (a : ℕ) (o : Option ℕ) → IsHolderAfter (claims_of F) a o → IsHolder (claims_of (F ++ f ∷ [])) (length F) a o =
    λ a o x. (holder_prefix F (f ∷ []) (length F) a o (omega arith)).0 (after_is F a o x) in
    let behind : (a : ℕ) (o : Option ℕ) → IsHolder (claims_of (F ++ f ∷ [])) (suc (length F)) a o → IsHolderAfter (claims_of (F ++ f ∷ [])) a o =
    λ a o x. is_after (F ++ f ∷ []) a o (subst (λ (k : ℕ). IsHolder (claims_of (F ++ f ∷ [])) k a o) (sym n) x) in
    let at : (a : ℕ) (o : Option ℕ) → IsHolderAfter (claims_of (F ++ f ∷ [])) a o → IsHolder (claims_of (F ++ f ∷ [])) (suc (length F)) a o =
    λ a o x. subst (λ (k : ℕ). IsHolder (claims_of (F ++ f ∷ [])) k a o) n (after_is (F ++ f ∷ []) a o x) in
    record {
      rising = h.rising;
      changed = λ a l o p x y. h.changed a l o p (before a o x) (behind a p y);
      all = λ a w. h.all a (λ o p x y. w o p (since a o x) (at a p y));
    }

-- ---- a frame that claims nothing

pub quiet_next : (F : List FrameRecord) (f : FrameRecord) (table : Claims) → claim_of f ≡ None → Knows table F
    → AreChanged (claims_of F) (claims_of (F ++ f ∷ [])) [] × Knows table (F ++ f ∷ [])
quiet_next F f table none knows =
    let push : claims_of F ++ None ∷ [] ≡ claims_of (F ++ f ∷ []) = sym (claims_of-push F f ∙ ap (λ (c : Option Claim). claims_of F ++ c ∷ []) none) in (
      subst (λ (C : List (Option Claim)). AreChanged (claims_of F) C []) push (quiet_changed (claims_of F) table knows),
      subst (λ (C : List (Option Claim)). StandsFor table C) push (quiet_stands (claims_of F) table knows),
    )

pub hears_quiet : (l : Listener) (F : List FrameRecord) (f : FrameRecord) (a : AssemblerRecord) → claim_of f ≡ None → (h : Hears l F)
    → Stands (h.events ++ Frame f ∷ []) a → Hears (record { assembler = a; claims = l.claims }) (F ++ f ∷ [])
hears_quiet l F f a none h stands =
    let quiet = quiet_next F f l.claims none h.knows in
    record {
      events = h.events ++ Frame f ∷ [];
      with_forgets = subst (λ (E : List Event). WithForgets (F ++ f ∷ []) (length (F ++ f ∷ [])) E) (append-nil (h.events ++ Frame f ∷ []))
          (forgets_more F f h.events [] h.with_forgets (changed_next F f [] quiet.0));
      stands = stands;
      knows = quiet.1;
    }

-- ---- a frame of another group than that of claims claims nothing

pub no_claim : (f : FrameRecord) → (pgn_of f.id == 60928) ≡ false → claim_of f ≡ None
no_claim f e = rw e refl

pub is_many : (singles : ℕ → Bool) (f : FrameRecord) → (pgn_of f.id == 60928) ≡ false → singles (pgn_of f.id) ≡ false → IsMany singles f
is_many singles f e r = record { no_claim = no_claim f e; not_single = r }

-- ---- what is heard

next_by : (singles : ℕ → Bool) (r : Bool) (E : List Event) (f : FrameRecord) (c : Option MessageRecord) → singles (pgn_of f.id) ≡ r
    → NextBy r (nat_lt (source_of f.id) 254) E f c → Next singles E f c
next_by singles r E f c e n = subst (λ (b : Bool). NextBy b (nat_lt (source_of f.id) 254) E f c) (sym e) n

pub heard_many : (singles : ℕ → Bool) → LeavesNetwork singles → (l : Listener) (F : List FrameRecord) (f : FrameRecord) (m : MessageRecord) (d : Option ℕ) (t : ℕ) (name : Option ℕ) → IsMany singles f → (h : Hears l F)
    → IsHolderAfter (claims_of F) (source_of f.id) name → d ≡ sent_to m.pgn f.id → t ≡ f.stamp → WholeBy h.events f m
    → IsHeardWith singles (F ++ f ∷ []) (length F) (record { message = m; destination = d; stamp = t; name = name })
heard_many singles leaves l F f m d t name many h held destination stamp whole =
    subst (λ (s : ℕ). IsHeardWith singles (F ++ f ∷ []) (length F) (record { message = m; destination = d; stamp = s; name = name })) (sym stamp)
    (subst (λ (o : Option ℕ). IsHeardWith singles (F ++ f ∷ []) (length F) (record { message = m; destination = o; stamp = f.stamp; name = name })) (sym destination)
    (heard_next singles leaves F h.events f h.with_forgets (Some m) name (next_by singles false h.events f (Some m) many.not_single whole) (after_is F (source_of f.id) name held)))

-- a message by itself leaves the assembler as it was
pub hears_single : (l : Listener) (F : List FrameRecord) (f : FrameRecord) → is_network_group (pgn_of f.id) ≡ false → claim_of f ≡ None → Hears l F → Hears l (F ++ f ∷ [])
unfolding state_after spare_after
hears_single l F f free none h =
    let kept : fed l.assembler f (said_by f) ≡ l.assembler = ap (fed l.assembler f) (no_transport f free) in
    hears_quiet l F f l.assembler none h (subst (λ (a : AssemblerRecord). Stands (h.events ++ Frame f ∷ []) a) kept (stands_after h.events f l.assembler h.stands))

pub silent_many : (singles : ℕ → Bool) → LeavesNetwork singles → (l : Listener) (F : List FrameRecord) (f : FrameRecord) → IsMany singles f → (h : Hears l F) → NoneWhole h.events f
    → HeardAtWith singles (F ++ f ∷ []) (length F) None
silent_many singles leaves l F f many h none =
    heard_next singles leaves F h.events f h.with_forgets None (holder_of (claims_of F) (length F) (source_of f.id)) (next_by singles false h.events f None many.not_single none)
    (held_is (claims_of F) (length F) (source_of f.id))

-- a frame of a group that is heard in one frame, from an address that a controller can hold
heard_itself : (singles : ℕ → Bool) → LeavesNetwork singles → (l : Listener) (F : List FrameRecord) (f : FrameRecord) (name : Option ℕ) → singles (pgn_of f.id) ≡ true
    → nat_lt (source_of f.id) 254 ≡ true → (h : Hears l F) → IsHolderAfter (claims_of F) (source_of f.id) name → HeardAtWith singles (F ++ f ∷ []) (length F) (Some (hearing_alone f name))
heard_itself singles leaves l F f name single below h held =
    heard_next singles leaves F h.events f h.with_forgets (Some (alone_of f)) name
    (next_by singles true h.events f (Some (alone_of f)) single (subst (λ (b : Bool). NextBy true b h.events f (Some (alone_of f))) (sym below) refl))
    (after_is F (source_of f.id) name held)

-- and from no such address
silent_itself : (singles : ℕ → Bool) → LeavesNetwork singles → (l : Listener) (F : List FrameRecord) (f : FrameRecord) → singles (pgn_of f.id) ≡ true
    → nat_lt (source_of f.id) 254 ≡ false → Hears l F → HeardAtWith singles (F ++ f ∷ []) (length F) None
silent_itself singles leaves l F f single above h =
    heard_next singles leaves F h.events f h.with_forgets None (holder_of (claims_of F) (length F) (source_of f.id))
    (next_by singles true h.events f None single (subst (λ (b : Bool). NextBy true b h.events f None) (sym above) refl))
    (held_is (claims_of F) (length F) (source_of f.id))

pub heard_single : (singles : ℕ → Bool) → LeavesNetwork singles → (l : Listener) (F : List FrameRecord) (f : FrameRecord) (name : Option ℕ) → singles (pgn_of f.id) ≡ true → (h : Hears l F)
    → IsHolderAfter (claims_of F) (source_of f.id) name → HeardAtWith singles (F ++ f ∷ []) (length F) (heard_alone f name)
heard_single singles leaves l F f name single h held =
    cond_both (nat_lt (source_of f.id) 254) _ _ (λ (o : Option Hearing). HeardAtWith singles (F ++ f ∷ []) (length F) o)
    (λ below. heard_itself singles leaves l F f name single below h held) (λ above. silent_itself singles leaves l F f single above h)

-- a frame of the group of claims is heard as nothing
pub heard_claim : (singles : ℕ → Bool) → LeavesNetwork singles → (l : Listener) (F : List FrameRecord) (f : FrameRecord) → (pgn_of f.id == 60928) ≡ true → Hears l F → HeardAtWith singles (F ++ f ∷ []) (length F) None
heard_claim singles leaves l F f is h =
    let claims : pgn_of f.id ≡ 60928 = eqb-true _ _ is in
    let none : NoneWhole h.events f = λ m w.
    let packet = packet_group w.0 f (assembled_sent h.events f w.0 m.pgn m.bytes w.2) in
    let apart : 60160 ≡ 60928 = sym packet ∙ claims in
    absurd (omega arith) in
    heard_next singles leaves F h.events f h.with_forgets None (holder_of (claims_of F) (length F) (source_of f.id)) (next_by singles false h.events f None (claims_silent singles leaves _ claims) none)
    (held_is (claims_of F) (length F) (source_of f.id))

-- a frame of no group of the network's claims nothing
pub outside_claims : (f : FrameRecord) → is_network_group (pgn_of f.id) ≡ false → claim_of f ≡ None
outside_claims f free = no_claim f (false_from_ne_true _ (λ e. both_ways _ free (ap is_network_group (eqb-true _ _ e))))

-- and where it isn't heard by itself, nothing is heard at it
pub silent_outside : (singles : ℕ → Bool) → LeavesNetwork singles → (l : Listener) (F : List FrameRecord) (f : FrameRecord) → is_network_group (pgn_of f.id) ≡ false
    → singles (pgn_of f.id) ≡ false → Hears l F → HeardAtWith singles (F ++ f ∷ []) (length F) None
silent_outside singles leaves l F f free other h =
    silent_many singles leaves l F f (record { no_claim = outside_claims f free; not_single = other }) h
    (λ m w. both_ways _ free (ap is_network_group (packet_group w.0 f (assembled_sent h.events f w.0 m.pgn m.bytes w.2))))

-- ---- what is open

pub open_after : (l : Listener) (F : List FrameRecord) → Hears l F → (E : List Event) → WithForgets F (length F) E → (n : ℕ)
    → ((D : List Event) → Stands D l.assembler → AreOpenAfter D n) → AreOpenAfter E n
open_after l F h E w n some =
    subst (λ (D : List Event). AreOpenAfter D n) (forgets_unique F (length F) h.events E h.with_forgets w) (some h.events h.stands)

pub held_after : (l : Listener) (F : List FrameRecord) → Hears l F → (E : List Event) → WithForgets F (length F) E → (n : ℕ)
    → ((D : List Event) → Stands D l.assembler → AreHeldAfter D n) → AreHeldAfter E n
held_after l F h E w n kept =
    subst (λ (D : List Event). AreHeldAfter D n) (forgets_unique F (length F) h.events E h.with_forgets w) (kept h.events h.stands)

-- ---- answers that are known

pub on_ok : {X E : Type 0} (r : Result X E) (x : X) (P : X → Type 0) (Q : E → Type 0) → r ≡ Ok x → MatchResult r P Q → P x
on_ok {X = X} {E = E} r x P Q e m = subst (λ (y : Result X E). MatchResult y P Q) e m

pub on_ok_given : {X E : Type 0} (r : Result X E) (A R : Type 0) (Q : E → Type 0) → A → MatchResult r (λ _. A → R) Q → MatchResult r (λ _. R) Q
on_ok_given (Ok x) A R Q a m = m a
on_ok_given (Err e) A R Q a m = m

-- ---- a claim

pub forgets_more_than : (E : List Event) (xs : List ℕ) (a : ℕ) → (E ++ map (λ t. Forget t) xs) ++ Forget a ∷ [] ≡ E ++ map (λ t. Forget t) (xs ++ a ∷ [])
forgets_more_than E xs a = append_assoc E (map (λ t. Forget t) xs) (Forget a ∷ []) ∙ ap (λ (D : List Event). E ++ D) (sym (map_push (λ t. Forget t) xs a))

pub hears_claim : (l : Listener) (F : List FrameRecord) (f : FrameRecord) (a : AssemblerRecord) (claims : Claims) (gone : List ℕ) → (h : Hears l F)
    → AreChanged (claims_of F) (claims_of (F ++ f ∷ [])) gone → Knows claims (F ++ f ∷ [])
    → Stands ((h.events ++ Frame f ∷ []) ++ map (λ t. Forget t) gone) a → Hears (record { assembler = a; claims = claims }) (F ++ f ∷ [])
hears_claim l F f a claims gone h changed knows stands = record {
  events = (h.events ++ Frame f ∷ []) ++ map (λ t. Forget t) gone;
  with_forgets = forgets_more F f h.events gone h.with_forgets (changed_next F f gone changed);
  stands = stands;
  knows = knows;
}
