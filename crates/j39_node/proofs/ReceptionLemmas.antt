-- What every history says of what is received in packets.
use Rattle.j39_node.proofs.Common.{[], all_replies, ap, append-nil, append_assoc, arith, At, Bool, Call, called, Calling, calls_whom, Claim, claim_of, claimed_again, Claims, claims_of, cond_both, events, false, found_by, FrameRecord, Hear, heard_at, heard_by, held_then, held_through, holder, holder_in, holds, if◌then◌else◌, inl, inr, is_claim, is_double, is_reply, is_that, is_transfer, IsHolderAfter, KeepsHolder, known, known_by, Knows, leaves, length, List, ltb-false, ltb-true, map, Message, message_of, min, nat_eq, nat_lt, None, not, of_other, of_source, Option, reception, refl, restarts, said_from, SaidReply, Session, session, sessions_after, SessionsRecord, slice_get, Some, source_of, subst, suc, sym, TakeFrame, taken_by, takes_in, time_heard, told_claims, transport_control_group, true, waned, Who, zero, ℕ, ◌&&◌, ◌++◌, ◌-◌, ◌<◌, ◌∙◌, ◌∷◌, ◌≡◌, ◌≤◌}
use Rattle.j39_sessions.specs.Events.{Event, Leaves}
use Rattle.j39_sessions.specs.Sessions.{AreApart, from, is_left, says as sessions_say}
use Rattle.j39_sessions.proofs.LawLemmas.{each_apart, own_is, source_at}
use Rattle.j39_sessions.proofs.SourceLemmas.{below, of_filter, of_kept}
use Rattle.j39_address.proofs.HolderLemmas.{held_after, holder_push, none_above, same_holder}
use Rattle.j39_address.proofs.NotingLemmas.{claims_of-push}
use Rattle.std.proofs.lemmas.Bool.{cases_Bool}
use Rattle.std.proofs.lemmas.List.Elements.{All-head, All-tail}
use Rattle.std.specs.List.{All}

-- ---- since a frame

-- since a frame that was heard one NAME held a, or none, and didn't restart; and this stands of it and of the calls since
pub record HeardSince (w : Who) (H : List Call) (a : ℕ) (S : List Call → ℕ → FrameRecord → Type 0) : Type 0 where
  pub later : List Call
  pub at : ℕ
  pub first : FrameRecord
  pub earlier : List Call
  pub is : H ≡ later ++ At at (Hear first) ∷ earlier
  pub stands : S later at first
  pub one : KeepsHolder w a later (At at (Hear first) ∷ earlier)

pub since_now : (w : Who) (H : List Call) (now : ℕ) (f : FrameRecord) (a : ℕ) (S : List Call → ℕ → FrameRecord → Type 0) → S [] now f → HeardSince w (At now (Hear f) ∷ H) a S
since_now w H now f a S h = record { later = []; at = now; first = f; earlier = H; is = refl; stands = h; one = tt }

-- a call later
pub since_on : (w : Who) (H : List Call) (call : Call) (a : ℕ) (S T : List Call → ℕ → FrameRecord → Type 0) → HeardSince w H a S → holder w (call ∷ H) a ≡ known_by w call H a
    → ((later : List Call) (at : ℕ) (first : FrameRecord) → S later at first → T (call ∷ later) at first) → HeardSince w (call ∷ H) a T
since_on w H call a S T h keeps on = record {
  later = call ∷ h.later;
  at = h.at;
  first = h.first;
  earlier = h.earlier;
  is = ap (λ G. call ∷ G) h.is;
  stands = on h.later h.at h.first h.stands;
  one = (subst (λ (G : List Call). holder w (call ∷ G) a ≡ known_by w call G a) h.is keeps, h.one);
}

-- ---- the sessions, of which each is of one source

module _ (w : Who) (H : List Call) where
  pub own : ((reception w H).own ≡ w.address) × ((reception w H).boxes ≡ w.sessions) × ((reception w H).most ≡ w.window)
  own = own_is w.address w.window w.sessions (events w H)

  pub apart : AreApart (reception w H).sessions
  apart = each_apart w.address w.window w.sessions (events w H)

  pub its_source : (a : ℕ) (x : Session) → session w H a ≡ Some x → from x ≡ a
  its_source a x e = source_at a (reception w H).sessions x e

-- what they went through when a frame is heard by them
abbrev pub left : Who → List Call → ℕ → FrameRecord → List Event
left w H when f = Leaves (restarts w H when f) (holder w (At when (Hear f) ∷ H)) ∷ events w H

-- one that is found was there, and isn't left
pub found_was : (w : Who) (H : List Call) (when : ℕ) (f : FrameRecord) (a : ℕ) (x : Session) → of_source a (found_by w H when f).sessions ≡ Some x
    → (session w H a ≡ Some x) × (is_left (restarts w H when f) (holder w (At when (Hear f) ∷ H)) x ≡ false)
found_was w H when f a x e =
    of_kept (is_left (restarts w H when f) (holder w (At when (Hear f) ∷ H))) (session w H a) x
    (sym (of_filter (λ y. not (is_left (restarts w H when f) (holder w (At when (Hear f) ∷ H)) y)) a (reception w H).sessions (apart w H)) ∙ e)

-- ---- who holds an address

nobody_at : (a : ℕ) (c : Option Claim) (o : Option ℕ) → 254 ≤ a → o ≡ None → held_then a c o ≡ None
nobody_at a c o l e = grind (arith, l, e)

min_is : (n m : ℕ) → (if nat_lt n m then Some n else Some m) ≡ Some (min n m)
min_is n m = grind arith

same_claimed : (a : ℕ) (c : Option Claim) (o : Option ℕ) → nat_lt a 254 ≡ true → held_after a c o ≡ held_then a c o
same_claimed a c o l = grind (arith, min_is, l)

holder_more : (F : List FrameRecord) (f : FrameRecord) (a : ℕ) (o : Option ℕ) → IsHolderAfter (claims_of F) a o
    → IsHolderAfter (claims_of (F ++ f ∷ [])) a (if nat_lt a 254 then held_after a (claim_of f) o else None)
holder_more F f a o h = cond_both (nat_lt a 254) _ _ (IsHolderAfter (claims_of (F ++ f ∷ [])) a)
    (λ e. subst (λ C. IsHolderAfter C a (held_after a (claim_of f) o)) (sym (claims_of-push F f)) (holder_push (claims_of F) (claim_of f) a o (ltb-true _ _ e) h))
    (λ e. none_above (claims_of (F ++ f ∷ [])) (length (claims_of (F ++ f ∷ []))) a (ltb-false _ _ e))

holder_next : (F : List FrameRecord) (f : FrameRecord) (a : ℕ) (o : Option ℕ) → IsHolderAfter (claims_of F) a o → (nat_lt a 254 ≡ false → o ≡ None)
    → IsHolderAfter (claims_of (F ++ f ∷ [])) a (held_then a (claim_of f) o)
holder_next F f a o h n = subst (IsHolderAfter (claims_of (F ++ f ∷ [])) a) (elim (cases_Bool (nat_lt a 254)) [
  | inl e ↦ ap (λ (b : Bool). if b then held_after a (claim_of f) o else None) e ∙ same_claimed a (claim_of f) o e
  | inr e ↦ ap (λ (b : Bool). if b then held_after a (claim_of f) o else None) e ∙ sym (nobody_at a (claim_of f) o (ltb-false _ _ e) (n e))
]) (holder_more F f a o h)

pub record HolderOf (F : List FrameRecord) (a : ℕ) (o : Option ℕ) : Type 0 where
  pub is : IsHolderAfter (claims_of F) a o
  pub none : nat_lt a 254 ≡ false → o ≡ None

one_holder_more : (F : List FrameRecord) (f : FrameRecord) (a : ℕ) (o : Option ℕ) (b : Bool) → HolderOf F a o
    → HolderOf (if b then F ++ f ∷ [] else F) a (if b then held_then a (claim_of f) o else o)
one_holder_more F f a o true h = record { is = holder_next F f a o h.is h.none; none = λ e. nobody_at a (claim_of f) o (ltb-false _ _ e) (h.none e) }
one_holder_more F f a o false h = h

-- from a list of frames on
known_more : (F E : List FrameRecord) (a : ℕ) (o : Option ℕ) → HolderOf F a o → HolderOf (F ++ E) a (held_through a E o)
known_more F [] a o h = subst (λ (G : List FrameRecord). HolderOf G a o) (sym (append-nil F)) h
known_more F (f ∷ E) a o h =
    subst (λ (G : List FrameRecord). HolderOf G a (held_through a E (held_then a (claim_of f) o))) (append_assoc F (f ∷ []) E)
    (known_more (F ++ f ∷ []) E a (held_then a (claim_of f) o) (one_holder_more F f a o true h))

-- where it isn't a claim of the own NAME
heard_holder : (w : Who) (F : List FrameRecord) (f : FrameRecord) (a : ℕ) (o : Option ℕ) (c : Option Claim) → claim_of f ≡ c → HolderOf F a o
    → HolderOf (if is_double w c then F else F ++ f ∷ []) a (held_then a (of_other w c) o)
heard_holder w F f a o None e h = subst (λ (c : Option Claim). HolderOf (F ++ f ∷ []) a (held_then a c o)) e (one_holder_more F f a o true h)
heard_holder w F f a o (Some c) e h = go (nat_eq c.name w.name)
  where
    go : (b : Bool) → HolderOf (if Rattle.std.specs.Option.is_some (if b then Some c.address else None) then F else F ++ f ∷ []) a (held_then a (if b then None else Some c) o)
    go true = h
    go false = subst (λ (c : Option Claim). HolderOf (F ++ f ∷ []) a (held_then a c o)) e (one_holder_more F f a o true h)

pub holders : (w : Who) (H : List Call) (a : ℕ) → HolderOf (told_claims w H) a (holder w H a)
holders w [] a = known_more [] w.brought.known a None (record { is = λ n h. absurd h; none = λ e. refl })
holders w (At when (Hear f) ∷ H) a = heard_holder w (told_claims w H) f a (holder w H a) (claim_of f) refl (holders w H a)
holders w (At now (TakeFrame (Some f)) ∷ H) a = one_holder_more (told_claims w H) f a (holder w H a) (is_claim f) (holders w H a)
holders w (call ∷ H) a = holders w H a

-- what the table has is the holder
pub table_is : (w : Who) (table : Claims) (H : List Call) (a : ℕ) → Knows table (told_claims w H) → holder_in table a ≡ holder w H a
table_is w table H a knows = same_holder (claims_of (told_claims w H)) (length (claims_of (told_claims w H))) a _ _ (knows a) (holders w H a).is

pub holders_are : (w : Who) (H : List Call) (old : Claims) → Knows old (told_claims w H) → holder_in old ≡ holder w H
holders_are w H old k = λ i a. table_is w old H a k i

-- what is no claim leaves who holds an address, and nobody restarts by it
pub unclaimed_known : (w : Who) (H : List Call) (when : ℕ) (f : FrameRecord) (a : ℕ) → claim_of f ≡ None → holder w (At when (Hear f) ∷ H) a ≡ known w H when f a
unclaimed_known w H when f a e = grind (arith, e)

-- by what the table has
pub again_is : (w : Who) (table : Claims) (H : List Call) (left : Calling) (c : Option Claim) → Knows table (told_claims w H) → claimed_again (holder_in table) left c ≡ claimed_again (holder w H) left c
again_is w table H left c knows = ap (λ (holds : ℕ → Option ℕ). claimed_again holds left c) (holders_are w H table knows)

pub calls_is : (w : Who) (table : Claims) (H : List Call) (f : FrameRecord) (c : Option Claim) → Knows table (told_claims w H) → calls_whom (holder_in table) f c ≡ calls_whom (holder w H) f c
calls_is w table H f c knows = ap (λ (holds : ℕ → Option ℕ). calls_whom holds f c) (holders_are w H table knows)

-- those that leave
pub leaves_still : (w : Who) (old new : Claims) (H : List Call) (when : ℕ) (f : FrameRecord) (s : SessionsRecord) → Knows old (told_claims w H) → Knows new (told_claims w (At when (Hear f) ∷ H))
    → leaves (claimed_again (holder_in old) (waned (when - heard_at H) (called w H)) (claim_of f)) (holder_in new) s ≡ leaves (restarts w H when f) (holder w (At when (Hear f) ∷ H)) s
leaves_still w old new H when f s k l =
    λ i. leaves (claimed_again (holders_are w H old k i) (waned (when - heard_at H) (called w H)) (claim_of f)) (holders_are w (At when (Hear f) ∷ H) new l i) s

-- ---- the replies

pub record IsReply (own : ℕ) (m : Message) : Type 0 where
  pub source : m.source ≡ own
  pub group : m.group ≡ transport_control_group
  pub to : ℕ
  pub destination : m.destination ≡ Some to
  pub address : to < 254

reply_at : (own : ℕ) (L : List SaidReply) (n : ℕ) (m : Message) → All (λ x. x.to < 254) L → slice_get (map (said_from own) L) n ≡ Some m → IsReply own m
reply_at own [] n m h e = absurd (cc)
reply_at own (x ∷ L) zero m h e =
    let z : said_from own x ≡ m = cc in
    subst (IsReply own) z (record { source = refl; group = refl; to = x.to; destination = refl; address = All-head (λ x. x.to < 254) x L h })
reply_at own (x ∷ L) (suc n) m h e = reply_at own L n m (All-tail (λ x. x.to < 254) x L h) e

pub reply_of : (w : Who) (H : List Call) (n : ℕ) (m : Message) → slice_get (all_replies w H) n ≡ Some m → IsReply w.address m
reply_of w H n m e = subst (λ (a : ℕ). IsReply a m) (own w H).0 (reply_at (reception w H).own (reception w H).replies n m (below w.address w.window w.sessions (events w H)).replies e)

-- ---- a frame is taken

pub taken_is : (w : Who) (H : List Call) (now : ℕ) (f : FrameRecord) (a b : Bool) → is_claim f ≡ a → is_reply (all_replies w H) f ≡ b
    → events w (At now (TakeFrame (Some f)) ∷ H) ≡ taken_by a b (holder w (At now (TakeFrame (Some f)) ∷ H)) (events w H)
taken_is w H now f a b e g = λ i. taken_by (e i) (g i) (holder w (At now (TakeFrame (Some f)) ∷ H)) (events w H)

-- what the events leave, by what was there before
pub taken_in : (w : Who) (H : List Call) (when : ℕ) (f : FrameRecord) (x y : Bool)
    → takes_in x y (time_heard (At when (Hear f) ∷ H)) (holder w (At when (Hear f) ∷ H) (source_of f.id)) f (found_by w H when f)
    ≡ sessions_after w (heard_by x y (time_heard (At when (Hear f) ∷ H)) (holder w (At when (Hear f) ∷ H) (source_of f.id)) f (left w H when f))
taken_in w H when f true y = refl
taken_in w H when f false true = refl
taken_in w H when f false false = refl

abbrev pub taken_from : Bool → Bool → (ℕ → Option ℕ) → SessionsRecord → SessionsRecord
taken_from true reply holds s = leaves None holds s
taken_from false true holds s = sessions_say s
taken_from false false holds s = s

pub taken_is_from : (w : Who) (E : List Event) (holds : ℕ → Option ℕ) (x y : Bool) → sessions_after w (taken_by x y holds E) ≡ taken_from x y holds (sessions_after w E)
taken_is_from w E holds true y = refl
taken_is_from w E holds false true = refl
taken_is_from w E holds false false = refl

-- what is of no session to an address is no reply
pub no_reply : (L : List Message) (f : FrameRecord) → is_transfer f ≡ false → is_reply L f ≡ false
no_reply L f e = ap (λ (b : Bool). b && is_that (message_of f) (slice_get L 0)) e
