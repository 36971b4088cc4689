-- The report of the log has what a member sent.
use Rattle.std.proofs.Common.{[], ◌++◌, ◌<◌, ◌∙◌, ◌∷◌, ◌≡◌, ◌⊎◌, ap, append_assoc, arith, false, get_or, inl, inr, IsTrue, length, List, nat_eq, Some, subst, suc, sym, true, zero, ℕ}
use Rattle.std.proofs.lemmas.Bool.{cases_eq}
use Rattle.std.proofs.lemmas.Grind.{flat_map-append}
use Rattle.std.specs.List.{flat_map, slice_get}
use Rattle.j39_frame.specs.Address.{IsAddress}
use Rattle.j39_frame.specs.Frame.{FrameRecord}
use Rattle.j39_frame.specs.Identifier.{pgn_of, source_of}
use Rattle.j39_groups.specs.Readings.{is_reported_in}
use Rattle.j39_groups.specs.Row.{RowRecord}
use Rattle.j39_address.specs.Claim.{claims_of}
use Rattle.j39_address.specs.Holder.{IsHolder}
use Rattle.j39_listen.proofs.Reported.{reported_leaves}
use Rattle.j39_listen.proofs.Unique.{heard_at_unique}
use Rattle.j39_listen.specs.Heard.{frame_at, HeardBelowWith, Hearing, IsHeard, or_none, sent_to}
use Rattle.j39_listen.specs.Report.{entries_of, Entry, IsReport}
use Rattle.j39_node.proofs.LawLemmas.{source_by}
use Rattle.j39_node.proofs.PromptLaws.{answered_from}
use Rattle.j39_node.proofs.SinceLemmas.{claimed_since, held_cases}
use Rattle.j39_node.specs.History.{Call, Message, Who, address_after, claim_address, claim_from, frames, holds, is_claim, message_of, step}
use Rattle.j39_node.specs.History.Call.{At}
use Rattle.j39_node.specs.History.Act.{TakeFrame}
use Rattle.j39_node.specs.Is.{AreAnswered}
use Rattle.j39_node.proofs.Tests.{not_both}
use Rattle.j39_net.proofs.ReportLemmas.{Each, each, held_there, sent_by, split_at}
use Rattle.j39_net.proofs.ShareLemmas.{claimed_by, held_not_lost}
use Rattle.j39_net.specs.Net.{Come, IsMember, IsNoClaim, IsUnrivalled, log, Member, Net, own, Passed}

-- ---- what is heard at a place stands in the report

pub record Among {T : Type 0} (x : T) (xs : List T) : Type 0 where
  pub before : List T
  pub after : List T
  pub is : xs ≡ before ++ (x ∷ after)

pub heard_in : (groups : List RowRecord) (F : List FrameRecord) (k n : ℕ) (h : Hearing) (hs : List Hearing) → k < n → IsHeard groups F k h
    → HeardBelowWith (is_reported_in groups) F n hs → Among h hs
heard_in groups F k zero h hs l is b = absurd (omega (arith, l))
heard_in groups F k (suc n) h hs l is b = elim (cases_eq k n) [
  | inl e ↦ record {
    before = b.0;
    after = [];
    is = b.4 ∙ ap (λ o. b.0 ++ or_none o) (heard_at_unique (is_reported_in groups) (reported_leaves groups) F n b.1 (Some h) b.3 (subst (λ i. IsHeard groups F i h) e is));
  }
  | inr n' ↦
      let x = heard_in groups F k n h b.0 (omega (arith, l, n')) is b.2 in
      record { before = x.before; after = x.after ++ or_none b.1; is = b.4 ∙ (ap (λ v. v ++ or_none b.1) x.is ∙ append_assoc x.before (h ∷ x.after) (or_none b.1)) }
]

-- ---- a place of the log

pub there : (L : List Passed) (k : ℕ) (x : Passed) (d : FrameRecord) → slice_get L k ≡ Some x → get_or (log L) k d ≡ x.frame
there [] k x d e = absurd (cc)
there (y ∷ L) zero x d e = let z : y ≡ x = cc in ap (λ (v : Passed). v.frame) z
there (y ∷ L) (suc k) x d e = there L k x d e

pub inside : (L : List Passed) (k : ℕ) (x : Passed) → slice_get L k ≡ Some x → k < length (log L)
inside [] k x e = absurd (cc)
inside (y ∷ L) zero x e = omega arith
inside (y ∷ L) (suc k) x e = let l = inside L k x e in omega (arith, l)

-- ---- its source and its holder

pub record IsUnder (L : List Passed) (k : ℕ) (x : Passed) (w : Who) : Type 0 where
  pub source : source_of x.frame.id ≡ w.address
  pub holder : IsHolder (claims_of (log L)) k w.address (Some w.name)
  pub each : Each (claims_of (log L)) k w.name w.address

no_claim : (w : Who) (H : List Call) (now : ℕ) (f : FrameRecord) → is_claim f ≡ false
    → (message_of f ≡ claim_from w (claim_address w (address_after w H))) ⊎ (IsTrue (holds w H now) × (source_of f.id ≡ w.address) × ((pgn_of f.id ≡ 60928) → ⊥))
    → (holds w H now ≡ true) × (source_of f.id ≡ w.address)
no_claim w H now f e (inl z) = absurd (not_both (is_claim f) e (ap (λ (m : Message). nat_eq m.group 60928) z))
no_claim w H now f e (inr z) = (z.0, z.1)

pub under : (delay now i k : ℕ) (L : List Passed) (members : List Member) (m : Member) (x : Passed) → Net delay now (IsNoClaim members) L members
    → IsMember members i m → slice_get L k ≡ Some x → x.by ≡ Some i → is_claim x.frame ≡ false → IsUnrivalled L k i m.who → IsUnder L k x m.who
under delay now i k L members m x net hm at by plain alone =
    let s = split_at L k x at in
    let c = sent_by delay (IsNoClaim members) m.who m.history i s.before s.after x by (subst (λ G. Come delay (IsNoClaim members) (frames m.history) (own i G)) s.is (net.sent i m hm)) in
    let right : AreAnswered m.who (At c.at (TakeFrame (Some c.frame)) ∷ c.earlier) = answered_from m.who c.later (At c.at (TakeFrame (Some c.frame)) ∷ c.earlier) (subst (AreAnswered m.who) c.is (net.answered i m hm)) in
    let same : is_claim c.frame ≡ false = sym (ap (λ id. nat_eq (pgn_of id) 60928) c.is_later.id) ∙ plain in
    let h = no_claim m.who c.earlier c.at c.frame same (source_by m.who c.earlier c.at c.frame right) in
    let since = held_cases (step c.earlier c.at) (address_after m.who c.earlier) h.0 in
    let claimed = claimed_since m.who c.earlier since.0 right.0 since.1 in
    record {
      source = ap source_of c.is_later.id ∙ h.1;
      holder = held_there delay members L s.before s.after i k m x hm s.is s.long (net.name i m hm) (net.address i m hm) c.earlier right.0
          (held_not_lost (step c.earlier c.at) (address_after m.who c.earlier) h.0) c.come alone claimed.at
          (claimed_by m.who c.earlier since.0 (net.name i m hm) (net.address i m hm) right.0 claimed);
      each = each delay members L s.before s.after i k m x hm s.is s.long (net.name i m hm) (net.address i m hm) c.earlier right.0
          (held_not_lost (step c.earlier c.at) (address_after m.who c.earlier) h.0) c.come alone;
    }

-- ---- the report

-- how it is heard
abbrev pub hearing_of : Passed → Who → Hearing
hearing_of x w = record {
  message = record { source = w.address; pgn = pgn_of x.frame.id; bytes = x.frame.bytes };
  destination = sent_to (pgn_of x.frame.id) x.frame.id;
  stamp = x.frame.stamp;
  name = Some w.name;
}

pub heard_there : (groups : List RowRecord) (L : List Passed) (k : ℕ) (x : Passed) (w : Who) → IsAddress w.address → slice_get L k ≡ Some x → IsUnder L k x w
    → is_reported_in groups (pgn_of x.frame.id) ≡ true → IsHeard groups (log L) k (hearing_of x w)
heard_there groups L k x w address at u r =
    let e : frame_at (log L) k ≡ x.frame = there L k x (record { stamp = 0; id = 0; bytes = [] }) at in
    record {
      carried = inl (record {
        inside = inside L k x at;
        single = ap (λ (f : FrameRecord). is_reported_in groups (pgn_of f.id)) e ∙ r;
        address = address;
        source_is = ap (λ (f : FrameRecord). source_of f.id) e ∙ u.source;
        pgn_is = ap (λ (f : FrameRecord). pgn_of f.id) e;
        bytes_are = ap (λ (f : FrameRecord). f.bytes) e;
      });
      held_by = u.holder;
      destination_is = sym (ap (λ (f : FrameRecord). sent_to (pgn_of x.frame.id) f.id) e);
      stamp_is = sym (ap (λ (f : FrameRecord). f.stamp) e);
    }

pub reported : (groups : List RowRecord) (delay now i k : ℕ) (L : List Passed) (members : List Member) (m : Member) (x : Passed) (entries : List Entry)
    → Net delay now (IsNoClaim members) L members → IsMember members i m → slice_get L k ≡ Some x → x.by ≡ Some i → is_claim x.frame ≡ false
    → IsTrue (is_reported_in groups (pgn_of x.frame.id)) → IsUnrivalled L k i m.who → IsReport groups (log L) entries
    → (before : List Entry) × (after : List Entry) × (entries ≡ before ++ (entries_of groups (hearing_of x m.who) ++ after))
reported groups delay now i k L members m x entries net hm at by plain r alone report =
    let h = heard_there groups L k x m.who (net.address i m hm) at (under delay now i k L members m x net hm at by plain alone) r in
    let a = heard_in groups (log L) k (length (log L)) (hearing_of x m.who) report.0 (inside L k x at) h report.1 in (
      flat_map (entries_of groups) a.before,
      flat_map (entries_of groups) a.after,
      report.2 ∙ (ap (flat_map (entries_of groups)) a.is ∙ flat_map-append (entries_of groups) a.before (hearing_of x m.who ∷ a.after)),
    )
