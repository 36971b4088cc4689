-- No two hold one address.
use Rattle.std.proofs.Common.{[], if◌then◌else◌, ◌&&◌, ◌==◌, ◌++◌, ◌+◌, ◌*◌, ◌<◌, ◌∙◌, ◌^◌, ◌∷◌, ◌≡◌, ◌≤◌, ◌⊎◌, ap, append_assoc, arith, Bool, eq-eqb, inl, inr, length, List, lt-ltb, nat_eq, nat_lt, None, Option, refl, Some, subst, sym, true, ℕ}
use Rattle.std.proofs.lemmas.Bool.{cases_eq, cases_lt}
use Rattle.std.specs.List.{Contains}
use Rattle.byteorder.specs.Endian.{little_bytes, little_number}
use Rattle.byteorder.specs.Numbers.{little_number-reads_back}
use Rattle.j39_address.specs.Claim.{Claim, claim_of}
use Rattle.j39_frame.specs.Address.{IsAddress}
use Rattle.j39_frame.specs.Frame.{FrameRecord}
use Rattle.j39_node.specs.History.{Address, Call, Message, Who, address_after, claim_address, claim_from, frames, holds, is_claim, is_held, is_larger, is_lost, is_smaller, message_of, older, step}
use Rattle.j39_node.specs.Is.{AreAnswered}
use Rattle.j39_node.specs.History.Call.{At}
use Rattle.j39_node.specs.History.Act.{Hear, TakeFrame}
use Rattle.j39_node.specs.History.Address.{NotClaimed, Claimed, Lost}
use Rattle.j39_node.proofs.KindLemmas.{claims_it as tells_claim, kind_by}
use Rattle.j39_node.proofs.PromptLaws.{answered_from}
use Rattle.j39_node.proofs.SinceLemmas.{claimed_since, held_cases}
use Rattle.j39_node.proofs.SoundLemmas.{FrameCase, frame_case, stays_lost}
use Rattle.j39_node.proofs.SoundLemmas.FrameCase.{claims}
use Rattle.j39_node.specs.Since.{ClaimedSince}
use Rattle.j39_net.specs.Net.{Defends, InTime, IsMember, IsNoClaim, Member, Net, Passed, TakesClaim, hears, others, own}
use Rattle.j39_net.proofs.NetLemmas.{come_of, heard_at, passed_to, taken_in, within, behind_it, elapsed}

-- ---- claims

-- the claim of a member's address
abbrev pub its_claim : Who → Option Claim
its_claim w = Some (record { name = w.name; address = w.address })

claim_in : ℕ → ℕ → List ℕ → Option Claim
claim_in group source bytes =
    if group == 60928 && length bytes == 8 && nat_lt source 255 then Some (record { name = little_number 8 bytes; address = source }) else None

read_back : (n a : ℕ) → n < 2 ^ 64 → IsAddress a → claim_in 60928 a (little_bytes 8 n) ≡ Some (record { name = n; address = a })
unfolding claim_in
read_back n a l h =
    let z : little_number 8 (little_bytes 8 n) ≡ n = little_number-reads_back 8 n [] l in
    let b : nat_lt a 255 ≡ true = lt-ltb a 255 (omega (arith, h)) in
    ap (λ (t : Bool). if t then Some (record { name = little_number 8 (little_bytes 8 n); address = a }) else None) b
    ∙ ap (λ (k : ℕ). (let o : Option Claim = Some (record { name = k; address = a }) in o)) z

pub claim_read : (w : Who) (f : FrameRecord) → w.name < 2 ^ 64 → IsAddress w.address → message_of f ≡ claim_from w w.address → claim_of f ≡ its_claim w
unfolding claim_in
claim_read w f l h e = ap (λ (m : Message). claim_in m.group m.source m.bytes) e ∙ read_back w.name w.address l h

pub same_claim : (f g : FrameRecord) → g.id ≡ f.id → g.bytes ≡ f.bytes → claim_of g ≡ claim_of f
same_claim f g e d = λ i. claim_of (record { stamp = 0; id = e i; bytes = d i })

-- ---- an address that is lost, or held

lost_since : (w : Who) (later E : List Call) → is_lost (address_after w E) ≡ true → is_lost (address_after w (later ++ E)) ≡ true
lost_since w [] E e = e
lost_since w (call ∷ later) E e = stays_lost w (later ++ E) call (lost_since w later E e)

pub held_not_lost : (s : ℕ) (a : Address) → is_held (older s a) ≡ true → is_lost a ≡ true → ⊥
held_not_lost s NotClaimed h l = absurd (cc)
held_not_lost s (Claimed e) h l = absurd (cc)
held_not_lost s Lost h l = absurd (cc)

-- by its claim a smaller NAME drives away who claims its address
drives : (v w : Who) (f : FrameRecord) → v.name < w.name → v.address ≡ w.address → claim_of f ≡ its_claim v → is_smaller w (claim_of f) ≡ true
drives v w f l e c = ap (is_smaller w) c ∙ λ i. eq-eqb v.address w.address e i && lt-ltb v.name w.name l i

calls_larger : (v w : Who) (f : FrameRecord) → w.name < v.name → v.address ≡ w.address → claim_of f ≡ its_claim v → is_larger w (claim_of f) ≡ true
calls_larger v w f l e c = ap (is_larger w) c ∙ λ i. eq-eqb v.address w.address e i && lt-ltb w.name v.name l i

-- a claim that is taken from an address that isn't lost claims it
claim_address_kept : (w : Who) (a : Address) → (is_lost a ≡ true → ⊥) → claim_address w a ≡ w.address
claim_address_kept w NotClaimed n = refl
claim_address_kept w (Claimed e) n = refl
claim_address_kept w Lost n = absurd (n refl)

three : (a b : ℕ) → (a < b) ⊎ ((b < a) ⊎ (a ≡ b))
three a b = elim (cases_lt a b) [ inl l ↦ inl l | inr h ↦ elim (cases_lt b a) [ inl l ↦ inr (inl l) | inr g ↦ inr (inr (omega (arith, h, g))) ] ]

-- what is taken that is a claim
claim_by : (w : Who) (H : List Call) (now : ℕ) (f : FrameRecord) → (c : FrameCase w H now f) → (kind_by c).claim ≡ true
    → (f.stamp ≡ now) × (message_of f ≡ claim_from w (claim_address w (address_after w H)))
claim_by w H now f (claims o e) k = (ap (λ (x : ℕ × Message). x.0) e, ap (λ (x : ℕ × Message). x.1) e)
claim_by w H now f c k = absurd (cc)

taken_claim : (w : Who) (H : List Call) (now : ℕ) (f : FrameRecord) → AreAnswered w (At now (TakeFrame (Some f)) ∷ H) → is_claim f ≡ true
    → (f.stamp ≡ now) × (message_of f ≡ claim_from w (claim_address w (address_after w H)))
taken_claim w H now f a e =
    let c = frame_case w H now f a.1 in claim_by w H now f c (sym (tells_claim w H now f a.0 c) ∙ e)

-- a claim that was taken, where the address isn't lost since
pub claims_its : (w : Who) (H later E : List Call) (at : ℕ) (f : FrameRecord) → w.name < 2 ^ 64 → IsAddress w.address → AreAnswered w H
    → H ≡ later ++ At at (TakeFrame (Some f)) ∷ E → (is_lost (address_after w H) ≡ true → ⊥) → is_claim f ≡ true
    → (f.stamp ≡ at) × (claim_of f ≡ its_claim w)
claims_its w H later E at f small address a is kept e =
    let t = taken_claim w E at f (answered_from w later (At at (TakeFrame (Some f)) ∷ E) (subst (AreAnswered w) is a)) e in (
      t.0,
      claim_read w f small address (t.1 ∙ ap (claim_from w) (claim_address_kept w (address_after w E) (λ l. kept
          (subst (λ G. is_lost (address_after w G) ≡ true) (sym is) (lost_since w later (At at (TakeFrame (Some f)) ∷ E) (stays_lost w E (At at (TakeFrame (Some f))) l)))))),
    )

-- ---- the net

-- it took a claim of its address at this moment
pub record Claims (w : Who) (H : List Call) (at : ℕ) : Type 0 where
  pub later : List Call
  pub claim : FrameRecord
  pub earlier : List Call
  pub is : H ≡ later ++ At at (TakeFrame (Some claim)) ∷ earlier
  pub stamp : claim.stamp ≡ at
  pub claims : claim_of claim ≡ its_claim w

-- it heard the claim of v's address at this moment
pub record HearsIt (v : Who) (H : List Call) (at : ℕ) : Type 0 where
  pub later : List Call
  pub frame : FrameRecord
  pub earlier : List Call
  pub is : H ≡ later ++ At at (Hear frame) ∷ earlier
  pub claims : claim_of frame ≡ its_claim v

-- so long after it was taken
pub record Reaches (v : Who) (H : List Call) (at limit : ℕ) : Type 0 where
  pub moment : ℕ
  pub behind : at ≤ moment
  pub in_time : moment ≤ limit
  pub heard : HearsIt v H moment

module _ (delay now limit : ℕ) (missing : FrameRecord → Type 0) (L : List Passed) (members : List Member)
    (net : Net delay now missing L members) (cut : (f : FrameRecord) → missing f → (IsNoClaim members f → ⊥) → limit < f.stamp + delay) where
  claims_it : (i : ℕ) (m : Member) (f : FrameRecord) → IsMember members i m → claim_of f ≡ its_claim m.who → IsNoClaim members f → ⊥
  claims_it i m f h e n = n i m h e

  pub reaches : (i j : ℕ) (m n : Member) (at : ℕ) → IsMember members i m → IsMember members j n → (i ≡ j → ⊥) → Claims m.who m.history at
      → at + 2 * delay ≤ limit → (at < n.since) ⊎ Reaches m.who n.history at (at + 2 * delay)
  reaches i j m n at hm hn apart c l =
      elim (come_of delay missing (frames m.history) (own i L) c.claim (net.sent i m hm) (subst (λ H. Contains (frames H) c.claim) (sym c.is) (taken_in c.later c.earlier at c.claim))) [
        | inl lost ↦ absurd (let z = cut c.claim lost (claims_it i m c.claim hm c.claims) in let s = c.stamp in omega (arith, z, s, l))
        | inr on ↦ elim (cases_lt on.frame.stamp n.since) [
          | inl early ↦ inl (let s = c.stamp in let t = on.is_later.behind in omega (arith, s, t, early))
          | inr there ↦ elim (come_of delay missing (others j n.since L) (hears n.history) on.frame (net.heard j n hn) (passed_to i j n.since L on.frame apart there on.stands)) [
            | inl lost ↦ absurd (
                let same = same_claim c.claim on.frame on.is_later.id on.is_later.bytes ∙ c.claims in
                let z = cut on.frame lost (claims_it i m on.frame hm same) in
                let s = c.stamp in
                let t = on.is_later.in_time in
                omega (arith, z, s, l, t))
            | inr got ↦ inr (
                let h = heard_at n.history got.frame got.stands in
                let same = same_claim got.frame h.frame h.id h.bytes ∙ (same_claim on.frame got.frame got.is_later.id got.is_later.bytes ∙ (same_claim c.claim on.frame on.is_later.id on.is_later.bytes ∙ c.claims)) in
                let s = c.stamp in
                let a = on.is_later.behind in
                let b = got.is_later.behind in
                let d = on.is_later.in_time in
                let e = got.is_later.in_time in
                record {
                  moment = got.frame.stamp;
                  behind = omega (arith, s, a, b);
                  in_time = omega (arith, s, d, e);
                  heard = record { later = h.later; frame = h.frame; earlier = h.earlier; is = h.is; claims = same };
                })
          ]
        ]
      ]

  -- whom a smaller NAME's claim reaches, that doesn't hold its address
  pub driven : (v : Who) (n : Member) (at : ℕ) → v.name < n.who.name → v.address ≡ n.who.address → HearsIt v n.history at → holds n.who n.history now ≡ true → ⊥
  driven v n at l e h held =
      held_not_lost (step n.history now) (address_after n.who n.history) held
      (subst (λ H. is_lost (address_after n.who H) ≡ true) (sym h.is)
      (lost_since n.who h.later (At at (Hear h.frame) ∷ h.earlier)
      (ap (λ b. is_lost (if b then Lost else older (step h.earlier at) (address_after n.who h.earlier))) (drives v n.who h.frame l e h.claims))))

  -- a claim that is taken behind another's claim, from an address that is held later
  defence : (i : ℕ) (m : Member) (later E : List Call) (when end : ℕ) (f : FrameRecord) → IsMember members i m
      → m.history ≡ later ++ At when (Hear f) ∷ E → holds m.who m.history now ≡ true → TakesClaim end later
      → (t : ℕ) × (when ≤ t) × (t ≤ end) × Claims m.who m.history t
  defence i m later E when end f hm is held t = (
    t.at,
    behind,
    t.in_time,
    record {
      later = t.later;
      claim = t.claim;
      earlier = t.earlier ++ At when (Hear f) ∷ E;
      is = whole;
      stamp = taken.0;
      claims = taken.1;
    },
  )
    where
      whole : m.history ≡ t.later ++ At t.at (TakeFrame (Some t.claim)) ∷ (t.earlier ++ At when (Hear f) ∷ E)
      whole = is ∙ (ap (λ l. l ++ At when (Hear f) ∷ E) t.is ∙ append_assoc t.later (At t.at (TakeFrame (Some t.claim)) ∷ t.earlier) (At when (Hear f) ∷ E))

      behind : when ≤ t.at
      behind = (within m.since t.at when (Hear f) t.earlier E
          (behind_it m.since now t.at (TakeFrame (Some t.claim)) t.later (t.earlier ++ At when (Hear f) ∷ E) (subst (InTime m.since now) whole (net.in_time i m hm)))).1

      taken : (t.claim.stamp ≡ t.at) × (claim_of t.claim ≡ its_claim m.who)
      taken = claims_its m.who m.history t.later (t.earlier ++ At when (Hear f) ∷ E) t.at t.claim (net.name i m hm) (net.address i m hm) (net.answered i m hm) whole
          (held_not_lost (step m.history now) (address_after m.who m.history) held) t.claims

  -- the smaller NAME m and the larger n, each of which took a claim of the address, so long ago that it came to the other
  pub one_smaller : (i j : ℕ) (m n : Member) (by : ℕ → ℕ) (at_m at_n : ℕ) → IsMember members i m → IsMember members j n → (i ≡ j → ⊥)
      → m.who.name < n.who.name → m.who.address ≡ n.who.address → holds m.who m.history now ≡ true → holds n.who n.history now ≡ true
      → Defends by now m.who m.history → Claims m.who m.history at_m → Claims n.who n.history at_n
      → at_m + 2 * delay ≤ limit → at_n + 2 * delay ≤ limit
      → ((h : ℕ) → h ≤ at_n + 2 * delay → h ≤ now → (by h ≤ now) × (by h + 2 * delay ≤ limit)) → ⊥
  one_smaller i j m n by at_m at_n hm hn apart less same held_m held_n defends claim_m claim_n in_time_m in_time_n timely =
      first (reaches i j m n at_m hm hn apart claim_m in_time_m)
    where
      before : (k : ℕ) (x : Member) (at : ℕ) → IsMember members k x → Claims x.who x.history at → (x.since ≤ at) × (at ≤ now)
      before k x at hx c = within x.since now at (TakeFrame (Some c.claim)) c.later c.earlier (subst (InTime x.since now) c.is (net.in_time k x hx))

      gone : (at end : ℕ) → Reaches m.who n.history at end → ⊥
      gone at end r = driven m.who n r.moment less same r.heard held_n

      answered : (h t : ℕ) → at_n ≤ h → h ≤ t → (t + 2 * delay ≤ limit) → Claims m.who m.history t → ⊥
      answered h t a b l c = elim (reaches i j m n t hm hn apart c l) [
        | inl early ↦ absurd (let z = (before j n at_n hn claim_n).0 in omega (arith, early, z, a, b))
        | inr r ↦ gone t (t + 2 * delay) r
      ]

      heard : at_m < n.since → Reaches n.who m.history at_n (at_n + 2 * delay) → ⊥
      heard early r =
          let x = r.heard in
          let past = (within m.since now r.moment (Hear x.frame) x.later x.earlier (subst (InTime m.since now) x.is (net.in_time i m hm))).1 in
          let larger = calls_larger n.who m.who x.frame less (sym same) x.claims in
          let when = timely r.moment r.in_time past in
          let d = defence i m x.later x.earlier r.moment (by r.moment) x.frame hm x.is held_m (defends x.later x.earlier r.moment x.frame x.is larger when.0) in
          answered r.moment d.0 r.behind d.1 (let a = d.2 in let b = when.1 in omega (arith, a, b)) d.3

      second : at_m < n.since → (at_n < m.since) ⊎ Reaches n.who m.history at_n (at_n + 2 * delay) → ⊥
      second early (inl z) = let a = (before i m at_m hm claim_m).0 in let b = (before j n at_n hn claim_n).0 in absurd (omega (arith, early, z, a, b))
      second early (inr r) = heard early r

      first : (at_m < n.since) ⊎ Reaches m.who n.history at_m (at_m + 2 * delay) → ⊥
      first (inl early) = second early (reaches j i n m at_n hn hm (λ e. apart (sym e)) claim_n in_time_n)
      first (inr r) = gone at_m (at_m + 2 * delay) r

  pub none_share : (i j : ℕ) (m n : Member) (by : ℕ → ℕ) (at_m at_n : ℕ) → IsMember members i m → IsMember members j n
      → m.who.address ≡ n.who.address → holds m.who m.history now ≡ true → holds n.who n.history now ≡ true
      → Defends by now m.who m.history → Defends by now n.who n.history → Claims m.who m.history at_m → Claims n.who n.history at_n
      → at_m + 2 * delay ≤ limit → at_n + 2 * delay ≤ limit
      → ((h : ℕ) → h ≤ at_m + 2 * delay → h ≤ now → (by h ≤ now) × (by h + 2 * delay ≤ limit))
      → ((h : ℕ) → h ≤ at_n + 2 * delay → h ≤ now → (by h ≤ now) × (by h + 2 * delay ≤ limit)) → i ≡ j
  none_share i j m n by at_m at_n hm hn same held_m held_n defends_m defends_n claim_m claim_n in_time_m in_time_n timely_m timely_n =
      elim (cases_eq i j) [
        | inl e ↦ e
        | inr apart ↦ absurd (elim (three m.who.name n.who.name) [
          | inl less ↦ one_smaller i j m n by at_m at_n hm hn apart less same held_m held_n defends_m claim_m claim_n in_time_m in_time_n timely_n
          | inr (inl more) ↦ one_smaller j i n m by at_n at_m hn hm (λ e. apart (sym e)) more (sym same) held_n held_m defends_n claim_n claim_m in_time_n in_time_m timely_m
          | inr (inr e) ↦ apart (net.apart i j m n hm hn e)
        ])
      ]

-- what an address needs that is held: a claim that was taken 250 ms ago
pub record Held (w : Who) (H : List Call) (now : ℕ) : Type 0 where
  pub at : ℕ
  pub claims : Claims w H at
  pub ago : at + 250000 ≤ now

-- a claim of its address, taken before an address is held
pub claimed_by : (w : Who) (H : List Call) (e : ℕ) → w.name < 2 ^ 64 → IsAddress w.address → AreAnswered w H → (c : ClaimedSince w H e) → Claims w H c.at
claimed_by w H e small address a c = record {
  later = c.later;
  claim = c.claim;
  earlier = c.earlier;
  is = c.is;
  stamp = (taken_claim w c.earlier c.at c.claim (answered_from w c.later (At c.at (TakeFrame (Some c.claim)) ∷ c.earlier) (subst (AreAnswered w) c.is a))
      (ap (λ (m : Message). nat_eq m.group 60928) c.claims)).0;
  claims = claim_read w c.claim small address c.claims;
}

held_by : (w : Who) (H : List Call) (start now e : ℕ) → w.name < 2 ^ 64 → IsAddress w.address → AreAnswered w H → InTime start now H
    → ClaimedSince w H e → 250000 ≤ e + step H now → Held w H now
held_by w H start now e small address a t c l = record {
  at = c.at;
  claims = claimed_by w H e small address a c;
  ago =
      let z = elapsed start now c.at (TakeFrame (Some c.claim)) c.later c.earlier (subst (InTime start now) c.is t) in
      let p = c.passed in
      let s = ap (λ G. step G now) c.is in
      omega (arith, z, p, s, l);
}

held : (delay now : ℕ) (missing : FrameRecord → Type 0) (L : List Passed) (members : List Member) → Net delay now missing L members
    → (i : ℕ) (m : Member) → IsMember members i m → holds m.who m.history now ≡ true → Held m.who m.history now
held delay now missing L members net i m h e =
    let x = held_cases (step m.history now) (address_after m.who m.history) e in
    held_by m.who m.history m.since now x.0 (net.name i m h) (net.address i m h) (net.answered i m h) (net.in_time i m h)
    (claimed_since m.who m.history x.0 (net.answered i m h) x.1) x.2

pub at_rest : (delay now i j : ℕ) (L : List Passed) (members : List Member) (m n : Member) → Net delay now (IsNoClaim members) L members
    → IsMember members i m → IsMember members j n → Defends (λ when. now) now m.who m.history → Defends (λ when. now) now n.who n.history
    → m.who.address ≡ n.who.address → holds m.who m.history now ≡ true → holds n.who n.history now ≡ true → i ≡ j
at_rest delay now i j L members m n net hm hn defends_m defends_n same held_m held_n =
    let x = held delay now (IsNoClaim members) L members net i m hm held_m in
    let y = held delay now (IsNoClaim members) L members net j n hn held_n in
    none_share delay now (now + 2 * delay) (IsNoClaim members) L members net (λ f plain is. absurd (is plain))
    i j m n (λ when. now) x.at y.at hm hn same held_m held_n defends_m defends_n x.claims y.claims
    (let a = x.ago in omega (arith, a)) (let a = y.ago in omega (arith, a)) (λ h a b. (omega arith, omega arith)) (λ h a b. (omega arith, omega arith))

pub never : (delay g now i j : ℕ) (L : List Passed) (members : List Member) (m n : Member)
    → Net delay now (λ f. IsNoClaim members f ⊎ (now < f.stamp + delay)) L members
    → IsMember members i m → IsMember members j n → Defends (λ when. when + g) now m.who m.history → Defends (λ when. when + g) now n.who n.history
    → 4 * delay + g < 250000
    → m.who.address ≡ n.who.address → holds m.who m.history now ≡ true → holds n.who n.history now ≡ true → i ≡ j
never delay g now i j L members m n net hm hn defends_m defends_n short same held_m held_n =
    let x = held delay now (λ f. IsNoClaim members f ⊎ (now < f.stamp + delay)) L members net i m hm held_m in
    let y = held delay now (λ f. IsNoClaim members f ⊎ (now < f.stamp + delay)) L members net j n hn held_n in
    none_share delay now now (λ f. IsNoClaim members f ⊎ (now < f.stamp + delay)) L members net (λ f lost is. elim lost [ inl plain ↦ absurd (is plain) | inr way ↦ way ])
    i j m n (λ when. when + g) x.at y.at hm hn same held_m held_n defends_m defends_n x.claims y.claims
    (let a = x.ago in omega (arith, a, short)) (let a = y.ago in omega (arith, a, short))
    (λ h a b. (let z = x.ago in omega (arith, z, a, short), let z = x.ago in omega (arith, z, a, short)))
    (λ h a b. (let z = y.ago in omega (arith, z, a, short), let z = y.ago in omega (arith, z, a, short)))
