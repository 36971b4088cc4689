-- What is heard from an address, of what its holder took.
use Rattle.std.proofs.Common.{[], if◌then◌else◌, ◌&&◌, ◌++◌, ◌<◌, ◌^◌, ◌∙◌, ◌∷◌, ◌≡◌, ◌≢◌, ◌≤◌, ◌⊎◌, ap, arith, Bool, false, filter, inl, inr, le-leb, List, nat_eq, nat_le, not, refl, Some, subst, sym, true, ℕ}
use Rattle.std.proofs.Math.Bool.{and-false, and-true}
use Rattle.std.proofs.lemmas.Bool.{cases_Bool, cases_lt}
use Rattle.std.proofs.lemmas.List.Elements.{All-head, All-tail}
use Rattle.std.specs.List.{All}
use Rattle.j39_frame.specs.Frame.{FrameRecord}
use Rattle.j39_frame.specs.Identifier.{pgn_of, source_of}
use Rattle.j39_transport.specs.Message.{MessageRecord}
use Rattle.j39_node.specs.Hearing.{announces, hearing, whole_broadcasts}
use Rattle.j39_node.specs.History.{broadcasts, frames, is_claim, is_some}
use Rattle.j39_net.proofs.BroadcastLemmas.{heard_once, Join, Unannounced}
use Rattle.j39_net.proofs.CourseLemmas.{Course, coursed}
use Rattle.j39_net.proofs.HearLemmas.{listens, same_announces, wholes}
use Rattle.j39_net.proofs.NetLemmas.{same_member}
use Rattle.j39_net.proofs.PartLemmas.{is_by, part_trans}
use Rattle.j39_node.proofs.Tests.{not_both}
use Rattle.j39_net.specs.Net.{Come, hears, IsLater, IsMember, IsOrdered, IsPart, log, Member, Net, OnlySends, others, own, Passed}

-- ---- one frame before all others

module _ (a : ℕ) (Missing : FrameRecord → Type 0) (same : (f g : FrameRecord) → g.id ≡ f.id → g.bytes ≡ f.bytes → Missing g → Missing f) where
  first_lost : (f : FrameRecord) (fs gs : List FrameRecord) → Missing f → Join a Missing fs gs → Join a Missing (f ∷ fs) gs
  first_lost f fs gs c Join.none = Join.lost [] [] f c Join.none
  first_lost f fs gs c (Join.lost us vs x d h) = Join.lost (f ∷ us) vs x d (first_lost f us vs c h)
  first_lost f fs gs c (Join.comes us vs x y e d h) = Join.comes (f ∷ us) vs x y e d (first_lost f us vs c h)
  first_lost f fs gs c (Join.other us vs y d h) = Join.other (f ∷ us) vs y d (first_lost f us vs c h)

  first_comes : (f g : FrameRecord) (fs gs : List FrameRecord) → g.id ≡ f.id → g.bytes ≡ f.bytes → Join a Missing fs gs → Join a Missing (f ∷ fs) (g ∷ gs)
  first_comes f g fs gs i b Join.none = Join.comes [] [] f g i b Join.none
  first_comes f g fs gs i b (Join.lost us vs x d h) = Join.lost (f ∷ us) (g ∷ vs) x d (first_comes f g us vs i b h)
  first_comes f g fs gs i b (Join.comes us vs x y e d h) = Join.comes (f ∷ us) (g ∷ vs) x y e d (first_comes f g us vs i b h)
  first_comes f g fs gs i b (Join.other us vs y d h) = Join.other (f ∷ us) (g ∷ vs) y d (first_comes f g us vs i b h)

  first_other : (g : FrameRecord) (fs gs : List FrameRecord) → (source_of g.id ≡ a → is_claim g ≡ true) → Join a Missing fs gs → Join a Missing fs (g ∷ gs)
  first_other g fs gs c Join.none = Join.other [] [] g c Join.none
  first_other g fs gs c (Join.lost us vs x d h) = Join.lost us (g ∷ vs) x d (first_other g us vs c h)
  first_other g fs gs c (Join.comes us vs x y e d h) = Join.comes us (g ∷ vs) x y e d (first_other g us vs c h)
  first_other g fs gs c (Join.other us vs y d h) = Join.other us (g ∷ vs) y d (first_other g us vs c h)

  -- ---- what was lost on its way

  none_come : (delay : ℕ) (fs : List FrameRecord) → Come delay Missing fs [] → Join a Missing fs []
  none_come delay [] c = Join.none
  none_come delay (f ∷ fs) c = first_lost f fs [] c.0 (none_come delay fs c.1)

  -- up to the frame of which the first came
  own_head : (delay : ℕ) (x : FrameRecord) (rest fs gs : List FrameRecord) → Come delay Missing fs (x ∷ rest)
      → ((f : FrameRecord) (us : List FrameRecord) → IsLater delay f x → Come delay Missing us rest → Join a Missing (f ∷ us) gs) → Join a Missing fs gs
  own_head delay x rest [] gs c k = absurd c
  own_head delay x rest (f ∷ fs) gs (inl c) k = k f fs c.0 c.1
  own_head delay x rest (f ∷ fs) gs (inr c) k = first_lost f fs gs c.0 (own_head delay x rest fs gs c.1 k)

  -- a frame of its own, and what came of it
  own_one : (delay : ℕ) (x f : FrameRecord) (rest us gs : List FrameRecord) → IsLater delay f x → Come delay Missing (x ∷ rest) gs
      → ((hs : List FrameRecord) → Come delay Missing rest hs → Join a Missing us hs) → Join a Missing (f ∷ us) gs
  own_one delay x f rest us [] l d ih =
      first_lost f us [] (same f x l.id l.bytes d.0) (ih [] d.1)
  own_one delay x f rest us (g ∷ gs) l (inl d) ih = first_comes f g us gs (d.0.id ∙ l.id) (d.0.bytes ∙ l.bytes) (ih gs d.1)
  own_one delay x f rest us (g ∷ gs) l (inr d) ih =
      first_lost f us (g ∷ gs) (same f x l.id l.bytes d.0) (ih (g ∷ gs) d.1)

  -- another's, and what came of it
  another_one : (delay : ℕ) (x : FrameRecord) (rest fs gs : List FrameRecord) → (source_of x.id ≡ a → is_claim x ≡ true) → Come delay Missing (x ∷ rest) gs
      → ((hs : List FrameRecord) → Come delay Missing rest hs → Join a Missing fs hs) → Join a Missing fs gs
  another_one delay x rest fs [] c d ih = ih [] d.1
  another_one delay x rest fs (g ∷ gs) c (inl d) ih = first_other g fs gs (λ s. (let e = d.0.id in ap (λ (id : ℕ). nat_eq (pgn_of id) 60928) e ∙ c (ap source_of (sym e) ∙ s))) (ih gs d.1)
  another_one delay x rest fs (g ∷ gs) c (inr d) ih = ih (g ∷ gs) d.1

-- ---- through the log

not_le : (m n : ℕ) → n < m → nat_le m n ≡ false
not_le m n l = grind (arith, l)

pub record Early (a : ℕ) (Missing : FrameRecord → Type 0) (fs gs : List FrameRecord) : Type 0 where
  pub early : List FrameRecord
  pub rest : List FrameRecord
  pub is : fs ≡ early ++ rest
  pub join : Join a Missing rest gs

module _ (delay i j start a : ℕ) (Missing : FrameRecord → Type 0) (same : (f g : FrameRecord) → g.id ≡ f.id → g.bytes ≡ f.bytes → Missing g → Missing f) (apart : i ≡ j → ⊥) where
  abbrev mine : List Passed → List Passed
  mine L = filter (λ y. is_some y.by i) L

  abbrev theirs : List Passed → List Passed
  theirs L = filter (λ y. not (is_some y.by j) && nat_le start y.frame.stamp) L

  -- a frame of the log behind which the rest is joined
  joined_one : (b c : Bool) (x : Passed) (L : List Passed) (fs gs : List FrameRecord) → is_some x.by i ≡ b → is_some x.by j ≡ c
      → (is_claim x.frame ≡ false → source_of x.frame.id ≡ a → x.by ≡ Some i)
      → ((us hs : List FrameRecord) → Come delay Missing us (log (mine L)) → Come delay Missing (log (theirs L)) hs → Join a Missing us hs)
      → Come delay Missing fs (log (if b then x ∷ mine L else mine L)) → Come delay Missing (log (if not c then x ∷ theirs L else theirs L)) gs → Join a Missing fs gs
  joined_one true true x L fs gs e d o ih p q = absurd (apart (same_member x.by i j e d))
  joined_one true false x L fs gs e d o ih p q =
      own_head a Missing same delay x.frame (log (mine L)) fs gs p (λ f us l r. own_one a Missing same delay x.frame f (log (theirs L)) us gs l q (λ hs s. ih us hs r s))
  joined_one false true x L fs gs e d o ih p q = ih fs gs p q
  joined_one false false x L fs gs e d o ih p q =
      another_one a Missing same delay x.frame (log (theirs L)) fs gs (λ s. claims s (cases_Bool (is_claim x.frame))) q (λ hs r. ih fs hs p r)
    where
      claims : source_of x.frame.id ≡ a → (is_claim x.frame ≡ true) ⊎ (is_claim x.frame ≡ false) → is_claim x.frame ≡ true
      claims s (inl t) = t
      claims s (inr t) = absurd (not_both (is_some x.by i) e (is_by x.by i (o t s)))

  -- from then on
  joined_since : (L : List Passed) (from : ℕ) (fs gs : List FrameRecord) → start ≤ from → IsOrdered from (log L) → OnlySends L i a
      → Come delay Missing fs (own i L) → Come delay Missing (others j start L) gs → Join a Missing fs gs
  joined_since [] from fs [] l ord o p q = none_come a Missing same delay fs p
  joined_since [] from fs (g ∷ gs) l ord o p q = absurd q
  joined_since (x ∷ L) from fs gs l ord o p q =
      let m : start ≤ x.frame.stamp = (let z = ord.0 in omega (arith, l, z)) in
      joined_one (is_some x.by i) (is_some x.by j) x L fs gs refl refl (All-head (λ y. is_claim y.frame ≡ false → source_of y.frame.id ≡ a → y.by ≡ Some i) x L o)
      (λ us hs r s. joined_since L x.frame.stamp us hs m ord.1 (All-tail (λ y. is_claim y.frame ≡ false → source_of y.frame.id ≡ a → y.by ≡ Some i) x L o) r s) p
      (subst (λ (t : Bool). Come delay Missing (log (if t then x ∷ theirs L else theirs L)) gs)
      ((λ k. not (is_some x.by j) && le-leb start x.frame.stamp m k) ∙ and-true (not (is_some x.by j))) q)

  -- ---- what was taken early, and the rest

  one_early : (f : FrameRecord) (fs gs : List FrameRecord) → Early a Missing fs gs → Early a Missing (f ∷ fs) gs
  one_early f fs gs e = record { early = f ∷ e.early; rest = e.rest; is = ap (λ v. f ∷ v) e.is; join = e.join }

  early_head : (x : FrameRecord) (rest fs gs : List FrameRecord) → Come delay Missing fs (x ∷ rest)
      → ((us : List FrameRecord) → Come delay Missing us rest → Early a Missing us gs) → Early a Missing fs gs
  early_head x rest [] gs c k = absurd c
  early_head x rest (f ∷ fs) gs (inl c) k = one_early f fs gs (k fs c.1)
  early_head x rest (f ∷ fs) gs (inr c) k = one_early f fs gs (early_head x rest fs gs c.1 k)

  early_one : (b : Bool) (x : Passed) (F : List Passed) (fs gs : List FrameRecord) → Come delay Missing fs (log (if b then x ∷ F else F))
      → ((us : List FrameRecord) → Come delay Missing us (log F) → Early a Missing us gs) → Early a Missing fs gs
  early_one true x F fs gs c k = early_head x.frame (log F) fs gs c k
  early_one false x F fs gs c k = k fs c

  pub joined : (L : List Passed) (from : ℕ) (fs gs : List FrameRecord) → IsOrdered from (log L) → OnlySends L i a
      → Come delay Missing fs (own i L) → Come delay Missing (others j start L) gs → Early a Missing fs gs
  joined [] from fs [] ord o p q = record { early = []; rest = fs; is = refl; join = none_come a Missing same delay fs p }
  joined [] from fs (g ∷ gs) ord o p q = absurd q
  joined (x ∷ L) from fs gs ord o p q = elim (cases_lt x.frame.stamp start) [
    | inl l ↦ early_one (is_some x.by i) x (mine L) fs gs p
        (λ us r. joined L x.frame.stamp us gs ord.1 (All-tail (λ y. is_claim y.frame ≡ false → source_of y.frame.id ≡ a → y.by ≡ Some i) x L o) r
        (subst (λ (t : Bool). Come delay Missing (log (if t then x ∷ theirs L else theirs L)) gs)
        ((λ k. not (is_some x.by j) && not_le start x.frame.stamp l k) ∙ and-false (not (is_some x.by j))) q))
    | inr l ↦ record {
      early = [];
      rest = fs;
      is = refl;
      join = joined_since (x ∷ L) x.frame.stamp fs gs l (omega arith, ord.1) o p q;
    }
  ]

same_unannounced : (a : ℕ) (f g : FrameRecord) → g.id ≡ f.id → g.bytes ≡ f.bytes → Unannounced a g → Unannounced a f
same_unannounced a f g e d m k s = m (same_announces f g e d ∙ k) (ap source_of e ∙ s)

pub broadcasts_once : (delay now i j : ℕ) (L : List Passed) (members : List Member) (m n : Member)
    → Net delay now (λ f. announces f ≡ true → source_of f.id ≢ m.who.address) L members → IsMember members i m → IsMember members j n → i ≢ j
    → OnlySends L i m.who.address → All (λ (b : MessageRecord). b.pgn < 2 ^ 18) (broadcasts m.who m.history)
    → IsPart (wholes m.who.address (whole_broadcasts n.who n.history)) (broadcasts m.who m.history)
broadcasts_once delay now i j L members m n net hm hn apart o fits =
    let a = m.who.address in
    let c = coursed m.who m.history (net.address i m hm) fits (net.answered i m hm) in
    let e = joined delay i j n.since a (Unannounced a) (same_unannounced a) apart L 0 (frames m.history) (hears n.history) net.ordered o (net.sent i m hm) (net.heard j n hn) in
    let W = wholes a (whole_broadcasts n.who n.history) in
    part_trans W c.announced (broadcasts m.who m.history)
    (heard_once a e.early e.rest (hears n.history) e.join c.announced c.last (hearing n.who n.history a) W
    (subst (Course a c.announced c.last) e.is c.course) (listens n.who n.history a)) c.part
