-- The sessions of all keys: 254 places by source for broadcasts, and sixteen places for directed messages, by how many
-- directed announcements came after their own.
use Rattle.std.proofs.Common.{◌≡◌, ◌⊎◌, ℕ, zero, suc, ◌+◌, ◌*◌, ◌<◌, ◌≤◌, Bool, true, false, if◌then◌else◌, List, [], ◌∷◌, ◌++◌, map, length, get_or, take, replicate, Option, Some, None, refl, sym, ap, ◌∙◌, subst, inl, inr, arith, ◌==◌, eqb-true, eq-eqb}
use Rattle.std.proofs.lemmas.Bool.{cases_lt, cases_Bool, cond_both, cond-true, cond-false, and_parts, and_from, both_ways, false_from_ne_true}
use Rattle.std.proofs.lemmas.List.{get_or-replicate, length-replicate, get_or-take, get_or-map, length-map, length-take, get_or_past}
use Rattle.j39_transport.specs.Key.{Key}
use Rattle.j39_transport.specs.Frames.{destination_of, is_announcement, is_rival}
use Rattle.j39_transport.specs.Key.Key.{Directed}
use Rattle.j39_transport.specs.Events.{Event, at, announces, rivals, is_numbered, packets}
use Rattle.j39_transport.specs.Assembly.{count_below, Open, OpenBy, Opens}
use Rattle.j39_transport.specs.Events.Event.{Frame, Forget}
use Rattle.j39_transport.proofs.Chains.{Open-unique}
use Rattle.j39_transport.proofs.FrameFacts.{few_packets, announcement_facts}
use Rattle.j39_transport.proofs.OneMore.{stands_new, began_before, shorter, count_new, count_old}
use Rattle.j39_transport.proofs.Moving.{Young, other_stands, opened_aged, later_aged}
use Rattle.j39_transport.specs.OpenAtEvent.{opened, touched, grown, is_over, moved, pair_of, moved_place, from_of, to_of, is_request_to_send, directed_step}
use Rattle.j39_transport.specs.Session.{SessionRecord}
use Rattle.j39_transport.specs.Sessions.{Sessions, is_of, open_in, bytes_in}
use Rattle.j39_transport.specs.Stands.{IsSession, IsAged, IsOpenOrNone, AreDirected}

-- ---- one open message

pub open_small : (E : List Event) (k : Key) (m : ℕ) → Open E k m → 7 * m ≤ 1785
open_small E k m h =
    let a : packets (at E h.1) ≤ 255 = few_packets k (at E h.1) h.3.announced in
    let b : length h.2 < packets (at E h.1) = h.3.few in
    let c : length h.2 ≡ m = h.4 in
    omega arith

pub open_unique : (E : List Event) (k : Key) (m n : ℕ) → Open E k m → Open E k n → m ≡ n
open_unique E k m n h g = sym h.4 ∙ (ap length (Open-unique E k h.0 g.0 h.1 g.1 h.2 g.2 h.3 g.3).one_places ∙ g.4)

-- ---- the sums are determined, and bounded

pub record OneSum (m n held kept : ℕ) : Type 0 where
  pub one_count : m ≡ n
  pub one_held : held ≡ kept

pub opens_unique : (E : List Event) (ks : List Key) (m n held kept : ℕ) → Opens E ks m held → Opens E ks n kept → OneSum m n held kept
opens_unique E [] m n held kept h g = record { one_count = h.0 ∙ sym g.0; one_held = h.1 ∙ sym g.1 }
opens_unique E (k ∷ ks) m n held kept h g = go (opens_unique E ks h.0 g.0 h.1 g.1 h.2 g.2) h.3 g.3
  where
    go : OneSum h.0 g.0 h.1 g.1 → ((x : ℕ) × Open E k x × (m ≡ suc h.0) × (held ≡ h.1 + 7 * x)) ⊎ (((x : ℕ) → Open E k x → ⊥) × (m ≡ h.0) × (held ≡ h.1))
        → ((x : ℕ) × Open E k x × (n ≡ suc g.0) × (kept ≡ g.1 + 7 * x)) ⊎ (((x : ℕ) → Open E k x → ⊥) × (n ≡ g.0) × (kept ≡ g.1)) → OneSum m n held kept
    go before (inl x) (inl y) = record {
      one_count = x.2 ∙ (ap suc before.one_count ∙ sym y.2);
      one_held = (let e : x.0 ≡ y.0 = open_unique E k x.0 y.0 x.1 y.1 in let a : h.1 ≡ g.1 = before.one_held in let b : held ≡ h.1 + 7 * x.0 = x.3 in let c : kept ≡ g.1 + 7 * y.0 = y.3 in omega arith);
    }
    go before (inl x) (inr y) = absurd (y.0 x.0 x.1)
    go before (inr x) (inl y) = absurd (x.0 y.0 y.1)
    go before (inr x) (inr y) = record { one_count = x.1 ∙ (before.one_count ∙ sym y.1); one_held = x.2 ∙ (before.one_held ∙ sym y.2) }

pub record Bounded (k n held : ℕ) : Type 0 where
  pub few : n ≤ k
  pub small : held ≤ 1785 * n

pub opens_bounded : (E : List Event) (ks : List Key) (n held : ℕ) → Opens E ks n held → Bounded (length ks) n held
opens_bounded E [] n held h = record { few = (let a : n ≡ 0 = h.0 in omega arith); small = (let a : held ≡ 0 = h.1 in omega arith) }
opens_bounded E (k ∷ ks) n held h =
    let b = opens_bounded E ks h.0 h.1 h.2 in
    let f : h.0 ≤ length ks = b.few in
    let g : h.1 ≤ 1785 * h.0 = b.small in
    elim h.3 [
      | inl x ↦ (let s : 7 * x.0 ≤ 1785 = open_small E k x.0 x.1 in let c : n ≡ suc h.0 = x.2 in let d : held ≡ h.1 + 7 * x.0 = x.3 in
          record { few = omega arith; small = omega arith })
      | inr x ↦ (let c : n ≡ h.0 = x.1 in let d : held ≡ h.1 = x.2 in record { few = omega arith; small = omega arith })
    ]

-- ---- any assignment of sessions to keys that stands for E has the sums

stands_open : (E : List Event) (k : Key) (o : Option SessionRecord) (a b : ℕ) → IsOpenOrNone E k o
    → ((m : ℕ) × Open E k m × (open_in o + a ≡ suc a) × (bytes_in o + b ≡ b + 7 * m)) ⊎ (((m : ℕ) → Open E k m → ⊥) × (open_in o + a ≡ a) × (bytes_in o + b ≡ b))
stands_open E k None a b h = inr ((λ m g. h g.0 g.1 g.2 g.3), omega arith, omega arith)
stands_open E k (Some x) a b h = inl (x.count, (x.group, h.start, h.places, h.open_by, sym h.count_is), omega arith, omega arith)

-- the sum of a number over keys
abbrev pub over : (Key → ℕ) → List Key → ℕ
over f [] = 0
over f (k ∷ ks) = f k + over f ks

pub opens_over : (E : List Event) (state : Key → Option SessionRecord) → ((k : Key) → IsOpenOrNone E k (state k))
    → (ks : List Key) → Opens E ks (over (λ k. open_in (state k)) ks) (over (λ k. bytes_in (state k)) ks)
opens_over E state h [] = (refl, refl)
opens_over E state h (k ∷ ks) = (
  over (λ j. open_in (state j)) ks,
  over (λ j. bytes_in (state j)) ks,
  opens_over E state h ks,
  stands_open E k (state k) (over (λ j. open_in (state j)) ks) (over (λ j. bytes_in (state j)) ks) (h k),
)

-- ---- the directed sessions

some_not_none : (x : SessionRecord) → ◌≡◌ {A = Option SessionRecord} None (Some x) → ⊥
some_not_none x e = cc (e)

one_some : (x y : SessionRecord) → ◌≡◌ {A = Option SessionRecord} (Some x) (Some y) → x ≡ y
one_some x y e = cc (e)

pub directed_new : AreDirected [] (replicate 16 None)
directed_new = record {
  size_is = length-replicate {A = Option SessionRecord} 16 None;
  each = λ i x h. absurd (elim (cases_lt i 16) [
    | inl l ↦ some_not_none x (sym (get_or-replicate {A = Option SessionRecord} 16 i None None l) ∙ h)
    | inr l ↦ some_not_none x (sym (get_or_past (replicate {A = Option SessionRecord} 16 None) i None (let e : length (replicate {A = Option SessionRecord} 16 None) ≡ 16 = length-replicate {A = Option SessionRecord} 16 None in omega arith)) ∙ h)
  ]);
  all = λ s d g p0 ps h. absurd (stands_new (Directed s d) g p0 ps h);
}

-- a session that moves keeps its pair
moved_pair : (k : Key) (e : Event) (x z : SessionRecord) → moved k e x ≡ Some z → (z.source ≡ x.source) × (z.destination ≡ x.destination)
moved_pair k e x z h = go (is_over k e x) (is_numbered k (suc x.count) e) (suc x.count == x.packets) h
  where
    go : (a b c : Bool) → (if a then None else if b then (if c then None else Some (grown k e x)) else Some (touched k e x)) ≡ Some z → (z.source ≡ x.source) × (z.destination ≡ x.destination)
    go true b c h = absurd (cc (h))
    go false true true h = absurd (cc (h))
    go false true false h = let i : grown k e x ≡ z = cc (h) in (sym (ap (λ (y : SessionRecord). y.source) i), sym (ap (λ (y : SessionRecord). y.destination) i))
    go false false c h = let i : touched k e x ≡ z = cc (h) in (sym (ap (λ (y : SessionRecord). y.source) i), sym (ap (λ (y : SessionRecord). y.destination) i))

-- a directed key's rivals are the directed announcements
rivals_are : (s d : ℕ) (e : Event) → rivals (Directed s d) e ≡ is_request_to_send e
unfolding rivals announces is_rival
rivals_are s d (Frame f) = refl
rivals_are s d (Forget t) = refl

announces_rival : (s d : ℕ) (e : Event) → announces (Directed s d) e ≡ true → (is_request_to_send e ≡ true) × (from_of e ≡ s) × (to_of e ≡ d)
unfolding announces
announces_rival s d (Frame f) h =
    let a = announcement_facts (Directed s d) f h in
    (ap (λ (t : ℕ). is_announcement (Directed t (destination_of f.id)) f) a.source ∙ (ap (λ (t : ℕ). is_announcement (Directed s t) f) a.destination ∙ h), a.source, a.destination)
announces_rival s d (Forget t) h = absurd (both_ways false refl h)

-- the session of a key, looked up
unfoldable pub lookup : ℕ → ℕ → Sessions → Option SessionRecord
lookup s d [] = None
lookup s d (p ∷ L) = if is_of s d p then p else lookup s d L

abbrev pub Looked : ℕ → ℕ → Sessions → Option SessionRecord → Type 0
Looked s d L None = (i : ℕ) (x : SessionRecord) → get_or L i None ≡ Some x → is_of s d (Some x) ≡ true → ⊥
Looked s d L (Some x) = (i : ℕ) × (i < length L) × (get_or L i None ≡ Some x) × (is_of s d (Some x) ≡ true)

looked_later : (s d : ℕ) (p : Option SessionRecord) (L : Sessions) (o : Option SessionRecord) → is_of s d p ≡ false → Looked s d L o → Looked s d (p ∷ L) o
looked_later s d p L None n h = apart
  where
    apart : (i : ℕ) (x : SessionRecord) → get_or (p ∷ L) i None ≡ Some x → is_of s d (Some x) ≡ true → ⊥
    apart zero x e y = both_ways _ n (ap (is_of s d) e ∙ y)
    apart (suc i) x e y = h i x e y
looked_later s d p L (Some x) n h = (suc h.0, (let l : h.0 < length L = h.1 in omega arith), h.2, h.3)

looked_here : (s d : ℕ) (p : Option SessionRecord) (L : Sessions) → is_of s d p ≡ true → Looked s d (p ∷ L) p
looked_here s d None L t = absurd (both_ways false refl t)
looked_here s d (Some x) L t = (0, omega arith, refl, t)

pub looked : (s d : ℕ) (L : Sessions) → Looked s d L (lookup s d L)
unfolding lookup
looked s d [] = λ i x e y. some_not_none x (sym (get_or_past [] i None (omega arith)) ∙ e)
looked s d (p ∷ L) = cond_both (is_of s d p) _ _ (λ (o : Option SessionRecord). Looked s d (p ∷ L) o)
    (λ t. looked_here s d p L t)
    (λ t. looked_later s d p L (lookup s d L) t (looked s d L))

pub is_pair : (s d : ℕ) (x : SessionRecord) → x.source ≡ s → x.destination ≡ d → is_of s d (Some x) ≡ true
is_pair s d x a b = and_from _ _ (eq-eqb _ _ a) (eq-eqb _ _ b)

pub pair_is : (s d : ℕ) (x : SessionRecord) → is_of s d (Some x) ≡ true → (x.source ≡ s) × (x.destination ≡ d)
pair_is s d x h = (let p = and_parts (x.source == s) (x.destination == d) h in (eqb-true _ _ p.0, eqb-true _ _ p.1))

pub same_pair : (s d : ℕ) (x : SessionRecord) → (x.source ≡ s) × (x.destination ≡ d) → pair_of x ≡ Directed s d
same_pair s d x h = λ i. Directed (h.0 i) (h.1 i)

-- each directed key stands for its session
pub directed_stands : (E : List Event) (L : Sessions) → AreDirected E L → (s d : ℕ) → IsOpenOrNone E (Directed s d) (lookup s d L)
directed_stands E L h s d = go (lookup s d L) (looked s d L)
  where
    go : (o : Option SessionRecord) → Looked s d L o → IsOpenOrNone E (Directed s d) o
    go None k = λ g p0 ps z. (let r = h.all s d g p0 ps z in k r.0 r.1 r.2 (is_pair s d r.1 r.3 r.4))
    go (Some x) k = subst (λ (q : Key). IsSession E q x) (same_pair s d x (pair_is s d x k.3)) (h.each k.0 x k.2).session

module _ (E : List Event) (e : Event) (L : Sessions) (h : AreDirected E L) where
  -- what a place becomes that isn't the last before a directed announcement
  place_each : (i : ℕ) (y : SessionRecord) → moved_place e (get_or L i None) ≡ Some y → (is_request_to_send e ≡ true → i < 15)
      → IsAged (E ++ e ∷ []) (pair_of y) (if is_request_to_send e then suc i else i) y
  place_each i y m l = go (get_or L i None) refl m
    where
      young : (z : SessionRecord) (k : IsAged E (pair_of z) i z) → Young E e (pair_of z) k.session.start
      young z k r =
          let c : i + count_below (rivals (pair_of z)) E (suc k.session.start) ≡ count_below (rivals (pair_of z)) E (length E) = k.age_is in
          let b : i < 15 = l (sym (rivals_are z.source z.destination e) ∙ r) in
          omega arith

      found : (z : SessionRecord) → get_or L i None ≡ Some z → announces (pair_of z) e ≡ false → moved (pair_of z) e z ≡ Some y → IsAged (E ++ e ∷ []) (pair_of y) (if is_request_to_send e then suc i else i) y
      found z p a q =
          let k = h.each i z p in
          let st : IsSession (E ++ e ∷ []) (pair_of z) y = subst (λ (o : Option SessionRecord). IsOpenOrNone (E ++ e ∷ []) (pair_of z) o) q (other_stands E e (pair_of z) (Some z) k.session a (young z k)) in
          subst (λ (b : Bool). IsAged (E ++ e ∷ []) (pair_of y) (if b then suc i else i) y) (rivals_are y.source y.destination e)
          (subst (λ (n : Key). IsAged (E ++ e ∷ []) n (if rivals n e then suc i else i) y) (sym (same_pair z.source z.destination y (moved_pair (pair_of z) e z y q)))
          (later_aged E e (pair_of z) i z y k a st))

      go : (o : Option SessionRecord) → get_or L i None ≡ o → moved_place e o ≡ Some y → IsAged (E ++ e ∷ []) (pair_of y) (if is_request_to_send e then suc i else i) y
      go None p m = absurd (some_not_none y m)
      go (Some z) p m = elim (cases_Bool (announces (pair_of z) e)) [
        | inl a ↦ absurd (some_not_none y (sym (cond-true _ _ _ a) ∙ m))
        | inr a ↦ found z p a (sym (cond-false _ _ _ a) ∙ m)
      ]

  abbrev HasPlace : ℕ → ℕ → Type 0
  HasPlace s d = (i : ℕ) × (x : SessionRecord) × (moved_place e (get_or L i None) ≡ Some x) × (x.source ≡ s) × (x.destination ≡ d) × (is_request_to_send e ≡ true → i < 15)

  -- an open message of the longer list that the event doesn't announce has its place
  place_all : (s d g p0 : ℕ) (ps : List ℕ) → announces (Directed s d) e ≡ false → OpenBy (E ++ e ∷ []) (Directed s d) g p0 ps
      → HasPlace s d
  place_all s d g p0 ps a o =
      let b : p0 < length E = began_before E e (Directed s d) g p0 ps a o in
      let c = shorter E e (Directed s d) g p0 ps b o in
      let r = h.all s d g p0 c.before c.open_by in
      let n : pair_of r.1 ≡ Directed s d = same_pair s d r.1 (r.3, r.4) in
      go r.0 r.1 r.2 (r.3, r.4) (subst (λ (k : Key). IsAged E k r.0 r.1) n (h.each r.0 r.1 r.2)) b c.before c.open_by
    where
      go : (i : ℕ) (x : SessionRecord) → get_or L i None ≡ Some x → (x.source ≡ s) × (x.destination ≡ d) → IsAged E (Directed s d) i x → p0 < length E → (qs : List ℕ) → OpenBy E (Directed s d) g p0 qs → HasPlace s d
      go i x p w k b qs q =
          let u = Open-unique E (Directed s d) g x.group p0 k.session.start qs k.session.places q k.session.open_by in
          let n : pair_of x ≡ Directed s d = same_pair s d x w in
          end (moved (Directed s d) e x) refl (other_stands E e (Directed s d) (Some x) k.session a (young u.one_start))
        where
          young : p0 ≡ k.session.start → Young E e (Directed s d) k.session.start
          young z r =
              let c1 : count_below (rivals (Directed s d)) (E ++ e ∷ []) (length (E ++ e ∷ [])) < 16 + count_below (rivals (Directed s d)) (E ++ e ∷ []) (suc p0) = o.runs.young in
              let c2 : count_below (rivals (Directed s d)) (E ++ e ∷ []) (suc p0) ≡ count_below (rivals (Directed s d)) E (suc p0) = count_old E e (Directed s d) (rivals (Directed s d)) (suc p0) b in
              let c3 : count_below (rivals (Directed s d)) E (suc p0) ≡ count_below (rivals (Directed s d)) E (suc k.session.start) = ap (λ (j : ℕ). count_below (rivals (Directed s d)) E (suc j)) z in
              let c4 : count_below (rivals (Directed s d)) (E ++ e ∷ []) (length (E ++ e ∷ [])) ≡ suc (count_below (rivals (Directed s d)) E (length E)) = count_new E e (Directed s d) (rivals (Directed s d)) ∙ cond-true _ _ _ r in
              omega arith

          end : (m : Option SessionRecord) → moved (Directed s d) e x ≡ m → IsOpenOrNone (E ++ e ∷ []) (Directed s d) m → HasPlace s d
          end None m st = absurd (st g p0 ps o)
          end (Some z) m st =
              let u = Open-unique E (Directed s d) g x.group p0 k.session.start qs k.session.places q k.session.open_by in
              let t = moved_pair (Directed s d) e x z m in
              let n : pair_of x ≡ Directed s d = same_pair s d x w in (
                i,
                z,
                ap (moved_place e) p ∙ (subst (λ (y : Key). (if announces y e then None else moved y e x) ≡ (if announces (Directed s d) e then None else moved (Directed s d) e x)) (sym n) refl ∙ (cond-false _ _ _ a ∙ m)),
                t.0 ∙ w.0,
                t.1 ∙ w.1,
                (λ r.
                    let c : i + count_below (rivals (Directed s d)) E (suc k.session.start) ≡ count_below (rivals (Directed s d)) E (length E) = k.age_is in
                    let y : count_below (rivals (Directed s d)) E (length E) < 15 + count_below (rivals (Directed s d)) E (suc k.session.start) = young u.one_start (rivals_are s d e ∙ r) in
                    omega arith),
              )

  map_place : (i : ℕ) → get_or (map (moved_place e) L) i None ≡ moved_place e (get_or L i None)
  map_place i = elim (cases_lt i (length L)) [
    | inl l ↦ get_or-map (moved_place e) L i None None l
    | inr l ↦ get_or_past (map (moved_place e) L) i None (let z : length (map (moved_place e) L) ≡ length L = length-map L (moved_place e) in omega arith)
        ∙ sym (ap (moved_place e) (get_or_past L i None l))
  ]

  map_size : length (map (moved_place e) L) ≡ 16
  map_size = length-map L (moved_place e) ∙ h.size_is

  pub directed_more : AreDirected (E ++ e ∷ []) (directed_step e L)
  directed_more = elim (cases_Bool (is_request_to_send e)) [
    | inr r ↦ subst (λ (M : Sessions). AreDirected (E ++ e ∷ []) M) (sym (cond-false _ _ _ r)) (other r)
    | inl r ↦ subst (λ (M : Sessions). AreDirected (E ++ e ∷ []) M) (sym (cond-true _ _ _ r)) (rival r)
  ]
    where
      other : is_request_to_send e ≡ false → AreDirected (E ++ e ∷ []) (map (moved_place e) L)
      other r = record {
        size_is = map_size;
        each = λ i y m. subst (λ (n : ℕ). IsAged (E ++ e ∷ []) (pair_of y) n y) (cond-false _ _ _ r) (place_each i y (sym (map_place i) ∙ m) (λ t. absurd (both_ways _ r t)));
        all = λ s d g p0 ps o.
            (let a : announces (Directed s d) e ≡ false = false_from_ne_true _ (λ t. both_ways _ r (announces_rival s d e t).0) in
            let k = place_all s d g p0 ps a o in
            (k.0, k.1, map_place k.0 ∙ k.2, k.3, k.4));
      }

      rival : is_request_to_send e ≡ true → AreDirected (E ++ e ∷ []) (Some (opened (Directed (from_of e) (to_of e)) e) ∷ take 15 (map (moved_place e) L))
      rival r = record {
        size_is = (let z : length (map (moved_place e) L) ≡ 16 = map_size in let t : length (take 15 (map (moved_place e) L)) ≡ 15 = omega (arith, length-take 15 (map (moved_place e) L)) in omega arith);
        each = each;
        all = λ s d g p0 ps o. elim (cases_Bool (announces (Directed s d) e)) [
          | inl a ↦ (let k = announces_rival s d e a in (0, opened (Directed (from_of e) (to_of e)) e, refl, k.1, k.2))
          | inr a ↦
              (let k = place_all s d g p0 ps a o in
              (suc k.0, k.1, get_or-take 15 (map (moved_place e) L) k.0 None (k.5 r) ∙ (map_place k.0 ∙ k.2), k.3, k.4))
        ];
      }
        where
          each : (i : ℕ) (y : SessionRecord) → get_or (Some (opened (Directed (from_of e) (to_of e)) e) ∷ take 15 (map (moved_place e) L)) i None ≡ Some y → IsAged (E ++ e ∷ []) (pair_of y) i y
          each zero y m =
              subst (λ (w : SessionRecord). IsAged (E ++ e ∷ []) (pair_of w) 0 w) (one_some _ _ m) (opened_aged E e (Directed (from_of e) (to_of e)) r)
          each (suc i) y m = elim (cases_lt i 15) [
            | inl l ↦ subst (λ (n : ℕ). IsAged (E ++ e ∷ []) (pair_of y) n y) (cond-true _ _ _ r) (place_each i y (sym (map_place i) ∙ (sym (get_or-take 15 (map (moved_place e) L) i None l) ∙ m)) (λ t. l))
            | inr l ↦ absurd (some_not_none y (sym (get_or_past (take 15 (map (moved_place e) L)) i None (omega (arith, length-take 15 (map (moved_place e) L)))) ∙ m))
          ]
