-- Which chains end at the new place.
use Rattle.std.proofs.Common.{◌≡◌, ℕ, suc, ◌<◌, ◌≤◌, true, false, List, [], ◌∷◌, ◌++◌, length, take, Option, Some, None, refl, sym, ap, ◌∙◌, subst, inl, inr, arith, ◌==◌}
use Rattle.std.proofs.lemmas.Bool.{cases_lt, and_parts, and_left, both_ways}
use Rattle.j39_transport.specs.Key.{Key}
use Rattle.j39_transport.specs.Events.{Event, at, announces, sends, number, payload, size, packets, group, is_numbered}
use Rattle.j39_transport.specs.Assembly.{last_of, Runs, Chain, joined_at, Whole, OpenBy}
use Rattle.j39_transport.proofs.FrameFacts.{announces-packets, sends-others}
use Rattle.j39_transport.proofs.Chains.{Links-from, Open-unique}
use Rattle.j39_transport.proofs.Agreeing.{at_before, announced_within, past_sends, agree_pop, agree_less, Links-same}
use Rattle.j39_transport.specs.OpenAtEvent.{is_over}
use Rattle.j39_transport.specs.Session.{SessionRecord}
use Rattle.j39_transport.specs.Stands.{IsSession, IsOpenOrNone}
use Rattle.j39_transport.proofs.OneMore.{new_test, old_test, grows, runs_before, group_before, runs_after, links_new}
use Rattle.j39_transport.proofs.Moving.{over_not, fits, joined_new}

module _ (E : List Event) (e : Event) (s : Key) where
  -- ---- (c) which chains end at the new place

  -- the packet e is the next of the session x, and doesn't come too late
  pub record Continues (x : SessionRecord) : Type 0 where
    pub is_next : is_numbered s (suc x.count) e ≡ true
    pub not_over : is_over s e x ≡ false

  pub chain_new : (x : SessionRecord) (h : IsSession E s x) → Continues x → Chain (E ++ e ∷ []) s x.group h.start (length E ∷ h.places)
  chain_new x h c =
      let b : sends s e ≡ true = (and_parts (sends s e) (number e == suc x.count) c.is_next).0 in
      let a : announces s e ≡ false = (sends-others s s s 0 e b).no_announcement in
      let l : h.start < length E = announced_within E s h.start h.open_by.announced in
      let n : is_numbered s (suc (length h.places)) e ≡ true = subst (λ (k : ℕ). is_numbered s (suc k) e ≡ true) h.count_is c.is_next in
      let i : packets (at (E ++ e ∷ []) h.start) ≡ packets (at E h.start) = ap packets (at_before E e h.start l) in
      let few : length h.places < packets (at E h.start) = h.open_by.few in
      record {
        announced = old_test E e s (announces s) h.start l ∙ h.open_by.announced;
        group_is = h.open_by.group_is ∙ sym (ap group (at_before E e h.start l));
        few = omega arith;
        links = links_new E e s x.group h.start h.places h.open_by n;
        runs = subst (λ (k : ℕ). Runs (E ++ e ∷ []) s x.group h.start k) (grows E e s) (runs_after E e s x.group h.start l h.open_by.runs (fits E e s x h a c.not_over (λ r. absurd (both_ways _ (sends-others s s s 0 e b).no_rival r))));
      }

  pub chain_before : (g p0 : ℕ) (ps : List ℕ) → Chain (E ++ e ∷ []) s g p0 (length E ∷ ps) → OpenBy E s g p0 ps
  chain_before g p0 ps h =
      let l : p0 < length E = omega (arith, Links-from (E ++ e ∷ []) s p0 ps h.links.1, h.links.0.later) in
      let w : last_of p0 ps < length E = h.links.0.later in
      let i : packets (at (E ++ e ∷ []) p0) ≡ packets (at E p0) = ap packets (at_before E e p0 l) in
      let few : suc (length ps) ≤ packets (at (E ++ e ∷ []) p0) = h.few in
      record {
        announced = sym (old_test E e s (announces s) p0 l) ∙ h.announced;
        group_is = group_before E e s g p0 l h.group_is;
        few = omega arith;
        links = Links-same (E ++ e ∷ []) E s p0 ps (agree_less _ w (agree_pop E e)) h.links.1;
        no_next = λ q n. elim (cases_lt q (length E)) [
          | inl o ↦ sym (old_test E e s (is_numbered s (suc (length ps))) q o) ∙ h.links.0.first q n o
          | inr o ↦ and_left _ _ (past_sends E s q o)
        ];
        runs = runs_before E e s g p0 l (subst (λ (k : ℕ). Runs (E ++ e ∷ []) s g p0 k) (sym (grows E e s)) h.runs);
      }

  pub record Continued (o : Option SessionRecord) (g p0 : ℕ) (ps : List ℕ) : Type 0 where
    pub session : SessionRecord
    pub was : o ≡ Some session
    pub stood : IsSession E s session
    pub continues : Continues session
    pub group_is : g ≡ session.group
    pub start_is : p0 ≡ stood.start
    pub places_are : ps ≡ stood.places

  pub chain_continued : (o : Option SessionRecord) → IsOpenOrNone E s o → (g p0 : ℕ) (ps : List ℕ) → Chain (E ++ e ∷ []) s g p0 (length E ∷ ps) → Continued o g p0 ps
  chain_continued None h g p0 ps k = absurd (h g p0 ps (chain_before g p0 ps k))
  chain_continued (Some x) h g p0 ps k =
      let c = chain_before g p0 ps k in
      let u = Open-unique E s g x.group p0 h.start ps h.places c h.open_by in
      let st : is_numbered s (suc (length ps)) e ≡ true = sym (new_test E e s (is_numbered s (suc (length ps))) _ refl (length E) refl) ∙ k.links.0.stands in
      let r : Runs (E ++ e ∷ []) s x.group p0 (suc (length E)) = subst (λ (i : ℕ). Runs (E ++ e ∷ []) s i p0 (suc (length E))) u.one_group k.runs in
      record {
        session = x;
        was = refl;
        stood = h;
        continues = record {
          is_next = subst (λ (n : ℕ). is_numbered s (suc n) e ≡ true) (ap length u.one_places ∙ sym h.count_is) st;
          not_over = over_not E e s x h p0 u.one_start r;
        };
        group_is = u.one_group;
        start_is = u.one_start;
        places_are = u.one_places;
      }

  -- the message of group g with the bytes b that the session x makes with e
  pub record Completes (o : Option SessionRecord) (g : ℕ) (b : List ℕ) : Type 0 where
    pub session : SessionRecord
    pub was : o ≡ Some session
    pub continues : Continues session
    pub is_last : suc session.count ≡ session.packets
    pub group_is : g ≡ session.group
    pub bytes_are : b ≡ take session.size (session.bytes ++ payload e)

  pub whole_from : (o : Option SessionRecord) → IsOpenOrNone E s o → (g : ℕ) (b : List ℕ) → Completes o g b → Whole (E ++ e ∷ []) (length E) s g b
  whole_from None h g b c = absurd (cc (c.was))
  whole_from (Some y) h g b c =
      let was : Some y ≡ Some c.session = c.was in
      let x : c.session ≡ y = cc in
      let c' : Continues y = subst (λ (z : SessionRecord). Continues z) x c.continues in
      let l : h.start < length E = announced_within E s h.start h.open_by.announced in
      let d : suc y.count ≡ y.packets = subst (λ (z : SessionRecord). suc z.count ≡ z.packets) x c.is_last in
      let i : at (E ++ e ∷ []) h.start ≡ at E h.start = at_before E e h.start l in
      let i1 : packets (at (E ++ e ∷ []) h.start) ≡ packets (at E h.start) = ap packets i in
      let n : y.count ≡ length h.places = h.count_is in
      let m : y.packets ≡ packets (at E h.start) = h.packets_are in
      let gi : g ≡ y.group = c.group_is ∙ ap (λ (z : SessionRecord). z.group) x in
      record {
        start = h.start;
        places = length E ∷ h.places;
        chain = subst (λ (q : ℕ). Chain (E ++ e ∷ []) s q h.start (length E ∷ h.places)) (sym gi) (chain_new y h c');
        full = omega arith;
        ends_at = refl;
        bytes_are = c.bytes_are ∙ (ap (λ (z : SessionRecord). take z.size (z.bytes ++ payload e)) x
            ∙ (ap (λ (bs : List ℕ). take y.size (bs ++ payload e)) h.bytes_are
            ∙ (ap (λ (k : ℕ). take k (joined_at E h.places ++ payload e)) (h.size_is ∙ sym (ap size i))
            ∙ sym (ap (take (size (at (E ++ e ∷ []) h.start))) (joined_new E e s y.group h.start h.places h.open_by)))));
      }

  pub whole_only : (o : Option SessionRecord) → IsOpenOrNone E s o → (g : ℕ) (b : List ℕ) → Whole (E ++ e ∷ []) (length E) s g b → Completes o g b
  whole_only o h g b w = go w.places refl
    where
      go : (ps : List ℕ) → w.places ≡ ps → Completes o g b
      go [] i =
          let n : 0 < packets (at (E ++ e ∷ []) w.start) = announces-packets s _ w.chain.announced in
          let f : length w.places ≡ packets (at (E ++ e ∷ []) w.start) = w.full in
          let z : length w.places ≡ 0 = ap length i in
          absurd (omega arith)
      go (p ∷ ps) i =
          let j : p ≡ length E = sym (ap (last_of w.start) i) ∙ w.ends_at in
          let k : w.places ≡ length E ∷ ps = i ∙ ap (λ (q : ℕ). q ∷ ps) j in
          let ch : Chain (E ++ e ∷ []) s g w.start (length E ∷ ps) = subst (λ (qs : List ℕ). Chain (E ++ e ∷ []) s g w.start qs) k w.chain in
          let c = chain_continued o h g w.start ps ch in
          let t = c.stood in
          let l : t.start < length E = announced_within E s t.start t.open_by.announced in
          let sa : at (E ++ e ∷ []) w.start ≡ at E t.start = ap (at (E ++ e ∷ [])) c.start_is ∙ at_before E e t.start l in
          let f : length w.places ≡ packets (at (E ++ e ∷ []) w.start) = w.full in
          let f1 : length w.places ≡ suc (length ps) = ap length k in
          let f2 : length ps ≡ length t.places = ap length c.places_are in
          let f3 : packets (at (E ++ e ∷ []) w.start) ≡ packets (at E t.start) = ap packets sa in
          let f4 : c.session.count ≡ length t.places = t.count_is in
          let f5 : c.session.packets ≡ packets (at E t.start) = t.packets_are in
          let jn : joined_at (E ++ e ∷ []) w.places ≡ c.session.bytes ++ payload e =
          ap (joined_at (E ++ e ∷ [])) (k ∙ ap (λ (qs : List ℕ). length E ∷ qs) c.places_are) ∙ (joined_new E e s c.session.group t.start t.places t.open_by ∙ sym (ap (λ (bs : List ℕ). bs ++ payload e) t.bytes_are)) in
          let sz : size (at (E ++ e ∷ []) w.start) ≡ c.session.size = ap size sa ∙ sym t.size_is in
          record {
            session = c.session;
            was = c.was;
            continues = c.continues;
            is_last = omega arith;
            group_is = c.group_is;
            bytes_are = w.bytes_are ∙ (ap (λ (n : ℕ). take n (joined_at (E ++ e ∷ []) w.places)) sz ∙ ap (take c.session.size) jn);
          }
