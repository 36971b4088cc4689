-- What a session stands for after one event more: for the contract of `Assembler`.
use Rattle.std.proofs.Common.{◌≡◌, ℕ, suc, if◌then◌else◌, ◌+◌, ◌<◌, ◌≤◌, true, false, ◌||◌, List, [], ◌∷◌, ◌++◌, length, Option, Some, None, refl, sym, ap, ◌∙◌, subst, inl, inr, arith, nat_lt, ◌==◌, eqb-true, ltb-true, ltb-false}
use Rattle.std.proofs.lemmas.Bool.{cond_both, cond-true, cond-false, eqb-false, cases_lt, cases_order, cases_Bool, and_parts, or_parts, or_from, or_left, false_from_ne_true, both_ways, and_from}
use Rattle.j39_transport.specs.Key.{Key, limit}
use Rattle.j39_transport.specs.Events.{Event, at, announces, sends, grants, ends, rivals, payload, size, packets, group, stamp, belongs, is_numbered}
use Rattle.j39_transport.specs.Assembly.{last_of, AreSuccessive, count_below, Runs, joined_at, OpenBy}
use Rattle.j39_transport.proofs.Chains.{past_belongs, belongs_within, Links-within, Open-unique}
use Rattle.j39_transport.proofs.Agreeing.{at_before, at_new, announced_within, agree_push, agree_less, joined_at-same}
use Rattle.j39_transport.specs.OpenAtEvent.{opened, last_after, touched, grown, is_late, is_over, on_other}
use Rattle.j39_transport.specs.Session.{SessionRecord}
use Rattle.j39_transport.specs.Stands.{IsSession, IsAged, IsOpenOrNone}
use Rattle.j39_transport.proofs.OneMore.{place_cases, new_test, old_test, grows, count_new, count_old, shorter, Fits, longer_same, longer_more, open_new, began_before}

module _ (E : List Event) (e : Event) (s : Key) where
  -- the last frame of the message, after an event that is one
  none_since_new : (g q : ℕ) → length E < q → belongs s g (at (E ++ e ∷ []) q) ≡ false
  none_since_new g q h = past_belongs s g (E ++ e ∷ []) q (omega (arith, (grows E e s)))

  pub opened_stands : announces s e ≡ true → IsSession (E ++ e ∷ []) s (opened s e)
  opened_stands a = record {
    start = length E;
    places = [];
    open_by = open_new E e s a;
    packets_are = sym (ap packets (at_new E e));
    size_is = sym (ap size (at_new E e));
    count_is = refl;
    bytes_are = refl;
    recent = length E;
    recent_stands = new_test E e s (belongs s (group e)) _ (or_left (announces s e || sends s e) (grants s (group e) e) (or_left (announces s e) (sends s e) a)) (length E) refl;
    none_since = none_since_new (group e);
    last_is = sym (ap stamp (at_new E e));
  }

  -- an event that ends the message, or follows it too late
  start_le_recent : (x : SessionRecord) (h : IsSession E s x) → h.start ≤ h.recent
  start_le_recent x h = elim (cases_lt h.recent h.start) [
    | inl k ↦ absurd (both_ways _ (h.none_since h.start k) (or_left (announces s (at E h.start) || sends s (at E h.start)) _ (or_left _ _ h.open_by.announced)))
    | inr k ↦ k
  ]

  -- the place of the last frame of the message, and the new one, are successive
  successive_new : (x : SessionRecord) (h : IsSession E s x) → belongs s x.group e ≡ true → AreSuccessive (E ++ e ∷ []) s x.group h.recent (length E)
  successive_new x h b =
      let r : h.recent < length E = belongs_within s x.group E h.recent h.recent_stands in
      record {
        order = r;
        earlier = old_test E e s (belongs s x.group) h.recent r ∙ h.recent_stands;
        later = new_test E e s (belongs s x.group) _ b (length E) refl;
        none_between = λ q k l. old_test E e s (belongs s x.group) q l ∙ h.none_since q k;
      }

  -- the stretch of the longer list up to its new place, were it not over
  pub over_not : (x : SessionRecord) (h : IsSession E s x) (p0 : ℕ) → p0 ≡ h.start → Runs (E ++ e ∷ []) s x.group p0 (suc (length E)) → is_over s e x ≡ false
  unfolding is_late
  over_not x h p0 u r =
      let st : h.start < length E = announced_within E s h.start h.open_by.announced in
      or_from (ends s x.group e) (is_late s e x)
      (sym (new_test E e s (ends s x.group) _ refl (length E) refl) ∙ (r.quiet (length E) (omega arith) (omega arith)).1)
      (false_from_ne_true _ (λ t.
      let a = and_parts (belongs s x.group e) (nat_lt (x.last + limit s) (stamp e)) t in
      let lt : x.last + limit s < stamp e = ltb-true _ _ a.1 in
      let v : h.start ≤ h.recent = start_le_recent x h in
      let y : stamp (at (E ++ e ∷ []) (length E)) ≤ stamp (at (E ++ e ∷ []) h.recent) + limit s = r.in_time h.recent (length E) (omega arith) (omega arith) (successive_new x h a.0) in
      let i : stamp (at (E ++ e ∷ []) (length E)) ≡ stamp e = ap stamp (at_new E e) in
      let j : stamp (at (E ++ e ∷ []) h.recent) ≡ stamp (at E h.recent) = ap stamp (at_before E e h.recent (belongs_within s x.group E h.recent h.recent_stands)) in
      let n : x.last ≡ stamp (at E h.recent) = h.last_is in
      omega arith))

  -- it isn't the sixteenth directed announcement after that at p0
  abbrev pub Young : ℕ → Type 0
  Young p0 = rivals s e ≡ true → count_below (rivals s) E (length E) < 15 + count_below (rivals s) E (suc p0)

  -- and where it isn't over, the event fits
  pub fits : (x : SessionRecord) (h : IsSession E s x) → announces s e ≡ false → is_over s e x ≡ false → Young h.start → Fits E e s x.group h.start
  unfolding is_late
  fits x h a o y =
      let q = or_parts (ends s x.group e) (is_late s e x) o in
      record {
        no_announcement = a;
        no_end = q.0;
        timely = λ r z b c.
            let rc : h.recent < length E = belongs_within s x.group E h.recent h.recent_stands in
            let l : r < length E = c.order in
            let i : r ≡ h.recent = elim (cases_order r h.recent) [
              | inl k ↦ k
              | inr k ↦ elim k [
                | inl m ↦ absurd (both_ways _ (c.none_between h.recent m rc) (old_test E e s (belongs s x.group) h.recent rc ∙ h.recent_stands))
                | inr m ↦ absurd (both_ways _ (h.none_since r m) (sym (old_test E e s (belongs s x.group) r l) ∙ c.earlier))
              ]
            ] in
            let j : stamp (at E r) ≡ stamp (at E h.recent) = ap (λ (v : ℕ). stamp (at E v)) i in
            let n : x.last ≡ stamp (at E h.recent) = h.last_is in
            let t : nat_lt (x.last + limit s) (stamp e) ≡ false = false_from_ne_true _ (λ u. both_ways _ q.1 (and_from (belongs s x.group e) (nat_lt (x.last + limit s) (stamp e)) b u)) in
            let t' : stamp e ≤ x.last + limit s = ltb-false _ _ t in
            omega arith;
        young =
            let old : count_below (rivals s) E (length E) < 16 + count_below (rivals s) E (suc h.start) = h.open_by.runs.young in
            elim (cases_Bool (rivals s e)) [
              | inl b ↦
                  (let t : count_below (rivals s) E (length E) < 15 + count_below (rivals s) E (suc h.start) = y b in
                  subst (λ (c : ℕ). c < 16 + count_below (rivals s) E (suc h.start)) (sym (cond-true _ _ _ b)) (omega arith))
              | inr b ↦ subst (λ (c : ℕ). c < 16 + count_below (rivals s) E (suc h.start)) (sym (cond-false _ _ _ b)) old
            ];
      }

  -- the parts of a session that the step moves in the same way, whether the event is used or not
  pub record Moved (x : SessionRecord) (h : IsSession E s x) (last : ℕ) : Type 0 where
    pub recent : ℕ
    pub recent_stands : belongs s x.group (at (E ++ e ∷ []) recent) ≡ true
    pub none_since : (q : ℕ) → recent < q → belongs s x.group (at (E ++ e ∷ []) q) ≡ false
    pub last_is : last ≡ stamp (at (E ++ e ∷ []) recent)

  pub moves : (x : SessionRecord) (h : IsSession E s x) → Moved x h (last_after s e x)
  moves x h =
      let r : h.recent < length E = belongs_within s x.group E h.recent h.recent_stands in
      elim (cases_Bool (belongs s x.group e)) [
        | inl b ↦ record {
          recent = length E;
          recent_stands = new_test E e s (belongs s x.group) _ b (length E) refl;
          none_since = none_since_new x.group;
          last_is = cond-true _ _ _ b ∙ sym (ap stamp (at_new E e));
        }
        | inr b ↦ record {
          recent = h.recent;
          recent_stands = old_test E e s (belongs s x.group) h.recent r ∙ h.recent_stands;
          none_since = λ q k. elim (cases_lt q (length (E ++ e ∷ []))) [
            | inl m ↦ elim (place_cases E e s q m) [
              | inl n ↦ old_test E e s (belongs s x.group) q n ∙ h.none_since q k
              | inr n ↦ new_test E e s (belongs s x.group) _ b q n
            ]
            | inr m ↦ past_belongs s x.group (E ++ e ∷ []) q m
          ];
          last_is = cond-false _ _ _ b ∙ (h.last_is ∙ sym (ap stamp (at_before E e h.recent r)));
        }
      ]

  pub touched_stands : (x : SessionRecord) (h : IsSession E s x) → announces s e ≡ false → is_over s e x ≡ false → is_numbered s (suc x.count) e ≡ false → Young h.start → IsSession (E ++ e ∷ []) s (touched s e x)
  touched_stands x h a o n y =
      let l : h.start < length E = announced_within E s h.start h.open_by.announced in
      let w : last_of h.start h.places < length E = Links-within E s h.start h.places h.open_by.announced h.open_by.links in
      let m = moves x h in
      record {
        start = h.start;
        places = h.places;
        open_by = longer_same E e s x.group h.start h.places h.open_by (subst (λ (k : ℕ). is_numbered s (suc k) e ≡ false) h.count_is n) (fits x h a o y);
        packets_are = h.packets_are ∙ sym (ap packets (at_before E e h.start l));
        size_is = h.size_is ∙ sym (ap size (at_before E e h.start l));
        count_is = h.count_is;
        bytes_are = h.bytes_are ∙ sym (joined_at-same E (E ++ e ∷ []) s h.start h.places h.open_by.links (agree_less _ w (agree_push E e)));
        recent = m.recent;
        recent_stands = m.recent_stands;
        none_since = m.none_since;
        last_is = m.last_is;
      }

  pub joined_new : (g p0 : ℕ) (ps : List ℕ) → OpenBy E s g p0 ps → joined_at (E ++ e ∷ []) (length E ∷ ps) ≡ joined_at E ps ++ payload e
  joined_new g p0 ps h =
      let w : last_of p0 ps < length E = Links-within E s p0 ps h.announced h.links in
      let i : joined_at (E ++ e ∷ []) ps ≡ joined_at E ps = joined_at-same E (E ++ e ∷ []) s p0 ps h.links (agree_less _ w (agree_push E e)) in
      let j : at (E ++ e ∷ []) (length E) ≡ e = at_new E e in
      cc

  pub grown_stands : (x : SessionRecord) (h : IsSession E s x) → announces s e ≡ false → is_over s e x ≡ false → is_numbered s (suc x.count) e ≡ true → (suc x.count == x.packets) ≡ false → Young h.start
      → IsSession (E ++ e ∷ []) s (grown s e x)
  grown_stands x h a o n m y =
      let l : h.start < length E = announced_within E s h.start h.open_by.announced in
      let p : x.packets ≡ packets (at E h.start) = h.packets_are in
      let q : x.count ≡ length h.places = h.count_is in
      let f : length h.places < packets (at E h.start) = h.open_by.few in
      let d : suc x.count ≡ x.packets → ⊥ = eqb-false _ _ m in
      let v = moves x h in
      record {
        start = h.start;
        places = length E ∷ h.places;
        open_by = longer_more E e s x.group h.start h.places h.open_by (subst (λ (k : ℕ). is_numbered s (suc k) e ≡ true) q n) (omega arith) (fits x h a o y);
        packets_are = h.packets_are ∙ sym (ap packets (at_before E e h.start l));
        size_is = h.size_is ∙ sym (ap size (at_before E e h.start l));
        count_is = ap suc q;
        bytes_are = ap (λ (bs : List ℕ). bs ++ payload e) h.bytes_are ∙ sym (joined_new x.group h.start h.places h.open_by);
        recent = v.recent;
        recent_stands = v.recent_stands;
        none_since = v.none_since;
        last_is = v.last_is;
      }

  -- after the last packet nothing is open
  completed_stands : (x : SessionRecord) → IsSession E s x → announces s e ≡ false
      → is_numbered s (suc x.count) e ≡ true → (suc x.count == x.packets) ≡ true → IsOpenOrNone (E ++ e ∷ []) s None
  completed_stands x h a n m g p0 ps k =
      let c = shorter E e s g p0 ps (began_before E e s g p0 ps a k) k in
      let u = Open-unique E s g x.group p0 h.start c.before h.places c.open_by h.open_by in
      let g1 : length c.before ≡ length h.places = ap length u.one_places in
      let q : x.count ≡ length h.places = h.count_is in
      let d : suc x.count ≡ x.packets = eqb-true _ _ m in
      let v : x.packets ≡ packets (at E h.start) = h.packets_are in
      let y : packets (at (E ++ e ∷ []) p0) ≡ packets (at E p0) = ap packets (at_before E e p0 (began_before E e s g p0 ps a k)) in
      let z : packets (at E p0) ≡ packets (at E h.start) = ap (λ (i : ℕ). packets (at E i)) u.one_start in
      let few : length ps < packets (at (E ++ e ∷ []) p0) = k.few in
      elim c.how [
        | inl w ↦ both_ways _ w.1 (subst (λ (i : ℕ). is_numbered s (suc i) e ≡ true) (q ∙ sym g1) n)
        | inr w ↦ (let o : length ps ≡ suc (length c.before) = ap length w.0 in omega arith)
      ]

  -- nor after an event that ends it
  over_stands : (x : SessionRecord) → IsSession E s x → announces s e ≡ false → is_over s e x ≡ true → IsOpenOrNone (E ++ e ∷ []) s None
  over_stands x h a o g p0 ps k =
      let c = shorter E e s g p0 ps (began_before E e s g p0 ps a k) k in
      let u = Open-unique E s g x.group p0 h.start c.before h.places c.open_by h.open_by in
      let r : Runs (E ++ e ∷ []) s x.group p0 (suc (length E)) = subst (λ (i : ℕ). Runs (E ++ e ∷ []) s i p0 (suc (length E))) u.one_group (subst (λ (i : ℕ). Runs (E ++ e ∷ []) s g p0 i) (grows E e s) k.runs) in
      both_ways _ (over_not x h p0 u.one_start r) o

  -- (b) one event more
  abbrev pub YoungIn : (o : Option SessionRecord) → IsOpenOrNone E s o → Type 0
  YoungIn None h = Unit {0}
  YoungIn (Some x) h = Young h.start

  pub other_stands : (o : Option SessionRecord) (h : IsOpenOrNone E s o) → announces s e ≡ false → YoungIn o h → IsOpenOrNone (E ++ e ∷ []) s (on_other s e o)
  other_stands None h a y = λ g p0 ps k. h g p0 (shorter E e s g p0 ps (began_before E e s g p0 ps a k) k).before (shorter E e s g p0 ps (began_before E e s g p0 ps a k) k).open_by
  other_stands (Some x) h a y =
      cond_both (is_over s e x) _ _ (IsOpenOrNone (E ++ e ∷ []) s)
      (λ o. over_stands x h a o)
      (λ o. cond_both (is_numbered s (suc x.count) e) _ _ (IsOpenOrNone (E ++ e ∷ []) s)
      (λ n. cond_both (suc x.count == x.packets) _ _ (IsOpenOrNone (E ++ e ∷ []) s)
      (λ m. completed_stands x h a n m)
      (λ m. grown_stands x h a o n m y))
      (λ n. touched_stands x h a o n y))

  -- ---- how many directed announcements came after its own

  pub opened_aged : announces s e ≡ true → IsAged (E ++ e ∷ []) s 0 (opened s e)
  unfolding opened_stands
  opened_aged a = record {
    session = opened_stands a;
    age_is = (let x : count_below (rivals s) (E ++ e ∷ []) (suc (length E)) ≡ count_below (rivals s) (E ++ e ∷ []) (length (E ++ e ∷ [])) = ap (count_below (rivals s) (E ++ e ∷ [])) (sym (grows E e s)) in omega arith);
  }

  pub later_aged : (age : ℕ) (x z : SessionRecord) → IsAged E s age x → announces s e ≡ false → IsSession (E ++ e ∷ []) s z → IsAged (E ++ e ∷ []) s (if rivals s e then suc age else age) z
  later_aged age x z h a k =
      let b : k.start < length E = began_before E e s z.group k.start k.places a k.open_by in
      let c = shorter E e s z.group k.start k.places b k.open_by in
      let u = Open-unique E s z.group x.group k.start h.session.start c.before h.session.places c.open_by h.session.open_by in
      let c1 : count_below (rivals s) (E ++ e ∷ []) (suc k.start) ≡ count_below (rivals s) E (suc k.start) = count_old E e s (rivals s) (suc k.start) b in
      let c2 : count_below (rivals s) E (suc k.start) ≡ count_below (rivals s) E (suc h.session.start) = ap (λ (i : ℕ). count_below (rivals s) E (suc i)) u.one_start in
      let c3 = count_new E e s (rivals s) in
      let c4 : age + count_below (rivals s) E (suc h.session.start) ≡ count_below (rivals s) E (length E) = h.age_is in
      record {
        session = k;
        age_is = elim (cases_Bool (rivals s e)) [
          | inl r ↦
              (let d1 : (if rivals s e then suc age else age) ≡ suc age = cond-true _ _ _ r in
              let d2 : count_below (rivals s) (E ++ e ∷ []) (length (E ++ e ∷ [])) ≡ suc (count_below (rivals s) E (length E)) = c3 ∙ cond-true _ _ _ r in omega arith)
          | inr r ↦
              (let d1 : (if rivals s e then suc age else age) ≡ age = cond-false _ _ _ r in
              let d2 : count_below (rivals s) (E ++ e ∷ []) (length (E ++ e ∷ [])) ≡ count_below (rivals s) E (length E) = c3 ∙ cond-false _ _ _ r in omega arith)
        ];
      }
