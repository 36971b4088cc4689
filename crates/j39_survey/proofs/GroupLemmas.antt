-- What came of the groups, with a frame or a message more.
use Rattle.j39_survey.proofs.Common.{◌≡◌, ◌==◌, ◌||◌, ◌+◌, ◌-◌, ◌*◌, ◌/◌, ◌%◌, ◌++◌, ◌<◌, ℕ, List, [], ◌∷◌, Bool, true, false, length, refl, sym, ap, ◌∙◌, append-nil, append_assoc, get_or, subst, inl, inr, replicate, Option, None, Some, arith, count_by, fold, max, min, nat_eq, nat_lt, if◌then◌else◌, flat_map, list_any, sum_by, cases_eq, eq-eqb, ltb-false, ne_eqb, set, flat_map-append, get_or-replicate, get_or-set_same, get_or-set_other, length-replicate, filter-append, list_any-append, fold-append, sum_by-append, values_of, FrameRecord, IsHeardGroup, place_of_group, pgn_of, heard, announced_by, capped, Hearing, or_none}
use Rattle.std.proofs.lemmas.List.{length-set}
use Rattle.j39_survey.specs.CameSoFar.{at_group, at_named, group_heard, with_announced, with_own, with_whole}
use Rattle.j39_survey.specs.Firsts.{firsts}
use Rattle.j39_survey.specs.GroupCounts.{Came, Silence, Spread, announces, came_in, came_with, controllers_in, group_named, is_named, is_of, longer, nothing, one_where, senders_in, silences_behind, silences_in, spread_of}
use Rattle.j39_survey.specs.Interfaces.{last_behind}
use Rattle.j39_survey.specs.SurveyModels.{HasCounted, HaveCounted, last_in}
use Rattle.j39_survey.specs.declared.surveys.group_table.GroupCount.{GroupCount}
use Rattle.j39_survey.specs.declared.surveys.group_table.GroupTable.{GroupTable}
use Rattle.std.proofs.lemmas.List.{length_push}
use Rattle.j39_listen.proofs.CountLemmas.{capped_more, capped_sum, count_by-append}
use Rattle.j39_survey.proofs.FirstsLemmas.{firsts-new, firsts-old}

-- ---- addresses

pub controllers-more : (sources : List ℕ) (x : ℕ) → nat_lt x 254 ≡ true → controllers_in (sources ++ x ∷ []) ≡ controllers_in sources ++ x ∷ []
controllers-more sources x can = filter-append (λ a. nat_lt a 254) sources (x ∷ []) ∙ rw can refl

pub controllers-same : (sources : List ℕ) (x : ℕ) → nat_lt x 254 ≡ false → controllers_in (sources ++ x ∷ []) ≡ controllers_in sources
controllers-same sources x cannot = filter-append (λ a. nat_lt a 254) sources (x ∷ []) ∙ rw cannot (append-nil (controllers_in sources))

-- one frame more, of a controller that is new, of one that is not, or of none
pub senders-new : (sources : List ℕ) (x n m : ℕ) → n ≡ senders_in sources → nat_lt x 254 ≡ true
    → list_any (λ y. x == y) (controllers_in sources) ≡ false → m ≡ capped (n + 1) → m ≡ senders_in (sources ++ x ∷ [])
senders-new sources x n m is can new more =
    let known = controllers_in sources in
    more ∙ capped_more n (length (firsts nat_eq known)) is
    ∙ ap capped (sym (ap (λ xs. length (firsts nat_eq xs)) (controllers-more sources x can) ∙ ap length (firsts-new nat_eq known x new) ∙ length_push (firsts nat_eq known) x))

pub senders-old : (sources : List ℕ) (x n : ℕ) → n ≡ senders_in sources → nat_lt x 254 ≡ true
    → list_any (λ y. x == y) (controllers_in sources) ≡ true → n ≡ senders_in (sources ++ x ∷ [])
senders-old sources x n is can old =
    let known = controllers_in sources in
    is ∙ ap capped (sym (ap (λ xs. length (firsts nat_eq xs)) (controllers-more sources x can) ∙ ap length (firsts-old nat_eq known x old)))

pub senders-none : (sources : List ℕ) (x n : ℕ) → n ≡ senders_in sources → nat_lt x 254 ≡ false → n ≡ senders_in (sources ++ x ∷ [])
senders-none sources x n is cannot = is ∙ ap (λ xs. capped (length (firsts nat_eq xs))) (sym (controllers-same sources x cannot))

or_swap : (p q : Bool) → (p || q) ≡ (q || (p || false))
or_swap true true = refl
or_swap true false = refl
or_swap false true = refl
or_swap false false = refl

pub heard-more : (sources : List ℕ) (x a : ℕ) → nat_lt x 254 ≡ true
    → (a == x || list_any (λ y. a == y) (controllers_in sources)) ≡ list_any (λ y. a == y) (controllers_in (sources ++ x ∷ []))
heard-more sources x a can =
    let known = controllers_in sources in
    or_swap (a == x) (list_any (λ y. a == y) known) ∙ sym (list_any-append (λ y. a == y) known (x ∷ []))
    ∙ ap (list_any (λ y. a == y)) (sym (controllers-more sources x can))

-- ---- silences

last_behind-more : (x : ℕ) (ys : List ℕ) (y : ℕ) → last_behind x (ys ++ y ∷ []) ≡ y
last_behind-more x [] y = refl
last_behind-more x (z ∷ zs) y = last_behind-more z zs y

-- how long a moment is behind another
abbrev silence_from : ℕ → ℕ → Silence
silence_from x y = record { since = x; length = y - x }

silences_behind-more : (x : ℕ) (ys : List ℕ) (y : ℕ) → silences_behind x (ys ++ y ∷ []) ≡ silences_behind x ys ++ silence_from (last_behind x ys) y ∷ []
silences_behind-more x [] y = refl
silences_behind-more x (z ∷ zs) y = ap (λ ss. silence_from x z ∷ ss) (silences_behind-more z zs y)

pub last-more : (xs : List ℕ) (y : ℕ) → last_in (xs ++ y ∷ []) ≡ Some y
last-more [] y = refl
last-more (x ∷ xs) y = ap (λ n. Some n) (last_behind-more x xs y)

-- behind a last moment there is one silence more, and else none
pub silences-more : (xs : List ℕ) (last y : ℕ) → Some last ≡ last_in xs → silences_in (xs ++ y ∷ []) ≡ silences_in xs ++ silence_from last y ∷ []
silences-more [] last y is = cc
silences-more (x ∷ xs) last y is =
    let same : last ≡ last_behind x xs = cc in
    silences_behind-more x xs y ∙ ap (λ n. silences_behind x xs ++ silence_from n y ∷ []) (sym same)

pub silences-first : (xs : List ℕ) (y : ℕ) → None ≡ last_in xs → (xs ≡ []) × (silences_in (xs ++ y ∷ []) ≡ [])
silences-first [] y is = (refl, refl)
silences-first (x ∷ xs) y is = cc

-- one silence more
pub spread-more : (ss : List Silence) (s : Spread) (x : Silence) (count sum least : ℕ) (longest : Silence) → Some s ≡ spread_of ss
    → count ≡ capped (s.count + 1) → sum ≡ capped (s.sum + x.length) → least ≡ min s.least x.length → longest ≡ longer s.longest x
    → (let o : Option Spread = Some (record { count = count; sum = sum; least = least; longest = longest }) in o) ≡ spread_of (ss ++ x ∷ [])
spread-more [] s x count sum least longest is c t l m = cc
spread-more (y ∷ ys) s x count sum least longest is c t l m =
    let same : s ≡ record { count = capped (length (y ∷ ys)); sum = capped (sum_by (λ n. n.length) (y ∷ ys)); least = fold (λ n z. min n z.length) y.length ys; longest = fold longer y ys } = cc in
    let c' : count ≡ capped (length (y ∷ ys ++ x ∷ [])) =
    c ∙ capped_more s.count (length (y ∷ ys)) (ap (λ (r : Spread). r.count) same) ∙ ap capped (sym (length_push (y ∷ ys) x)) in
    let both : sum_by (λ (n : Silence). n.length) ((y ∷ ys) ++ x ∷ []) ≡ sum_by (λ (n : Silence). n.length) (y ∷ ys) + x.length =
    sum_by-append (λ (n : Silence). n.length) (y ∷ ys) (x ∷ []) ∙ omega arith in
    let t' : sum ≡ capped (sum_by (λ (n : Silence). n.length) (y ∷ ys ++ x ∷ [])) =
    t ∙ capped_sum s.sum (sum_by (λ (n : Silence). n.length) (y ∷ ys)) x.length (ap (λ (r : Spread). r.sum) same) ∙ ap capped (sym both) in
    let l' : least ≡ fold (λ n z. min n z.length) y.length (ys ++ x ∷ []) =
    l ∙ ap (λ (r : Spread). min r.least x.length) same ∙ sym (fold-append (λ n (z : Silence). min n z.length) y.length ys (x ∷ [])) in
    let m' : longest ≡ fold longer y (ys ++ x ∷ []) = m ∙ ap (λ (r : Spread). longer r.longest x) same ∙ sym (fold-append longer y ys (x ∷ [])) in
    λ i. Some (record { count = c' i; sum = t' i; least = l' i; longest = m' i })

pub no_spread : (ss : List Silence) → None ≡ spread_of ss → ss ≡ []
no_spread [] is = refl
no_spread (s ∷ ss) is = cc

-- ---- what came of a group

pub came_same : (a b : Came) → a.frames ≡ b.frames → a.own ≡ b.own → a.announced ≡ b.announced → a.whole ≡ b.whole → a ≡ b
came_same a b f o n w = λ i. record { frames = f i; own = o i; announced = n i; whole = w i }

abbrev one : Bool → ℕ
one b = if b then 1 else 0

count_one : {X : Type 0} (p : X → Bool) (x : X) → count_by p (x ∷ []) ≡ one (p x)
count_one p x =
    elim (p x) as (λ b. p x ≡ b → count_by p (x ∷ []) ≡ one b) [
      | true ↦ λ e. rw e refl
      | false ↦ λ e. rw e refl
    ] refl

-- a step of a group that the frame is of, that it announces, or that is heard at it, and else none
abbrev step : Bool → (Came → Came) → Came → Came
step b change c = if b then change c else c

steps : (f : FrameRecord) (a b w : Bool) (c d : Came) → d.frames ≡ c.frames ++ (one_where a f ++ one_where b f) → d.own ≡ c.own + one a
    → d.announced ≡ c.announced + one b → d.whole ≡ c.whole + one w → step w with_whole (step b (with_announced f) (step a (with_own f) c)) ≡ d
steps f true true true c d fr o n h = came_same _ _ (append_assoc c.frames (f ∷ []) (f ∷ []) ∙ sym fr) (sym o) (sym n) (sym h)
steps f true true false c d fr o n h = came_same _ _ (append_assoc c.frames (f ∷ []) (f ∷ []) ∙ sym fr) (sym o) (sym n) (omega (arith, h))
steps f true false true c d fr o n h = came_same _ _ (sym fr) (sym o) (omega (arith, n)) (sym h)
steps f true false false c d fr o n h = came_same _ _ (sym fr) (sym o) (omega (arith, n)) (omega (arith, h))
steps f false true true c d fr o n h = came_same _ _ (sym fr) (omega (arith, o)) (sym n) (sym h)
steps f false true false c d fr o n h = came_same _ _ (sym fr) (omega (arith, o)) (sym n) (omega (arith, h))
steps f false false true c d fr o n h = came_same _ _ (sym (fr ∙ append-nil c.frames)) (omega (arith, o)) (omega (arith, n)) (sym h)
steps f false false false c d fr o n h = came_same _ _ (sym (fr ∙ append-nil c.frames)) (omega (arith, o)) (omega (arith, n)) (omega (arith, h))

heard_of : ℕ → Hearing → Bool
heard_of pgn h = group_named h.message.pgn == pgn

one_heard : (pgn : ℕ) (o : Option Hearing) → count_by (λ (h : Hearing). group_named h.message.pgn == pgn) (or_none o) ≡ one (is_named pgn (group_heard o))
one_heard pgn None = refl
one_heard pgn (Some h) = count_one (λ (h : Hearing). group_named h.message.pgn == pgn) h

-- a frame more, and what is heard at it
came_more : (F : List FrameRecord) (hs : List Hearing) (f : FrameRecord) (o : Option Hearing) (pgn : ℕ)
    → step (is_named pgn (group_heard o)) with_whole (step (announces pgn f) (with_announced f) (step (is_of pgn f) (with_own f) (came_in F hs pgn)))
    ≡ came_in (F ++ f ∷ []) (hs ++ or_none o) pgn
came_more F hs f o pgn =
    steps f (is_of pgn f) (announces pgn f) (is_named pgn (group_heard o)) (came_in F hs pgn) (came_in (F ++ f ∷ []) (hs ++ or_none o) pgn)
    (flat_map-append (came_with pgn) F (f ∷ []) ∙ ap (λ t. flat_map (came_with pgn) F ++ t) (append-nil (came_with pgn f)))
    (count_by-append (is_of pgn) F (f ∷ []) ∙ ap (λ n. count_by (is_of pgn) F + n) (count_one (is_of pgn) f))
    (count_by-append (announces pgn) F (f ∷ []) ∙ ap (λ n. count_by (announces pgn) F + n) (count_one (announces pgn) f))
    (count_by-append (λ (h : Hearing). group_named h.message.pgn == pgn) hs (or_none o)
    ∙ ap (λ n. count_by (λ (h : Hearing). group_named h.message.pgn == pgn) hs + n) (one_heard pgn o))

-- ---- the table

same_came : (table : GroupTable) (came later : ℕ → Came) → ((pgn : ℕ) → came pgn ≡ later pgn) → HaveCounted table came → HaveCounted table later
same_came table came later same h = record {
  all = h.all;
  each = λ pgn d can. subst (λ c. HasCounted (get_or (values_of table.counts) (place_of_group pgn) d) c) (same pgn) (h.each pgn d can);
}

swap_eq : (a b : ℕ) → (a == b) ≡ (b == a)
swap_eq a b =
    elim (cases_eq a b) [
      | inl same ↦ eq-eqb a b same ∙ sym (eq-eqb b a (sym same))
      | inr other ↦ ne_eqb a b other ∙ sym (ne_eqb b a (λ e. other (sym e)))
    ]

-- after the three steps of a frame
pub counted_frame : (table : GroupTable) (F : List FrameRecord) (hs : List Hearing) (f : FrameRecord) (o : Option Hearing)
    → HaveCounted table (at_named (group_heard o) with_whole (at_named (announced_by f) (with_announced f) (at_group (pgn_of f.id) (with_own f) (came_in F hs))))
    → HaveCounted table (came_in (F ++ f ∷ []) (hs ++ or_none o))
counted_frame table F hs f o h = same_came table _ _ (λ pgn. each pgn (announced_by f) (group_heard o) refl refl) h
  where
    named : (pgn : ℕ) (n : Option ℕ) (change : Came → Came) (came : ℕ → Came) → at_named n change came pgn ≡ step (is_named pgn n) change (came pgn)
    named pgn None change came = refl
    named pgn (Some n) change came = ap (λ b. step b change (came pgn)) (swap_eq pgn (group_named n))

    each : (pgn : ℕ) (n m : Option ℕ) → announced_by f ≡ n → group_heard o ≡ m
        → at_named m with_whole (at_named n (with_announced f) (at_group (pgn_of f.id) (with_own f) (came_in F hs))) pgn ≡ came_in (F ++ f ∷ []) (hs ++ or_none o) pgn
    each pgn n m is heard_is =
        named pgn m with_whole (at_named n (with_announced f) (at_group (pgn_of f.id) (with_own f) (came_in F hs)))
        ∙ ap (λ c. step (is_named pgn m) with_whole c) (named pgn n (with_announced f) (at_group (pgn_of f.id) (with_own f) (came_in F hs))
        ∙ ap (λ c. step (is_named pgn n) (with_announced f) c) (ap (λ b. step b (with_own f) (came_in F hs pgn)) (swap_eq pgn (pgn_of f.id))))
        ∙ ap (λ k. step (is_named pgn k) with_whole (step (is_named pgn n) (with_announced f) (step (is_of pgn f) (with_own f) (came_in F hs pgn)))) (sym heard_is)
        ∙ ap (λ k. step (is_named pgn (group_heard o)) with_whole (step (is_named pgn k) (with_announced f) (step (is_of pgn f) (with_own f) (came_in F hs pgn)))) (sym is)
        ∙ came_more F hs f o pgn

-- the table, with a change of one group: another group's place is another
pub counted_change : (old new : GroupTable) (group at : ℕ) (count : GroupCount) (change : Came → Came) (came : ℕ → Came) → IsHeardGroup group
    → at ≡ place_of_group group → at < 17344 → ((other : ℕ) → IsHeardGroup other → place_of_group other ≡ at → other ≡ group)
    → values_of new.counts ≡ set (values_of old.counts) at count
    → ((c : Came) → HasCounted (get_or (values_of old.counts) at count) c → HasCounted count (change c))
    → HaveCounted old came → HaveCounted new (at_group group change came)
counted_change old new group at count change came can is within distinct changed changes h = record {
  all = ap length changed ∙ length-set items at count ∙ h.all;
  each = λ pgn d heard. subst (λ xs. HasCounted (get_or xs (place_of_group pgn) d) (at_group group change came pgn)) (sym changed) (each pgn d heard);
}
  where
    items : List GroupCount
    items = values_of old.counts

    inside : at < length items
    inside = omega (arith, h.all, within)

    here : HasCounted count (change (came group))
    here = changes (came group) (subst (λ n. HasCounted (get_or items n count) (came group)) (sym is) (h.each group count can))

    each : (pgn : ℕ) (d : GroupCount) → IsHeardGroup pgn → HasCounted (get_or (set items at count) (place_of_group pgn) d) (at_group group change came pgn)
    each pgn d heard =
        elim (cases_eq (place_of_group pgn) at) [
          | inl same ↦
              let it : pgn ≡ group = distinct pgn heard same in
              rw (same, get_or-set_same items at count d inside, eq-eqb pgn group it, it) here
          | inr other ↦
              rw (get_or-set_other items at (place_of_group pgn) count d other, ne_eqb pgn group (λ e. other (ap place_of_group e ∙ sym is))) (h.each pgn d heard)
        ]

-- nothing came of a group at the start
pub counted_start : (items : List GroupCount) (n at : ℕ) (count d : GroupCount) → items ≡ replicate n count → HasCounted count nothing
    → at < n → HasCounted (get_or items at d) nothing
counted_start items n at count d is none below =
    subst (λ x. HasCounted x nothing) (sym (ap (λ xs. get_or xs at d) is ∙ get_or-replicate n at count d below)) none

pub length_start : (items : List GroupCount) (n : ℕ) (count : GroupCount) → items ≡ replicate n count → length items ≡ n
length_start items n count is = ap length is ∙ length-replicate n count

pub counted_none : (table : GroupTable) → HaveCounted table (λ pgn. nothing) → HaveCounted table (came_in [] [])
counted_none table h = h

-- ---- groups that no identifier can have

-- what a number of 18 bits names, and whatever is named of 18 bits, can be had
named_as : (n pgn : ℕ) → pgn < 262144 → group_named n ≡ pgn → IsHeardGroup pgn
named_as n pgn below is =
    elim (nat_lt (n / 256 % 256) 240) as (λ b. nat_lt (n / 256 % 256) 240 ≡ b → (if b then n / 256 * 256 else n) ≡ pgn → IsHeardGroup pgn) [
      | true ↦ λ e it. (below, (λ directed. omega (arith, it)))
      | false ↦ λ e it. (below, (λ directed. absurd (omega (arith, ltb-false (n / 256 % 256) 240 e, it, directed))))
    ] refl is

-- so nothing comes of any other
pub came_none : (pgn : ℕ) (F : List FrameRecord) → pgn < 262144 → (IsHeardGroup pgn → ⊥) → flat_map (came_with pgn) F ≡ []
came_none pgn [] below unheard = refl
came_none pgn (f ∷ F) below unheard =
    let own : is_of pgn f ≡ false = ne_eqb (pgn_of f.id) pgn (λ is. unheard (subst (λ n. IsHeardGroup n) is (heard f.id))) in
    rw (own, none (announced_by f)) (came_none pgn F below unheard)
  where
    none : (n : Option ℕ) → is_named pgn n ≡ false
    none None = refl
    none (Some n) = ne_eqb (group_named n) pgn (λ e. unheard (named_as n pgn below e))
