-- Rows that lead others.
use Rattle.j39_reports.proofs.Common.{◌≡◌, ◌<◌, ◌≤◌, ◌+◌, ◌∷◌, ◌++◌, [], ℕ, zero, suc, true, List, Some, arith, get_or, length, length-append, length-map, map-append, None, refl, sym, ap, ◌∙◌, subst, inl, inr, unwrap_or, slice_get, slice_set, keys_of, option_map, is_same, place_in, Origin, same_self, same_true, get_or_from_slice_get}
use Rattle.std.proofs.lemmas.Bool.{cases_lt}
use Rattle.std.proofs.lemmas.Option.{slice_get-map, slice_get_within}
use Rattle.std.proofs.Math.ListN.{get_or-append}
use Rattle.std.proofs.Math.Seq.{get_or-append_seam}
use Rattle.std.specs.List.{IsDistinct}
use Rattle.std.specs.Prelude.{min}
use Rattle.j39_frame.proofs.PlaceLemmas.{absent, distinct_more, guessed, keys_set}
use Rattle.j39_reports.specs.Leads.{AddsLead, AreLed, IsLedBy, KeepsLeads, LeadsHead, are_alike, leads_of, with_parameter}
use Rattle.j39_reports.specs.MessageHeads.{origin_in}
use Rattle.j39_reports.specs.declared.summaries.message_head.MessageHead.{MessageHead}
use Rattle.j39_reports.specs.declared.summaries.statistics.Statistics.{Statistics}

-- ---- origins that are alike

alike_is : (a b : Origin) → are_alike a b ≡ true → a ≡ with_parameter a.spn b
alike_is a b h = same_true a (with_parameter a.spn b) h

-- what is like the one is like the other
alike_both : (a b c : Origin) → are_alike a b ≡ true → are_alike a c ≡ true → with_parameter b.spn c ≡ b
alike_both a b c to_b to_c = ap (with_parameter b.spn) (sym (alike_is a c to_c) ∙ alike_is a b to_b)

-- ---- rows and their leads

lead_at : (rows : List (Origin × Statistics)) (p : ℕ) (row : Origin × Statistics) → slice_get rows p ≡ Some row → get_or (leads_of rows) p 0 ≡ row.1.lead
lead_at rows p row here =
    get_or_from_slice_get (leads_of rows) p row.1.lead 0 (slice_get-map (λ (r : Origin × Statistics). r.1.lead) rows p ∙ ap (option_map (λ (r : Origin × Statistics). r.1.lead)) here)

origin_at : (rows : List (Origin × Statistics)) (p : ℕ) (row : Origin × Statistics) → slice_get rows p ≡ Some row → (d : Origin) → get_or (keys_of rows) p d ≡ row.0
origin_at rows p row here d =
    get_or_from_slice_get (keys_of rows) p row.0 d (slice_get-map (λ (r : Origin × Statistics). r.0) rows p ∙ ap (option_map (λ (r : Origin × Statistics). r.0)) here)

within : (rows : List (Origin × Statistics)) (p : ℕ) (row : Origin × Statistics) → slice_get rows p ≡ Some row → p < length (keys_of rows)
within rows p row here =
    let inside : p < length rows = slice_get_within rows p row here in
    omega (arith, inside, length-map rows (λ (r : Origin × Statistics). r.0))

-- a row is alike where its lead stands
led_by : (rows : List (Origin × Statistics)) (p : ℕ) (row : Origin × Statistics) → AreLed (keys_of rows) (leads_of rows) → slice_get rows p ≡ Some row
    → IsLedBy (keys_of rows) row.1.lead row.0
led_by rows p row led here =
    subst (λ (n : ℕ). IsLedBy (keys_of rows) n row.0) (lead_at rows p row here)
    (subst (λ (o : Origin). IsLedBy (keys_of rows) (get_or (leads_of rows) p 0) o) (origin_at rows p row here row.0) (led p (within rows p row here) row.0))

-- a row with the lead of a message's head is of that message
pub of_head : (rows : List (Origin × Statistics)) (p : ℕ) (row : Origin × Statistics) (lead : ℕ) (head : MessageHead)
    → AreLed (keys_of rows) (leads_of rows) → LeadsHead (keys_of rows) lead head → slice_get rows p ≡ Some row → row.1.lead ≡ lead
    → origin_in head row.0.spn ≡ row.0
of_head rows p row lead head led leads here same =
    let by : IsLedBy (keys_of rows) lead row.0 = subst (λ (n : ℕ). IsLedBy (keys_of rows) n row.0) same (led_by rows p row led here) in
    alike_both (get_or (keys_of rows) lead row.0) row.0 (origin_in head 0) (by.1 row.0) (leads by.0 row.0)

-- the lead of a row of a message leads those of the message
pub leads_on : (rows : List (Origin × Statistics)) (p : ℕ) (row : Origin × Statistics) (head : MessageHead) (spn : ℕ)
    → AreLed (keys_of rows) (leads_of rows) → slice_get rows p ≡ Some row → row.0 ≡ origin_in head spn
    → LeadsHead (keys_of rows) row.1.lead head
leads_on rows p row head spn led here is = λ inside d.
    let lead = get_or (keys_of rows) row.1.lead d in
    ap (λ (o : Origin). are_alike lead o) (sym is) ∙ (led_by rows p row led here).1 d

-- ---- as rows change

leads_set : (rows : List (Origin × Statistics)) (i : ℕ) (o : Origin) (v w : Statistics) → slice_get rows i ≡ Some (o, v) → w.lead ≡ v.lead
    → leads_of (slice_set rows i (o, w)) ≡ leads_of rows
leads_set [] i o v w here same = refl
leads_set (e ∷ es) zero o v w here same = ap (λ n. n ∷ leads_of es) (same ∙ sym (ap (λ x. (unwrap_or x e).1.lead) here))
leads_set (e ∷ es) (suc i) o v w here same = ap (λ ns. e.1.lead ∷ ns) (leads_set es i o v w here same)

pub keeps : (rows rows' : List (Origin × Statistics)) (i : ℕ) (o : Origin) (v w : Statistics) → slice_get rows i ≡ Some (o, v) → w.lead ≡ v.lead
    → rows' ≡ slice_set rows i (o, w) → KeepsLeads rows rows'
keeps rows rows' i o v w here same is =
    (ap (λ (rs : List (Origin × Statistics)). keys_of rs) is ∙ keys_set rows i o v w here, ap leads_of is ∙ leads_set rows i o v w here same)

pub still_led : (rows rows' : List (Origin × Statistics)) → KeepsLeads rows rows' → AreLed (keys_of rows) (leads_of rows) → AreLed (keys_of rows') (leads_of rows')
still_led rows rows' keep led =
    subst (λ (os : List Origin). AreLed os (leads_of rows')) (sym keep.0) (subst (AreLed (keys_of rows)) (sym keep.1) led)

pub still_apart : (rows rows' : List (Origin × Statistics)) → KeepsLeads rows rows' → IsDistinct is_same (keys_of rows) → IsDistinct is_same (keys_of rows')
still_apart rows rows' keep apart = subst (IsDistinct is_same) (sym keep.0) apart

pub still_leads : (rows rows' : List (Origin × Statistics)) (lead : ℕ) (head : MessageHead) → KeepsLeads rows rows' → LeadsHead (keys_of rows) lead head
    → LeadsHead (keys_of rows') lead head
still_leads rows rows' lead head keep leads = subst (λ (os : List Origin). LeadsHead os lead head) (sym keep.0) leads

pub adds : (rows rows' : List (Origin × Statistics)) (o : Origin) (v : Statistics) → rows' ≡ rows ++ (o, v) ∷ [] → AddsLead v.lead o rows rows'
adds rows rows' o v is = (
  ap (λ (rs : List (Origin × Statistics)). keys_of rs) is ∙ map-append (λ (r : Origin × Statistics). r.0) rows ((o, v) ∷ []),
  ap leads_of is ∙ map-append (λ (r : Origin × Statistics). r.1.lead) rows ((o, v) ∷ []),
)

-- ---- with an origin more

module _ (os : List Origin) (ns : List ℕ) (k : Origin) (long : length ns ≡ length os) where
  abbrev more : List Origin
  more = os ++ k ∷ []

  count : length more ≡ length os + 1
  count = omega (arith, length-append os (k ∷ []))

  older : (lead : ℕ) (o : Origin) → IsLedBy os lead o → IsLedBy more lead o
  older lead o by =
      let inside : lead < length os = by.0 in
      (omega (arith, inside, count), λ d. ap (λ (x : Origin). are_alike x o) (get_or-append os (k ∷ []) d lead inside) ∙ by.1 d)

  itself : (d : Origin) → get_or more (length os) d ≡ k
  itself d = get_or-append_seam os k [] d

  -- the last is led by a row of those before it, or by itself
  pub last_led : (lead place : ℕ) (head : MessageHead) (spn : ℕ) → place ≡ length os → k ≡ origin_in head spn → LeadsHead os lead head
      → lead ≤ place → IsLedBy more lead k
  last_led lead place head spn is own leads most = elim (cases_lt lead (length os)) [
    | inl inside ↦ older lead k (inside, λ d. ap (λ (o : Origin). are_alike (get_or os lead d) o) own ∙ leads inside d)
    | inr past ↦
        let here : lead ≡ length os = omega (arith, past, most, is) in
        (omega (arith, here, count), λ d. ap (λ (o : Origin). are_alike o k) (ap (λ n. get_or more n d) here ∙ itself d) ∙ same_self k)
  ]

  pub led_more : (lead : ℕ) → AreLed os ns → IsLedBy more lead k → AreLed more (ns ++ lead ∷ [])
  led_more lead led by = λ p inside d. elim (cases_lt p (length os)) [
    | inl before ↦
        let place : p < length ns = omega (arith, before, long) in
        let was : IsLedBy more (get_or ns p 0) (get_or os p d) = older (get_or ns p 0) (get_or os p d) (led p before d) in
        subst (λ (n : ℕ). IsLedBy more n (get_or more p d)) (sym (get_or-append ns (lead ∷ []) 0 p place))
        (subst (λ (o : Origin). IsLedBy more (get_or ns p 0) o) (sym (get_or-append os (k ∷ []) d p before)) was)
    | inr past ↦
        let here : p ≡ length os = omega (arith, past, inside, count) in
        let there : p ≡ length ns = omega (arith, here, long) in
        let number : get_or (ns ++ lead ∷ []) p 0 ≡ lead = ap (λ q. get_or (ns ++ lead ∷ []) q 0) there ∙ get_or-append_seam ns lead [] 0 in
        let origin : get_or more p d ≡ k = ap (λ q. get_or more q d) here ∙ itself d in
        subst (λ (n : ℕ). IsLedBy more n (get_or more p d)) (sym number) (subst (λ (o : Origin). IsLedBy more lead o) (sym origin) by)
  ]

-- a row more is led by a row of its message, or by itself
module _ (rows rows' : List (Origin × Statistics)) (lead place : ℕ) (head : MessageHead) (spn : ℕ) (add : AddsLead lead (origin_in head spn) rows rows')
    (is : place ≡ length rows) (leads : LeadsHead (keys_of rows) lead head) (most : lead ≤ place) where
  abbrev k : Origin
  k = origin_in head spn

  keys_long : length (keys_of rows) ≡ length rows
  keys_long = length-map rows (λ (r : Origin × Statistics). r.0)

  same_long : length (leads_of rows) ≡ length (keys_of rows)
  same_long = length-map rows (λ (r : Origin × Statistics). r.1.lead) ∙ sym keys_long

  by : IsLedBy (keys_of rows ++ k ∷ []) lead k
  by = last_led (keys_of rows) (leads_of rows) k same_long lead place head spn (is ∙ sym keys_long) refl leads most

  pub led_now : AreLed (keys_of rows) (leads_of rows) → AreLed (keys_of rows') (leads_of rows')
  led_now led =
      subst (λ (os : List Origin). AreLed os (leads_of rows')) (sym add.0)
      (subst (AreLed (keys_of rows ++ k ∷ [])) (sym add.1) (led_more (keys_of rows) (leads_of rows) k same_long lead led by))

  pub apart_now : place_in rows k ≡ None → IsDistinct is_same (keys_of rows) → IsDistinct is_same (keys_of rows')
  apart_now nowhere apart = subst (IsDistinct is_same) (sym add.0) (distinct_more (keys_of rows) k apart (absent rows k nowhere))

  pub leads_now : LeadsHead (keys_of rows') lead head
  leads_now = subst (λ (os : List Origin). LeadsHead os lead head) (sym add.0) (λ inside d. by.1 d)

-- ---- where rows stand

-- a row of a message's head leads those of the message
pub known : (rows : List (Origin × Statistics)) (p : ℕ) (row : Origin × Statistics) (head : MessageHead) → slice_get rows p ≡ Some row
    → is_same row.0 (origin_in head row.0.spn) ≡ true → LeadsHead (keys_of rows) p head
known rows p row head here same = λ inside d. ap (λ (o : Origin). are_alike o (origin_in head 0)) (origin_at rows p row here d) ∙ same

-- where no row stands none leads
pub nowhere : (rows : List (Origin × Statistics)) (head : MessageHead) → length rows < 18446744073709551616 → LeadsHead (keys_of rows) 18446744073709551615 head
nowhere rows head few = λ inside d. absurd (omega (arith, inside, few, length-map rows (λ (r : Origin × Statistics). r.0)))

-- the row with the lead of a message's head and a parameter is that of the parameter of the message
pub next_is : (rows : List (Origin × Statistics)) (p : ℕ) (row : Origin × Statistics) (lead : ℕ) (head : MessageHead) (spn : ℕ)
    → AreLed (keys_of rows) (leads_of rows) → LeadsHead (keys_of rows) lead head → IsDistinct is_same (keys_of rows) → slice_get rows p ≡ Some row
    → row.1.lead ≡ lead → row.0.spn ≡ spn → place_in rows (origin_in head spn) ≡ Some p
next_is rows p row lead head spn led leads apart here same parameter =
    let own : origin_in head spn ≡ row.0 = ap (origin_in head) (sym parameter) ∙ of_head rows p row lead head led leads here same in
    guessed rows p row (origin_in head spn) apart here (ap (is_same row.0) own ∙ same_self row.0)

-- the lead, or a place behind all rows
pub least : (rows : List (Origin × Statistics)) (lead place m : ℕ) (head : MessageHead) → place ≡ length rows → m ≡ min lead place
    → LeadsHead (keys_of rows) lead head → LeadsHead (keys_of rows) m head
least rows lead place m head is small leads = λ inside d.
    let same : m ≡ lead = omega (arith, inside, is, small, length-map rows (λ (r : Origin × Statistics). r.0)) in
    let within : lead < length (keys_of rows) = omega (arith, inside, same) in
    ap (λ n. are_alike (get_or (keys_of rows) n d) (origin_in head 0)) same ∙ leads within d
