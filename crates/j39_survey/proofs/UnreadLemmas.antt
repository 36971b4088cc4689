-- The unread lines, and one more.
use Rattle.j39_survey.proofs.Common.{◌≡◌, ◌&&◌, ◌+◌, ◌++◌, ◌<◌, ◌≤◌, ℕ, List, [], ◌∷◌, true, false, length, refl, sym, ap, ap₂, ◌∙◌, append-nil, append_assoc, arith, map, take, take_all, length-take, zero, suc, min, inl, inr, and-true, cases_lt, lt-leb, lt-ltb, length-map, map-append, take-append-le, list_all-append, capped}
use Rattle.j39_log.specs.Printed.{is_printed}
use Rattle.j39_survey.specs.LogLines.{LogLine, UnreadRecord, unread_at, unread_from, unread_in}
use Rattle.j39_survey.specs.SurveyModels.{HaveNoted, shown_record}
use Rattle.j39_survey.specs.UnreadLines.{ShownRecord, are_printed, shown_in, shown_of}
use Rattle.j39_survey.specs.declared.surveys.unread.UnreadLine.{UnreadLine}
use Rattle.j39_survey.specs.declared.surveys.unread.UnreadLines.{UnreadLines}
use Rattle.std.proofs.lemmas.List.{length_push, take-take}
use Rattle.j39_listen.proofs.CountLemmas.{capped_more}

-- the lines from n on, and one more
unread_from-more : (n : ℕ) (lines : List LogLine) (line : LogLine) → unread_from n (lines ++ line ∷ []) ≡ unread_from n lines ++ unread_at (n + length lines) line.text line.spelled
unread_from-more n [] line = ap (λ k. unread_at k line.text line.spelled ++ []) (plus_none n) ∙ append-nil _
  where
    plus_none : (n : ℕ) → n ≡ n + 0
    plus_none n = omega arith
unread_from-more n (x ∷ lines) line =
    let at : n + 1 + length lines ≡ n + length (x ∷ lines) = omega arith in
    ap (λ xs. unread_at n x.text x.spelled ++ xs) (unread_from-more (n + 1) lines line ∙ ap (λ k. unread_from (n + 1) lines ++ unread_at k line.text line.spelled) at)
    ∙ sym (append_assoc (unread_at n x.text x.spelled) (unread_from (n + 1) lines) (unread_at (n + length (x ∷ lines)) line.text line.spelled))

pub unread_in-more : (lines : List LogLine) (line : LogLine) → unread_in (lines ++ line ∷ []) ≡ unread_in lines ++ unread_at (length lines + 1) line.text line.spelled
unread_in-more lines line =
    let at : 1 + length lines ≡ length lines + 1 = omega arith in
    unread_from-more 1 lines line ∙ ap (λ k. unread_in lines ++ unread_at k line.text line.spelled) at

printed_more : (unread : List UnreadRecord) (line : UnreadRecord) → are_printed (unread ++ line ∷ []) ≡ (are_printed unread && is_printed line.text)
printed_more unread line = list_all-append (λ (l : UnreadRecord). is_printed l.text) unread (line ∷ []) ∙ ap (λ b. are_printed unread && b) (and-true (is_printed line.text))

length_shown : (unread : List UnreadRecord) → length (shown_in unread) ≡ length (take 5 unread)
length_shown unread = length-map (take 5 unread) shown_of

-- five are told already
pub noted_full : (a b : UnreadLines) (unread : List UnreadRecord) (line : UnreadRecord) → HaveNoted a unread → b.count ≡ capped (a.count + 1)
    → b.are_printed ≡ (a.are_printed && is_printed line.text) → b.first.items ≡ a.first.items → length a.first.items ≡ 5 → HaveNoted b (unread ++ line ∷ [])
noted_full a b unread line h count printed same full =
    let len : length (take 5 unread) ≡ 5 = sym (length_shown unread) ∙ ap length (sym h.first_are) ∙ length-map a.first.items shown_record ∙ full in
    let long : 5 ≤ length unread = omega (arith, length-take 5 unread) in
    record {
      count_is = count ∙ capped_more a.count (length unread) h.count_is ∙ ap capped (sym (length_push unread line));
      first_are = ap (map shown_record) same ∙ h.first_are ∙ ap (map shown_of) (sym (take-append-le 5 unread (line ∷ []) long));
      printed_is = printed ∙ ap (λ b. b && is_printed line.text) h.printed_is ∙ sym (printed_more unread line);
    }

pub noted_more : (a b : UnreadLines) (x : UnreadLine) (unread : List UnreadRecord) (line : UnreadRecord) → HaveNoted a unread → b.count ≡ capped (a.count + 1)
    → b.are_printed ≡ (a.are_printed && is_printed line.text) → b.first.items ≡ a.first.items ++ x ∷ [] → shown_record x ≡ shown_of line → length a.first.items < 5
    → HaveNoted b (unread ++ line ∷ [])
noted_more a b x unread line h count printed pushed shown room =
    let len : length (take 5 unread) ≡ length a.first.items = sym (length_shown unread) ∙ ap length (sym h.first_are) ∙ length-map a.first.items shown_record in
    let short : length unread < 5 = omega (arith, length-take 5 unread) in
    let whole : take 5 unread ≡ unread = take_all 5 unread (omega arith) in
    let more : take 5 (unread ++ line ∷ []) ≡ unread ++ line ∷ [] = take_all 5 (unread ++ line ∷ []) (omega (arith, length_push unread line)) in
    record {
      count_is = count ∙ capped_more a.count (length unread) h.count_is ∙ ap capped (sym (length_push unread line));
      first_are = ap (map shown_record) pushed ∙ map-append shown_record a.first.items (x ∷ [])
          ∙ ap₂ (λ (xs : List ShownRecord) (y : ShownRecord). xs ++ y ∷ []) (h.first_are ∙ ap (map shown_of) whole) shown
          ∙ sym (ap (map shown_of) more ∙ map-append shown_of unread (line ∷ []));
      printed_is = printed ∙ ap (λ b. b && is_printed line.text) h.printed_is ∙ sym (printed_more unread line);
    }

-- ---- what is told of a line

-- of one that was kept, of which 256 bytes are there
pub shown_long : (x : UnreadLine) (line : UnreadRecord) (front : List ℕ) → 256 < length line.text → front ≡ take 256 line.text → x.number ≡ capped line.number
    → x.front.items ≡ take 60 front → x.is_cut ≡ true → shown_record x ≡ shown_of line
shown_long x line front long is number shown cut =
    let f = shown ∙ ap (take 60) is ∙ take-take 60 256 line.text (omega arith) in
    let e = cut ∙ sym (lt-ltb 60 (length line.text) (omega arith)) in
    λ i. record { number = number i; front = f i; is_cut = e i }

-- no line of more than 256 bytes is printed
pub long_unprinted : (line : List ℕ) → 256 < length line → false ≡ is_printed line
unfolding is_printed
long_unprinted line long = sym (rw (lt-leb (length line) 256 long) refl)
