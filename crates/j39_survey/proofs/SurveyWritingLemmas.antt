-- A survey, written.
use Rattle.j39_survey.proofs.Common.{◌≡◌, ◌+◌, ◌++◌, ◌<◌, ◌≤◌, ◌-◌, ◌*◌, ◌%◌, ℕ, zero, suc, Bool, List, [], get_or, length, map, refl, take, sym, ap, ◌∙◌, append-nil, append_assoc, arith, IsErr, Option, Result, Ok, Err, flat_map, Keeps, flat_map-map, flat_map-next, Marks, Puts, Device, Turn, Appends-kept, front_of_all, puts_as, puts_done, puts_first, puts_nothing, puts_then, puts_until, FrameRecord, IsHeardGroup, NamingRecord, Hearing, capped}
use Rattle.j39_listen.specs.declared.format.Format.{Format}
use Rattle.j39_survey.specs.GroupCounts.{Came, came_in, group_of}
use Rattle.j39_survey.specs.LogLines.{LogLine, others_in, seen_in, unread_in}
use Rattle.j39_survey.proofs.GroupLemmas.{came_none}
use Rattle.j39_survey.specs.SurveyModels.{HasSurveyed, interface_record, others_record, shown_record}
use Rattle.j39_survey.specs.UnreadLines.{is_printed_log, shown_in}
use Rattle.j39_survey.specs.SurveyText.{group_text, groups_end, groups_from, groups_text, names_in, survey_end, survey_head}
use Rattle.j39_survey.specs.Interfaces.{interfaces_of, untold_in}
use Rattle.j39_survey.specs.OtherLines.{others_of}
use Rattle.j39_survey.specs.declared.surveys.log_survey.Survey.{Survey}

-- ---- the groups

module _ (form : Format) (naming : NamingRecord) (came : ℕ → Came) where
  pub groups_none : (first : ℕ) (d : Device) → Puts {T = Unit} {E = Unit} (groups_from form naming came first 0) (Ok tt) (record { old = d; new = d })
  unfolding groups_from
  groups_none first d = puts_nothing tt d

  pub groups_one : (first : ℕ) → group_text form naming first (group_of (came first)) ≡ groups_from form naming came first 1
  unfolding groups_from
  groups_one first = rw (plus_zero) refl
    where
      plus_zero : first + 0 ≡ first
      plus_zero = omega arith

  -- n groups, and k more behind them
  groups_joined : (first n k : ℕ) → groups_from form naming came first (k + n) ≡ groups_from form naming came first n ++ groups_from form naming came (first + n) k
  unfolding groups_from
  groups_joined first n zero = ap (groups_from form naming came first) zero_plus ∙ sym (append-nil (groups_from form naming came first n))
    where
      zero_plus : 0 + n ≡ n
      zero_plus = omega arith
  groups_joined first n (suc k) =
      let next : suc k + n ≡ suc (k + n) = omega arith in
      let there : first + (k + n) ≡ first + n + k = omega arith in
      ap (groups_from form naming came first) next
      ∙ ap (λ t. t ++ group_text form naming (first + (k + n)) (group_of (came (first + (k + n))))) (groups_joined first n k)
      ∙ ap (λ at. (groups_from form naming came first n ++ groups_from form naming came (first + n) k) ++ group_text form naming at (group_of (came at))) there
      ∙ append_assoc (groups_from form naming came first n) (groups_from form naming came (first + n) k) (group_text form naming (first + n + k) (group_of (came (first + n + k))))

  pub groups_more : {E : Type 0} (first n at k m : ℕ) (old mid new : Device) → at ≡ first + n → m ≡ n + k
      → Puts {T = Unit} {E = Unit} (groups_from form naming came first n) (Ok tt) (record { old = old; new = mid })
      → Puts {T = Unit} {E = E} (groups_from form naming came at k) (Ok tt) (record { old = mid; new = new })
      → Puts {T = Unit} {E = Unit} (groups_from form naming came first m) (Ok tt) (record { old = old; new = new })
  groups_more first n at k m old mid new is size before here =
      let all : k + n ≡ m = omega (arith, size) in
      puts_as _ _ _ _ (sym (groups_joined first n k) ∙ ap (groups_from form naming came first) all)
      (puts_then _ _ tt (Ok tt) old mid new before (puts_done _ tt tt _ (puts_as _ _ _ _ (ap (λ n. groups_from form naming came n k) is) here)))

  -- a fault in the lines of k groups behind n, of m in all
  pub groups_stop : {T U E F' : Type 0} (first n at k m : ℕ) (e : E) (last : Result U F') (old mid new : Device) → at ≡ first + n → n + k ≤ m → IsErr last
      → Puts {T = Unit} {E = Unit} (groups_from form naming came first n) (Ok tt) (record { old = old; new = mid })
      → Puts {T = T} (groups_from form naming came at k) (Err e) (record { old = mid; new = new })
      → Puts (groups_from form naming came first m) last (record { old = old; new = new })
  groups_stop {T = T} first n at k m e last old mid new is within failed before here =
      let rest = m - (n + k) in
      let all : rest + (k + n) ≡ m = omega (arith, within) in
      puts_as _ _ _ _ (sym (groups_joined first (k + n) rest) ∙ ap (groups_from form naming came first) all)
      (puts_first {T = T} (groups_from form naming came first (k + n)) _ e last _ failed
      (puts_as _ _ _ _ (sym (groups_joined first n k))
      (puts_then (groups_from form naming came first n) (groups_from form naming came (first + n) k) tt (Err e) old mid new before
      (puts_as _ _ _ _ (ap (λ n. groups_from form naming came n k) is) here))))

  pub groups_all : {T E : Type 0} (n : ℕ) (result : Result T E) (sink : Turn) → n ≡ 262144 → Puts (groups_from form naming came 0 n) result sink → Puts (groups_text form naming came) result sink
  unfolding groups_end
  groups_all n result sink is written = puts_as _ _ _ _ (ap (groups_from form naming came 0) is) written

-- groups that no identifier can have have no lines
module _ (form : Format) (naming : NamingRecord) (F : List FrameRecord) (heard : List Hearing) where
  unheard_text : (pgn : ℕ) → pgn < 262144 → (IsHeardGroup pgn → ⊥) → group_text form naming pgn (group_of (came_in F heard pgn)) ≡ []
  unfolding group_text group_of
  unheard_text pgn below unheard = rw (came_none pgn F below unheard) refl

  unheard_texts : (first n : ℕ) → first + n ≤ 262144 → ((k : ℕ) → k < n → IsHeardGroup (first + k) → ⊥) → groups_from form naming (came_in F heard) first n ≡ []
  unfolding groups_from
  unheard_texts first zero below unheard = refl
  unheard_texts first (suc n) below unheard =
      ap (λ t. t ++ group_text form naming (first + n) (group_of (came_in F heard (first + n)))) (unheard_texts first n (omega (arith, below)) (λ k less. unheard k (omega (arith, less))))
      ∙ unheard_text (first + n) (omega (arith, below)) (unheard n (omega arith))

  -- of the groups of one PF below 240 only the first has a line
  pub groups_directed : (front : ℕ) → front < 1024 → front % 256 < 240
      → group_text form naming (front * 256) (group_of (came_in F heard (front * 256))) ≡ groups_from form naming (came_in F heard) (front * 256) 256
  groups_directed front within low =
      let came = came_in F heard in
      groups_one form naming came (front * 256)
      ∙ sym (append-nil (groups_from form naming came (front * 256) 1))
      ∙ ap (λ t. groups_from form naming came (front * 256) 1 ++ t)
      (sym (unheard_texts (front * 256 + 1) 255 (omega (arith, within)) (λ k below can. omega (arith, can.1 (omega (arith, low, below)), below))))
      ∙ sym (groups_joined form naming came (front * 256) 1 255)

-- ---- the whole

-- what was written is passed on, or a fault came then
pub puts_passed : {T U E F : Type 0} (text : List ℕ) (x : T) (last : Result U F) (old mid new : Device)
    → Puts {E = E} text (Ok x) (record { old = old; new = mid }) → Keeps mid.bytes new.bytes → Marks last mid.has_failed new.has_failed
    → Puts text last (record { old = old; new = new })
puts_passed text x (Ok y) old mid new first kept marks = record {
  written = Appends-kept old.bytes mid.bytes new.bytes text first.written kept;
  front = tt;
  mark = marks ∙ first.mark;
}
puts_passed text x (Err e) old mid new first kept marks =
    record { written = tt; front = front_of_all old.bytes mid.bytes new.bytes text first.written kept; mark = marks }

-- the line of one more item
pub line_more : {X E : Type 0} (shown : X → List ℕ) (xs : List X) (i : ℕ) (x : X) (old mid new : Device)
    → i < length xs → x ≡ get_or xs i x → Puts {T = Unit} {E = Unit} (flat_map shown (take i xs)) (Ok tt) (record { old = old; new = mid })
    → Puts {T = Unit} {E = E} (shown x) (Ok tt) (record { old = mid; new = new }) → Puts {T = Unit} {E = Unit} (flat_map shown (take (i + 1) xs)) (Ok tt) (record { old = old; new = new })
line_more shown xs i x old mid new below is before here =
    puts_as _ _ _ _ (sym (flat_map-next shown xs i x below))
    (puts_then _ _ tt (Ok tt) old mid new before (puts_done _ tt tt _ (puts_as _ _ _ _ (ap shown is) here)))

-- a fault in the line of an item
pub line_stops : {X T U E F : Type 0} (shown : X → List ℕ) (xs : List X) (i : ℕ) (x : X) (e : E) (last : Result U F) (old mid new : Device)
    → i < length xs → x ≡ get_or xs i x → IsErr last → Puts {T = Unit} {E = Unit} (flat_map shown (take i xs)) (Ok tt) (record { old = old; new = mid })
    → Puts {T = T} (shown x) (Err e) (record { old = mid; new = new }) → Puts (flat_map shown xs) last (record { old = old; new = new })
line_stops {T = T} shown xs i x e last old mid new below is failed before here =
    puts_until {V = T} shown xs i x tt e last old mid new below failed before (puts_as _ _ _ _ (ap shown is) here)

-- a line for each item of a slice is one for what each of them shows
pub each_line : {X Y : Type 0} (line : Y → List ℕ) (shown : X → Y) (slice items : List X) → slice ≡ items → flat_map (λ x. line (shown x)) slice ≡ flat_map line (map shown items)
each_line line shown slice items is = ap (flat_map (λ x. line (shown x))) is ∙ sym (flat_map-map line shown items)

pub head_is : (form : Format) (survey : Survey) (given : Option (List ℕ)) (lines : List LogLine) → HasSurveyed survey given lines
    → names_in form ++ survey_head form survey.lines (map interface_record survey.interfaces.told.items) survey.interfaces.untold
    ≡ names_in form ++ survey_head form (capped (length lines)) (interfaces_of (seen_in lines)) (capped (untold_in (seen_in lines)))
head_is form survey given lines h = ap (λ t. names_in form ++ t) (
    ap (λ n. survey_head form n (map interface_record survey.interfaces.told.items) survey.interfaces.untold) h.lines_are
    ∙ ap (λ told. survey_head form (capped (length lines)) told survey.interfaces.untold) h.interfaces_are.told_are
    ∙ ap (survey_head form (capped (length lines)) (interfaces_of (seen_in lines))) h.interfaces_are.untold_is)

pub end_is : (form : Format) (survey : Survey) (given : Option (List ℕ)) (lines : List LogLine) (is_printed : Bool) → HasSurveyed survey given lines → is_printed ≡ is_printed_log lines
    → survey_end form (others_record survey.others) survey.unread.count (map shown_record survey.unread.first.items) is_printed
    ≡ survey_end form (others_of (others_in lines)) (capped (length (unread_in lines))) (shown_in (unread_in lines)) (is_printed_log lines)
end_is form survey given lines is_printed h printed =
    ap (λ others. survey_end form others survey.unread.count (map shown_record survey.unread.first.items) is_printed) h.others_are
    ∙ ap (λ n. survey_end form (others_of (others_in lines)) n (map shown_record survey.unread.first.items) is_printed) h.unread_are.count_is
    ∙ ap (λ first. survey_end form (others_of (others_in lines)) (capped (length (unread_in lines))) first is_printed) h.unread_are.first_are
    ∙ ap (survey_end form (others_of (others_in lines)) (capped (length (unread_in lines))) (shown_in (unread_in lines))) printed
