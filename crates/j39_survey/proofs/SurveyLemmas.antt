-- A survey, one line more.
use Rattle.j39_survey.proofs.Common.{◌≡◌, ◌||◌, ◌+◌, ◌++◌, ℕ, List, [], ◌∷◌, true, false, length, refl, sym, ap, ◌∙◌, append-nil, subst, map, Option, Some, None, ap₂, inl, inr, or-false, or-true, AllByRecursion, filter_map, unwrap_or, bytes_eq, cases_Bool, map-append, filter_map-append, list_any-append, FrameRecord, capped, Spells, frame, other, unread, blank, NamingRecord, Hearing, or_none, heard_below_unique, bus_of, first_bus, frame_on, frames_of, bus_of-append, bus_of-frame, bus_of-kept, frames_of-append, one_spelled}
use Rattle.j39_survey.specs.GroupCounts.{ArePutTogether}
use Rattle.j39_listen.specs.declared.format.Format.{Format}
use Rattle.j39_survey.specs.SurveyText.{survey_text}
use Rattle.j39_survey.specs.LogLines.{AreLogLines, IsSpelled, LogLine, Seen, UnreadRecord, has_form, has_log_line, other_of, others_in, seen_in, seen_of, spelled_in, unread_in}
use Rattle.j39_log.proofs.LogLemmas.{same_lines}
use Rattle.j39_survey.specs.OtherLines.{others_of}
use Rattle.j39_survey.specs.SurveyModels.{HasMet, HasSurveyed, HaveMet, HaveNoted, IsPlaced, others_record}
use Rattle.j39_survey.specs.SurveySoFar.{MeetsOnBus}
use Rattle.j39_survey.specs.declared.surveys.log_survey.Survey.{Survey}
use Rattle.j39_survey.specs.declared.surveys.traffic.Traffic.{Traffic}
use Rattle.std.proofs.lemmas.List.{length_push}
use Rattle.j39_listen.proofs.CountLemmas.{capped_more}
use Rattle.j39_survey.proofs.FirstsLemmas.{bytes_refl}
use Rattle.j39_survey.proofs.UnreadLemmas.{unread_in-more}

-- before the first line the bus is the given one, if there is one, and there are no frames
pub no_lines : (given : Option (List ℕ)) → given ≡ bus_of given []
no_lines None = refl
no_lines (Some bus) = refl

pub no_frames : (given : Option (List ℕ)) → frames_of given [] ≡ []
no_frames given = refl

-- a frame on the interface of this name, by the bus that is known before it
pub bus_known : (bus : Option (List ℕ)) (name : List ℕ) (f : FrameRecord) (known : Option (List ℕ)) → known ≡ Some (unwrap_or bus name) → known ≡ bus_of bus (frame name f ∷ [])
bus_known bus name f known is = is ∙ sym (bus_of-frame bus name f)

pub is_on_bus : (bus : Option (List ℕ)) (name : List ℕ) (f : FrameRecord) → bytes_eq name (unwrap_or bus name) ≡ true → frames_of bus (frame name f ∷ []) ≡ f ∷ []
is_on_bus bus name f on = ap (λ (b : Option (List ℕ)). filter_map (frame_on b) (frame name f ∷ [])) (bus_of-frame bus name f) ∙ rw on refl

pub is_elsewhere : (bus : Option (List ℕ)) (name : List ℕ) (f : FrameRecord) → bytes_eq name (unwrap_or bus name) ≡ false → frames_of bus (frame name f ∷ []) ≡ []
is_elsewhere bus name f off = ap (λ (b : Option (List ℕ)). filter_map (frame_on b) (frame name f ∷ [])) (bus_of-frame bus name f) ∙ rw off refl

-- a frame of the bus that is known
pub on_bus_known : (bus : Option (List ℕ)) (name : List ℕ) (f : FrameRecord) → bus ≡ Some name → (bus ≡ bus_of bus (frame name f ∷ [])) × (frames_of bus (frame name f ∷ []) ≡ f ∷ [])
on_bus_known None name f named = cc
on_bus_known (Some bus) name f named =
    let same : name ≡ bus = cc in
    (refl, is_on_bus (Some bus) name f (rw same (bytes_refl bus)))

module _ (lines : List LogLine) (line : LogLine) where
  seen_more : (bus : List ℕ) (f : FrameRecord) → line.spelled ≡ frame bus f → seen_in (lines ++ line ∷ []) ≡ seen_in lines ++ record { bus = bus; content = f } ∷ []
  seen_more bus f is = filter_map-append (λ (l : LogLine). seen_of l.spelled) lines (line ∷ []) ∙ rw is refl

  seen_kept : seen_of line.spelled ≡ None → seen_in (lines ++ line ∷ []) ≡ seen_in lines
  seen_kept is = filter_map-append (λ (l : LogLine). seen_of l.spelled) lines (line ∷ []) ∙ rw is (append-nil (seen_in lines))

  others_more : other_of line.text line.spelled ≡ Some line.text → others_in (lines ++ line ∷ []) ≡ others_in lines ++ line.text ∷ []
  others_more is = filter_map-append (λ (l : LogLine). other_of l.text l.spelled) lines (line ∷ []) ∙ rw is refl

  others_kept : other_of line.text line.spelled ≡ None → others_in (lines ++ line ∷ []) ≡ others_in lines
  others_kept is = filter_map-append (λ (l : LogLine). other_of l.text l.spelled) lines (line ∷ []) ∙ rw is (append-nil (others_in lines))

  form_more : has_log_line (lines ++ line ∷ []) ≡ (has_log_line lines || (has_form line.spelled || false))
  form_more = list_any-append (λ (l : LogLine). has_form l.spelled) lines (line ∷ [])

  spelled_more : spelled_in (lines ++ line ∷ []) ≡ spelled_in lines ++ line.spelled ∷ []
  spelled_more = map-append (λ (l : LogLine). l.spelled) lines (line ∷ [])

  -- the frames of the interface whose groups are counted
  frames_more : (given : Option (List ℕ)) → frames_of given (spelled_in (lines ++ line ∷ [])) ≡ frames_of given (spelled_in lines) ++ frames_of (bus_of given (spelled_in lines)) (line.spelled ∷ [])
  frames_more given = ap (frames_of given) spelled_more ∙ frames_of-append given (spelled_in lines) (line.spelled ∷ [])

  bus_more : (given : Option (List ℕ)) → bus_of given (spelled_in (lines ++ line ∷ [])) ≡ bus_of (bus_of given (spelled_in lines)) (line.spelled ∷ [])
  bus_more given = ap (bus_of given) spelled_more ∙ bus_of-append given (spelled_in lines) (line.spelled ∷ [])

  -- what was heard, and so much more
  pub record HasMetMore (given : Option (List ℕ)) (before : List Hearing) (traffic : Traffic) : Type 0 where
    pub more : Option Hearing
    pub met : HasMet traffic (frames_of given (spelled_in (lines ++ line ∷ []))) (before ++ or_none more)

  -- at a line with no frame of the interface
  pub meets_none : (given : Option (List ℕ)) (before : List Hearing) (old new : Traffic) → new ≡ old → frames_of (bus_of given (spelled_in lines)) (line.spelled ∷ []) ≡ []
      → HasMet old (frames_of given (spelled_in lines)) before → HasMetMore given before new
  meets_none given before old new same none met = record {
    more = None;
    met = rw (same, append-nil before, frames_more given, none, append-nil (frames_of given (spelled_in lines))) met;
  }

  -- at one with a frame of it
  pub meets_one : (given : Option (List ℕ)) (before : List Hearing) (old new : Traffic) (f : FrameRecord) → frames_of (bus_of given (spelled_in lines)) (line.spelled ∷ []) ≡ f ∷ []
      → ((F : List FrameRecord) (heard : List Hearing) → HasMet old F heard → (more : Option Hearing) × HasMet new (F ++ f ∷ []) (heard ++ or_none more))
      → HasMet old (frames_of given (spelled_in lines)) before → HasMetMore given before new
  meets_one given before old new f one meets met =
      let next = meets (frames_of given (spelled_in lines)) before met in
      record { more = next.0; met = rw (frames_more given, one) next.1 }

  -- at a frame of whatever interface, behind the bus that is known
  pub meets_on_bus : (given : Option (List ℕ)) (before : List Hearing) (name : List ℕ) (f : FrameRecord) (bus bus' : Option (List ℕ)) (old new : Traffic) → line.spelled ≡ frame name f
      → bus ≡ bus_of given (spelled_in lines) → MeetsOnBus name f bus bus' old new → HasMet old (frames_of given (spelled_in lines)) before → HasMetMore given before new
  meets_on_bus given before name f bus bus' old new is bus_is meets met =
      elim (cases_Bool (bytes_eq name (unwrap_or bus name))) [
        | inl on ↦ meets_one given before old new f (rw (is, sym bus_is) (is_on_bus bus name f on)) (meets.met on) met
        | inr off ↦ meets_none given before old new (meets.elsewhere off) (rw (is, sym bus_is) (is_elsewhere bus name f off)) met
      ]

  module _ (a b : Survey) (given : Option (List ℕ)) (h : HasSurveyed a given lines) where
    lines_more : b.lines ≡ capped (a.lines + 1) → b.lines ≡ capped (length (lines ++ line ∷ []))
    lines_more more = more ∙ capped_more a.lines (length lines) h.lines_are ∙ ap capped (sym (length_push lines line))

    same_interfaces : seen_of line.spelled ≡ None → b.interfaces ≡ a.interfaces → HaveMet b.interfaces (seen_in (lines ++ line ∷ []))
    same_interfaces none met = rw (seen_kept none, met) h.interfaces_are

    same_place : b.interfaces ≡ a.interfaces → b.bus ≡ a.bus → IsPlaced b.interfaces b.bus
    same_place met bus = rw (met, bus) h.placed

    same_bus : first_bus (line.spelled ∷ []) ≡ None → b.bus ≡ a.bus → b.bus ≡ bus_of given (spelled_in (lines ++ line ∷ []))
    same_bus none bus = bus ∙ h.bus_is ∙ bus_of-kept (bus_of given (spelled_in lines)) line.spelled none ∙ sym (bus_more given)

    same_others : other_of line.text line.spelled ≡ None → b.others ≡ a.others → others_record b.others ≡ others_of (others_in (lines ++ line ∷ []))
    same_others none others = ap others_record others ∙ h.others_are ∙ ap others_of (sym (others_kept none))

    has_more_form : has_form line.spelled ≡ true → b.has_log_line ≡ true → b.has_log_line ≡ has_log_line (lines ++ line ∷ [])
    has_more_form is form = form ∙ sym (form_more ∙ rw is (or-true (has_log_line lines)))

    same_form : has_form line.spelled ≡ false → b.has_log_line ≡ a.has_log_line → b.has_log_line ≡ has_log_line (lines ++ line ∷ [])
    same_form is form = form ∙ h.has_form ∙ sym (or-false (has_log_line lines)) ∙ sym (form_more ∙ rw is refl)

  -- in a frame
  pub surveys_frame : (a b : Survey) (given : Option (List ℕ)) (bus : List ℕ) (f : FrameRecord) → (h : HasSurveyed a given lines) → line.spelled ≡ frame bus f → b.lines ≡ capped (a.lines + 1)
      → ((s : Seen) → s.bus ≡ bus → s.content ≡ f → HaveMet b.interfaces (seen_in lines ++ s ∷ [])) → b.bus ≡ bus_of (bus_of given (spelled_in lines)) (line.spelled ∷ [])
      → IsPlaced b.interfaces b.bus → HasMetMore given h.heard b.traffic → b.others ≡ a.others → b.unread ≡ a.unread → b.has_log_line ≡ true → HasSurveyed b given (lines ++ line ∷ [])
  surveys_frame a b given bus f h is more met bus_is placed traffic others left form =
      let s : Seen = record { bus = bus; content = f } in
      let seen = seen_more bus f is in
      record {
        lines_are = lines_more a b given h more;
        interfaces_are = rw seen (met s refl refl);
        bus_is = bus_is ∙ sym (bus_more given);
        placed = placed;
        heard = h.heard ++ or_none traffic.more;
        met = traffic.met;
        others_are = same_others a b given h (rw is refl) others;
        unread_are = rw (unread_in-more lines line, is, append-nil (unread_in lines), left) h.unread_are;
        has_form = has_more_form a b given h (rw is refl) form;
      }

  -- in another line
  pub surveys_other : (a b : Survey) (given : Option (List ℕ)) → HasSurveyed a given lines → line.spelled ≡ other → b.lines ≡ capped (a.lines + 1)
      → b.interfaces ≡ a.interfaces → b.bus ≡ a.bus → b.traffic ≡ a.traffic → others_record b.others ≡ others_of (others_in lines ++ line.text ∷ [])
      → b.unread ≡ a.unread → b.has_log_line ≡ true → HasSurveyed b given (lines ++ line ∷ [])
  surveys_other a b given h is more met bus traffic others left form =
      let quiet = meets_none given h.heard a.traffic b.traffic traffic (rw is refl) h.met in
      record {
        lines_are = lines_more a b given h more;
        interfaces_are = same_interfaces a b given h (rw is refl) met;
        bus_is = same_bus a b given h (rw is refl) bus;
        placed = same_place a b given h met bus;
        heard = h.heard ++ or_none quiet.more;
        met = quiet.met;
        others_are = others ∙ ap others_of (sym (others_more (rw is refl)));
        unread_are = rw (unread_in-more lines line, is, append-nil (unread_in lines), left) h.unread_are;
        has_form = has_more_form a b given h (rw is refl) form;
      }

  -- in an unread one
  pub surveys_unread : (a b : Survey) (given : Option (List ℕ)) → HasSurveyed a given lines → line.spelled ≡ unread → b.lines ≡ capped (a.lines + 1)
      → b.interfaces ≡ a.interfaces → b.bus ≡ a.bus → b.traffic ≡ a.traffic → b.others ≡ a.others
      → ((u : UnreadRecord) → u.text ≡ line.text → b.lines ≡ capped u.number → HaveNoted b.unread (unread_in lines ++ u ∷ []))
      → b.has_log_line ≡ a.has_log_line → HasSurveyed b given (lines ++ line ∷ [])
  surveys_unread a b given h is more met bus traffic others noted form =
      let number = more ∙ capped_more a.lines (length lines) h.lines_are in
      let quiet = meets_none given h.heard a.traffic b.traffic traffic (rw is refl) h.met in
      record {
        lines_are = lines_more a b given h more;
        interfaces_are = same_interfaces a b given h (rw is refl) met;
        bus_is = same_bus a b given h (rw is refl) bus;
        placed = same_place a b given h met bus;
        heard = h.heard ++ or_none quiet.more;
        met = quiet.met;
        others_are = same_others a b given h (rw is refl) others;
        unread_are = rw (unread_in-more lines line, is) (noted (record { number = length lines + 1; text = line.text }) refl number);
        has_form = same_form a b given h (rw is refl) form;
      }

  -- in a blank one
  pub surveys_blank : (a b : Survey) (given : Option (List ℕ)) → HasSurveyed a given lines → line.spelled ≡ blank → b.lines ≡ capped (a.lines + 1)
      → b.interfaces ≡ a.interfaces → b.bus ≡ a.bus → b.traffic ≡ a.traffic → b.others ≡ a.others → b.unread ≡ a.unread → b.has_log_line ≡ a.has_log_line
      → HasSurveyed b given (lines ++ line ∷ [])
  surveys_blank a b given h is more met bus traffic others left form =
      let quiet = meets_none given h.heard a.traffic b.traffic traffic (rw is refl) h.met in
      record {
        lines_are = lines_more a b given h more;
        interfaces_are = same_interfaces a b given h (rw is refl) met;
        bus_is = same_bus a b given h (rw is refl) bus;
        placed = same_place a b given h met bus;
        heard = h.heard ++ or_none quiet.more;
        met = quiet.met;
        others_are = same_others a b given h (rw is refl) others;
        unread_are = rw (unread_in-more lines line, is, append-nil (unread_in lines), left) h.unread_are;
        has_form = same_form a b given h (rw is refl) form;
      }

-- ---- a log has one list of lines

same_lines_each : (a b : List LogLine) → map (λ (l : LogLine). l.text) a ≡ map (λ (l : LogLine). l.text) b → AllByRecursion IsSpelled a → AllByRecursion IsSpelled b → a ≡ b
same_lines_each [] [] e p q = refl
same_lines_each [] (y ∷ b) e p q = cc
same_lines_each (x ∷ a) [] e p q = cc
same_lines_each (x ∷ a) (y ∷ b) e p q =
    let text : x.text ≡ y.text = cc in
    let rest : map (λ (l : LogLine). l.text) a ≡ map (λ (l : LogLine). l.text) b = cc in
    let spelled = one_spelled y.text x.spelled y.spelled (subst (λ t. Spells t x.spelled) text p.0) q.0 in
    let head : x ≡ y = λ i. record { text = text i; spelled = spelled i } in
    ap₂ (λ (h : LogLine) (t : List LogLine). h ∷ t) head (same_lines_each a b rest p.1 q.1)

pub same_log_lines : (bytes : List ℕ) (a b : List LogLine) → AreLogLines bytes a → AreLogLines bytes b → a ≡ b
same_log_lines bytes a b p q = same_lines_each a b (same_lines bytes _ _ p.are_lines q.are_lines) p.are_spelled q.are_spelled

-- ---- and one list of messages in packets

pub same_heard : (F : List FrameRecord) (a b : List Hearing) → ArePutTogether F a → ArePutTogether F b → a ≡ b
same_heard F a b x y = heard_below_unique (λ (pgn : ℕ). false) (λ pgn is. refl) F (length F) a b x y

-- so one survey
pub same_survey : (form : Format) (naming : NamingRecord) (given : Option (List ℕ)) (bytes : List ℕ) (a b : List LogLine) (h k : List Hearing) → AreLogLines bytes a → AreLogLines bytes b
    → ArePutTogether (frames_of given (spelled_in a)) h → ArePutTogether (frames_of given (spelled_in b)) k → survey_text form naming given a h ≡ survey_text form naming given b k
same_survey form naming given bytes a b h k are are_too together too =
    let same = same_log_lines bytes a b are are_too in
    let heard = same_heard (frames_of given (spelled_in b)) h k (subst (λ (ls : List LogLine). ArePutTogether (frames_of given (spelled_in ls)) h) same together) too in
    ap (λ (ls : List LogLine). survey_text form naming given ls h) same ∙ ap (λ (hs : List Hearing). survey_text form naming given b hs) heard
