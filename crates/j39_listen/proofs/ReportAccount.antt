-- The report as an account, in whatever form: what is taken of what is heard in more frames, and its text.
use Rattle.std.proofs.Common.{Bor, arith, ◌≡◌, ◌∙◌, ◌++◌, ◌∷◌, [], ℕ, Bool, List, Option, Some, None, ap, append-nil, append_assoc, flat_map, if◌then◌else◌, length, length-append, refl, subst, sym}
use Rattle.std.specs.Io.KnownBytes.{Appends}
use Rattle.std.proofs.KnownBytes.{Appends-nil}
use Rattle.std.proofs.lemmas.Grind.{flat_map-append}
use Rattle.std.proofs.lemmas.List.Elements.{filter-append}
use Rattle.j39_io.specs.Device.{AppendsFront}
use Rattle.j39_frame.specs.Frame.{FrameRecord}
use Rattle.j39_groups.specs.Readings.{is_reported_in, readings_in}
use Rattle.j39_groups.specs.Row.{RowRecord}
use Rattle.j39_listen.specs.AccountCalls.{Begins, MakesOne, Meets, Stops}
use Rattle.j39_listen.specs.Chooses.{Chooses}
use Rattle.j39_listen.specs.Counting.{capped}
use Rattle.j39_listen.specs.Filter.{FilterRecord, MakesFilteredIn, filtered_of, first_stamp, taken, takes, takes_message}
use Rattle.j39_listen.specs.Heard.{AreHeard, HeardAt, Hearing, or_none}
use Rattle.j39_listen.specs.Listening.{Hears}
use Rattle.j39_listen.specs.Output.{Output}
use Rattle.j39_listen.specs.Report.{Entry, Form, entries_of}
use Rattle.j39_listen.specs.ReportSoFar.{HasReported, MeetsFrame, StopsFrame, Subject, made_by, made_of, made_sum}
use Rattle.j39_listen.specs.declared.counts.Made.{Made}
use Rattle.j39_listen.specs.declared.listener.Listener.{Listener}
use Rattle.j39_listen.specs.declared.report.Report.{Report}
use Rattle.j39_listen.proofs.Causal.{heard_more}
use Rattle.j39_listen.proofs.FilterLemmas.{of_message}
use Rattle.j39_listen.proofs.LineLemmas.{capped-sum}
use Rattle.j39_listen.proofs.Reported.{reported_leaves}
use Rattle.j39_listen.proofs.Unique.{heard_below_unique, heard_first}

pub same_made : (a b : Made) → a.messages ≡ b.messages → a.lines ≡ b.lines → a ≡ b
same_made a b m l = λ i. record { messages = m i; lines = l i }

-- what is met at a frame by a table, and where it stops, are those by the same table
module _ (form : Form) {which : FilterRecord} {F : List FrameRecord} {f : FrameRecord} {old new : Option (List ℕ)} {a b : List RowRecord} (same : a ≡ b) where
  pub meets_by : {l' : Listener} {made : Made} → MeetsFrame form (record { rows = a; which = which }) l' F f made old new
      → MeetsFrame form (record { rows = b; which = which }) l' F f made old new
  meets_by {l'} {made} meets = subst (λ (rows : List RowRecord). MeetsFrame form (record { rows = rows; which = which }) l' F f made old new) same meets

  pub stops_by : StopsFrame form (record { rows = a; which = which }) F f old new → StopsFrame form (record { rows = b; which = which }) F f old new
  stops_by stops = subst (λ (rows : List RowRecord). StopsFrame form (record { rows = rows; which = which }) F f old new) same stops

module _ (form : Form) (subject : Subject) where
  abbrev groups : List RowRecord
  groups = subject.rows

  abbrev which : FilterRecord
  which = subject.which

  abbrev of : ℕ → List Hearing → Output
  of first heard = filtered_of form groups which first heard

  -- what is heard in no frames is nothing, and in some the first stays
  same_first : (F G : List FrameRecord) (heard : List Hearing) → AreHeard groups F heard → of (first_stamp F) heard ≡ of (first_stamp (F ++ G)) heard
  same_first [] G heard are = ap (of 0) are ∙ sym (ap (of (first_stamp G)) are)
  same_first (f ∷ F) G heard are = refl

  entries-append : (first : ℕ) (hs ks : List Hearing) → taken which first (flat_map (entries_of groups) (hs ++ ks))
      ≡ taken which first (flat_map (entries_of groups) hs) ++ taken which first (flat_map (entries_of groups) ks)
  entries-append first hs ks = ap (taken which first) (flat_map-append (entries_of groups) hs ks)
      ∙ filter-append (takes which first) (flat_map (entries_of groups) hs) (flat_map (entries_of groups) ks)

  text-append : (first : ℕ) (hs ks : List Hearing) → (of first (hs ++ ks)).text ≡ (of first hs).text ++ (of first ks).text
  text-append first hs ks = ap (flat_map (form groups)) (entries-append first hs ks)
      ∙ flat_map-append (form groups) (taken which first (flat_map (entries_of groups) hs)) (taken which first (flat_map (entries_of groups) ks))

  made-append : (first : ℕ) (hs ks : List Hearing) → made_of (of first (hs ++ ks)) ≡ made_sum (made_of (of first hs)) (made_of (of first ks))
  made-append first hs ks =
      same_made (made_of (of first (hs ++ ks))) (made_sum (made_of (of first hs)) (made_of (of first ks)))
      (capped-sum _ _ _ (length-append hs ks))
      (capped-sum _ _ _ (ap length (entries-append first hs ks) ∙ length-append (taken which first (flat_map (entries_of groups) hs)) _))

  -- ---- one frame

  pub meets_silent : (l' : Listener) (F : List FrameRecord) (f : FrameRecord) (held : Option (List ℕ)) → HeardAt groups (F ++ f ∷ []) (length F) None
      → Hears l' (F ++ f ∷ []) → MeetsFrame form subject l' F f (made_by None) held held
  meets_silent l' F f held silent hears = record {
    heard = None;
    heard_at = silent;
    hears = hears;
    made_is = same_made _ _ refl refl;
    written = Appends-nil held;
  }

  -- all entries of a message are taken, or none
  one_message : (first : ℕ) (h : Hearing) (is_taken : Bool) → is_taken ≡ takes_message which first h
      → taken which first (flat_map (entries_of groups) (h ∷ [])) ≡ (if is_taken then entries_of groups h else [])
  one_message first h is_taken is = ap (taken which first) (append-nil (entries_of groups h))
      ∙ of_message which first h (readings_in groups h.message.pgn h.message.bytes) is_taken (sym is)

  pub meets_heard : (l' : Listener) (F : List FrameRecord) (f : FrameRecord) (h : Hearing) (is_taken : Bool) (lines : ℕ) (old new : Option (List ℕ))
      → HeardAt groups (F ++ f ∷ []) (length F) (Some h) → Hears l' (F ++ f ∷ []) → is_taken ≡ takes_message which (first_stamp (F ++ f ∷ [])) h
      → lines ≡ capped (length (if is_taken then entries_of groups h else [])) → Appends old new (flat_map (form groups) (if is_taken then entries_of groups h else []))
      → MeetsFrame form subject l' F f (made_by (Some lines)) old new
  meets_heard l' F f h is_taken lines old new at hears is count text =
      let one = one_message (first_stamp (F ++ f ∷ [])) h is_taken is in
      record {
        heard = Some h;
        heard_at = at;
        hears = hears;
        made_is = same_made _ (made_of (of (first_stamp (F ++ f ∷ [])) (h ∷ []))) refl (count ∙ sym (ap (λ (es : List Entry). capped (length es)) one));
        written = subst (Appends old new) (sym (ap (flat_map (form groups)) one)) text;
      }

  pub stops_heard : (F : List FrameRecord) (f : FrameRecord) (h : Hearing) (is_taken : Bool) (old new : Option (List ℕ))
      → HeardAt groups (F ++ f ∷ []) (length F) (Some h) → is_taken ≡ takes_message which (first_stamp (F ++ f ∷ [])) h
      → AppendsFront old new (flat_map (form groups) (if is_taken then entries_of groups h else [])) → StopsFrame form subject F f old new
  stops_heard F f h is_taken old new at is front = record {
    heard = Some h;
    heard_at = at;
    front = subst (AppendsFront old new) (sym (ap (flat_map (form groups)) (one_message (first_stamp (F ++ f ∷ [])) h is_taken is))) front;
  }

  -- a frame goes to the report
  pub report_meets : {E : Type 0} (table : E → List RowRecord) (r r' : Report E) → r'.roles.groups ≡ r.roles.groups → table r'.form ≡ table r.form → (f : FrameRecord)
      → ((asked : FilterRecord) (F : List FrameRecord) → Chooses asked r.chooser F → Chooses asked r'.chooser (F ++ f ∷ [])) → (made : Made) (old new : Option (List ℕ))
      → ((asked : FilterRecord) (F : List FrameRecord) → table r.form ≡ r.roles.groups.now → Hears r.listener F → Chooses asked r'.chooser (F ++ f ∷ [])
      → MeetsFrame form (record { rows = r.roles.groups.now; which = asked }) r'.listener F f made old new)
      → r'.made ≡ made_sum r.made made → Meets (HasReported form table subject) r r' (f ∷ []) old new
  report_meets table r r' kept form_kept f notes made old new meets sum = λ F before has.
      let chooses = notes which F has.chooses in
      let m : MeetsFrame form subject r'.listener F f made old new =
      subst (λ (table : List RowRecord). MeetsFrame form (record { rows = table; which = which }) r'.listener F f made old new) has.by (meets which F (has.form_by ∙ sym has.by) has.hears chooses) in
      let more = or_none m.heard in
      let first = first_stamp (F ++ f ∷ []) in
      let before_is : before ≡ of first has.heard = has.output_is ∙ same_first F (f ∷ []) has.heard has.are_heard in
      record {
        after = of first (has.heard ++ more);
        met = record {
          by = ap (λ (x : Bor (List RowRecord)). x.now) kept ∙ has.by;
          form_by = form_kept ∙ has.form_by;
          chooses = chooses;
          heard = has.heard ++ more;
          are_heard = heard_more (is_reported_in groups) F f has.heard m.heard has.are_heard m.heard_at;
          output_is = refl;
          hears = m.hears;
          made_is = sum ∙ ap (λ (x : Made). made_sum x made) (has.made_is ∙ ap made_of before_is) ∙ ap (made_sum (made_of (of first has.heard))) m.made_is
              ∙ sym (made-append first has.heard more);
        };
        more = (of first more).text;
        text_is = text-append first has.heard more ∙ ap (λ t. t ++ (of first more).text) (sym (ap (λ (o : Output). o.text) before_is));
        written = m.written;
      }

  -- ---- what is heard in the first frames comes first

  -- the texts of what comes first and of the rest
  texts : (bus : List ℕ) (F G : List FrameRecord) (first : List Hearing) (before all : Output) → AreHeard groups F first → before ≡ of (first_stamp F) first
      → MakesFilteredIn form groups which bus (F ++ G) all → (rest : List Hearing) × (all.text ≡ before.text ++ (of (first_stamp (F ++ G)) rest).text)
  texts bus F G first before all are is (heard, are_all, all_is) =
      let split = heard_first (is_reported_in groups) (reported_leaves groups) F G heard first are_all are in
      let at = first_stamp (F ++ G) in (
        split.0,
        ap (λ (o : Output). o.text) all_is ∙ ap (λ (hs : List Hearing). (of at hs).text) split.1 ∙ text-append at first split.0
            ∙ ap (λ t. t ++ (of at split.0).text) (sym (ap (λ (o : Output). o.text) (is ∙ same_first F G first are))),
      )

  pub report_begins : (E : Type 0) (table : E → List RowRecord) → Begins {A = Report E} (λ bus. HasReported form table subject) (MakesFilteredIn form groups which)
  report_begins E table = λ bus r F G before all has made.
      let t = texts bus F G has.heard before all has.are_heard has.output_is made in
      ((of (first_stamp (F ++ G)) t.0).text, t.1)

  -- all that is made of the frames is made as they are met
  pub reported_makes : {E : Type 0} (table : E → List RowRecord) (bus : List ℕ) (r : Report E) (F : List FrameRecord) (output : Output) → HasReported form table subject r F output
      → MakesFilteredIn form groups which bus F output
  reported_makes table bus r F output has = (has.heard, has.are_heard, has.output_is)

  pub report_one : MakesOne (MakesFilteredIn form groups which)
  report_one = λ bus F x y (hs, are_x, is_x) (ks, are_y, is_y).
      ap (λ (o : Output). o.text) is_x
      ∙ ap (λ (hearings : List Hearing). (of (first_stamp F) hearings).text) (heard_below_unique (is_reported_in groups) (reported_leaves groups) F (length F) hs ks are_x are_y)
      ∙ sym (ap (λ (o : Output). o.text) is_y)

  -- a fault of the writer at a frame
  pub report_stops : {E : Type 0} (table : E → List RowRecord) (r : Report E) (f : FrameRecord)
      (old new : Option (List ℕ))
      → ((F : List FrameRecord) → table r.form ≡ r.roles.groups.now → Hears r.listener F → Chooses which r.chooser F → StopsFrame form (record { rows = r.roles.groups.now; which = which }) F f old new)
      → (bus : List ℕ) → Stops (HasReported form table subject) (MakesFilteredIn form groups which bus) r (f ∷ []) old new
  report_stops table r f old new stops bus = λ F G before all has made.
      let m : StopsFrame form subject F f old new =
      subst (λ (table : List RowRecord). StopsFrame form (record { rows = table; which = which }) F f old new) has.by (stops F (has.form_by ∙ sym has.by) has.hears has.chooses) in
      let more = or_none m.heard in
      let H = F ++ f ∷ [] in
      let t = texts bus H G (has.heard ++ more) (of (first_stamp H) (has.heard ++ more)) all
      (heard_more (is_reported_in groups) F f has.heard m.heard has.are_heard m.heard_at) refl made in
      let rest = (of (first_stamp (H ++ G)) t.0).text in
      let before_is : before ≡ of (first_stamp H) has.heard = has.output_is ∙ same_first F (f ∷ []) has.heard has.are_heard in
      let is_all : all.text ≡ before.text ++ ((of (first_stamp H) more).text ++ rest) =
      t.1 ∙ ap (λ x. x ++ rest) (text-append (first_stamp H) has.heard more)
      ∙ append_assoc (of (first_stamp H) has.heard).text (of (first_stamp H) more).text rest
      ∙ ap (λ x. x ++ ((of (first_stamp H) more).text ++ rest)) (sym (ap (λ (o : Output). o.text) before_is)) in
      record {
        rest = (of (first_stamp H) more).text ++ rest;
        all_is = is_all;
        front = (m.front.0, m.front.1 ++ rest, ap (λ x. x ++ rest) m.front.2 ∙ append_assoc m.front.0 m.front.1 rest, m.front.3);
      }

  -- a frame at which nothing is heard, and that leaves the report as it is
  pub report_passes : {E : Type 0} (table : E → List RowRecord) (r : Report E) (f : FrameRecord) (held : Option (List ℕ)) → ((asked : FilterRecord) (F : List FrameRecord) → Chooses asked r.chooser F → Chooses asked r.chooser (F ++ f ∷ []))
      → ((asked : FilterRecord) (F : List FrameRecord) → Hears r.listener F → MeetsFrame form (record { rows = r.roles.groups.now; which = asked }) r.listener F f (made_by None) held held)
      → Meets (HasReported form table subject) r r (f ∷ []) held held
  report_passes table r f held notes meets = λ F before has.
      let same : r.made ≡ made_sum r.made (made_by None) =
      has.made_is ∙ same_made _ _ (capped-sum before.messages 0 before.messages (omega arith)) (capped-sum before.lines 0 before.lines (omega arith))
      ∙ ap (λ (x : Made). made_sum x (made_by None)) (sym has.made_is) in
      report_meets table r r refl refl f notes (made_by None) held held (λ asked G same_table hears chosen. meets asked G hears) same F before has
