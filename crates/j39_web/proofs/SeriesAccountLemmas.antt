-- The readings of one parameter of one controller, frame by frame: what is heard in more frames, and its points.
use Rattle.std.proofs.Common.{Bor, ◌≡◌, ◌∙◌, ◌++◌, ◌∷◌, [], ℕ, List, Option, None, Some, ap, append-nil, append_assoc, flat_map, length, length-append, refl, subst, sym}
use Rattle.std.specs.Io.KnownBytes.{Appends}
use Rattle.std.proofs.KnownBytes.{Appends-nil}
use Rattle.std.proofs.lemmas.Grind.{flat_map-append}
use Rattle.j39_io.specs.Device.{AppendsFront}
use Rattle.j39_frame.specs.Frame.{FrameRecord}
use Rattle.j39_groups.specs.Readings.{is_reported_in}
use Rattle.j39_groups.specs.Row.{RowRecord}
use Rattle.j39_listen.specs.AccountCalls.{Begins, MakesOne, Meets, Stops}
use Rattle.j39_listen.specs.Counting.{capped}
use Rattle.j39_listen.specs.Filter.{no_filter}
use Rattle.j39_listen.specs.Heard.{AreHeard, HeardAt, Hearing, or_none}
use Rattle.j39_listen.specs.Listening.{Hears}
use Rattle.j39_listen.specs.Output.{Making, MakesReportIn, Output}
use Rattle.j39_listen.specs.Report.{Entry, Form, entries_of}
use Rattle.j39_listen.specs.ReportSoFar.{made_by, made_of, made_sum}
use Rattle.j39_listen.specs.declared.counts.Made.{Made}
use Rattle.j39_listen.specs.declared.listener.Listener.{Listener}
use Rattle.j39_listen.proofs.Causal.{heard_more}
use Rattle.j39_listen.proofs.FilterLemmas.{unfiltered}
use Rattle.j39_listen.proofs.LineLemmas.{capped-sum}
use Rattle.j39_listen.proofs.ReportAccount.{report_one, same_made}
use Rattle.j39_listen.proofs.Reported.{reported_leaves}
use Rattle.j39_listen.proofs.Unique.{heard_first}
use Rattle.j39_web.specs.Series.{MakesSeries}
use Rattle.j39_web.specs.SeriesSoFar.{HasGathered, MeetsFrame, StopsFrame, Subject, gathered, series_form}
use Rattle.j39_web.specs.declared.points.SeriesOrigin.{SeriesOrigin}
use Rattle.j39_web.specs.declared.series.SeriesAccount.{SeriesAccount}

-- of the whole report there is one text, in whatever form
pub whole_one : (form : Form) (rows : List RowRecord) → MakesOne (MakesReportIn form rows)
whole_one form rows = subst (λ (making : Making). MakesOne making) (unfiltered form rows) (report_one form (record { rows = rows; which = no_filter }))

module _ (subject : Subject) where
  abbrev form : Form
  form = series_form subject.of

  abbrev groups : List RowRecord
  groups = subject.rows

  abbrev text : List Hearing → List ℕ
  text heard = (gathered subject heard).text

  text-append : (hs ks : List Hearing) → text (hs ++ ks) ≡ text hs ++ text ks
  text-append hs ks = ap (flat_map (form groups)) (flat_map-append (entries_of groups) hs ks) ∙ flat_map-append (form groups) (flat_map (entries_of groups) hs) (flat_map (entries_of groups) ks)

  made-append : (hs ks : List Hearing) → made_of (gathered subject (hs ++ ks)) ≡ made_sum (made_of (gathered subject hs)) (made_of (gathered subject ks))
  made-append hs ks =
      same_made (made_of (gathered subject (hs ++ ks))) (made_sum (made_of (gathered subject hs)) (made_of (gathered subject ks)))
      (capped-sum _ _ _ (length-append hs ks))
      (capped-sum _ _ _ (ap length (flat_map-append (entries_of groups) hs ks) ∙ length-append (flat_map (entries_of groups) hs) _))

  -- ---- one frame

  pub meets_silent : (l' : Listener) (F : List FrameRecord) (f : FrameRecord) (held : Option (List ℕ)) → HeardAt groups (F ++ f ∷ []) (length F) None → Hears l' (F ++ f ∷ [])
      → MeetsFrame subject l' F f (made_by None) held held
  meets_silent l' F f held silent hears = record {
    heard = None;
    heard_at = silent;
    hears = hears;
    made_is = same_made _ _ refl refl;
    written = Appends-nil held;
  }

  one_text : (h : Hearing) → text (h ∷ []) ≡ flat_map (form groups) (entries_of groups h)
  one_text h = ap (flat_map (form groups)) (append-nil (entries_of groups h))

  pub meets_heard : (l' : Listener) (F : List FrameRecord) (f : FrameRecord) (h : Hearing) (lines : ℕ) (old new : Option (List ℕ)) → HeardAt groups (F ++ f ∷ []) (length F) (Some h)
      → Hears l' (F ++ f ∷ []) → lines ≡ capped (length (entries_of groups h)) → Appends old new (flat_map (form groups) (entries_of groups h))
      → MeetsFrame subject l' F f (made_by (Some lines)) old new
  meets_heard l' F f h lines old new at hears is points = record {
    heard = Some h;
    heard_at = at;
    hears = hears;
    made_is = same_made _ (made_of (gathered subject (h ∷ []))) refl (is ∙ sym (ap (λ (es : List Entry). capped (length es)) (append-nil (entries_of groups h))));
    written = subst (Appends old new) (sym (one_text h)) points;
  }

  pub stops_heard : (F : List FrameRecord) (f : FrameRecord) (h : Hearing) (old new : Option (List ℕ)) → HeardAt groups (F ++ f ∷ []) (length F) (Some h)
      → AppendsFront old new (flat_map (form groups) (entries_of groups h)) → StopsFrame subject F f old new
  stops_heard F f h old new at front = record { heard = Some h; heard_at = at; front = subst (AppendsFront old new) (sym (one_text h)) front }

  -- a frame goes to the account
  pub series_meets : (a a' : SeriesAccount) → a'.of ≡ a.of → a'.groups ≡ a.groups → (f : FrameRecord) (made : Made) (old new : Option (List ℕ))
      → ((F : List FrameRecord) → Hears a.listener F → MeetsFrame (record { of = a.of; rows = a.groups.now }) a'.listener F f made old new)
      → a'.made ≡ made_sum a.made made → Meets (HasGathered subject) a a' (f ∷ []) old new
  series_meets a a' of kept f made old new meets sum = λ F before has.
      let m : MeetsFrame subject a'.listener F f made old new =
      subst (λ (o : SeriesOrigin). MeetsFrame (record { of = o; rows = groups }) a'.listener F f made old new) has.of_is
      (subst (λ (table : List RowRecord). MeetsFrame (record { of = a.of; rows = table }) a'.listener F f made old new) has.by (meets F has.hears)) in
      let more = or_none m.heard in
      record {
        after = gathered subject (has.heard ++ more);
        met = record {
          of_is = of ∙ has.of_is;
          by = ap (λ (x : Bor (List RowRecord)). x.now) kept ∙ has.by;
          heard = has.heard ++ more;
          are_heard = heard_more (is_reported_in groups) F f has.heard m.heard has.are_heard m.heard_at;
          output_is = refl;
          hears = m.hears;
          made_is = sum ∙ ap (λ (x : Made). made_sum x made) (has.made_is ∙ ap made_of has.output_is) ∙ ap (made_sum (made_of (gathered subject has.heard))) m.made_is
              ∙ sym (made-append has.heard more);
        };
        more = text more;
        text_is = text-append has.heard more ∙ ap (λ t. t ++ text more) (sym (ap (λ (o : Output). o.text) has.output_is));
        written = m.written;
      }

  -- ---- what is heard in the first frames comes first

  -- the texts of what comes first and of the rest
  texts : (bus : List ℕ) (F G : List FrameRecord) (first : List Hearing) (before all : Output) → AreHeard groups F first → before ≡ gathered subject first
      → MakesSeries subject.of groups bus (F ++ G) all → (rest : List Hearing) × (all.text ≡ before.text ++ text rest)
  texts bus F G first before all are is (heard, are_all, all_is) =
      let split = heard_first (is_reported_in groups) (reported_leaves groups) F G heard first are_all are in (
        split.0,
        ap (λ (o : Output). o.text) all_is ∙ ap text split.1 ∙ text-append first split.0 ∙ ap (λ t. t ++ text split.0) (sym (ap (λ (o : Output). o.text) is)),
      )

  pub series_begins : Begins {A = SeriesAccount} (λ bus. HasGathered subject) (MakesSeries subject.of groups)
  series_begins = λ bus a F G before all has made.
      let t = texts bus F G has.heard before all has.are_heard has.output_is made in
      (text t.0, t.1)

  -- a fault of the writer at a frame
  pub series_stops : (a : SeriesAccount) (f : FrameRecord) (old new : Option (List ℕ))
      → ((F : List FrameRecord) → Hears a.listener F → StopsFrame (record { of = a.of; rows = a.groups.now }) F f old new)
      → (bus : List ℕ) → Stops (HasGathered subject) (MakesSeries subject.of groups bus) a (f ∷ []) old new
  series_stops a f old new stops bus = λ F G before all has made.
      let s : StopsFrame subject F f old new =
      subst (λ (o : SeriesOrigin). StopsFrame (record { of = o; rows = groups }) F f old new) has.of_is
      (subst (λ (table : List RowRecord). StopsFrame (record { of = a.of; rows = table }) F f old new) has.by (stops F has.hears)) in
      let more = or_none s.heard in
      let first = has.heard ++ more in
      let t = texts bus (F ++ f ∷ []) G first (gathered subject first) all (heard_more (is_reported_in groups) F f has.heard s.heard has.are_heard s.heard_at) refl made in
      let is : all.text ≡ before.text ++ (text more ++ text t.0) =
      t.1 ∙ ap (λ x. x ++ text t.0) (text-append has.heard more) ∙ append_assoc (text has.heard) (text more) (text t.0)
      ∙ ap (λ x. x ++ (text more ++ text t.0)) (sym (ap (λ (o : Output). o.text) has.output_is)) in
      record {
        rest = text more ++ text t.0;
        all_is = is;
        front = (s.front.0, s.front.1 ++ text t.0, ap (λ x. x ++ text t.0) s.front.2 ∙ append_assoc s.front.0 s.front.1 (text t.0), s.front.3);
      }
