-- The grid as an account: what is heard at one frame more, and its end.
use Rattle.std.proofs.Common.{arith, Bor, ◌≡◌, ◌+◌, ◌∙◌, ◌++◌, ◌∷◌, [], ℕ, List, Option, Some, None, true, false, ap, append-nil, append_assoc, filter, flat_map, length, length-append, refl, subst, sym}
use Rattle.std.specs.Io.KnownBytes.{Appends}
use Rattle.std.proofs.KnownBytes.{Appends-nil}
use Rattle.std.proofs.lemmas.Grind.{flat_map-append}
use Rattle.std.proofs.lemmas.List.Elements.{filter-append}
use Rattle.j39_frame.specs.Frame.{FrameRecord}
use Rattle.j39_groups.specs.Readings.{is_reported_in, readings_in}
use Rattle.j39_groups.specs.Row.{RowRecord}
use Rattle.j39_io.specs.Device.{AppendsFront}
use Rattle.j39_listen.specs.AccountCalls.{Begins, Closes, MakesOne, Meets, Stops, StopsAtEnd}
use Rattle.j39_listen.specs.Chooses.{Chooses}
use Rattle.j39_listen.specs.Counting.{capped}
use Rattle.j39_listen.specs.Filter.{FilterRecord, first_stamp, messages_taken, takes_message}
use Rattle.j39_listen.specs.Heard.{AreHeard, HeardAt, Hearing, or_none}
use Rattle.j39_listen.specs.Listening.{Hears}
use Rattle.j39_listen.specs.Output.{Output, nothing}
use Rattle.j39_listen.specs.Report.{Entry, entries_of}
use Rattle.j39_listen.specs.declared.listener.Listener.{Listener}
use Rattle.j39_listen.proofs.Causal.{heard_more}
use Rattle.j39_listen.proofs.Reported.{reported_leaves}
use Rattle.j39_listen.proofs.Unique.{heard_below_unique, heard_first}
use Rattle.j39_grid.specs.Grid.{Asked, grid_text, has_column, spans_back, spans_of}
use Rattle.j39_grid.specs.GridModels.{RowsRecord, asked_of, rows_of}
use Rattle.j39_grid.specs.GridRun.{MakesRows, Subject, entries_heard, grid_of}
use Rattle.j39_grid.specs.GridSoFar.{HasGridded, NotesFrame, StopsFrame, ended_text, kept_of, lines_with, pending_text, rows_behind, shown, text_behind}
use Rattle.j39_grid.specs.declared.account.GridAccount.{GridAccount}
use Rattle.j39_grid.proofs.RowLemmas.{grid_begins, grid_is, lines_are, rows_all, text_all}

module _ (subject : Subject) where
  abbrev asked : Asked
  asked = subject.asked

  -- nothing is heard yet
  pub grid_new : (g : GridAccount) → g.groups.now ≡ subject.rows → asked_of g.rows.asked ≡ asked → Chooses subject.which g.chooser [] → Hears g.listener []
      → rows_of g.rows ≡ shown asked [] → g.messages ≡ 0 → HasGridded subject g [] nothing
  unfolding spans_back
  grid_new g by same chooses hears rows none = record {
    by = by;
    asked_is = same;
    chooses = chooses;
    heard = [];
    are_heard = refl;
    hears = hears;
    rows_are = rows;
    text_is = refl;
    messages_are = none;
  }

  -- ---- what is taken

  -- what is heard in no frames is nothing, and in some the first stays
  same_first : (F G : List FrameRecord) (heard : List Hearing) → AreHeard subject.rows F heard
      → entries_heard subject F heard ≡ entries_heard subject (F ++ G) heard
  same_first [] G heard are = ap (entries_heard subject []) are ∙ sym (ap (entries_heard subject G) are)
  same_first (f ∷ F) G heard are = refl

  entries_more : (F : List FrameRecord) (hs ks : List Hearing) → entries_heard subject F (hs ++ ks) ≡ entries_heard subject F hs ++ entries_heard subject F ks
  entries_more F hs ks =
      let taken = messages_taken subject.which (first_stamp F) in
      ap (λ (ms : List Hearing). filter (has_column asked.spns) (flat_map (entries_of subject.rows) ms)) (filter-append (takes_message subject.which (first_stamp F)) hs ks)
      ∙ ap (filter (has_column asked.spns)) (flat_map-append (entries_of subject.rows) (taken hs) (taken ks))
      ∙ filter-append (has_column asked.spns) (flat_map (entries_of subject.rows) (taken hs)) (flat_map (entries_of subject.rows) (taken ks))

  -- ---- one frame

  -- nothing that counts is heard
  nothing_new : (l' : Listener) (F : List FrameRecord) (f : FrameRecord) (heard : Option Hearing) (kept : RowsRecord) (messages : ℕ) (held : Option (List ℕ))
      → HeardAt subject.rows (F ++ f ∷ []) (length F) heard → Hears l' (F ++ f ∷ []) → messages ≡ length (or_none heard)
      → entries_heard subject (F ++ f ∷ []) (or_none heard) ≡ [] → NotesFrame subject F f l' kept kept messages held held
  unfolding rows_behind text_behind
  nothing_new l' F f heard kept messages held at hears count none = record {
    heard = heard;
    heard_at = at;
    hears = hears;
    messages_are = count;
    rows_are = ap (rows_behind asked kept) (sym none);
    written = subst (λ es. Appends held held (text_behind asked kept es)) (sym none) (Appends-nil held);
  }

  pub notes_silent : (l' : Listener) (F : List FrameRecord) (f : FrameRecord) (kept : RowsRecord) (held : Option (List ℕ))
      → HeardAt subject.rows (F ++ f ∷ []) (length F) None → Hears l' (F ++ f ∷ []) → NotesFrame subject F f l' kept kept 0 held held
  notes_silent l' F f kept held at hears = nothing_new l' F f None kept 0 held at hears refl refl

  -- a message that the filter leaves
  pub notes_left : (l' : Listener) (F : List FrameRecord) (f : FrameRecord) (h : Hearing) (kept : RowsRecord) (held : Option (List ℕ))
      → HeardAt subject.rows (F ++ f ∷ []) (length F) (Some h) → Hears l' (F ++ f ∷ []) → takes_message subject.which (first_stamp (F ++ f ∷ [])) h ≡ false
      → NotesFrame subject F f l' kept kept 1 held held
  notes_left l' F f h kept held at hears is = nothing_new l' F f (Some h) kept 1 held at hears refl (rw is refl)

  -- and one that it takes
  pub one_heard : (F : List FrameRecord) (h : Hearing) → takes_message subject.which (first_stamp F) h ≡ true
      → entries_heard subject F (h ∷ []) ≡ kept_of asked h (readings_in subject.rows h.message.pgn h.message.bytes)
  one_heard F h is =
      let one : messages_taken subject.which (first_stamp F) (h ∷ []) ≡ h ∷ [] = rw is refl in
      ap (λ (ms : List Hearing). filter (has_column asked.spns) (flat_map (entries_of subject.rows) ms)) one
      ∙ ap (filter (has_column asked.spns)) (append-nil (entries_of subject.rows h))

  pub notes_heard : (l' : Listener) (F : List FrameRecord) (f : FrameRecord) (h : Hearing) (before after : RowsRecord) (old new : Option (List ℕ))
      → HeardAt subject.rows (F ++ f ∷ []) (length F) (Some h) → Hears l' (F ++ f ∷ []) → takes_message subject.which (first_stamp (F ++ f ∷ [])) h ≡ true
      → after ≡ rows_behind asked before (kept_of asked h (readings_in subject.rows h.message.pgn h.message.bytes))
      → Appends old new (text_behind asked before (kept_of asked h (readings_in subject.rows h.message.pgn h.message.bytes)))
      → NotesFrame subject F f l' before after 1 old new
  notes_heard l' F f h before after old new at hears is rows text =
      let one = one_heard (F ++ f ∷ []) h is in
      record {
        heard = Some h;
        heard_at = at;
        hears = hears;
        messages_are = refl;
        rows_are = rows ∙ ap (rows_behind asked before) (sym one);
        written = subst (λ es. Appends old new (text_behind asked before es)) (sym one) text;
      }

  pub stops_heard : (F : List FrameRecord) (f : FrameRecord) (h : Hearing) (before : RowsRecord) (old new : Option (List ℕ))
      → HeardAt subject.rows (F ++ f ∷ []) (length F) (Some h) → takes_message subject.which (first_stamp (F ++ f ∷ [])) h ≡ true
      → AppendsFront old new (text_behind asked before (kept_of asked h (readings_in subject.rows h.message.pgn h.message.bytes)))
      → StopsFrame subject F f before old new
  stops_heard F f h before old new at is front = record {
    heard = Some h;
    heard_at = at;
    front = subst (λ es. AppendsFront old new (text_behind asked before es)) (sym (one_heard (F ++ f ∷ []) h is)) front;
  }

  -- the values of what was heard, and of what is heard at a frame
  both : (F : List FrameRecord) (f : FrameRecord) (heard : List Hearing) (more : Option Hearing) → AreHeard subject.rows F heard
      → entries_heard subject (F ++ f ∷ []) (heard ++ or_none more) ≡ entries_heard subject F heard ++ entries_heard subject (F ++ f ∷ []) (or_none more)
  both F f heard more are =
      entries_more (F ++ f ∷ []) heard (or_none more)
      ∙ ap (λ es. es ++ entries_heard subject (F ++ f ∷ []) (or_none more)) (sym (same_first F (f ∷ []) heard are))

  -- the code's subject is this one
  same_subject : (g : GridAccount) (F : List FrameRecord) (output : Output) → HasGridded subject g F output
      → record { asked = asked_of g.rows.asked; which = subject.which; rows = g.groups.now } ≡ subject
  same_subject g F output has = λ i. record { asked = has.asked_is i; which = subject.which; rows = has.by i }

  -- a frame goes to the grid
  pub grid_meets : (g g' : GridAccount) → g'.groups ≡ g.groups → asked_of g'.rows.asked ≡ asked_of g.rows.asked → (f : FrameRecord) (messages : ℕ) (old new : Option (List ℕ))
      → ((which : FilterRecord) (F : List FrameRecord) → Chooses which g.chooser F → Chooses which g'.chooser (F ++ f ∷ []))
      → ((which : FilterRecord) (F : List FrameRecord) → Hears g.listener F → Chooses which g'.chooser (F ++ f ∷ [])
      → NotesFrame (record { asked = asked_of g.rows.asked; which = which; rows = g.groups.now }) F f g'.listener (rows_of g.rows) (rows_of g'.rows) messages old new)
      → g'.messages ≡ capped (g.messages + messages) → Meets (HasGridded subject) g g' (f ∷ []) old new
  grid_meets g g' kept same f messages old new chooses notes sum = λ F before has.
      let chosen = chooses subject.which F has.chooses in
      let n : NotesFrame subject F f g'.listener (rows_of g.rows) (rows_of g'.rows) messages old new =
      subst (λ (s : Subject). NotesFrame s F f g'.listener (rows_of g.rows) (rows_of g'.rows) messages old new) (same_subject g F before has) (notes subject.which F has.hears chosen) in
      let H = F ++ f ∷ [] in
      let es = entries_heard subject F has.heard in
      let more = entries_heard subject H (or_none n.heard) in
      let all = both F f has.heard n.heard has.are_heard in
      record {
        after = record { text = ended_text asked (entries_heard subject H (has.heard ++ or_none n.heard)); messages = before.messages; lines = before.lines };
        met = record {
          by = ap (λ (x : Bor (List RowRecord)). x.now) kept ∙ has.by;
          asked_is = same ∙ has.asked_is;
          chooses = chosen;
          heard = has.heard ++ or_none n.heard;
          are_heard = heard_more (is_reported_in subject.rows) F f has.heard n.heard has.are_heard n.heard_at;
          hears = n.hears;
          rows_are = n.rows_are ∙ ap (λ (r : RowsRecord). rows_behind asked r more) has.rows_are ∙ rows_all asked more es
              ∙ ap (λ (xs : List Entry). shown asked (spans_of asked xs)) (sym all);
          text_is = refl;
          messages_are = sum ∙ ap (λ n. capped (n + messages)) has.messages_are ∙ ap (λ n. capped (capped (length has.heard) + n)) n.messages_are
              ∙ (let len = length-append has.heard (or_none n.heard) in omega (arith, len));
        };
        more = text_behind asked (rows_of g.rows) more;
        text_is = ap (ended_text asked) all ∙ text_all asked more es ∙ ap (λ t. t ++ text_behind asked (shown asked (spans_of asked es)) more) (sym has.text_is)
            ∙ ap (λ (r : RowsRecord). before.text ++ text_behind asked r more) (sym has.rows_are);
        written = n.written;
      }

  -- ---- what is heard in the first frames comes first

  -- the grid of the whole is that of the values of what was heard first, and of more
  texts : (bus : List ℕ) (F G : List FrameRecord) (first : List Hearing) (all : Output) → AreHeard subject.rows F first → MakesRows subject bus (F ++ G) all
      → (kept : List Entry) × (all.text ≡ grid_text asked (entries_heard subject F first ++ kept))
  texts bus F G first all are (heard, are_all, all_is) =
      let split = heard_first (is_reported_in subject.rows) (reported_leaves subject.rows) F G heard first are_all are in (
        entries_heard subject (F ++ G) split.0,
        ap (λ (o : Output). o.text) all_is
            ∙ ap (grid_text asked) (ap (entries_heard subject (F ++ G)) split.1 ∙ entries_more (F ++ G) first split.0
            ∙ ap (λ es. es ++ entries_heard subject (F ++ G) split.0) (sym (same_first F G first are))),
      )

  pub grid_starts : Begins (λ bus. HasGridded subject) (MakesRows subject)
  grid_starts = λ bus g F G before all has made.
      let t = texts bus F G has.heard all has.are_heard made in
      let es = entries_heard subject F has.heard in
      let rest = text_behind asked (shown asked (spans_of asked es)) t.0 ++ pending_text asked.form (shown asked (spans_of asked (es ++ t.0))) in
      (rest, t.1 ∙ grid_begins asked es t.0 ∙ ap (λ x. x ++ rest) (sym has.text_is))

  pub grid_one : MakesOne (MakesRows subject)
  grid_one = λ bus F x y (hs, are_x, is_x) (ks, are_y, is_y).
      ap (λ (o : Output). o.text) is_x
      ∙ ap (λ (heard : List Hearing). (grid_of subject F heard).text)
      (heard_below_unique (is_reported_in subject.rows) (reported_leaves subject.rows) F (length F) hs ks are_x are_y)
      ∙ sym (ap (λ (o : Output). o.text) is_y)

  -- a fault of the writer at a frame
  pub grid_stops : (g : GridAccount) (f : FrameRecord) (old new : Option (List ℕ))
      → ((F : List FrameRecord) → Hears g.listener F → Chooses subject.which g.chooser F
      → StopsFrame (record { asked = asked_of g.rows.asked; which = subject.which; rows = g.groups.now }) F f (rows_of g.rows) old new)
      → (bus : List ℕ) → Stops (HasGridded subject) (MakesRows subject bus) g (f ∷ []) old new
  grid_stops g f old new stops bus = λ F G before all has made.
      let m : StopsFrame subject F f (rows_of g.rows) old new =
      subst (λ (s : Subject). StopsFrame s F f (rows_of g.rows) old new) (same_subject g F before has) (stops F has.hears has.chooses) in
      let H = F ++ f ∷ [] in
      let es = entries_heard subject F has.heard in
      let more = entries_heard subject H (or_none m.heard) in
      let t = texts bus H G (has.heard ++ or_none m.heard) all (heard_more (is_reported_in subject.rows) F f has.heard m.heard has.are_heard m.heard_at) made in
      let rest = text_behind asked (shown asked (spans_of asked (es ++ more))) t.0 ++ pending_text asked.form (shown asked (spans_of asked ((es ++ more) ++ t.0))) in
      let mine = text_behind asked (rows_of g.rows) more in
      let before_is : ended_text asked (es ++ more) ≡ before.text ++ mine =
      text_all asked more es ∙ ap (λ x. x ++ text_behind asked (shown asked (spans_of asked es)) more) (sym has.text_is)
      ∙ ap (λ (r : RowsRecord). before.text ++ text_behind asked r more) (sym has.rows_are) in
      record {
        rest = mine ++ rest;
        all_is = t.1 ∙ ap (λ xs. grid_text asked (xs ++ t.0)) (both F f has.heard m.heard has.are_heard) ∙ grid_begins asked (es ++ more) t.0
            ∙ ap (λ x. x ++ rest) before_is ∙ append_assoc before.text mine rest;
        front = (m.front.0, m.front.1 ++ rest, ap (λ x. x ++ rest) m.front.2 ∙ append_assoc m.front.0 m.front.1 rest, m.front.3);
      }

  -- ---- the end

  abbrev last_text : GridAccount → List ℕ
  last_text g = pending_text g.rows.asked.form (rows_of g.rows)

  -- the text of the whole is what was written before, and the row of the last span
  end_is : (g : GridAccount) (F : List FrameRecord) (before : Output) (has : HasGridded subject g F before)
      → (grid_of subject F has.heard).text ≡ before.text ++ last_text g
  end_is g F before has =
      let es = entries_heard subject F has.heard in
      grid_is asked es ∙ ap (λ x. x ++ pending_text asked.form (shown asked (spans_of asked es))) (sym has.text_is)
      ∙ sym (λ i. before.text ++ pending_text (has.asked_is i).form (has.rows_are i))

  pub grid_closes : (g : GridAccount) (lines : ℕ) (old new : Option (List ℕ)) → lines ≡ lines_with (rows_of g.rows).moment g.rows.lines
      → Appends old new (last_text g)
      → Closes (λ bus. HasGridded subject) (MakesRows subject) g (record { messages = g.messages; lines = lines }) old new
  grid_closes g lines old new count written = λ bus F before has. record {
    after = grid_of subject F has.heard;
    is_made = (has.heard, has.are_heard, refl);
    messages_are = has.messages_are;
    lines_are = count ∙ ap (λ (r : RowsRecord). lines_with r.moment r.lines) has.rows_are ∙ lines_are asked (entries_heard subject F has.heard);
    more = last_text g;
    text_is = end_is g F before has;
    written = written;
  }

  pub grid_ends : (g : GridAccount) (old new : Option (List ℕ)) → AppendsFront old new (last_text g)
      → StopsAtEnd (λ bus. HasGridded subject) (MakesRows subject) g old new
  grid_ends g old new front = λ bus F before all has made. record {
    rest = last_text g;
    all_is = grid_one bus F all (grid_of subject F has.heard) made (has.heard, has.are_heard, refl) ∙ end_is g F before has;
    front = front;
  }
