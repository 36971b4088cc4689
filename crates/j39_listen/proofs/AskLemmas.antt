-- Where a run may want memory: from the line that asks for some to the bytes that were taken.
use Rattle.std.proofs.Common.{◌≡◌, ◌≢◌, ℕ, List, [], ◌∷◌, ◌++◌, Option, sym, ap, ◌∙◌, subst, append-nil, append_assoc, inl, refl}
use Rattle.std.specs.Str.{bytes_eq}
use Rattle.std.specs.Prelude.{Result, Err, true, unwrap_or}
use Rattle.j39_frame.specs.Frame.{FrameRecord}
use Rattle.j39_log.specs.Log.{HasNoNewline, bus_of, ended, frames_of}
use Rattle.j39_log.specs.Spelled.{Spelled, frame}
use Rattle.j39_log.specs.Splitter.{EndsLine, HasBegun, IsRawLine}
use Rattle.j39_log.specs.declared.reading.RawLine.{RawLine}
use Rattle.j39_log.specs.declared.splitter.Splitter.{Splitter}
use Rattle.j39_log.proofs.BusLemmas.{bus_of-append, ended-line, frames_of-append, spell-more, whole-more}
use Rattle.j39_log.proofs.SplitterLemmas.{no_newline_append}
use Rattle.j39_listen.specs.Asking.{AsksAmong, Wanting}
use Rattle.j39_listen.specs.WantsMemory.{AsksAs, AsksIn, AsksLast, AsksLine}
use Rattle.j39_listen.specs.LinesSoFar.{IsNamed}
use Rattle.j39_listen.specs.Output.{Output, Meeting}
use Rattle.j39_listen.specs.PiecesSoFar.{HasMetAll, HasRead, HasTaken}
use Rattle.j39_listen.specs.Run.{run_bus}
use Rattle.j39_listen.specs.declared.pieces.Pieces.{Pieces}
use Rattle.j39_listen.specs.declared.lines.Lines.{Lines}
use Rattle.j39_listen.specs.declared.running.RunFault.{RunFault}
use Rattle.j39_listen.proofs.LineLemmas.{its_name, on_bus}
use Rattle.j39_listen.proofs.PieceLemmas.{TakesBytes}
use Rattle.j39_listen.proofs.RunLemmas.{has_run_bus, last_log, named_before}

-- ---- a line

pub asks_frame : {A : Type 0} (has_met : Meeting A) (asks : Wanting) (name : List ℕ) (f : FrameRecord) (bus : Option (List ℕ)) (own : List ℕ) (a : A)
    → own ≡ unwrap_or bus name → bytes_eq name own ≡ true → ((F : List FrameRecord) (output : Output) → has_met own a F output → asks F f)
    → AsksLine has_met asks (frame name f) bus a
asks_frame has_met asks name f bus own a is on asked = record {
  at = f;
  is_on = on_bus name f bus own is on;
  asked = λ given named F output met. asked F output (subst (λ (b : List ℕ). has_met b a F output) (sym (its_name name f bus own given is named)) met);
}

pub asks_line : {A : Type 0} (has_met : Meeting A) (asks : Wanting) (begun bytes : List ℕ) (n : ℕ) (raw : RawLine) (p : Lines A)
    → (line : List ℕ) × EndsLine begun bytes line n × IsRawLine raw line → ((line : List ℕ) → IsRawLine raw line → AsksAs has_met asks line p) → AsksIn has_met asks begun bytes p
asks_line has_met asks begun bytes n raw p (line, ends, cut) line_asks =
    let k = line_asks line cut in
    record { line = line; n = n; ends = ends; spelled = k.0; spells = k.1; line_asks = k.2 }

pub asks_last_line : {A : Type 0} (has_met : Meeting A) (asks : Wanting) (splitter : Splitter) (raw : RawLine) (p : Lines A)
    → ((begun : List ℕ) → HasBegun splitter begun → (begun ≢ []) × IsRawLine raw begun) → ((line : List ℕ) → IsRawLine raw line → AsksAs has_met asks line p)
    → (begun : List ℕ) → HasBegun splitter begun → AsksLast has_met asks begun p
asks_last_line has_met asks splitter raw p cuts line_asks begun h =
    let line = cuts begun h in
    let k = line_asks begun line.1 in
    record { some = line.0; spelled = k.0; spells = k.1; line_asks = k.2 }

-- ---- the lines before it

-- behind the frames of all lines so far, which the account has met
asks_behind : {A : Type 0} (has_met : Meeting A) (asks : Wanting) (given : Option (List ℕ)) (spelled : List Spelled) (s : Spelled) (p : Lines A) (old mid : Option (List ℕ))
    → HasMetAll has_met given spelled p old mid → (k : AsksLine has_met asks s p.bus p.account) → asks (frames_of given spelled) k.at
asks_behind has_met asks given spelled s p old mid h k =
    let name = run_bus given (spelled ++ (s ∷ [])) in
    let later : IsNamed (bus_of (bus_of given spelled) (s ∷ [])) name =
    subst (λ (o : Option (List ℕ)). IsNamed o name) (bus_of-append given spelled (s ∷ [])) (has_run_bus given (spelled ++ (s ∷ []))) in
    let here : IsNamed (bus_of p.bus (s ∷ [])) name = subst (λ (o : Option (List ℕ)). IsNamed (bus_of o (s ∷ [])) name) (sym h.bus_is) later in
    let before = h.made name (named_before (bus_of given spelled) (s ∷ []) name later) in
    k.asked name here (frames_of given spelled) before.output before.met

among : (given : Option (List ℕ)) (spelled : List Spelled) (s : Spelled) (bus : Option (List ℕ)) (f : FrameRecord) → bus ≡ bus_of given spelled
    → frames_of bus (s ∷ []) ≡ f ∷ [] → frames_of given (spelled ++ (s ∷ [])) ≡ frames_of given spelled ++ (f ∷ [])
among given spelled s bus f is on =
    frames_of-append given spelled (s ∷ []) ∙ ap (λ fs. frames_of given spelled ++ fs) (subst (λ (o : Option (List ℕ)). frames_of o (s ∷ []) ≡ f ∷ []) is on)

asks_in : {A : Type 0} (has_met : Meeting A) (asks : Wanting) (given : Option (List ℕ)) (taken begun bytes : List ℕ) (p : Lines A) (old mid : Option (List ℕ))
    → HasRead has_met given taken begun p old mid → HasNoNewline begun → AsksIn has_met asks begun bytes p → AsksAmong asks given (taken ++ bytes)
asks_in has_met asks given taken begun bytes p old mid h whole k =
    let line = k.line in
    let takes = k.ends.takes in
    let line_whole : HasNoNewline line = rw k.ends.line_is (no_newline_append begun k.ends.front whole takes.whole) in
    let is = ap (λ t. taken ++ t) takes.bytes_are ∙ ended-line taken begun k.ends.front line k.ends.rest h.lines h.taken_is k.ends.line_is in
    record {
      front = ended (h.lines ++ (line ∷ []));
      rest = k.ends.rest;
      bytes_are = is;
      spelled = h.spelled ++ (k.spelled ∷ []);
      is_log = record {
        lines = h.lines ++ (line ∷ []);
        are_lines = record { whole = whole-more h.lines line h.whole line_whole; bytes_are = inl refl };
        spell_each = spell-more h.lines h.spelled line k.spelled h.spell_each k.spells;
      };
      before = frames_of given h.spelled;
      at = k.line_asks.at;
      frames_are = among given h.spelled k.spelled p.bus k.line_asks.at h.met.bus_is k.line_asks.is_on;
      asked = asks_behind has_met asks given h.spelled k.spelled p old mid h.met k.line_asks;
    }

-- ---- what calls made of a run, whatever bytes it stands for

pub asks_at_end : {A : Type 0} (has_met : Meeting A) (asks : Wanting) (run : Pieces A) (mid : Option (List ℕ))
    → ((begun : List ℕ) → HasBegun run.splitter begun → AsksLast has_met asks begun run.lines)
    → (given : Option (List ℕ)) (taken : List ℕ) (held : Option (List ℕ)) → HasTaken has_met given taken run held mid → AsksAmong asks given taken
asks_at_end has_met asks run mid lasts given taken held t =
    let k = lasts t.begun t.begins in
    let h = t.has_read in
    record {
      front = taken;
      rest = [];
      bytes_are = sym (append-nil taken);
      spelled = h.spelled ++ (k.spelled ∷ []);
      is_log = last_log has_met given taken t.begun k.spelled run.lines held mid h t.begins.whole k.some k.spells;
      before = frames_of given h.spelled;
      at = k.line_asks.at;
      frames_are = among given h.spelled k.spelled run.lines.bus k.line_asks.at h.met.bus_is k.line_asks.is_on;
      asked = asks_behind has_met asks given h.spelled k.spelled run.lines held mid h.met k.line_asks;
    }

pub takes_then_asks : {A : Type 0} (has_met : Meeting A) (asks : Wanting) (run run' : Pieces A) (done rest piece : List ℕ) (a b : Option (List ℕ)) → piece ≡ done ++ rest
    → TakesBytes has_met run run' done a b → ((begun : List ℕ) → HasBegun run'.splitter begun → AsksIn has_met asks begun rest run'.lines)
    → (given : Option (List ℕ)) (taken : List ℕ) (held : Option (List ℕ)) → HasTaken has_met given taken run held a → AsksAmong asks given (taken ++ piece)
takes_then_asks has_met asks run run' done rest piece a b is takes asking = λ given taken held h.
    let t = takes given taken held h in
    subst (λ t. AsksAmong asks given t) (append_assoc taken done rest ∙ ap (λ t. taken ++ t) (sym is))
    (asks_in has_met asks given (taken ++ done) t.begun rest run'.lines held b t.has_read t.begins.whole (asking t.begun t.begins))

pub same_run_fault : {T : Type 0} (x y : RunFault) → (let r : Result T RunFault = Err x in r) ≡ Err y → x ≡ y
same_run_fault x y e = cc
