-- A run over pieces of a log.
use Rattle.std.proofs.Common.{◌≡◌, ◌≢◌, ◌+◌, ℕ, List, [], ◌∷◌, ◌++◌, Option, length, take, sym, ap, ◌∙◌, subst, arith, append-nil, append_assoc, take_all, inl, inr, refl}
use Rattle.std.proofs.Math.Seq.{take-append-add}
use Rattle.std.specs.Io.KnownBytes.{Consumes, IsAtEnd, Keeps}
use Rattle.std.specs.Prelude.{IfOk, IfSome, None, OnErr, OnOk, Result, Ok, Err, Some}
use Rattle.j39_io.specs.Chars.{newline}
use Rattle.j39_log.specs.Log.{HasNoNewline, IsLog}
use Rattle.j39_log.specs.Spelled.{Spelled, Spells}
use Rattle.j39_log.specs.Splitter.{EndsLine, HasBegun, IsRawLine}
use Rattle.j39_log.specs.declared.reading.RawLine.{RawLine}
use Rattle.j39_log.specs.declared.splitter.Splitter.{Splitter}
use Rattle.j39_io.proofs.DeviceLemmas.{Appends-kept}
use Rattle.j39_log.proofs.SplitterLemmas.{no_newline_append}
use Rattle.j39_listen.specs.AccountCalls.{Begins}
use Rattle.j39_listen.specs.LinesSoFar.{IsSpelling}
use Rattle.j39_listen.specs.Output.{Making, Meeting}
use Rattle.j39_listen.specs.PiecesSoFar.{HasMetAll, HasTaken, ReadsAs, ReadsLast, ReadsLine, StepsOver, StopsAs, StopsIn, StopsLast, WritesAll, WritesSome}
use Rattle.j39_listen.specs.Run.{HasMetLog, Writes, WritesFront, WritesFrontOfMore, run_bus}
use Rattle.j39_listen.specs.declared.account.LineFault.{LineFault}
use Rattle.j39_listen.specs.declared.account.LineFault.TheVariants.{Memory, Write}
use Rattle.j39_listen.specs.declared.counts.Counts.{Counts}
use Rattle.j39_listen.specs.declared.pieces.Pieces.{Pieces}
use Rattle.j39_listen.specs.declared.lines.Lines.{Lines}
use Rattle.j39_listen.proofs.RunLemmas.{ended_log, has_met-more, has_read-bytes, has_read-more, has_run_bus, last_log, writes_log}
use Rattle.j39_listen.proofs.StopLemmas.{front_of_log, stops_in, stops_last, writes_front}

-- what is taken of bytes that end a line
takes_front : (begun bytes line : List ℕ) (n : ℕ) (e : EndsLine begun bytes line n) → take n bytes ≡ e.front ++ (newline ∷ [])
takes_front begun bytes line n e =
    ap (λ k. take k bytes) e.taken_is ∙ ap (take (length e.front + 1)) e.takes.bytes_are ∙ take-append-add e.front (newline ∷ e.rest) 1

-- one step more
takes_more : {A : Type 0} (has_met : Meeting A) (given : Option (List ℕ)) (taken bytes : List ℕ) (n : ℕ) (run run' : Pieces A) (old mid new : Option (List ℕ))
    → HasTaken has_met given taken run old mid
    → ((begun : List ℕ) → HasBegun run.splitter begun → StepsOver has_met begun bytes n run'.splitter run.lines run'.lines mid new)
    → HasTaken has_met given (taken ++ take n bytes) run' old new
takes_more has_met given taken bytes n run run' old mid new h steps =
    elim (steps h.begun h.begins) [
      | inl (goes, same, held) ↦
          let all : take n bytes ≡ bytes = ap (λ k. take k bytes) goes.all ∙ take_all (length bytes) bytes (omega arith) in
          rw (all, held) (record {
            begun = h.begun ++ bytes;
            begins = goes.begins;
            has_read = rw same (has_read-bytes has_met given taken h.begun bytes _ old mid h.has_read);
          })
      | inr r ↦
          let e = r.ends in
          let whole : HasNoNewline r.line = rw e.line_is (no_newline_append h.begun e.front h.begins.whole e.takes.whole) in
          rw (takes_front h.begun bytes r.line n e) (record {
            begun = [];
            begins = r.begins;
            has_read = has_read-more has_met given taken h.begun e.front r.line r.spelled _ _ old mid new h.has_read e.line_is whole r.spells r.reads;
          })
    ]

-- what was written of the bytes is a front of what is made of more
pub front_of_more : {A : Type 0} (has_met : Meeting A) (makes : Making) → Begins has_met makes → (given : Option (List ℕ)) (taken more : List ℕ) (run : Pieces A) (old new : Option (List ℕ))
    → HasTaken has_met given taken run old new → WritesFront makes given (taken ++ more) old new
front_of_more has_met makes begins given taken more run old new h = writes_front has_met makes begins given taken h.begun more _ old new h.has_read

pub front_of_taken : {A : Type 0} (has_met : Meeting A) (makes : Making) → Begins has_met makes → (given : Option (List ℕ)) (taken : List ℕ) (run : Pieces A) (old new : Option (List ℕ))
    → HasTaken has_met given taken run old new → WritesFront makes given taken old new
front_of_taken has_met makes begins given taken run old new h =
    subst (λ t. WritesFront makes given t old new) (append-nil taken) (front_of_more has_met makes begins given taken [] run old new h)

-- with the last line all lines of the log were met
finishes : {A : Type 0} (has_met : Meeting A) (given : Option (List ℕ)) (taken : List ℕ) (run : Pieces A) (p' : Lines A) (old mid new : Option (List ℕ)) → HasTaken has_met given taken run old mid
    → ((begun : List ℕ) → HasBegun run.splitter begun → ReadsLast has_met begun run.lines p' mid new)
    → (spelled : List Spelled) × IsLog taken spelled × HasMetAll has_met given spelled p' old new
finishes has_met given taken run p' old mid new h reads =
    elim (reads h.begun h.begins) [
      | inl (none, same, held) ↦ rw (same, held) (h.has_read.spelled, ended_log has_met given taken h.begun _ old mid h.has_read none, h.has_read.met)
      | inr r ↦ (
        h.has_read.spelled ++ (r.spelled ∷ []),
        last_log has_met given taken h.begun r.spelled _ old mid h.has_read h.begins.whole r.some r.spells,
        has_met-more has_met given h.has_read.spelled r.spelled _ _ old mid new h.has_read.met r.reads,
      )
    ]

front_kept : (makes : Making) (given : Option (List ℕ)) (taken : List ℕ) (old mid new : Option (List ℕ))
    → WritesFront makes given taken old mid → Keeps mid new → WritesFront makes given taken old new
front_kept makes given taken old mid new h keeps = λ all output log made.
    let f = h all output log made in
    (f.0, f.1, f.2, Appends-kept old mid new f.0 f.3 keeps)

-- ---- what calls made of a run, whatever bytes it stands for

abbrev pub TakesBytes : {A : Type 0} → Meeting A → Pieces A → Pieces A → List ℕ → Option (List ℕ) → Option (List ℕ) → Type 0
TakesBytes has_met run run' bytes old new =
    (given : Option (List ℕ)) (taken : List ℕ) (held : Option (List ℕ)) → HasTaken has_met given taken run held old → HasTaken has_met given (taken ++ bytes) run' held new

abbrev pub StopsBytes : {A : Type 0} → Meeting A → Making → Pieces A → List ℕ → Option (List ℕ) → Option (List ℕ) → Type 0
StopsBytes has_met makes run bytes old new =
    (given : Option (List ℕ)) (taken : List ℕ) (held : Option (List ℕ)) → HasTaken has_met given taken run held old → WritesFrontOfMore makes given (taken ++ bytes) held new

pub takes_then_takes : {A : Type 0} (has_met : Meeting A) (run run' run'' : Pieces A) (done rest : List ℕ) (n : ℕ) (a b c : Option (List ℕ)) → TakesBytes has_met run run' done a b
    → ((begun : List ℕ) → HasBegun run'.splitter begun → StepsOver has_met begun rest n run''.splitter run'.lines run''.lines b c)
    → TakesBytes has_met run run'' (done ++ take n rest) a c
takes_then_takes has_met run run' run'' done rest n a b c takes steps = λ given taken held h.
    subst (λ t. HasTaken has_met given t run'' held c) (append_assoc taken done (take n rest))
    (takes_more has_met given (taken ++ done) rest n run' run'' held b c (takes given taken held h) steps)

-- a line that is ended is so before more bytes
stops_more : {A : Type 0} (has_met : Meeting A) (makes : Making) (begun bytes more : List ℕ) (p : Lines A) (a b : Option (List ℕ))
    → StopsIn has_met makes begun bytes p a b → StopsIn has_met makes begun (bytes ++ more) p a b
stops_more has_met makes begun bytes more p a b k =
    let e = k.ends in
    let is = ap (λ t. t ++ more) e.takes.bytes_are ∙ append_assoc e.front (newline ∷ e.rest) more in
    record {
      line = k.line;
      n = k.n;
      ends = record {
        front = e.front;
        rest = e.rest ++ more;
        takes = record { bytes_are = is; whole = e.takes.whole };
        taken_is = e.taken_is;
        line_is = e.line_is;
      };
      spelled = k.spelled;
      spells = k.spells;
      stops = k.stops;
    }

-- the bytes before, those of the piece, and more
joined : (taken done rest piece more : List ℕ) → piece ≡ done ++ rest → (taken ++ done) ++ (rest ++ more) ≡ (taken ++ piece) ++ more
joined taken done rest piece more is =
    sym (append_assoc (taken ++ done) rest more) ∙ ap (λ t. t ++ more) (append_assoc taken done rest ∙ ap (λ t. taken ++ t) (sym is))

-- a fault of the writer
pub takes_then_stops : {A : Type 0} (has_met : Meeting A) (makes : Making) (run run' : Pieces A) (done rest piece : List ℕ) (a b c : Option (List ℕ)) → piece ≡ done ++ rest
    → TakesBytes has_met run run' done a b → ((begun : List ℕ) → HasBegun run'.splitter begun → StopsIn has_met makes begun rest run'.lines b c)
    → StopsBytes has_met makes run piece a c
takes_then_stops has_met makes run run' done rest piece a b c is takes stops = λ given taken held h more.
    let t = takes given taken held h in
    subst (λ t. WritesFront makes given t held c) (joined taken done rest piece more is)
    (stops_in has_met makes given (taken ++ done) t.begun (rest ++ more) _ held b c t.has_read t.begins.whole (stops_more has_met makes t.begun rest more _ b c (stops t.begun t.begins)))

-- want of memory, which writes nothing
pub takes_then_none : {A : Type 0} (has_met : Meeting A) (makes : Making) → Begins has_met makes → (run run' : Pieces A) (done rest piece : List ℕ) (a b c : Option (List ℕ)) → piece ≡ done ++ rest
    → TakesBytes has_met run run' done a b → c ≡ b → StopsBytes has_met makes run piece a c
takes_then_none has_met makes begins run run' done rest piece a b c is takes none = λ given taken held h more.
    subst (λ t. WritesFront makes given t held c) (joined taken done rest piece more is)
    (subst (WritesFront makes given ((taken ++ done) ++ (rest ++ more)) held) (sym none) (front_of_more has_met makes begins given (taken ++ done) (rest ++ more) run' held b (takes given taken held h)))

pub takes_then_keeps : {A : Type 0} (has_met : Meeting A) (makes : Making) → Begins has_met makes → (run run' : Pieces A) (piece : List ℕ) (a b c : Option (List ℕ))
    → TakesBytes has_met run run' piece a b → Keeps b c → StopsBytes has_met makes run piece a c
takes_then_keeps has_met makes begins run run' piece a b c takes keeps = λ given taken held h more.
    front_kept makes given ((taken ++ piece) ++ more) held b c (front_of_more has_met makes begins given (taken ++ piece) more run' held b (takes given taken held h)) keeps

pub stops_then_keeps : {A : Type 0} (has_met : Meeting A) (makes : Making) (run : Pieces A) (piece : List ℕ) (a b c : Option (List ℕ))
    → StopsBytes has_met makes run piece a b → Keeps b c → StopsBytes has_met makes run piece a c
stops_then_keeps has_met makes run piece a b c stops keeps = λ given taken held h more.
    front_kept makes given ((taken ++ piece) ++ more) held b c (stops given taken held h more) keeps

-- ---- of the whole log

pub front_of_no_more : (makes : Making) (given : Option (List ℕ)) (taken : List ℕ) (old new : Option (List ℕ)) → WritesFrontOfMore makes given taken old new → WritesFront makes given taken old new
front_of_no_more makes given taken old new h = subst (λ t. WritesFront makes given t old new) (append-nil taken) (h [])

-- the bytes that were taken are all, with those that are left
pub front_of_all : (makes : Making) (given remaining remaining' : Option (List ℕ)) (taken : List ℕ) (old new : Option (List ℕ))
    → Consumes remaining remaining' taken → WritesFrontOfMore makes given taken old new → IfSome remaining (λ log. WritesFront makes given log old new)
front_of_all makes given None remaining' taken old new consumed h = tt
front_of_all makes given (Some log) None taken old new consumed h = absurd consumed
front_of_all makes given (Some log) (Some rest) taken old new consumed h = subst (λ t. WritesFront makes given t old new) (sym consumed) (h rest)

pub so_of_whole : (remaining remaining' : Option (List ℕ)) (taken : List ℕ) (IsSo : List ℕ → Type 0) → Consumes remaining remaining' taken → IsAtEnd remaining'
    → IsSo taken → IfSome remaining IsSo
so_of_whole None remaining' taken IsSo consumed end h = tt
so_of_whole (Some log) None taken IsSo consumed end h = absurd consumed
so_of_whole (Some log) (Some rest) taken IsSo consumed end h = subst IsSo (sym (consumed ∙ ap (λ t. taken ++ t) end ∙ append-nil taken)) h

pub front_of_whole : (makes : Making) (given remaining remaining' : Option (List ℕ)) (taken : List ℕ) (old new : Option (List ℕ))
    → Consumes remaining remaining' taken → IsAtEnd remaining' → WritesFront makes given taken old new → IfSome remaining (λ log. WritesFront makes given log old new)
front_of_whole makes given remaining remaining' taken old new consumed end h =
    so_of_whole remaining remaining' taken (λ log. WritesFront makes given log old new) consumed end h

abbrev pub FrontAtEnd : {A : Type 0} → Meeting A → Making → Pieces A → Option (List ℕ) → Option (List ℕ) → Type 0
FrontAtEnd has_met makes run old new =
    (given : Option (List ℕ)) (taken : List ℕ) (held : Option (List ℕ)) → HasTaken has_met given taken run held old → WritesFront makes given taken held new

abbrev pub WritesAtEnd : {A : Type 0} → Meeting A → Making → Pieces A → Counts → Option (List ℕ) → Option (List ℕ) → Type 0
WritesAtEnd has_met makes run counts old new =
    (given : Option (List ℕ)) (taken : List ℕ) (held : Option (List ℕ)) → HasTaken has_met given taken run held old → Writes makes given taken counts held new

pub end_stops : {A : Type 0} (has_met : Meeting A) (makes : Making) (run : Pieces A) (a b : Option (List ℕ)) → ((begun : List ℕ) → HasBegun run.splitter begun → StopsLast has_met makes begun run.lines a b)
    → FrontAtEnd has_met makes run a b
end_stops has_met makes run a b stops = λ given taken held h.
    stops_last has_met makes given taken h.begun _ held a b h.has_read h.begins.whole (stops h.begun h.begins)

pub end_none : {A : Type 0} (has_met : Meeting A) (makes : Making) → Begins has_met makes → (run : Pieces A) (a b : Option (List ℕ)) → b ≡ a → FrontAtEnd has_met makes run a b
end_none has_met makes begins run a b none = λ given taken held h.
    subst (WritesFront makes given taken held) (sym none) (front_of_taken has_met makes begins given taken run held a h)

pub end_then_keeps : {A : Type 0} (has_met : Meeting A) (makes : Making) (run : Pieces A) (a b c : Option (List ℕ)) → FrontAtEnd has_met makes run a b → Keeps b c
    → FrontAtEnd has_met makes run a c
end_then_keeps has_met makes run a b c front keeps = λ given taken held h. front_kept makes given taken held b c (front given taken held h) keeps

pub end_fails : {A : Type 0} (has_met : Meeting A) (makes : Making) (run : Pieces A) (p' : Lines A) (a b c : Option (List ℕ))
    → ((begun : List ℕ) → HasBegun run.splitter begun → ReadsLast has_met begun run.lines p' a b)
    → ((given : Option (List ℕ)) (spelled : List Spelled) (held : Option (List ℕ)) → HasMetAll has_met given spelled p' held b → WritesSome makes given spelled held c)
    → FrontAtEnd has_met makes run a c
end_fails has_met makes run p' a b c reads closes = λ given taken held h.
    let f = finishes has_met given taken run p' held a b h reads in
    front_of_log makes given taken f.0 held c f.1 (closes given f.0 held f.2)

pub end_writes : {A : Type 0} (has_met : Meeting A) (makes : Making) (run : Pieces A) (p' : Lines A) (counts : Counts) (a b c : Option (List ℕ))
    → ((begun : List ℕ) → HasBegun run.splitter begun → ReadsLast has_met begun run.lines p' a b)
    → ((given : Option (List ℕ)) (spelled : List Spelled) (held : Option (List ℕ)) → HasMetAll has_met given spelled p' held b → WritesAll makes given spelled counts held c)
    → WritesAtEnd has_met makes run counts a c
end_writes has_met makes run p' counts a b c reads closes = λ given taken held h.
    let f = finishes has_met given taken run p' held a b h reads in
    writes_log makes given taken f.0 counts held c f.1 (closes given f.0 held f.2)

-- the frames of the whole log were met
pub end_meets : {A : Type 0} (has_met : Meeting A) (run : Pieces A) (p' : Lines A) (a b : Option (List ℕ))
    → ((begun : List ℕ) → HasBegun run.splitter begun → ReadsLast has_met begun run.lines p' a b)
    → (given : Option (List ℕ)) (taken : List ℕ) (held : Option (List ℕ)) → HasTaken has_met given taken run held a → HasMetLog has_met given taken p'.account
end_meets has_met run p' a b reads given taken held h =
    let f = finishes has_met given taken run p' held a b h reads in
    let m = f.2.made (run_bus given f.0) (has_run_bus given f.0) in
    record { spelled = f.0; is_log = f.1; output = m.output; met = m.met }

-- ---- a line, as it was cut

pub each_reads : {A S T E : Type 0} (has_met : S → Meeting A) (raw : RawLine) (s : Spelled) (p p' : Lines A) (a b : Option (List ℕ)) (r : Result T E)
    → ((line : List ℕ) → IsRawLine raw line → Spells line s) → OnOk r ((subject : S) → IsSpelling s → ReadsLine (has_met subject) s p p' a b)
    → OnOk r ((subject : S) (line : List ℕ) → IsRawLine raw line → ReadsAs (has_met subject) line p p' a b)
each_reads has_met raw s p p' a b (Ok x) spells read = λ subject line cut. (s, spells line cut, read subject (line, spells line cut))
each_reads has_met raw s p p' a b (Err e) spells read = tt

reads_last : {A : Type 0} (has_met : Meeting A) (splitter : Splitter) (raw : RawLine) (p p' : Lines A) (a b : Option (List ℕ))
    → ((begun : List ℕ) → HasBegun splitter begun → (begun ≢ []) × IsRawLine raw begun) → ((line : List ℕ) → IsRawLine raw line → ReadsAs has_met line p p' a b)
    → (begun : List ℕ) → HasBegun splitter begun → ReadsLast has_met begun p p' a b
reads_last has_met splitter raw p p' a b cuts read begun h =
    let line = cuts begun h in
    let k = read begun line.1 in
    inr (record { some = line.0; spelled = k.0; spells = k.1; reads = k.2 })

-- whatever the account is of
pub each_reads_last : {A S T E : Type 0} (has_met : S → Meeting A) (splitter : Splitter) (raw : RawLine) (p p' : Lines A) (a b : Option (List ℕ)) (r : Result T E)
    → ((begun : List ℕ) → HasBegun splitter begun → (begun ≢ []) × IsRawLine raw begun)
    → OnOk r ((subject : S) (line : List ℕ) → IsRawLine raw line → ReadsAs (has_met subject) line p p' a b)
    → OnOk r ((subject : S) (begun : List ℕ) → HasBegun splitter begun → ReadsLast (has_met subject) begun p p' a b)
each_reads_last has_met splitter raw p p' a b (Ok x) cuts read = λ subject. reads_last (has_met subject) splitter raw p p' a b cuts (read subject)
each_reads_last has_met splitter raw p p' a b (Err e) cuts read = tt

pub stops_last_line : {A : Type 0} (has_met : Meeting A) (makes : Making) (splitter : Splitter) (raw : RawLine) (p : Lines A) (a b : Option (List ℕ))
    → ((begun : List ℕ) → HasBegun splitter begun → (begun ≢ []) × IsRawLine raw begun) → ((line : List ℕ) → IsRawLine raw line → StopsAs has_met makes line p a b)
    → (begun : List ℕ) → HasBegun splitter begun → StopsLast has_met makes begun p a b
stops_last_line has_met makes splitter raw p a b cuts stops begun h =
    let line = cuts begun h in
    let k = stops begun line.1 in
    record { some = line.0; spelled = k.0; spells = k.1; stops = k.2 }

-- ---- which fault it was

pub by_fault : (fault : LineFault) (P : Type 0) → (fault ≡ Write → P) → (fault ≡ Memory → P) → P
by_fault Write P write memory = write refl
by_fault Memory P write memory = memory refl

pub no_fault : {T E : Type 0} {x : T} {fault : E} → (let r : Result T E = Ok x in r) ≢ Err fault
no_fault e = cc

pub if_ok : {X E : Type 0} (r : Result X E) (P R : X → Type 0) → ((x : X) → P x → R x) → IfOk r P → IfOk r R
if_ok (Ok x) P R f p = f x p
if_ok (Err e) P R f p = tt

pub on_err_from : {T E : Type 0} (r : Result T E) (P Q : Type 0) → (P → Q) → OnErr r P → OnErr r Q
on_err_from (Ok x) P Q f h = tt
on_err_from (Err e) P Q f h = f h

pub on_ok_from : {T E : Type 0} (r : Result T E) (P Q : Type 0) → (P → Q) → OnOk r P → OnOk r Q
on_ok_from (Ok x) P Q f h = f h
on_ok_from (Err e) P Q f h = tt

pub at_fault : {T E : Type 0} {r : Result T E} {fault : E} {P : Type 0} → r ≡ Err fault → OnErr r P → P
at_fault {P = P} is h = subst (λ r. OnErr r P) is h

pub steps_line : {A : Type 0} (has_met : Meeting A) (begun bytes : List ℕ) (n : ℕ) (splitter : Splitter) (raw : RawLine) (p p' : Lines A) (a b : Option (List ℕ)) → HasBegun splitter []
    → (line : List ℕ) × EndsLine begun bytes line n × IsRawLine raw line → ((line : List ℕ) → IsRawLine raw line → ReadsAs has_met line p p' a b)
    → StepsOver has_met begun bytes n splitter p p' a b
steps_line has_met begun bytes n splitter raw p p' a b fresh (line, ends, cut) reads =
    let k = reads line cut in
    inr (record { line = line; ends = ends; begins = fresh; spelled = k.0; spells = k.1; reads = k.2 })

pub stops_line : {A : Type 0} (has_met : Meeting A) (makes : Making) (begun bytes : List ℕ) (n : ℕ) (raw : RawLine) (p : Lines A) (a b : Option (List ℕ))
    → (line : List ℕ) × EndsLine begun bytes line n × IsRawLine raw line → ((line : List ℕ) → IsRawLine raw line → StopsAs has_met makes line p a b)
    → StopsIn has_met makes begun bytes p a b
stops_line has_met makes begun bytes n raw p a b (line, ends, cut) stops =
    let k = stops line cut in
    record { line = line; n = n; ends = ends; spelled = k.0; spells = k.1; stops = k.2 }

pub same_fault : {T : Type 0} (x y : LineFault) → (let r : Result T LineFault = Err x in r) ≡ Err y → x ≡ y
same_fault x y e = cc
