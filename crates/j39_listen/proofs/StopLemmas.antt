-- A run that stops: what it wrote is a front of what is made of the bytes that it took.
use Rattle.std.proofs.Common.{◌≡◌, ℕ, List, [], ◌∷◌, ◌++◌, Option, sym, ap, ◌∙◌, subst, append-nil, append_assoc}
use Rattle.std.specs.Io.KnownBytes.{Appends, Keeps}
use Rattle.j39_io.specs.Device.{AppendsFront}
use Rattle.j39_frame.specs.Frame.{FrameRecord}
use Rattle.j39_log.specs.Log.{HasNoNewline, IsLog, ended, bus_of, frames_of}
use Rattle.j39_log.specs.Spelled.{Spelled}
use Rattle.j39_log.proofs.BusLemmas.{bus_of-append, ended-line, frames_of-append, spell-more, whole-more}
use Rattle.j39_io.proofs.DeviceLemmas.{front_of_all, front_within}
use Rattle.j39_log.proofs.LogLemmas.{first_spelled, same_log}
use Rattle.j39_log.proofs.SplitterLemmas.{no_newline_append}
use Rattle.j39_listen.specs.AccountCalls.{Begins, MakesOne, Stops, StopsAtEnd, WritesOn}
use Rattle.j39_listen.specs.Output.{Output, Making, Meeting}
use Rattle.j39_listen.specs.PiecesSoFar.{HasMetAll, HasRead, StopsAt, StopsIn, StopsLast, WritesAll, WritesSome}
use Rattle.j39_listen.specs.LinesSoFar.{IsNamed}
use Rattle.j39_listen.specs.Run.{WritesFront, run_bus}
use Rattle.j39_listen.specs.declared.counts.Counts.{Counts}
use Rattle.j39_listen.specs.declared.lines.Lines.{Lines}
use Rattle.j39_listen.proofs.RunLemmas.{has_run_bus, last_log, named_before}

-- what was written before, and a front of what follows it
front_behind : (old mid new : Option (List ℕ)) (before all : Output) → Appends old mid before.text → WritesOn before.text all.text mid new → AppendsFront old new all.text
front_behind old mid new before all written w =
    front_within old mid new before.text w.rest [] all.text (w.all_is ∙ ap (λ t. before.text ++ t) (sym (append-nil w.rest))) written w.front

-- the first lines are of the bus of all
named_of : (given : Option (List ℕ)) (first left all : List Spelled) → all ≡ first ++ left → IsNamed (bus_of given first) (run_bus given all)
named_of given first left all is =
    named_before (bus_of given first) left (run_bus given all)
    (subst (λ (o : Option (List ℕ)). IsNamed o (run_bus given all)) (ap (bus_of given) is ∙ bus_of-append given first left) (has_run_bus given all))

-- any bytes behind those that were read leave what was written a front
pub writes_front : {A : Type 0} (has_met : Meeting A) (makes : Making) → Begins has_met makes
    → (given : Option (List ℕ)) (taken begun more : List ℕ) (p : Lines A) (old new : Option (List ℕ))
    → HasRead has_met given taken begun p old new → WritesFront makes given (taken ++ more) old new
writes_front has_met makes begins given taken begun more p old new h = λ all output log made.
    let is = ap (λ t. t ++ more) h.taken_is ∙ append_assoc (ended h.lines) begun more in
    let split = first_spelled (taken ++ more) (begun ++ more) h.lines h.spelled all h.whole h.spell_each is log in
    let frames = ap (frames_of given) split.1 ∙ frames_of-append given h.spelled split.0 in
    let bus = run_bus given all in
    let before = h.met.made bus (named_of given h.spelled split.0 all split.1) in
    let b = begins bus p.account (frames_of given h.spelled) (frames_of (bus_of given h.spelled) split.0) before.output output before.met
    (subst (λ (fs : List FrameRecord). makes bus fs output) frames made) in
    (before.output.text, b.0, b.1, before.written)

-- a fault in the line that s is of
front_of_line : {A : Type 0} (has_met : Meeting A) (makes : Making)
    (given : Option (List ℕ)) (spelled left all : List Spelled) (output : Output) (s : Spelled) (p : Lines A) (old mid new : Option (List ℕ))
    → HasMetAll has_met given spelled p old mid → all ≡ (spelled ++ (s ∷ [])) ++ left → makes (run_bus given all) (frames_of given all) output
    → StopsAt has_met makes s p mid new → AppendsFront old new output.text
front_of_line has_met makes given spelled left all output s p old mid new h is made stops =
    let F = frames_of given spelled in
    let G = frames_of (bus_of given (spelled ++ (s ∷ []))) left in
    let bus = run_bus given all in
    let named = named_of given (spelled ++ (s ∷ [])) left all is in
    let here : IsNamed (bus_of p.bus (s ∷ [])) bus =
    subst (λ (o : Option (List ℕ)). IsNamed o bus) (bus_of-append given spelled (s ∷ []) ∙ ap (λ (o : Option (List ℕ)). bus_of o (s ∷ [])) (sym h.bus_is)) named in
    let before = h.made bus (named_of given spelled ((s ∷ []) ++ left) all (is ∙ append_assoc spelled (s ∷ []) left)) in
    let at = subst (λ (o : Option (List ℕ)). Stops (has_met bus) (makes bus) p.account (frames_of o (s ∷ [])) mid new) h.bus_is (stops bus here) in
    let frames = ap (frames_of given) is ∙ frames_of-append given (spelled ++ (s ∷ [])) left ∙ ap (λ (fs : List FrameRecord). fs ++ G) (frames_of-append given spelled (s ∷ [])) in
    front_behind old mid new before.output output before.written (at F G before.output output before.met (subst (λ (fs : List FrameRecord). makes bus fs output) frames made))

-- a fault in a line that is ended
pub stops_in : {A : Type 0} (has_met : Meeting A) (makes : Making)
    (given : Option (List ℕ)) (taken begun bytes : List ℕ) (p : Lines A) (old mid new : Option (List ℕ))
    → HasRead has_met given taken begun p old mid → HasNoNewline begun → StopsIn has_met makes begun bytes p mid new → WritesFront makes given (taken ++ bytes) old new
stops_in has_met makes given taken begun bytes p old mid new h whole k = λ all output log made.
    let line = k.line in
    let takes = k.ends.takes in
    let line_whole : HasNoNewline line = rw k.ends.line_is (no_newline_append begun k.ends.front whole takes.whole) in
    let is = ap (λ t. taken ++ t) takes.bytes_are ∙ ended-line taken begun k.ends.front line k.ends.rest h.lines h.taken_is k.ends.line_is in
    let split = first_spelled (taken ++ bytes) k.ends.rest (h.lines ++ (line ∷ [])) (h.spelled ++ (k.spelled ∷ [])) all
    (whole-more h.lines line h.whole line_whole) (spell-more h.lines h.spelled line k.spelled h.spell_each k.spells) is log in
    front_of_line has_met makes given h.spelled split.0 all output k.spelled p old mid new h.met split.1 made k.stops

-- a fault in the last line
pub stops_last : {A : Type 0} (has_met : Meeting A) (makes : Making)
    (given : Option (List ℕ)) (taken begun : List ℕ) (p : Lines A) (old mid new : Option (List ℕ))
    → HasRead has_met given taken begun p old mid → HasNoNewline begun → StopsLast has_met makes begun p mid new → WritesFront makes given taken old new
stops_last has_met makes given taken begun p old mid new h whole k = λ all output log made.
    let is = same_log taken all (h.spelled ++ (k.spelled ∷ [])) log (last_log has_met given taken begun k.spelled p old mid h whole k.some k.spells) in
    front_of_line has_met makes given h.spelled [] all output k.spelled p old mid new h.met (is ∙ sym (append-nil (h.spelled ++ (k.spelled ∷ [])))) made k.stops

-- ---- at the end

pub stops_closing : {A : Type 0} (has_met : Meeting A) (makes : Making)
    (given : Option (List ℕ)) (spelled : List Spelled) (p : Lines A) (old mid new : Option (List ℕ))
    → HasMetAll has_met given spelled p old mid → StopsAtEnd has_met makes p.account mid new → WritesSome makes given spelled old new
stops_closing has_met makes given spelled p old mid new h stops = λ output made.
    let bus = run_bus given spelled in
    let before = h.made bus (has_run_bus given spelled) in
    front_behind old mid new before.output output before.written (stops bus (frames_of given spelled) before.output output before.met made)

-- what was written whole is a front of itself, and a flush adds nothing
pub some_of_all : (makes : Making) → MakesOne makes → (given : Option (List ℕ)) (spelled : List Spelled) (counts : Counts) (old mid new : Option (List ℕ))
    → WritesAll makes given spelled counts old mid → Keeps mid new → WritesSome makes given spelled old new
some_of_all makes one given spelled counts old mid new h keeps = λ output made.
    subst (AppendsFront old new) (one (run_bus given spelled) (frames_of given spelled) h.output output h.is_made made) (front_of_all old mid new h.output.text h.written keeps)

pub front_of_log : (makes : Making) (given : Option (List ℕ)) (log : List ℕ) (spelled : List Spelled) (old new : Option (List ℕ))
    → IsLog log spelled → WritesSome makes given spelled old new → WritesFront makes given log old new
front_of_log makes given log spelled old new is some = λ all output log_is made.
    some output (subst (λ (ss : List Spelled). makes (run_bus given ss) (frames_of given ss) output) (same_log log all spelled log_is is) made)
