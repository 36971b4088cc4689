-- Lines that are passed over.
use Rattle.std.proofs.Common.{◌≡◌, ◌+◌, ℕ, List, [], ◌∷◌, ◌++◌, Option, Some, length, sym, ap, ◌∙◌, subst, arith, append-nil, append_assoc, refl}
use Rattle.std.proofs.lemmas.List.{length-append}
use Rattle.j39_io.specs.Chars.{newline}
use Rattle.j39_frame.specs.Frame.{FrameRecord}
use Rattle.j39_log.specs.FrameLine.{BeginsLine, HasLine}
use Rattle.j39_log.specs.Log.{ended}
use Rattle.j39_log.specs.Spelled.{Spelled, frame}
use Rattle.j39_log.specs.Splitter.{HasBegun}
use Rattle.j39_log.specs.declared.fast.frame_line.FrameLine.{FrameLine}
use Rattle.j39_log.specs.declared.splitter.Splitter.{Splitter}
use Rattle.j39_listen.specs.AccountCalls.{Meets}
use Rattle.j39_listen.specs.Counting.{capped}
use Rattle.j39_listen.specs.LinesSoFar.{sum_of, tally_of}
use Rattle.j39_listen.specs.Output.{Meeting}
use Rattle.j39_listen.specs.PiecesSoFar.{HasRead, HasTaken, PassesOver, ReadsLine, with_passed}
use Rattle.j39_listen.specs.declared.pieces.Pieces.{Pieces}
use Rattle.j39_listen.specs.declared.lines.Lines.{Lines}
use Rattle.j39_listen.specs.declared.counts.Tally.{Tally}
use Rattle.j39_listen.proofs.LineLemmas.{meets_own, same_tally, tally}
use Rattle.j39_listen.proofs.PieceLemmas.{TakesBytes}
use Rattle.j39_listen.proofs.RunLemmas.{has_read-more}

-- ---- how many

capped-none : (n : ℕ) → capped (capped n + 0) ≡ capped n
capped-none n = omega arith

capped-more : (a n : ℕ) → capped (a + (n + 1)) ≡ capped (capped (a + n) + 1)
capped-more a n = omega arith

capped-again : (a : ℕ) → capped (a + 0) ≡ capped (capped (a + 0) + 0)
capped-again a = omega arith

sum-none : (given : Option (List ℕ)) (spelled : List Spelled) → sum_of (tally_of given spelled) (tally 0 0 0) ≡ tally_of given spelled
unfolding tally_of
sum-none given spelled = same_tally (sum_of (tally_of given spelled) (tally 0 0 0)) (tally_of given spelled) (capped-none _) (capped-none _) (capped-none _)

sum-more : (t : Tally) (n : ℕ) → sum_of t (tally (n + 1) 0 0) ≡ sum_of (sum_of t (tally n 0 0)) (tally 1 0 0)
sum-more t n = same_tally (sum_of t (tally (n + 1) 0 0)) (sum_of (sum_of t (tally n 0 0)) (tally 1 0 0)) (capped-more t.frames n) (capped-again t.other) (capped-again t.unread)

-- ---- the line of a frame of the bus of which nothing is made

pub reads_passed : {A : Type 0} (has_met : Meeting A) (name : List ℕ) (f : FrameRecord) (p : Lines A) (n : ℕ) (held : Option (List ℕ)) → p.bus ≡ Some name
    → Meets (has_met name) p.account p.account (f ∷ []) held held → ReadsLine has_met (frame name f) (with_passed p n) (with_passed p (n + 1)) held held
reads_passed has_met name f p n held named meets = record {
  met = tally 1 0 0;
  meets = meets_own has_met name f p.bus name p.account p.account held held named named meets;
  tally_is = sum-more p.tally n;
}

pub reads_one : {A : Type 0} (has_met : Meeting A) (name : List ℕ) (f : FrameRecord) (p p' : Lines A) (held : Option (List ℕ)) → p' ≡ with_passed p 1 → p.bus ≡ Some name
    → Meets (has_met name) p.account p.account (f ∷ []) held held → ReadsLine has_met (frame name f) p p' held held
reads_one has_met name f p p' held is named meets = subst (λ l. ReadsLine has_met (frame name f) p l held held) (sym is) (record {
  met = tally 1 0 0;
  meets = meets_own has_met name f p.bus name p.account p.account held held named named meets;
  tally_is = refl;
})

-- ---- the lines so far

-- where nothing is begun, the run has read what it was given and these bytes, so many lines
abbrev pub HasPassed : {S A : Type 0} → (S → Meeting A) → Pieces A → List ℕ → ℕ → Type 0
HasPassed {S} has_met run done n =
    (subject : S) (given : Option (List ℕ)) (taken : List ℕ) (before held : Option (List ℕ)) → HasTaken (has_met subject) given taken run before held
    → HasRead (has_met subject) given (taken ++ done) [] (with_passed run.lines n) before held

abbrev pub IsFresh : Splitter → Type 0
IsFresh splitter = (begun : List ℕ) → HasBegun splitter begun → begun ≡ []

passed-none : {A : Type 0} (has_met : Meeting A) (given : Option (List ℕ)) (taken begun : List ℕ) (p : Lines A) (old new : Option (List ℕ))
    → HasRead has_met given taken begun p old new → HasRead has_met given (taken ++ []) begun (with_passed p 0) old new
passed-none has_met given taken begun p old new r = record {
  lines = r.lines;
  spelled = r.spelled;
  whole = r.whole;
  taken_is = append-nil taken ∙ r.taken_is;
  spell_each = r.spell_each;
  met = record {
    bus_is = r.met.bus_is;
    tally_is = ap (λ t. sum_of t (tally 0 0 0)) r.met.tally_is ∙ sum-none given r.spelled;
    made = r.met.made;
  };
}

pub begins-none : {S A : Type 0} (has_met : S → Meeting A) (run : Pieces A) → IsFresh run.splitter → HasPassed has_met run [] 0
begins-none has_met run fresh = λ subject given taken before held h.
    subst (λ b. HasRead (has_met subject) given (taken ++ []) b (with_passed run.lines 0) before held) (fresh h.begun h.begins)
    (passed-none (has_met subject) given taken h.begun run.lines before held h.has_read)

pub passed-more : {S A : Type 0} (has_met : S → Meeting A) (run : Pieces A) (done bytes rest name : List ℕ) (found : FrameLine) (n : ℕ) → run.lines.bus ≡ Some name
    → (b : BeginsLine bytes name found rest)
    → ((subject : S) (held : Option (List ℕ)) → Meets (has_met subject name) run.lines.account run.lines.account (b.spells.frame ∷ []) held held)
    → HasPassed has_met run done n → HasPassed has_met run (done ++ (b.line ++ (newline ∷ []))) (n + 1)
passed-more has_met run done bytes rest name found n named b meets passed = λ subject given taken before held h.
    let its = b.spells in
    subst (λ t. HasRead (has_met subject) given t [] (with_passed run.lines (n + 1)) before held) (append_assoc taken done (b.line ++ (newline ∷ [])))
    (has_read-more (has_met subject) given (taken ++ done) [] b.line b.line (frame name its.frame) (with_passed run.lines n) (with_passed run.lines (n + 1)) before held held
    (passed subject given taken before held h) refl b.takes.whole (its.spells its.frame its.is_its) (reads_passed (has_met subject) name its.frame run.lines n held named (meets subject held)))

pub passes : {S A : Type 0} (has_met : S → Meeting A) (run : Pieces A) (bytes done rest : List ℕ) (n : ℕ) → IsFresh run.splitter → bytes ≡ done ++ rest → HasPassed has_met run done n
    → PassesOver has_met run bytes n rest
passes has_met run bytes done rest n fresh is passed = record {
  done = done;
  bytes_are = is;
  reads = λ subject given taken before held h.
      subst (λ b. HasRead (has_met subject) given (taken ++ done) b (with_passed run.lines n) before held) (sym (fresh h.begun h.begins)) (passed subject given taken before held h);
}

-- nothing was passed over
pub passes-none : {S A : Type 0} (has_met : S → Meeting A) (run : Pieces A) (bytes : List ℕ) → PassesOver has_met run bytes 0 bytes
passes-none has_met run bytes = record {
  done = [];
  bytes_are = refl;
  reads = λ subject given taken before held h. passed-none (has_met subject) given taken h.begun run.lines before held h.has_read;
}

-- ---- with what was taken before

abbrev pub with_lines : {A : Type 0} → Pieces A → Lines A → Pieces A
with_lines run lines = record { splitter = run.splitter; lines = lines; last = run.last }

pub takes_then_passes : {S A : Type 0} (has_met : S → Meeting A) (run run' : Pieces A) (lines : Lines A) (done rest behind : List ℕ) (n : ℕ) (a b : Option (List ℕ))
    → ((subject : S) → TakesBytes (has_met subject) run run' done a b) → lines ≡ with_passed run'.lines n → (p : PassesOver has_met run' rest n behind)
    → (subject : S) → TakesBytes (has_met subject) run (with_lines run' lines) (done ++ p.done) a b
takes_then_passes has_met run run' lines done rest behind n a b takes counted p = λ subject given taken held h.
    let t = takes subject given taken held h in
    subst (λ bs. HasTaken (has_met subject) given bs (with_lines run' lines) held b) (append_assoc taken done p.done) (record {
      begun = t.begun;
      begins = t.begins;
      has_read = subst (λ l. HasRead (has_met subject) given ((taken ++ done) ++ p.done) t.begun l held b) (sym counted) (p.reads subject given (taken ++ done) held b t);
    })

-- what is left of a piece behind them
pub left_behind : (piece done rest more behind : List ℕ) → piece ≡ done ++ rest → rest ≡ more ++ behind → piece ≡ (done ++ more) ++ behind
left_behind piece done rest more behind is cut = is ∙ ap (λ xs. done ++ xs) cut ∙ sym (append_assoc done more behind)

-- ---- the line that isn't passed over

-- the bytes behind the line are fewer by it
pub line_long : (bytes name rest : List ℕ) (found : FrameLine) (b : BeginsLine bytes name found rest) → length bytes ≡ (length b.line + 1) + length rest
line_long bytes name rest found b = let e = ap length b.takes.bytes_are ∙ length-append b.line (newline ∷ rest) in omega (arith, e)

pub line_at : (splitter : Splitter) (bytes name rest : List ℕ) (bus : Option (List ℕ)) (found : FrameLine) (n : ℕ) → IsFresh splitter → bus ≡ Some name → n + length rest ≡ length bytes
    → BeginsLine bytes name found rest → (begun : List ℕ) → HasBegun splitter begun → HasLine splitter begun bytes bus found n
line_at splitter bytes name rest bus found n fresh named size b begun h =
    let long = line_long bytes name rest found b in
    record {
      begins = subst (HasBegun splitter) (fresh begun h) h;
      line = b.line;
      ends = record {
        front = b.line;
        rest = rest;
        takes = b.takes;
        taken_is = omega (arith, long, size);
        line_is = sym (ap (λ t. t ++ b.line) (fresh begun h));
      };
      name = name;
      bus_is = named;
      spells = b.spells;
    }
