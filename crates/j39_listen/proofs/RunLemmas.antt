-- A run, line after line, against its definition.
use Rattle.std.proofs.Common.{◌≡◌, ◌≢◌, ℕ, List, [], ◌∷◌, ◌++◌, Option, Some, None, length, refl, sym, ap, ap₂, ◌∙◌, subst, arith, append-nil, append_assoc, length-append, inl, inr}
use Rattle.std.specs.Io.KnownBytes.{Appends, Keeps}
use Rattle.std.specs.Prelude.{unwrap_or}
use Rattle.std.proofs.KnownBytes.{Appends-nil, Appends-trans}
use Rattle.j39_io.specs.Chars.{newline}
use Rattle.j39_frame.specs.Frame.{FrameRecord}
use Rattle.j39_log.specs.Log.{HasNoNewline, IsLog, ended, bus_of, frames_of, is_unread}
use Rattle.j39_log.specs.Spelled.{Spelled, Spells}
use Rattle.j39_log.proofs.BusLemmas.{bus_of-append, count_by-append, ended-line, frames_of-append, others_of-append, spell-more, whole-more}
use Rattle.j39_io.proofs.DeviceLemmas.{Appends-kept}
use Rattle.j39_listen.specs.AccountCalls.{Closes, MeetsMore}
use Rattle.j39_listen.specs.Counting.{counts_of}
use Rattle.j39_listen.specs.LinesSoFar.{IsNamed, sum_of, tally_of}
use Rattle.j39_listen.specs.Output.{Output, Making, Meeting}
use Rattle.j39_listen.specs.PiecesSoFar.{HasMetAll, HasRead, ReadsLine, WritesAll}
use Rattle.j39_listen.specs.Run.{Writes, run_bus}
use Rattle.j39_listen.specs.declared.counts.Counts.{Counts}
use Rattle.j39_listen.specs.declared.counts.Made.{Made}
use Rattle.j39_listen.specs.declared.counts.Tally.{Tally}
use Rattle.j39_listen.specs.declared.lines.Lines.{Lines}
use Rattle.j39_listen.proofs.LineLemmas.{capped-sum, line_tally, same_tally, tally}

tally_of-append : (bus : Option (List ℕ)) (xs ys : List Spelled) → tally_of bus (xs ++ ys) ≡ sum_of (tally_of bus xs) (tally_of (bus_of bus xs) ys)
unfolding tally_of
tally_of-append bus xs ys =
    same_tally (tally_of bus (xs ++ ys)) (sum_of (tally_of bus xs) (tally_of (bus_of bus xs) ys))
    (capped-sum _ _ _ (ap length (frames_of-append bus xs ys) ∙ length-append (frames_of bus xs) _))
    (capped-sum _ _ _ (others_of-append bus xs ys))
    (capped-sum _ _ _ (count_by-append is_unread xs ys))

-- ---- what was met in the lines so far

-- in no lines
pub has_met-none : {A : Type 0} (has_met : Meeting A) (given : Option (List ℕ)) (a : A) (output : Output) (t : Tally) (held : Option (List ℕ))
    → ((name : List ℕ) → has_met name a [] output) → output.text ≡ [] → t ≡ tally 0 0 0 → HasMetAll has_met given [] (record { bus = given; account = a; tally = t }) held held
has_met-none has_met given a output t held met none zero = record {
  bus_is = no_lines given;
  tally_is = zero ∙ line_tally given [] 0 0 0 refl refl refl (omega arith) (omega arith) (omega arith);
  made = λ name named. record { output = output; met = met name; written = subst (Appends held held) (sym none) (Appends-nil held) };
}
  where
    no_lines : (o : Option (List ℕ)) → o ≡ bus_of o []
    no_lines None = refl
    no_lines (Some b) = refl

-- the bus keeps its name once it has one
pub named_before : (bus : Option (List ℕ)) (spelled : List Spelled) (name : List ℕ) → IsNamed (bus_of bus spelled) name → IsNamed bus name
named_before None spelled name named = refl
named_before (Some b) spelled name named = named

-- at the end it has the name that the output is made with
pub has_run_bus : (given : Option (List ℕ)) (spelled : List Spelled) → IsNamed (bus_of given spelled) (run_bus given spelled)
has_run_bus given spelled = by_bus (bus_of given spelled)
  where
    by_bus : (o : Option (List ℕ)) → IsNamed o (unwrap_or o [])
    by_bus None = refl
    by_bus (Some b) = refl

-- in one line more
pub has_met-more : {A : Type 0} (has_met : Meeting A) (given : Option (List ℕ)) (spelled : List Spelled) (s : Spelled) (p p' : Lines A) (old mid new : Option (List ℕ))
    → HasMetAll has_met given spelled p old mid → ReadsLine has_met s p p' mid new → HasMetAll has_met given (spelled ++ (s ∷ [])) p' old new
has_met-more has_met given spelled s p p' old mid new h r =
    let F = frames_of given spelled in
    let frames = frames_of-append given spelled (s ∷ []) in
    let bus = bus_of-append given spelled (s ∷ []) in
    record {
      bus_is = r.meets.bus_is ∙ ap (λ (o : Option (List ℕ)). bus_of o (s ∷ [])) h.bus_is ∙ sym (bus_of-append given spelled (s ∷ []));
      tally_is = r.tally_is ∙ ap₂ sum_of h.tally_is (r.meets.met_is ∙ ap (λ (o : Option (List ℕ)). tally_of o (s ∷ [])) h.bus_is) ∙ sym (tally_of-append given spelled (s ∷ []));
      made = λ name named.
          let later : IsNamed (bus_of (bus_of given spelled) (s ∷ [])) name = subst (λ (o : Option (List ℕ)). IsNamed o name) bus named in
          let before = h.made name (named_before (bus_of given spelled) (s ∷ []) name later) in
          let here : IsNamed (bus_of p.bus (s ∷ [])) name = subst (λ (o : Option (List ℕ)). IsNamed (bus_of o (s ∷ [])) name) (sym h.bus_is) later in
          let m = subst (λ (o : Option (List ℕ)). MeetsMore (has_met name) p'.account (F ++ frames_of o (s ∷ [])) before.output.text mid new) h.bus_is
          (r.meets.meets name here F before.output before.met) in
          record {
            output = m.after;
            met = subst (λ (fs : List FrameRecord). has_met name p'.account fs m.after) (sym frames) m.met;
            written = subst (Appends old new) (sym m.text_is) (Appends-trans old mid new _ _ before.written m.written);
          };
    }

-- ---- the lines so far

-- one line more that is ended
pub has_read-more : {A : Type 0} (has_met : Meeting A) (given : Option (List ℕ)) (taken begun front line : List ℕ) (s : Spelled) (p p' : Lines A) (old mid new : Option (List ℕ))
    → HasRead has_met given taken begun p old mid → line ≡ begun ++ front → HasNoNewline line → Spells line s → ReadsLine has_met s p p' mid new
    → HasRead has_met given (taken ++ (front ++ (newline ∷ []))) [] p' old new
has_read-more has_met given taken begun front line s p p' old mid new h line_is whole spells r = record {
  lines = h.lines ++ (line ∷ []);
  spelled = h.spelled ++ (s ∷ []);
  whole = whole-more h.lines line h.whole whole;
  taken_is = ended-line taken begun front line [] h.lines h.taken_is line_is;
  spell_each = spell-more h.lines h.spelled line s h.spell_each spells;
  met = has_met-more has_met given h.spelled s p p' old mid new h.met r;
}

-- bytes more that end no line
pub has_read-bytes : {A : Type 0} (has_met : Meeting A) (given : Option (List ℕ)) (taken begun bytes : List ℕ) (p : Lines A) (old new : Option (List ℕ))
    → HasRead has_met given taken begun p old new → HasRead has_met given (taken ++ bytes) (begun ++ bytes) p old new
has_read-bytes has_met given taken begun bytes p old new h = record {
  lines = h.lines;
  spelled = h.spelled;
  whole = h.whole;
  taken_is = ap (λ t. t ++ bytes) h.taken_is ∙ append_assoc (ended h.lines) begun bytes;
  spell_each = h.spell_each;
  met = h.met;
}

-- ---- the end of the log

-- all lines are ended
pub ended_log : {A : Type 0} (has_met : Meeting A) (given : Option (List ℕ)) (log rest : List ℕ) (p : Lines A) (old new : Option (List ℕ))
    → (h : HasRead has_met given log rest p old new) → rest ≡ [] → IsLog log h.spelled
ended_log has_met given log rest p old new h none =
    let joined : log ≡ ended h.lines = h.taken_is ∙ ap (λ (x : List ℕ). ended h.lines ++ x) none ∙ append-nil (ended h.lines) in
    record { lines = h.lines; are_lines = record { whole = h.whole; bytes_are = inl joined }; spell_each = h.spell_each }

-- a last line is not ended
pub last_log : {A : Type 0} (has_met : Meeting A) (given : Option (List ℕ)) (log rest : List ℕ) (s : Spelled) (p : Lines A) (old new : Option (List ℕ))
    → (h : HasRead has_met given log rest p old new) → HasNoNewline rest → rest ≢ [] → Spells rest s → IsLog log (h.spelled ++ (s ∷ []))
last_log has_met given log rest s p old new h whole some spells = record {
  lines = h.lines ++ (rest ∷ []);
  are_lines = record {
    whole = whole-more h.lines rest h.whole whole;
    bytes_are = inr (record { front = h.lines; last = rest; lines_are = refl; last_is = some; bytes_are = h.taken_is });
  };
  spell_each = spell-more h.lines h.spelled rest s h.spell_each spells;
}

same_counts : (a b : Counts) → a.frames ≡ b.frames → a.other ≡ b.other → a.unread ≡ b.unread → a.messages ≡ b.messages → a.lines ≡ b.lines → a ≡ b
same_counts a b f o u m l = λ i. record { frames = f i; other = o i; unread = u i; messages = m i; lines = l i }

-- the account is closed, and a flush adds nothing
pub closes_all : {A : Type 0} (has_met : Meeting A) (makes : Making) (given : Option (List ℕ)) (spelled : List Spelled)
    (p : Lines A) (made : Made) (old mid new : Option (List ℕ)) → HasMetAll has_met given spelled p old mid → Closes has_met makes p.account made mid new
    → WritesAll makes given spelled (record { frames = p.tally.frames; other = p.tally.other; unread = p.tally.unread; messages = made.messages; lines = made.lines }) old new
unfolding tally_of
closes_all has_met makes given spelled p made old mid new h closes =
    let before = h.made (run_bus given spelled) (has_run_bus given spelled) in
    let m = closes (run_bus given spelled) (frames_of given spelled) before.output before.met in
    record {
      output = m.after;
      is_made = m.is_made;
      counts_are = same_counts _ (counts_of given spelled m.after) (ap (λ (t : Tally). t.frames) h.tally_is) (ap (λ (t : Tally). t.other) h.tally_is) (ap (λ (t : Tally). t.unread) h.tally_is)
          m.messages_are m.lines_are;
      written = subst (Appends old new) (sym m.text_is) (Appends-trans old mid new _ _ before.written m.written);
    }

pub writes_kept : (makes : Making) (given : Option (List ℕ)) (spelled : List Spelled) (counts : Counts) (old mid new : Option (List ℕ))
    → WritesAll makes given spelled counts old mid → Keeps mid new → WritesAll makes given spelled counts old new
writes_kept makes given spelled counts old mid new h k = record {
  output = h.output;
  is_made = h.is_made;
  counts_are = h.counts_are;
  written = Appends-kept old mid new h.output.text h.written k;
}

pub writes_log : (makes : Making) (given : Option (List ℕ)) (log : List ℕ) (spelled : List Spelled) (counts : Counts) (old new : Option (List ℕ))
    → IsLog log spelled → WritesAll makes given spelled counts old new → Writes makes given log counts old new
writes_log makes given log spelled counts old new is h = record {
  spelled = spelled;
  is_log = is;
  output = h.output;
  is_made = h.is_made;
  counts_are = h.counts_are;
  written = h.written;
}
