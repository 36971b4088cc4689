-- What stands before a value, the value, and a newline are the line.
use Rattle.std.proofs.Common.{◌≡◌, ◌++◌, ◌∷◌, [], ℕ, List, ap, rules, sym, codes, decimal}
use Rattle.j39_frame.specs.Stamp.{stamp_micros}
use Rattle.j39_groups.specs.Models.{reading_of, value_of}
use Rattle.j39_groups.specs.Value.{ReadingRecord}
use Rattle.j39_groups.specs.ValueText.{value_text}
use Rattle.j39_io.proofs.PutsLemmas.{puts_as, puts_first, puts_more, puts_then}
use Rattle.j39_listen.specs.Report.{entry_of, entry_text, head_text}
use Rattle.j39_c.specs.Messages.{hearing_in, marked}
use Rattle.j39_c.specs.declared.message.WholeMessage.{WholeMessage}
use Rattle.j39_c.proofs.report_line.put_line.Goals as goal

abbrev columns : ℕ → WholeMessage → ℕ → List ℕ
columns moment m spn = head_text moment m.source (marked m.is_named m.name) m.pgn ++ decimal spn ++ codes " "

line_is : (moment : ℕ) (m : WholeMessage) (r : ReadingRecord) → m.micros ≡ moment
    → columns moment m r.spn ++ value_text r.value ++ (10 ∷ []) ≡ entry_text (entry_of (hearing_in m) r)
unfolding entry_text
line_is moment m r same = ap (λ (t : ℕ). columns t m r.spn ++ value_text r.value ++ (10 ∷ [])) (sym same)

pub returns-in_err-put_all : goal.returns-in_err-put_all
returns-in_err-put_all g c =
    let head : c.as_slice.result.now ≡ columns (stamp_micros c.args.moment) c.args.message.now c.args.reading.now.spn = search rules in
    puts_as _ _ _ _ (line_is (stamp_micros c.args.moment) c.args.message.now (reading_of c.args.reading.now) c.requires)
    (puts_first _ (10 ∷ []) _ _ _ c.from_residual.ensures.0
    (puts_more _ (value_text (value_of c.args.reading.now.value)) _ _ (puts_as _ _ _ _ head c.in_err-put_all.ensures.puts)))

pub returns-in_err-put_value : goal.returns-in_err-put_value
returns-in_err-put_value g c =
    let head : c.as_slice.result.now ≡ columns (stamp_micros c.args.moment) c.args.message.now c.args.reading.now.spn = search rules in
    puts_as _ _ _ _ (line_is (stamp_micros c.args.moment) c.args.message.now (reading_of c.args.reading.now) c.requires)
    (puts_first _ (10 ∷ []) _ _ _ c.from_residual-in_err-put_value.ensures.0
    (puts_then (columns (stamp_micros c.args.moment) c.args.message.now c.args.reading.now.spn) _ _ _ _ _ _
    (puts_as _ _ _ _ head c.in_ok-put_all.ensures.puts) c.in_err-put_value.ensures))

pub returns : goal.returns
returns g c =
    let head : c.as_slice.result.now ≡ columns (stamp_micros c.args.moment) c.args.message.now c.args.reading.now.spn = search rules in
    puts_as _ _ _ _ (line_is (stamp_micros c.args.moment) c.args.message.now (reading_of c.args.reading.now) c.requires)
    (puts_then _ (10 ∷ []) _ _ _ _ _
    (puts_then _ _ _ _ _ _ _ (puts_as _ _ _ _ head c.in_ok-put_all.ensures.puts) c.in_ok-put_value.ensures)
    c.put_all-2.ensures.puts)
