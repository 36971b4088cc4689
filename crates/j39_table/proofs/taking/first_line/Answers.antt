-- The first line ends at the first newline.
use Rattle.std.proofs.Common.{◌≡◌, ◌≤◌, ◌+◌, ◌-◌, ◌==◌, ◌∙◌, ◌∷◌, [], ℕ, List, ap, arith, drop, length, length-drop, map, sym, take, take_all}
use Rattle.std.specs.List.{position_or_len}
use Rattle.std.proofs.lemmas.List.{drop-drop}
use Rattle.std.proofs.lemmas.List.Splits.{slice_split_first}
use Rattle.j39_table.specs.Tables.{bare_line, lines_of}
use Rattle.j39_table.proofs.TableLemmas.{one_line}
use Rattle.j39_table.proofs.taking.first_line.Goals as goal

cut : (text line rest : List ℕ) (n : ℕ) → n ≡ position_or_len (λ b. b == 10) text → line ≡ take n text → rest ≡ drop n text → 1 ≤ length rest
    → lines_of text ≡ bare_line line ∷ lines_of (take (length rest - 1) (drop 1 rest))
cut text line rest n at front back some =
    let left = length-drop n text in
    let behind : take (length rest - 1) (drop 1 rest) ≡ drop (n + 1) text =
    take_all (length rest - 1) (drop 1 rest) (omega (arith, length-drop 1 rest)) ∙ ap (drop 1) back ∙ drop-drop 1 n text in
    rw (front, behind, at) (ap (map bare_line) (slice_split_first (λ b. b == 10) text 0 (omega (arith, left, at, ap length back))))

pub returns-in-len1-up : goal.returns-in-len1-up
returns-in-len1-up c =
    cut c.args.text.now c.split_at.result.0.now c.split_at.result.1.now c.line_len.result c.line_len.ensures.value c.split_at.ensures.front
    c.split_at.ensures.back c.in-len1-up.len_at_least
    ∙ ap (λ line. line ∷ lines_of (take (length c.split_at.result.1.now - 1) (drop 1 c.split_at.result.1.now))) (sym c.bare_line-in-len1-up.ensures)

pub returns-in-empty : goal.returns-in-empty
returns-in-empty c =
    let left = length-drop c.line_len.result c.args.text.now in
    let all : length c.args.text.now ≤ c.line_len.result = omega (arith, left, ap length c.split_at.ensures.back, c.in-empty.len_below) in
    ap (map bare_line) (one_line c.args.text.now (omega (arith, all, c.line_len.ensures.value)))
    ∙ ap (λ line. bare_line line ∷ []) (sym (c.split_at.ensures.front ∙ take_all c.line_len.result c.args.text.now all))
    ∙ ap (λ line. line ∷ []) (sym c.bare_line.ensures)
