-- The colour, as much of the line as is shown, and its end.
use Rattle.j39_watch.proofs.Common.{◌≡◌, ◌++◌, ◌∙◌, ap, take, puts_as, puts_first, puts_then}
use Rattle.j39_watch.specs.Watch.{colour_off, colour_on, letter_end, line_end}
use Rattle.j39_watch.proofs.lines.put_line.Goals as goal

pub returns-in_err-put_all : goal.returns-in_err-put_all
returns-in_err-put_all g c =
    let bytes = c.args.line.now.bytes.items in
    let shown : c.whole_letters-text.result.now ≡ take (letter_end c.args.size.width bytes) bytes =
    c.whole_letters-text.ensures ∙ (λ i. take (letter_end ((c.from.ensures ∙ c.width.ensures.value) i) (c.as_slice.ensures i)) (c.as_slice.ensures i)) in
    let ending = colour_off c.colour_of-colour.result ++ line_end in
    let off = ap (λ s. colour_off s ++ line_end) c.colour_of-colour.ensures in
    let on = c.begin.ensures ∙ ap colour_on c.colour_of-colour.ensures in
    puts_as _ _ _ _ (λ i. on i ++ (shown i ++ off i))
    (puts_first _ (c.whole_letters-text.result.now ++ ending) _ _ _ c.from_residual.ensures.0 c.in_err-put_all.ensures.puts)

pub returns-in_err-put_all-2 : goal.returns-in_err-put_all-2
returns-in_err-put_all-2 g c =
    let bytes = c.args.line.now.bytes.items in
    let shown : c.whole_letters-text.result.now ≡ take (letter_end c.args.size.width bytes) bytes =
    c.whole_letters-text.ensures ∙ (λ i. take (letter_end ((c.from.ensures ∙ c.width.ensures.value) i) (c.as_slice.ensures i)) (c.as_slice.ensures i)) in
    let ending = colour_off c.colour_of-colour.result ++ line_end in
    let off = ap (λ s. colour_off s ++ line_end) c.colour_of-colour.ensures in
    let on = c.begin.ensures ∙ ap colour_on c.colour_of-colour.ensures in
    puts_as _ _ _ _ (λ i. on i ++ (shown i ++ off i))
    (puts_then _ (c.whole_letters-text.result.now ++ ending) _ _ _ _ _ c.in_ok-put_all.ensures.puts
    (puts_first _ ending _ _ _ c.from_residual-in_err-put_all-2.ensures.0 c.in_err-put_all-2.ensures.puts))

pub returns : goal.returns
returns g c =
    let bytes = c.args.line.now.bytes.items in
    let shown : c.whole_letters-text.result.now ≡ take (letter_end c.args.size.width bytes) bytes =
    c.whole_letters-text.ensures ∙ (λ i. take (letter_end ((c.from.ensures ∙ c.width.ensures.value) i) (c.as_slice.ensures i)) (c.as_slice.ensures i)) in
    let off = c.end.ensures ∙ ap (λ s. colour_off s ++ line_end) c.colour_of-colour.ensures in
    let on = c.begin.ensures ∙ ap colour_on c.colour_of-colour.ensures in
    puts_as _ _ _ _ (λ i. on i ++ (shown i ++ off i))
    (puts_then _ _ _ _ _ _ _ c.in_ok-put_all.ensures.puts (puts_then _ _ _ _ _ _ _ c.in_ok-put_all-2.ensures.puts c.put_all-3.ensures.puts))
