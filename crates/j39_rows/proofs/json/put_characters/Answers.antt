-- What was written before, the text of this chunk, and what stands for what is no text.
use Rattle.std.proofs.Common.{◌≡◌, ◌∙◌, ◌++◌, ◌<◌, length, append-nil, append_assoc, ap, rules, sym}
use Rattle.std.specs.List.{flat_map}
use Rattle.std.specs.Str.Lossy.{replacement_bytes, utf8_lossy}
use Rattle.std.proofs.lemmas.Str.{utf8_lossy_chunk, utf8_lossy_empty, utf8_lossy_last_chunk}
use Rattle.j39_io.proofs.PutsLemmas.{puts_as, puts_done}
use Rattle.j39_rows.specs.Json.{character_text}
use Rattle.j39_rows.proofs.JsonLemmas.{puts_more_too, stops_in, valid_first}
use Rattle.j39_rows.proofs.json.put_characters.Goals as goal

pub returns-in_err-put_bytes : goal.returns-in_err-put_bytes
returns-in_err-put_bytes g c =
    let steps = c.in-Some.ensures.steps in
    let (done, is, put) = c.loop-chunk.invariant in
    let valid = c.in-Some.chunk.valid.now in
    let (tail, first) = valid_first _ valid _ _ steps.0 steps.2 steps.3.0 steps.3.1 in
    stops_in done valid _ _ _ put (utf8_lossy c.args.text.now) tail _ _
    (sym is ∙ ap (λ t. done ++ t) first ∙ sym (append_assoc done valid tail)) c.from_residual.ensures.0
    (puts_as _ _ _ _ (ap (flat_map character_text) (c.as_bytes.ensures.value ∙ c.valid.ensures)) c.in_err-put_bytes.ensures)

pub loop-chunk-preserved-in-Continue-branch-2 : goal.loop-chunk-preserved-in-Continue-branch-2
loop-chunk-preserved-in-Continue-branch-2 g c =
    let steps = c.in-Some.ensures.steps in
    let (done, is, put) = c.loop-chunk.invariant in
    let valid = c.in-Some.chunk.valid.now in
    let some : 0 < length c.in-Some.chunk.invalid.now = search rules in
    let text = utf8_lossy_chunk _ valid _ _ steps.0 steps.3.0 steps.3.1 some in (
      (done ++ valid) ++ replacement_bytes,
      append_assoc (done ++ valid) replacement_bytes _ ∙ append_assoc done valid _ ∙ ap (λ t. done ++ t) (sym text) ∙ is,
      puts_more_too (done ++ valid) replacement_bytes _ _ _
          (puts_more_too done valid _ _ _ put _ (puts_as _ _ _ _ (ap (flat_map character_text) (c.as_bytes.ensures.value ∙ c.valid.ensures)) c.in_ok-put_bytes.ensures))
          _ c.in_ok-put_all.ensures.puts,
    )

pub returns-in_err-put_all : goal.returns-in_err-put_all
returns-in_err-put_all g c =
    let steps = c.in-Some.ensures.steps in
    let (done, is, put) = c.loop-chunk.invariant in
    let valid = c.in-Some.chunk.valid.now in
    let some : 0 < length c.in-Some.chunk.invalid.now = search rules in
    let text = utf8_lossy_chunk _ valid _ _ steps.0 steps.3.0 steps.3.1 some in
    stops_in (done ++ valid) replacement_bytes _ _ _
    (puts_more_too done valid _ _ _ put _ (puts_as _ _ _ _ (ap (flat_map character_text) (c.as_bytes.ensures.value ∙ c.valid.ensures)) c.in_ok-put_bytes.ensures))
    (utf8_lossy c.args.text.now) _ _ _
    (sym is ∙ ap (λ t. done ++ t) text ∙ sym (append_assoc done valid _) ∙ sym (append_assoc (done ++ valid) replacement_bytes _)) c.from_residual-in_err-put_all.ensures.0
    c.in_err-put_all.ensures.puts

pub loop-chunk-preserved : goal.loop-chunk-preserved
loop-chunk-preserved g c =
    let steps = c.in-Some.ensures.steps in
    let (done, is, put) = c.loop-chunk.invariant in
    let valid = c.in-Some.chunk.valid.now in
    let none : length c.in-Some.chunk.invalid.now ≡ 0 = search rules in
    let text = utf8_lossy_last_chunk _ valid _ _ steps.0 steps.3.0 none (steps.2 none) in (
      done ++ valid,
      append_assoc done valid _ ∙ ap (λ t. done ++ t) (sym text) ∙ is,
      puts_more_too done valid _ _ _ put _ (puts_as _ _ _ _ (ap (flat_map character_text) (c.as_bytes.ensures.value ∙ c.valid.ensures)) c.in_ok-put_bytes.ensures),
    )

pub returns : goal.returns
returns g c =
    let (done, is, put) = c.loop-chunk.invariant in
    puts_done _ tt tt _
    (puts_as _ _ _ _ (ap (flat_map character_text) (sym (append-nil done) ∙ ap (λ t. done ++ t) (sym (utf8_lossy_empty _ c.in-None.ensures.steps.0)) ∙ is)) put)
