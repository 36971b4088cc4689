-- Each word in turn has a value, or there is no list.
use Rattle.j39_cli.proofs.Common.{◌∙◌, ◌+◌, ◌∷◌, [], ◌++◌, ap, arith, length, map, refl, sym, subst, length-map}
use Rattle.j39_cli.specs.Lists.{words_in}
use Rattle.j39_cli.proofs.ListLemmas.{AreRead, all_read, no_value, reads_more, word_at}
use Rattle.j39_cli.proofs.lists.list_of.Goals as goal

pub returns-in-None : goal.returns-in-None
returns-in-None g c =
    let words = ap (map (λ word. word.now)) c.as_slice-word-items.ensures.value ∙ c.in_ok-words.ensures.0 in
    let at = word_at (λ word. word.now) _ _ c.loop-word.word-index _ words c.loop-word-test.true in
    no_value _ g.W.Word.value_of c.args.text.now _ c.loop-word.word-index at.0 at.1 c.in-None.ensures

pub loop-word-preserved : goal.loop-word-preserved
loop-word-preserved g c =
    let words = ap (map (λ word. word.now)) c.as_slice-word-items.ensures.value ∙ c.in_ok-words.ensures.0 in
    let at = word_at (λ word. word.now) _ _ c.loop-word.word-index _ words c.loop-word-test.true in
    let here = c.in-Some.ensures in
    let len = c.push.ensures.len in
    let before = c.loop-word.invariant.1 in (
      subst (AreRead g.W.Word.IsWord g.W.Word.value_of (words_in c.args.text.now) (c.loop-word.word-index + 1))
          (ap (λ value. c.loop-word.values.items ++ (value ∷ [])) (sym here.1) ∙ sym c.push.ensures.items)
          (reads_more _ _ (words_in c.args.text.now) c.loop-word.word-index _ _ c.loop-word.values.items at.0 refl at.1 here.0 c.loop-word.invariant.0),
      omega (arith, len, before),
    )

pub returns : goal.returns
returns g c =
    let words = ap (map (λ word. word.now)) c.as_slice-word-items.ensures.value ∙ c.in_ok-words.ensures.0 in
    let long = ap length words in
    let same = length-map c.as_slice-word-items.result.now (λ word. word.now) in
    let end = c.loop-word-test.false in
    let fits = c.in_ok-words.ensures.1 in
    let items = ap length c.as_slice-word-items.ensures.value in
    all_read _ _ c.args.text.now c.loop-word.word-index c.loop-word.values.items (omega arith) (omega arith) c.loop-word.invariant.0
