use Rattle.j39_cli.proofs.Common.{◌≡◌, array_vec_len}
use Rattle.j39_cli.specs.Lists.{words_in}
use Rattle.j39_cli.proofs.ListLemmas.{AreRead}
use Rattle.j39_cli.proofs.lists.list_of.Given as goal

-- the words so far have values, and these
abbrev pub invariant-loop-word : goal.invariant-loop-word
invariant-loop-word g l =
    AreRead g.W.Word.IsWord g.W.Word.value_of (words_in l.text) l.word-index l.values.items
    × (array_vec_len l.values ≡ l.word-index)
