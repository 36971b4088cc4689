-- The columns of a line of a table: seven words, and to the line's end the name and the names of states.
use Rattle.std.specs.Prelude.{ℕ, zero, suc, List, [], ◌∷◌, drop, take}
use Rattle.std.specs.List.{prefix_len}
use Rattle.j39_io.specs.Chars.{is_space, is_not_space}
use Rattle.j39_groups.specs.States.{called, states_part}
use Rattle.j39_table.specs.declared.line.Columns.{Columns}

unfoldable pub without_spaces : List ℕ → List ℕ
without_spaces text = drop (prefix_len is_space text) text

-- the bytes up to a space, behind the spaces in front
unfoldable pub first_word : List ℕ → List ℕ
first_word text = take (prefix_len is_not_space (without_spaces text)) (without_spaces text)

-- what follows the first word
unfoldable pub behind_word : List ℕ → List ℕ
behind_word text = drop (prefix_len is_not_space (without_spaces text)) (without_spaces text)

-- so many words, the name and the states; a column that is not there is empty
abbrev pub words_and_rest : ℕ → List ℕ → List (List ℕ)
words_and_rest zero text = called (without_spaces text) ∷ states_part (without_spaces text) ∷ []
words_and_rest (suc more) text = first_word text ∷ words_and_rest more (behind_word text)

abbrev pub line_columns : List ℕ → List (List ℕ)
line_columns line = words_and_rest 7 line

-- the texts of columns, in their order in a line
abbrev pub column_texts : Columns → List (List ℕ)
column_texts columns =
    columns.pgn.now ∷ columns.group.now ∷ columns.spn.now ∷ columns.place.now
    ∷ columns.step.now ∷ columns.offset.now ∷ columns.unit.now
    ∷ called columns.name.now ∷ states_part columns.name.now ∷ []
