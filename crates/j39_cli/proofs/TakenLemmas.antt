-- How clap takes a command as it is spelled, and meets it with its texts.
use Rattle.j39_cli.proofs.Common.{◌≡◌, ◌∙◌, ap, List, [], ◌∷◌, refl, true, Some, map, Err, App, Row, Shape, Text, built, is_simple, is_simple_and_free, subcommand_of, takes, built_leaf, finished}
use Rattle.clap.proofs.OnLiterals.{clap_on_literals}
use Rattle.j39_cli.specs.Answer.{AreChecked, Check, OrMemory}
use Rattle.j39_cli.specs.Command.{line_app}
use Rattle.j39_cli.specs.CommandWords.{CommandWords, HasTexts, IsAnswer, form_of, words_of}
use Rattle.j39_cli.specs.declared.task.ParseFault.TheVariants.{Memory}
use Rattle.j39_cli.specs.declared.task.Task.{Task}
use Rattle.j39_cli.proofs.PartLemmas.{AreParts, Enters, Part, built_takes-enters, entered-enters, held_after}
use Rattle.j39_cli.proofs.PartLemmas.{level_passes-parts, rows_after-parts, takes_parts, text_of}

pub line_is_simple : is_simple line_app ≡ true
unfolding clap_on_literals line_app
line_is_simple = refl

-- and its arguments have no rule on one another
pub line_is_free : is_simple_and_free line_app ≡ true
unfolding clap_on_literals line_app
line_is_free = refl

-- what is known of a command that is spelled: clap takes it, and meets it with its texts
pub record IsRead (program : Text) (s : CommandWords) : Type 0 where
  pub taken : takes line_app (program ∷ words_of s) ≡ true
  pub met : Text × List Row
  pub rows : subcommand_of line_app (program ∷ words_of s) ≡ Some met
  pub texts : HasTexts s met

-- the command of this name, as clap builds it
abbrev pub leaf_of : App → Shape
leaf_of a = built_leaf a.top

abbrev pub rows_of_parts : App → List Part → Text × List Row
rows_of_parts a xs = ((leaf_of a).name, finished (leaf_of a).rules (held_after (leaf_of a) xs))

-- it is read where its words are those of parts that the command takes
pub read : (program word : Text) (a : App) → Enters (built line_app) word (leaf_of a)
    → (xs : List Part) (s : CommandWords) → AreParts xs → words_of s ≡ word ∷ map text_of xs
    → takes_parts (leaf_of a) xs ≡ true → HasTexts s (rows_of_parts a xs) → IsRead program s
unfolding line_app
read program word a enters xs s are spelled passes texts = record {
  taken = ap (λ (words : List Text). takes line_app (program ∷ words)) spelled
      ∙ built_takes-enters (built line_app) word (leaf_of a) (map text_of xs) enters
      (level_passes-parts (leaf_of a) xs are ∙ passes);
  met = rows_of_parts a xs;
  rows = ap (λ (words : List Text). subcommand_of line_app (program ∷ words)) spelled
      ∙ entered-enters (built line_app) word (leaf_of a) (map text_of xs) enters
      ∙ ap (λ (rows : List Row). Some ((leaf_of a).name, rows)) (rows_after-parts (leaf_of a) xs are);
  texts = texts;
}

-- ---- memory

memory_checked : (checks : List Check) (Is : Task → Type 0) → AreChecked {T = Task} checks (OrMemory Is) (Err Memory)
memory_checked [] Is = tt
memory_checked (c ∷ cs) Is = record { in_range = λ _. memory_checked cs Is; wrong = λ _. tt }

-- that memory was refused answers each command
pub memory_answers : (s : CommandWords) → IsAnswer s (Err Memory)
memory_answers s = memory_checked (form_of s).checks (form_of s).Is
