-- From the command that clap met to the command that was spelled.
use Rattle.j39_cli.proofs.Common.{◌≡◌, ◌∙◌, ◌++◌, ◌∷◌, [], ap, codes, sym, subst, List, refl, Some, None, Option, Result, Ok, Err, IfOk, Box, option_map, unwrap_or, Row, Text, first_value, rows_of, subcommand_name_of, subcommand_rows, subcommand_rows_of}
use Rattle.std.specs.Box.{box_value}
use Rattle.std.specs.Result.{IsErr}
use Rattle.clap.specs.declared.parser.matches.ArgMatches.{ArgMatches}
use Rattle.clap.specs.declared.parser.matches.ArgMatches.TheViews.{out-ArgMatches, out-SubCommand}
use Rattle.clap.specs.declared.parser.matches.Found.{Found}
use Rattle.clap.specs.declared.parser.matches.SubCommand.{SubCommand}
use Rattle.clap.proofs.WalkLemmas.{first_value-rows, raw_values-rows}
use Rattle.j39_cli.specs.Answer.{Answer}
use Rattle.j39_cli.specs.Asked.{AskedTexts, asked_arguments, asked_found}
use Rattle.j39_cli.specs.CommandWords as command
use Rattle.j39_cli.specs.CommandWords.{CommandWords, HasTexts, IsAnswer, Tells, command_found, form_of}
use Rattle.j39_cli.specs.Form.{ArgumentText, HasText, HaveTexts, flag, option, text_found, texts_found, texts_of, value, values}
use Rattle.j39_cli.specs.RowOptions.{RowTexts, headed_arguments, rows_found}
use Rattle.j39_cli.specs.Rules.{is_given}

name_of_met : (m : ArgMatches) → option_map (λ met. met.0) (subcommand_rows_of m) ≡ subcommand_name_of m
name_of_met m = go (out-ArgMatches m).subcommand
  where
    go : {Z : Type 0} (o : Option (Box SubCommand Z))
        → option_map (λ met. met.0) (subcommand_rows o) ≡ option_map (λ b. (out-SubCommand (box_value b)).name.now) o
    go None = refl
    go (Some b) = refl

abbrev rows_in : Option (Text × List Row) → Option (List Row)
rows_in met = option_map (λ (q : Text × List Row). q.1) met

-- clap met the command of this name, with these rows
pub met_is : (m : ArgMatches) (called : Text) (rows : List Row) → subcommand_name_of m ≡ Some called
    → rows_in (subcommand_rows_of m) ≡ Some rows → subcommand_rows_of m ≡ Some (called, rows)
met_is m called rows is_called has_rows = by_rows (subcommand_rows_of m) refl
  where
    by_rows : (o : Option (Text × List Row)) → subcommand_rows_of m ≡ o → subcommand_rows_of m ≡ Some (called, rows)
    by_rows None e =
        let none : rows_in None ≡ Some rows = ap rows_in (sym e) ∙ has_rows in
        absurd (cc)
    by_rows (Some (name, held)) e =
        let names : Some name ≡ Some called =
        ap (λ (o : Option (Text × List Row)). option_map (λ q. q.0) o) (sym e) ∙ name_of_met m ∙ is_called in
        let texts : Some held ≡ Some rows = ap rows_in (sym e) ∙ has_rows in
        let is_name : name ≡ called = cc in
        let is_held : held ≡ rows = cc in
        rw (← is_name, ← is_held) e

-- ---- the command that is meant

abbrev IsFound : Found → ArgumentText → Type 0
IsFound found (option id text) = first_value found id ≡ text
IsFound found (flag id is_set) = is_given (first_value found id) ≡ is_set
IsFound found (value id text) = first_value found id ≡ text
IsFound found (values id texts) = texts_found found id ≡ texts

-- all texts of an argument, and of its row
pub texts_found-rows : (found : Found) (id : Text) → texts_found found id ≡ texts_of id (rows_of found)
texts_found-rows found id = ap (λ (texts : Option (List Text)). unwrap_or texts []) (raw_values-rows found id)

-- these are the texts that were found
abbrev pub AreFound : Found → List ArgumentText → Type 0
AreFound found [] = Unit {0}
AreFound found (x ∷ xs) = IsFound found x × AreFound found xs

have_texts : (found : Found) (xs : List ArgumentText) → AreFound found xs → HaveTexts (rows_of found) xs
have_texts found [] are = tt
have_texts found (x ∷ xs) are = (of x are.0, have_texts found xs are.1)
  where
    of : (x : ArgumentText) → IsFound found x → HasText (rows_of found) x
    of (option id text) is = sym (first_value-rows found id) ∙ is
    of (flag id is_set) is = ap is_given (sym (first_value-rows found id)) ∙ is
    of (value id text) is = sym (first_value-rows found id) ∙ is
    of (values id texts) is = sym (texts_found-rows found id) ∙ is

found_texts : (found : Found) (xs : List ArgumentText) → HaveTexts (rows_of found) xs → AreFound found xs
found_texts found [] have = tt
found_texts found (x ∷ xs) have = (of x have.0, found_texts found xs have.1)
  where
    of : (x : ArgumentText) → HasText (rows_of found) x → IsFound found x
    of (option id text) is = first_value-rows found id ∙ is
    of (flag id is_set) is = ap is_given (first_value-rows found id) ∙ is
    of (value id text) is = first_value-rows found id ∙ is
    of (values id texts) is = texts_found-rows found id ∙ is

is_text_found : (found : Found) (id text : Text) → first_value found id ≡ Some text → text ≡ text_found found id
is_text_found found id text is = rw is

asked_are_found : (texts : AskedTexts) (others : List ArgumentText) (found : Found) → AreFound found (asked_arguments texts ++ others)
    → (texts ≡ asked_found found) × AreFound found others
asked_are_found texts others found are = (
  λ i. record {
    spn = sym are.0 i;
    from = sym are.1.0 i;
    to = sym are.1.1.0 i;
    pgn = sym are.1.1.1.0 i;
    since = sym are.1.1.1.1.0 i;
    until = sym are.1.1.1.1.1.0 i;
  },
  are.1.1.1.1.1.1,
)

rows_are_found : (texts : RowTexts) (found : Found) → first_value found (codes "bus") ≡ texts.bus → first_value found (codes "table") ≡ texts.table
    → texts.asked ≡ asked_found found → AreFound found (headed_arguments texts) → texts ≡ rows_found found
rows_are_found texts found bus table asked log = λ i. record {
  bus = sym bus i;
  table = sym table i;
  asked = asked i;
  head = sym log.0 i;
  csv = sym log.1.0 i;
  json = sym log.1.1.0 i;
  utc = sym log.1.1.1.0 i;
  file = sym log.1.1.1.1.0 i;
}

-- a command is that of its name whose texts are found
is_command_found : (s : CommandWords) (found : Found) → AreFound found (form_of s).arguments
    → s ≡ command_found (form_of s).called found
is_command_found (command.report texts) found are =
    let asked = asked_are_found texts.asked (headed_arguments texts) found are.1.1 in
    ap command.report (rows_are_found texts found are.0 are.1.0 asked.0 asked.1)
is_command_found (command.summary texts) found are =
    let asked = asked_are_found texts.asked (headed_arguments texts) found are.1.1 in
    ap command.summary (rows_are_found texts found are.0 are.1.0 asked.0 asked.1)
is_command_found (command.grid every texts) found are =
    let asked = asked_are_found texts.asked (headed_arguments texts) found are.1.1.1 in
    let rows = rows_are_found texts found are.1.0 are.1.1.0 asked.0 asked.1 in
    λ i. command.grid (sym are.0 i) (rows i)
is_command_found (command.faults names conversion all changes now texts) found are =
    let flags = flag (codes "all") all ∷ flag (codes "changes") changes ∷ flag (codes "now") now ∷ headed_arguments texts in
    let asked = asked_are_found texts.asked flags found are.1.1.1.1 in
    let told = asked.1 in
    let rows = rows_are_found texts found are.0 are.1.0 asked.0 told.1.1.1 in
    λ i. command.faults (sym are.1.1.0 i) (sym are.1.1.1.0 i) (sym told.0 i) (sym told.1.0 i) (sym told.1.1.0 i) (rows i)
is_command_found (command.nodes bus names from seen silent head csv json utc file) found are = cc
is_command_found (command.answer node address bus file) found are =
    cc (is_text_found found (codes "name") node are.0, is_text_found found (codes "address") address are.1.0)
is_command_found (command.id hex) found are = cc (is_text_found found (codes "hex") hex are.0)
is_command_found (command.name hex) found are = cc (is_text_found found (codes "hex") hex are.0)
is_command_found (command.groups table) found are = cc
is_command_found (command.survey bus table names csv json utc file) found are = cc
is_command_found (command.watch bus table names asked rows width colour utc file) found are =
    let others = option (codes "rows") rows ∷ option (codes "width") width ∷ flag (codes "colour") colour ∷ flag (codes "utc") utc ∷ values (codes "file") file ∷ [] in
    let its = asked_are_found asked others found are.1.1.1 in
    λ i. command.watch (sym are.0 i) (sym are.1.0 i) (sym are.1.1.0 i) (its.0 i) (sym its.1.0 i) (sym its.1.1.0 i) (sym its.1.1.1.0 i) (sym its.1.1.1.1.0 i) (sym its.1.1.1.1.1.0 i)
is_command_found (command.cut source pgn moment bus hex) found are =
    cc (
      is_text_found found (codes "source") source are.0,
      is_text_found found (codes "pgn") pgn are.1.0,
      is_text_found found (codes "at") moment are.1.1.0,
      is_text_found found (codes "bus") bus are.1.1.1.0,
      is_text_found found (codes "hex") hex are.1.1.1.1.0,
    )

is_met : (s : CommandWords) (called : Text) (found : Found) → HasTexts s (called, rows_of found) → s ≡ command_found called found
is_met s called found texts = is_command_found s found (found_texts found (form_of s).arguments texts.1)
    ∙ sym (ap (λ (t : Text). command_found t found) texts.0)

-- ---- what is said of it

if_ok_any : {T E : Type 0} (r : Result T E) (P : Type 0) → P → IfOk r (λ _. P)
if_ok_any (Ok x) P p = p
if_ok_any (Err e) P p = tt

-- what answers the command with the texts that were found answers each that has them
pub tells : (called : Text) (found : Found) (r : Answer) (s : CommandWords) → called ≡ (form_of s).called
    → AreFound found (form_of s).arguments → IsAnswer s r → Tells called found r
tells called found r s named are answers =
    let texts : HasTexts s (called, rows_of found) = (named, have_texts found (form_of s).arguments are) in
    let is = is_met s called found texts in
    record {
      answer = λ other theirs.
          subst (λ (x : CommandWords). IsAnswer x r) (is ∙ sym (is_met other called found theirs)) answers;
      met = if_ok_any r ((x : CommandWords) × HasTexts x (called, rows_of found)) (s, texts);
    }

-- where a text that must be given isn't found, no command is meant
pub tells_none : (called word : Text) (found : Found) (r : Answer) (id text : Text) → called ≡ word → IsErr r
    → first_value found id ≡ None
    → (AreFound found (form_of (command_found word found)).arguments → first_value found id ≡ Some text) → Tells called found r
tells_none called word found (Ok task) id text named is_err missing needs = absurd (cc)
tells_none called word found (Err e) id text named is_err missing needs = record { answer = none; met = tt }
  where
    none : (s : CommandWords) → HasTexts s (called, rows_of found) → IsAnswer s (Err e)
    none s texts =
        let is : s ≡ command_found word found = is_met s word found (sym named ∙ texts.0, texts.1) in
        let given : first_value found id ≡ Some text = needs (subst (λ (x : CommandWords). AreFound found (form_of x).arguments)
        is (found_texts found (form_of s).arguments texts.1)) in
        let both : None ≡ Some text = sym missing ∙ given in
        absurd (cc)
