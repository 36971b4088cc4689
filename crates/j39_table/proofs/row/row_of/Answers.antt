-- The first wrong column of a row.
use Rattle.std.proofs.Common.{refl, subst, sym}
use Rattle.std.proofs.lemmas.Bool.{false≢true}
use Rattle.j39_frame.specs.Pgn.{pgn_raw}
use Rattle.j39_groups.specs.Models.{field_record}
use Rattle.j39_groups.specs.States.{called, states_part}
use Rattle.j39_table.specs.States.{AreGoodStates, states_limit}
use Rattle.j39_table.specs.Words.{IsName}
use Rattle.j39_table.proofs.RowLemmas.{good_row, sound_field, wrong_field, wrong_group, wrong_name, wrong_name_of_group, wrong_parameter, wrong_states}
use Rattle.j39_table.proofs.row.row_of.Goals as goal

pub returns-in_default : goal.returns-in_default
returns-in_default c = wrong_group c.args.columns.pgn.now _ c.in_default.ensures.only

pub returns-then-not-is_word : goal.returns-then-not-is_word
returns-then-not-is_word c =
    wrong_name_of_group c.args.columns.pgn.now c.args.columns.group.now _ (pgn_raw c.in-Some.pgn) c.in-Some.ensures.found
    (λ word. false≢true (c.if-not-is_word.ensures.1 word))

pub returns-in_default-parameter_in : goal.returns-in_default-parameter_in
returns-in_default-parameter_in c =
    wrong_parameter c.args.columns.pgn.now c.args.columns.group.now c.args.columns.spn.now _ (pgn_raw c.in-Some.pgn) c.in-Some.ensures.found
    (c.if-not-is_word.ensures.0 refl) c.in_default-parameter_in.ensures.only

pub returns-in-Err : goal.returns-in-Err
returns-in-Err c =
    wrong_field c.args.columns.pgn.now c.args.columns.group.now c.args.columns.spn.now c.args.columns.place.now c.args.columns.step.now
    c.args.columns.offset.now c.args.columns.unit.now (called c.args.columns.name.now) (states_part c.args.columns.name.now) (pgn_raw c.in-Some.pgn)
    c.in-Some-parameter_in.spn c.in-Err.fault
    c.in-Some.ensures.found (c.if-not-is_word.ensures.0 refl) c.in-Some-parameter_in.ensures.found c.in-Err.ensures

pub returns-then-not-is_name : goal.returns-then-not-is_name
returns-then-not-is_name c =
    wrong_name c.args.columns.pgn.now c.args.columns.group.now c.args.columns.spn.now c.args.columns.place.now c.args.columns.step.now
    c.args.columns.offset.now c.args.columns.unit.now (called c.args.columns.name.now) (states_part c.args.columns.name.now) (pgn_raw c.in-Some.pgn)
    c.in-Some-parameter_in.spn (field_record c.in-Ok.field) c.in-Some.ensures.found (c.if-not-is_word.ensures.0 refl) c.in-Some-parameter_in.ensures.found
    c.in-Ok.ensures (λ name. false≢true (c.if-not-is_name.ensures.1 (subst IsName (sym c.split_states.ensures.called) name)))

pub returns-then-not-are_states : goal.returns-then-not-are_states
returns-then-not-are_states c =
    wrong_states c.args.columns.pgn.now c.args.columns.group.now c.args.columns.spn.now c.args.columns.place.now c.args.columns.step.now
    c.args.columns.offset.now c.args.columns.unit.now c.args.columns.name.now (pgn_raw c.in-Some.pgn) c.in-Some-parameter_in.spn
    (field_record c.in-Ok.field) c.in-Some.ensures.found (c.if-not-is_word.ensures.0 refl) c.in-Some-parameter_in.ensures.found c.in-Ok.ensures
    (subst IsName c.split_states.ensures.called (c.if-not-is_name.ensures.0 refl))
    (λ states. false≢true (c.if-not-are_states.ensures.1
    (subst (λ limit. AreGoodStates limit c.split_states.result.1.now) (sym c.states_limit.ensures.value)
    (subst (AreGoodStates (states_limit (field_record c.in-Ok.field))) (sym c.split_states.ensures.states) states))))

pub states_limit-requires : goal.states_limit-requires
states_limit-requires c = c.in-Ok.ensures.good

pub new-requires-clause-sound : goal.new-requires-clause-sound
new-requires-clause-sound c = sound_field c.in-Ok.field c.in-Ok.ensures.good

pub new-requires-clause-free : goal.new-requires-clause-free
new-requires-clause-free c = c.in-Some.ensures.found.good.free

pub new-requires-clause-heard : goal.new-requires-clause-heard
new-requires-clause-heard c = c.in-Some.ensures.found.good.heard

pub returns : goal.returns
returns c = record {
  says =
      rw c.new.ensures.says (good_row c.args.columns.pgn.now c.args.columns.group.now c.args.columns.spn.now c.args.columns.place.now
      c.args.columns.step.now c.args.columns.offset.now c.args.columns.unit.now c.args.columns.name.now (pgn_raw c.in-Some.pgn)
      c.in-Some-parameter_in.spn (field_record c.in-Ok.field) (record { says = c.in-Some.ensures.found; only = c.in-Some.ensures.only })
      (c.if-not-is_word.ensures.0 refl)
      (record { says = c.in-Some-parameter_in.ensures.found; only = c.in-Some-parameter_in.ensures.only }) c.in-Ok.ensures
      (subst IsName c.split_states.ensures.called (c.if-not-is_name.ensures.0 refl))
      (subst (λ limit. AreGoodStates limit (states_part c.args.columns.name.now)) c.states_limit.ensures.value
      (subst (AreGoodStates c.states_limit.result) c.split_states.ensures.states (c.if-not-are_states.ensures.0 refl))));
  sound = c.new.ensures.row;
}
