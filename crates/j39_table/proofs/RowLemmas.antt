-- The columns of a row: where they go wrong, and what they say.
use Rattle.std.proofs.Common.{append-nil, take-append-drop, ◌≡◌, ◌<◌, ◌≤◌, ◌∙◌, ◌++◌, ℕ, suc, true, List, [], ◌∷◌, length, take, drop, refl, sym, ap, subst, arith, rules, codes, decimal}
use Rattle.std.proofs.lemmas.Grind.{common_steps}
use Rattle.std.proofs.lemmas.List.{take-append-le}
use Rattle.j39_groups.specs.Fields.{is_sound}
use Rattle.j39_groups.specs.Models.{field_record}
use Rattle.j39_groups.specs.declared.field.Field.{Field}
use Rattle.j39_groups.specs.declared.field.Field.TheVariants.{Number, Bits, Full, Switch, Text, Texts}
use Rattle.j39_groups.specs.Row.{FieldRecord, number_field, bits_field, full_field, switch_field, text_field, texts_field, RowRecord}
use Rattle.j39_groups.specs.States.{called, name_len, states_part}
use Rattle.j39_groups.proofs.StateLemmas.{called_called, no_part}
use Rattle.j39_table.proofs.ScaleLemmas.{first_of, second_of, third_of, x_word}
use Rattle.j39_table.specs.Agreement.{AreColumnsOf, IsWrongAfter}
use Rattle.j39_table.specs.Faults.{column_of}
use Rattle.j39_table.specs.Fields.{IsFaultFrom}
use Rattle.j39_table.specs.Rows.{IsGoodField, IsGoodGroup, IsGoodRow, columns_of, field_columns}
use Rattle.j39_table.specs.Spelled.{SaysGroup, SaysParameter}
use Rattle.j39_table.specs.States.{AreGoodStates, states_limit}
use Rattle.j39_table.specs.Words.{IsName, IsWord}
use Rattle.j39_table.specs.declared.fault.RowFault.{RowFault}

-- ---- lists of columns

four : (field : FieldRecord) → length (field_columns field) ≡ 4
four (number_field first last slot) = refl
four (bits_field byte low count slot) = refl
four (full_field byte low count is_signed slot) = refl
four (switch_field byte low high) = refl
four (text_field part) = refl
four (texts_field byte count) = refl

drop_four : (field : FieldRecord) (xs : List (List ℕ)) → drop 4 (field_columns field ++ xs) ≡ xs
drop_four (number_field first last slot) xs = refl
drop_four (bits_field byte low count slot) xs = refl
drop_four (full_field byte low count is_signed slot) xs = refl
drop_four (switch_field byte low high) xs = refl
drop_four (text_field part) xs = refl
drop_four (texts_field byte count) xs = refl

take_four : (field : FieldRecord) (xs : List (List ℕ)) → take 4 (field_columns field ++ xs) ≡ field_columns field
take_four (number_field first last slot) xs = refl
take_four (bits_field byte low count slot) xs = refl
take_four (full_field byte low count is_signed slot) xs = refl
take_four (switch_field byte low high) xs = refl
take_four (text_field part) xs = refl
take_four (texts_field byte count) xs = refl

take_five : (field : FieldRecord) (name states : List ℕ) → take 5 (field_columns field ++ (name ∷ states ∷ [])) ≡ field_columns field ++ (name ∷ [])
take_five (number_field first last slot) name states = refl
take_five (bits_field byte low count slot) name states = refl
take_five (full_field byte low count is_signed slot) name states = refl
take_five (switch_field byte low high) name states = refl
take_five (text_field part) name states = refl
take_five (texts_field byte count) name states = refl

take_six : (field : FieldRecord) (name states : List ℕ)
    → take 6 (field_columns field ++ (name ∷ states ∷ [])) ≡ field_columns field ++ (name ∷ states ∷ [])
take_six (number_field first last slot) name states = refl
take_six (bits_field byte low count slot) name states = refl
take_six (full_field byte low count is_signed slot) name states = refl
take_six (switch_field byte low high) name states = refl
take_six (text_field part) name states = refl
take_six (texts_field byte count) name states = refl

take_front : (field : FieldRecord) (k : ℕ) (xs : List (List ℕ)) → k ≤ 4 → take k (field_columns field ++ xs) ≡ take k (field_columns field)
take_front field k xs few = let len = four field in let fits : k ≤ length (field_columns field) = omega (arith, len, few) in take-append-le k _ _ fits

take_texts : (a b c d : List ℕ) (k : ℕ) (xs : List (List ℕ)) → k ≤ 4 → take k (a ∷ b ∷ c ∷ d ∷ xs) ≡ take k (a ∷ b ∷ c ∷ d ∷ [])
take_texts a b c d k xs few = let fits : k ≤ length (a ∷ b ∷ c ∷ d ∷ []) = few in take-append-le k _ _ fits

behind_three : (a b c a' b' c' : List ℕ) (xs ys : List (List ℕ)) → a ∷ b ∷ c ∷ xs ≡ a' ∷ b' ∷ c' ∷ ys → xs ≡ ys
behind_three a b c a' b' c' xs ys e = cc

alone_name : (a b : List ℕ) → a ∷ [] ≡ b ∷ [] → a ≡ b
alone_name a b e = cc

both_same : (a b c d : List ℕ) → a ∷ b ∷ [] ≡ c ∷ d ∷ [] → (a ≡ c) × (b ≡ d)
both_same a b c d e = (cc, cc)

-- ---- rows

pub record GroupIs (text : List ℕ) (pgn : ℕ) : Type 0 where
  pub says : SaysGroup text pgn
  pub only : (other : ℕ) → SaysGroup text other → pgn ≡ other

pub record ParameterIs (text : List ℕ) (spn : ℕ) : Type 0 where
  pub says : SaysParameter text spn
  pub only : (other : ℕ) → SaysParameter text other → spn ≡ other

x_name : IsName (called (codes "x"))
unfolding name_len
x_name = search rules

no_states : (limit : ℕ) → AreGoodStates limit (states_part (codes "x"))
unfolding name_len
no_states limit = tt

group_zero : IsGoodGroup 0
group_zero = record { fits = omega arith; free = refl; heard = refl }

abbrev row_with : ℕ → List ℕ → ℕ → FieldRecord → List ℕ → RowRecord
row_with pgn group spn field name = record { pgn = pgn; group = group; spn = spn; field = field; name = name }

its_group : (p : List ℕ) (row : RowRecord) → IsGoodRow row → p ≡ decimal row.pgn → SaysGroup p row.pgn
its_group p row good is = record { text_is = is; good = good.pgn }

its_parameter : (p : List ℕ) (row : RowRecord) → IsGoodRow row → p ≡ decimal row.spn → SaysParameter p row.spn
its_parameter p row good is = record { text_is = is; fits = good.spn }

any_field : IsGoodField (text_field 1)
any_field = (omega arith, omega arith)

pub wrong_group : (p : List ℕ) (xs : List (List ℕ)) → ((pgn : ℕ) → SaysGroup p pgn → ⊥) → IsWrongAfter IsGoodRow columns_of (p ∷ xs) 0
wrong_group p xs never = record {
  example = row_with 0 (codes "x") 0 (text_field 1) (codes "x");
  good = record { pgn = group_zero; group = x_word; spn = omega arith; field = any_field; name = x_name; states = no_states _ };
  agrees = refl;
  «none» = λ row good e. never row.pgn (its_group p row good (first_of _ _ _ _ e));
}

pub wrong_name_of_group : (p g : List ℕ) (xs : List (List ℕ)) (pgn : ℕ) → SaysGroup p pgn → (IsWord g → ⊥)
    → IsWrongAfter IsGoodRow columns_of (p ∷ g ∷ xs) 1
wrong_name_of_group p g xs pgn says never = record {
  example = row_with pgn (codes "x") 0 (text_field 1) (codes "x");
  good = record { pgn = says.good; group = x_word; spn = omega arith; field = any_field; name = x_name; states = no_states _ };
  agrees = ap (λ t. t ∷ []) says.text_is;
  «none» = λ row good e. never (subst IsWord (sym (second_of _ _ _ _ _ _ e)) good.group);
}

pub wrong_parameter : (p g s : List ℕ) (xs : List (List ℕ)) (pgn : ℕ) → SaysGroup p pgn → IsWord g → ((spn : ℕ) → SaysParameter s spn → ⊥)
    → IsWrongAfter IsGoodRow columns_of (p ∷ g ∷ s ∷ xs) 2
wrong_parameter p g s xs pgn says word never = record {
  example = row_with pgn g 0 (text_field 1) (codes "x");
  good = record { pgn = says.good; group = word; spn = omega arith; field = any_field; name = x_name; states = no_states _ };
  agrees = ap (λ t. t ∷ g ∷ []) says.text_is;
  «none» = λ row good e. never row.spn (its_parameter s row good (third_of _ _ _ _ _ _ _ _ e));
}

wrong_field_after : (p g s a b c d n t : List ℕ) (pgn spn k : ℕ) → SaysGroup p pgn → IsWord g → SaysParameter s spn → k < 4
    → IsWrongAfter IsGoodField field_columns (a ∷ b ∷ c ∷ d ∷ []) k → IsWrongAfter IsGoodRow columns_of (p ∷ g ∷ s ∷ a ∷ b ∷ c ∷ d ∷ n ∷ t ∷ []) (suc (suc (suc k)))
wrong_field_after p g s a b c d n t pgn spn k group word parameter few wrong = record {
  example = row_with pgn g spn wrong.example (codes "x");
  good = record { pgn = group.good; group = word; spn = parameter.fits; field = wrong.good; name = x_name; states = no_states _ };
  agrees =
      ap (λ t'. t' ∷ g ∷ s ∷ take k (a ∷ b ∷ c ∷ d ∷ n ∷ t ∷ [])) group.text_is
      ∙ ap (λ t'. decimal pgn ∷ g ∷ t' ∷ take k (a ∷ b ∷ c ∷ d ∷ n ∷ t ∷ [])) parameter.text_is
      ∙ ap (λ xs. decimal pgn ∷ g ∷ decimal spn ∷ xs)
      (take_texts a b c d k (n ∷ t ∷ []) (omega arith) ∙ wrong.agrees
      ∙ sym (take_front wrong.example k (called (codes "x") ∷ states_part (codes "x") ∷ []) (omega arith)));
  «none» = λ row good e.
      wrong.none row.field good.field
      (sym (take_texts a b c d (suc k) (n ∷ t ∷ []) (omega arith)) ∙ behind_three _ _ _ _ _ _ _ _ e
      ∙ take_front row.field (suc k) (called row.name ∷ states_part row.name ∷ []) (omega arith));
}

pub wrong_field : (p g s a b c d n t : List ℕ) (pgn spn : ℕ) (fault : RowFault) → SaysGroup p pgn → IsWord g → SaysParameter s spn
    → IsFaultFrom IsGoodField field_columns 3 (a ∷ b ∷ c ∷ d ∷ []) fault → IsWrongAfter IsGoodRow columns_of (p ∷ g ∷ s ∷ a ∷ b ∷ c ∷ d ∷ n ∷ t ∷ []) (column_of fault)
wrong_field p g s a b c d n t pgn spn fault group word parameter wrong =
    let at : suc (suc (suc wrong.count)) ≡ column_of fault = (let column = wrong.column in omega (arith, column)) in
    subst (λ k. IsWrongAfter IsGoodRow columns_of (p ∷ g ∷ s ∷ a ∷ b ∷ c ∷ d ∷ n ∷ t ∷ []) k) at
    (wrong_field_after p g s a b c d n t pgn spn wrong.count group word parameter wrong.within wrong.wrong)

-- the columns in front of a name are those of a row of this field
front_agrees : (p g s a b c d : List ℕ) (pgn spn : ℕ) (field : FieldRecord) → SaysGroup p pgn → SaysParameter s spn
    → AreColumnsOf IsGoodField field_columns (a ∷ b ∷ c ∷ d ∷ []) field → (xs : List (List ℕ))
    → p ∷ g ∷ s ∷ a ∷ b ∷ c ∷ d ∷ xs ≡ decimal pgn ∷ g ∷ decimal spn ∷ (field_columns field ++ xs)
front_agrees p g s a b c d pgn spn field group parameter says xs =
    ap (λ t. t ∷ g ∷ s ∷ a ∷ b ∷ c ∷ d ∷ xs) group.text_is ∙ ap (λ t. decimal pgn ∷ g ∷ t ∷ a ∷ b ∷ c ∷ d ∷ xs) parameter.text_is
    ∙ ap (λ ys. decimal pgn ∷ g ∷ decimal spn ∷ (ys ++ xs)) says.texts_are

pub wrong_name : (p g s a b c d n t : List ℕ) (pgn spn : ℕ) (field : FieldRecord) → SaysGroup p pgn → IsWord g → SaysParameter s spn
    → AreColumnsOf IsGoodField field_columns (a ∷ b ∷ c ∷ d ∷ []) field → (IsName n → ⊥)
    → IsWrongAfter IsGoodRow columns_of (p ∷ g ∷ s ∷ a ∷ b ∷ c ∷ d ∷ n ∷ t ∷ []) 7
wrong_name p g s a b c d n t pgn spn field group word parameter says never = record {
  example = row_with pgn g spn field (codes "x");
  good = record { pgn = group.good; group = word; spn = parameter.fits; field = says.good; name = x_name; states = no_states _ };
  agrees =
      front_agrees p g s a b c d pgn spn field group parameter says []
      ∙ ap (λ xs. decimal pgn ∷ g ∷ decimal spn ∷ xs)
      (append-nil (field_columns field) ∙ sym (take_four field (called (codes "x") ∷ states_part (codes "x") ∷ [])));
  «none» = λ row good e.
      let all : a ∷ b ∷ c ∷ d ∷ n ∷ [] ≡ field_columns row.field ++ (called row.name ∷ []) =
      behind_three _ _ _ _ _ _ _ _ e ∙ take_five row.field (called row.name) (states_part row.name) in
      let name : n ≡ called row.name = alone_name n (called row.name) (ap (drop 4) all ∙ drop_four row.field (called row.name ∷ [])) in
      never (subst IsName (sym name) good.name);
}

-- a row with these columns has this field, what it is called, and these states
record HasRest (a b c d n t : List ℕ) (field : FieldRecord) (row : RowRecord) : Type 0 where
  field_is : row.field ≡ field
  called_is : n ≡ called row.name
  states_are : t ≡ states_part row.name

rest_is : (p g s p' g' s' a b c d n t : List ℕ) (field : FieldRecord) (row : RowRecord)
    → AreColumnsOf IsGoodField field_columns (a ∷ b ∷ c ∷ d ∷ []) field → IsGoodField row.field
    → p ∷ g ∷ s ∷ a ∷ b ∷ c ∷ d ∷ n ∷ t ∷ [] ≡ p' ∷ g' ∷ s' ∷ (field_columns row.field ++ (called row.name ∷ states_part row.name ∷ []))
    → HasRest a b c d n t field row
rest_is p g s p' g' s' a b c d n t field row says good e =
    let all : a ∷ b ∷ c ∷ d ∷ n ∷ t ∷ [] ≡ field_columns row.field ++ (called row.name ∷ states_part row.name ∷ []) = behind_three _ _ _ _ _ _ _ _ e in
    let names = both_same n t _ _ (ap (drop 4) all ∙ drop_four row.field (called row.name ∷ states_part row.name ∷ [])) in
    record {
      field_is = says.only row.field good (ap (take 4) all ∙ take_four row.field (called row.name ∷ states_part row.name ∷ []));
      called_is = names.0;
      states_are = names.1;
    }

pub wrong_states : (p g s a b c d name : List ℕ) (pgn spn : ℕ) (field : FieldRecord) → SaysGroup p pgn → IsWord g → SaysParameter s spn
    → AreColumnsOf IsGoodField field_columns (a ∷ b ∷ c ∷ d ∷ []) field → IsName (called name)
    → (AreGoodStates (states_limit field) (states_part name) → ⊥)
    → IsWrongAfter IsGoodRow columns_of (p ∷ g ∷ s ∷ a ∷ b ∷ c ∷ d ∷ called name ∷ states_part name ∷ []) 8
wrong_states p g s a b c d name pgn spn field group word parameter says named never = record {
  example = row_with pgn g spn field (called name);
  good = record {
    pgn = group.good;
    group = word;
    spn = parameter.fits;
    field = says.good;
    name = subst IsName (sym (called_called name)) named;
    states = subst (AreGoodStates (states_limit field)) (sym (no_part name)) tt;
  };
  agrees =
      front_agrees p g s a b c d pgn spn field group parameter says (called name ∷ [])
      ∙ ap (λ n. decimal pgn ∷ g ∷ decimal spn ∷ (field_columns field ++ (n ∷ []))) (sym (called_called name))
      ∙ ap (λ xs. decimal pgn ∷ g ∷ decimal spn ∷ xs) (sym (take_five field (called (called name)) (states_part (called name))));
  «none» = λ row good e.
      let rest = rest_is _ _ _ _ _ _ a b c d (called name) (states_part name) field row says good.field
      (e ∙ ap (λ xs. decimal row.pgn ∷ row.group ∷ decimal row.spn ∷ xs) (take_six row.field (called row.name) (states_part row.name))) in
      never (subst (λ f. AreGoodStates (states_limit f) (states_part name)) rest.field_is
      (subst (AreGoodStates (states_limit row.field)) (sym rest.states_are) good.states));
}

same_row : (a b : RowRecord) → a.pgn ≡ b.pgn → a.group ≡ b.group → a.spn ≡ b.spn → a.field ≡ b.field → a.name ≡ b.name → a ≡ b
same_row a b pgn group spn field name =
    ap (λ (x : ℕ). row_with x a.group a.spn a.field a.name) pgn ∙ ap (λ (x : List ℕ). row_with b.pgn x a.spn a.field a.name) group
    ∙ ap (λ (x : ℕ). row_with b.pgn b.group x a.field a.name) spn ∙ ap (λ (x : FieldRecord). row_with b.pgn b.group b.spn x a.name) field
    ∙ ap (λ (x : List ℕ). row_with b.pgn b.group b.spn b.field x) name

pub good_row : (p g s a b c d name : List ℕ) (pgn spn : ℕ) (field : FieldRecord) → GroupIs p pgn → IsWord g → ParameterIs s spn
    → AreColumnsOf IsGoodField field_columns (a ∷ b ∷ c ∷ d ∷ []) field → IsName (called name)
    → AreGoodStates (states_limit field) (states_part name)
    → AreColumnsOf IsGoodRow columns_of (p ∷ g ∷ s ∷ a ∷ b ∷ c ∷ d ∷ called name ∷ states_part name ∷ []) (row_with pgn g spn field name)
good_row p g s a b c d name pgn spn field group word parameter says named states = record {
  good = record { pgn = group.says.good; group = word; spn = parameter.says.fits; field = says.good; name = named; states = states };
  texts_are = front_agrees p g s a b c d pgn spn field group.says parameter.says says (called name ∷ states_part name ∷ []);
  only = λ row good e.
      let rest = rest_is _ _ _ _ _ _ a b c d (called name) (states_part name) field row says good.field e in
      let its_name : row.name ≡ name =
      sym (take-append-drop (name_len row.name) row.name) ∙ ap (λ n. n ++ states_part row.name) (sym rest.called_is)
      ∙ ap (λ t. called name ++ t) (sym rest.states_are) ∙ take-append-drop (name_len name) name in
      let its_pgn = group.only row.pgn (its_group p row good (first_of _ _ _ _ e)) in
      let its_spn = parameter.only row.spn (its_parameter s row good (third_of _ _ _ _ _ _ _ _ e)) in
      same_row row (row_with pgn g spn field name) (sym its_pgn) (sym (second_of _ _ _ _ _ _ e)) (sym its_spn) rest.field_is its_name;
}

-- ---- a good field is sound

pub sound_field : (field : Field) → IsGoodField (field_record field) → is_sound field ≡ true
sound_field (Number first last scale) good =
    let place = good.0 in let step = good.1.step_is in let fits = good.1.fits in grind (arith, common_steps)
sound_field (Bits byte low count scale) good =
    let place = good.0 in let step = good.1.step_is in let fits = good.1.fits in grind (arith, common_steps)
sound_field (Full byte low count is_signed scale) good =
    let place = good.0 in let step = good.1.step_is in let fits = good.1.fits in grind (arith, common_steps)
sound_field (Switch byte low high) good = grind (arith, common_steps)
sound_field (Text part) good = grind (arith, common_steps)
sound_field (Texts byte count) good = grind (arith, common_steps)
