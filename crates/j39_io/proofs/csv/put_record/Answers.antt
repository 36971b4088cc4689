-- The first field, those behind it and the end of the line, one after another.
use Rattle.std.proofs.Common.{◌≡◌, ◌++◌, Bor, List, ℕ, map, sym}
use Rattle.std.specs.List.{flat_map}
use Rattle.std.proofs.lemmas.List.Folds.{flat_map-map}
use Rattle.j39_io.proofs.PutsLemmas.{puts_as, puts_first, puts_more, puts_then}
use Rattle.j39_io.specs.Records.{field_text, later_text, line_end}
use Rattle.j39_io.proofs.csv.put_record.Goals as goal

-- the fields behind the first
abbrev laters : List (Bor (List ℕ)) → List ℕ
laters fields = flat_map later_text (map (λ field. field.now) fields)

laters_are : (fields : List (Bor (List ℕ))) → flat_map (λ (field : Bor (List ℕ)). later_text field.now) fields ≡ laters fields
laters_are fields = sym (flat_map-map later_text (λ (field : Bor (List ℕ)). field.now) fields)

pub returns-in_err-put_field : goal.returns-in_err-put_field
returns-in_err-put_field g c =
    puts_first _ line_end _ _ _ c.from_residual.ensures.0
    (puts_more (field_text c.args.first.now) (laters c.args.later.now) _ _ c.in_err-put_field.ensures)

pub returns-in_err-put_later : goal.returns-in_err-put_later
returns-in_err-put_later g c =
    puts_first _ line_end _ _ _ c.from_residual-in_err-put_later.ensures.0
    (puts_then (field_text c.args.first.now) (laters c.args.later.now) _ _ _ _ _ c.in_ok-put_field.ensures
    (puts_as _ _ _ _ (laters_are c.args.later.now) c.in_err-put_later.ensures))

pub returns : goal.returns
returns g c =
    puts_then (field_text c.args.first.now ++ laters c.args.later.now) line_end _ _ _ _ _
    (puts_then (field_text c.args.first.now) (laters c.args.later.now) _ _ _ _ _ c.in_ok-put_field.ensures
    (puts_as _ _ _ _ (laters_are c.args.later.now) c.in_ok-put_later.ensures)) c.put_all.ensures.puts
