-- `s` and `u` end the place of a number in full alone.
use Rattle.std.proofs.Common.{◌≡◌, ◌-◌, ◌∙◌, Bool, Some, ap, arith, get_or, inl, inr, length, sym}
use Rattle.std.proofs.lemmas.Grind.{common_steps}
use Rattle.j39_table.specs.declared.position.Position.TheVariants.{Full}
use Rattle.j39_table.proofs.MarkLemmas.{full, kind_of, marked_by, signed_by, unmarked, unsigned_by}
use Rattle.j39_table.proofs.position.likely_place.Goals.{in_default-via-then-text-lt1, in_default-via-else-text-lt1+in_default-1}
use Rattle.j39_table.proofs.position.likely_place.Goals as goal

pub returns-in-115 : goal.returns-in-115
returns-in-115 c = λ place good is.
    let at : get_or c.args.text.now (length c.args.text.now - 1) 0 ≡ 115 = omega arith in
    elim (kind_of place c.args.text.now good is) [
      | full byte low count is_signed bits same front some last ↦
          c.full_place.ensures byte low count bits front
          ∙ ap Some (ap (λ (b : Bool). Full byte low count b) (sym (signed_by is_signed (sym last ∙ at))) ∙ same)
      | unmarked plain other ↦ absurd (omega (arith, at, other))
    ]

pub returns-in-117 : goal.returns-in-117
returns-in-117 c = λ place good is.
    let at : get_or c.args.text.now (length c.args.text.now - 1) 0 ≡ 117 = omega arith in
    elim (kind_of place c.args.text.now good is) [
      | full byte low count is_signed bits same front some last ↦
          c.full_place-in-117.ensures byte low count bits front
          ∙ ap Some (ap (λ (b : Bool). Full byte low count b) (sym (unsigned_by is_signed (sym last ∙ at))) ∙ same)
      | unmarked plain other ↦ absurd (omega (arith, at, other))
    ]

pub returns-in_default : goal.returns-in_default
returns-in_default c = λ place good is.
    elim (kind_of place c.args.text.now good is) [
      | full byte low count is_signed bits same front some last ↦ elim c.in_default.branch [
        | in_default-via-then-text-lt1 w ↦ absurd (grind (arith, common_steps, some))
        | in_default-via-else-text-lt1+in_default-1 w ↦ elim (marked_by is_signed) [
          | inl s ↦ absurd (let at : get_or c.args.text.now (length c.args.text.now - 1) 0 ≡ 115 = last ∙ s in grind (arith, common_steps, at))
          | inr u ↦ absurd (let at : get_or c.args.text.now (length c.args.text.now - 1) 0 ≡ 117 = last ∙ u in grind (arith, common_steps, at))
        ]
      ]
      | unmarked plain other ↦ c.plain_place.ensures place good plain is
    ]
