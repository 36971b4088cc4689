-- A space, a flag, and then the line's end.
use Rattle.std.proofs.Common.{◌∷◌, ◌∙◌, [], ap, ap₂, inl, inr}
use Rattle.std.proofs.lemmas.Option.{IfSome_then}
use Rattle.j39_log.proofs.fast.reader.after_flag.Goals.{else-flag-ne82-via-then-flag-ne82+else-flag-ne84, else-flag-ne82-via-else-flag-ne82}
use Rattle.j39_log.proofs.fast.reader.after_flag.Goals as goal

pub returns : goal.returns
returns c =
    let letter = c.in_ok-flag.flag.now in
    IfSome_then c.after_cr.result c.after_cr.ensures (λ later h. record {
      flag = 32 ∷ letter ∷ [];
      cr = h.0;
      text_is = ap₂ (λ x xs. x ∷ xs) c.if-end-ne32.false (c.in_ok-flag.ensures.cases.0 ∙ ap (λ xs. letter ∷ xs) (c.in_ok-end.ensures.cases.0 ∙ h.2));
      flag_is = elim c.else-flag-ne82.branch [
        | else-flag-ne82-via-then-flag-ne82+else-flag-ne84 w ↦ inr (inr (ap (λ l. 32 ∷ l ∷ []) w.if-flag-ne84.false))
        | else-flag-ne82-via-else-flag-ne82 w ↦ inr (inl (ap (λ l. 32 ∷ l ∷ []) w.if-flag-ne82.false))
      ];
      cr_is = h.1;
    })
