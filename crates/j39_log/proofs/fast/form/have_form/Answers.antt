use Rattle.std.proofs.lemmas.Bool.{OnTrue_from, OnTrue_at}
use Rattle.std.proofs.Common.{◌≡◌, subst, true}
use Rattle.std.specs.List.{AllByRecursion}
use Rattle.j39_log.specs.Form.{Fits}
use Rattle.j39_log.proofs.FormLemmas.{each_below, hex_within}
use Rattle.j39_log.proofs.fast.form.have_form.Goals as goal

pub returns-clause-first : goal.returns-clause-first
returns-clause-first c =
    let fits : c.are_zero.result ≡ true → Fits c.args.first.now c.args.first_form.now = λ e. record {
      bytes = each_below c.args.first.now c.fits-first;
      least = c.outside-front.ensures.bytes;
      inside = subst (AllByRecursion (λ x. x ≡ 0)) c.outside-front.ensures.value (OnTrue_at e c.are_zero.ensures.a);
    } in
    OnTrue_from _ _ fits

pub returns-clause-second : goal.returns-clause-second
returns-clause-second c =
    let fits : c.are_zero.result ≡ true → Fits c.args.second.now c.args.second_form.now = λ e. record {
      bytes = each_below c.args.second.now c.fits-second;
      least = c.outside-next.ensures.bytes;
      inside = subst (AllByRecursion (λ x. x ≡ 0)) c.outside-next.ensures.value (OnTrue_at e c.are_zero.ensures.b);
    } in
    OnTrue_from _ _ fits

pub returns-clause-values : goal.returns-clause-values
returns-clause-values c = OnTrue_from _ _ (λ e. hex_within 16 c.args.values c.fits-values.0 (subst (AllByRecursion (λ x. x ≡ 0)) c.above_hex.ensures (OnTrue_at e c.are_zero.ensures.c)))
