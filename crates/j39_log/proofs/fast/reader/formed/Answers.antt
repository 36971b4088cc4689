-- The form of each part, and the identifier.
use Rattle.std.proofs.Common.{◌++◌, ◌∷◌, ◌∙◌, ap, arith, drop, subst, take, sym}
use Rattle.std.proofs.lemmas.Bool.{OnTrue_at}
use Rattle.j39_log.specs.Bus.{IsBetween, IsBusName}
use Rattle.j39_log.specs.Form.{Fits}
use Rattle.j39_log.specs.LastSecond.{HasSecond}
use Rattle.j39_log.proofs.ReaderLemmas.{front_found, third_parts}
use Rattle.j39_log.proofs.fast.reader.formed.Goals as goal

pub returns : goal.returns
returns c =
    let bytes = c.args.bytes.now in
    let text = c.split_at.result.1.now in
    let bus = c.args.bus.now in
    let has : HasSecond c.last.inside.0.0.form c.last.inside.0.0.micros = c.last.invariant.0 in
    let front = c.in_ok-front.ensures.cases in
    let first = c.in_ok-first.ensures.cases in
    let third = c.in_ok-third.ensures.cases in
    let digits = c.in_ok-digits.ensures.cases in
    let d = c.in_ok-data.ensures.cases in
    let p = third_parts text c.in_ok-third.third.now c.in_ok-digits.digits.now c.in_ok-digits.third.now c.in_ok-hash.third.now c.in_ok-data.data.now c.in_ok-data.third.now c.in_ok-end.field-0-1.now
    c.in_ok-third.rest.now c.in_ok-hash.hash.now c.in_ok-end.end.now third.0 third.1 (omega (arith, third.2)) (digits.0 ∙ ap (take 8) c.as_slice.ensures) (digits.1 ∙ ap (drop 8) c.as_slice.ensures) c.in_ok-hash.ensures.cases.0
    d.0 d.1 c.in_ok-end.ensures.cases.0 in
    record {
      front = front_found bytes c.args.between.now bus _ c.last.inside.0.0.form c.bus.inside.between (omega (arith, first.2)) c.told-between front.0
          (subst (λ block. Fits block c.last.inside.0.0.form) first.0 (OnTrue_at c.if-not-have_form.false c.have_form.ensures.first)) has
          (OnTrue_at c.if-not-have_form.false c.have_form.ensures.second) (subst (λ name. IsBetween name c.bus.inside.between) c.bus.view_is c.bus.invariant.1) (subst IsBusName c.bus.view_is c.bus.invariant.0);
      within = omega arith;
      third = record {
        digits = c.in_ok-digits.digits.now;
        end = c.in_ok-end.end.now ∷ c.in_ok-third.rest.now;
        text_is = sym c.split_at.ensures.back ∙ p.0 ∙ ap (λ m. c.in_ok-digits.digits.now ++ (m ∷ (c.in_ok-data.data.now ++ (c.in_ok-end.end.now ∷ c.in_ok-third.rest.now)))) c.if-hash-ne35.false;
        digits_fit = p.1;
        data_fit = p.2;
        written = c.in_ok-id.ensures;
        bytes_are = c.values_of-values.ensures.digits (OnTrue_at c.if-not-have_form.false c.have_form.ensures.values);
        ends = c.in_ok-rest.ensures;
      };
    }
