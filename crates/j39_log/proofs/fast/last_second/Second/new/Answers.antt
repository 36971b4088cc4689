use Rattle.std.proofs.Common.{[], ◌∷◌, lit<, refl}
use Rattle.j39_log.proofs.fast.last_second.Second.new.Goals as goal

pub invariant_of-result : goal.invariant_of-result
invariant_of-result c = (
  record {
    text = _;
    second = record {
      seconds = 48 ∷ 48 ∷ 48 ∷ 48 ∷ 48 ∷ 48 ∷ 48 ∷ 48 ∷ 48 ∷ 48 ∷ [];
      text_is = refl;
      seconds_fit = refl;
      seconds_are = (lit< tt, (lit< tt, (lit< tt, (lit< tt, (lit< tt, (lit< tt, (lit< tt, (lit< tt, (lit< tt, (lit< tt, tt))))))))));
      micros_are = refl;
    };
    least_is = c.form_of-form.ensures.least;
    above_is = c.form_of-form.ensures.above;
  },
  lit< tt,
)
