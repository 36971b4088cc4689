-- A frame that is lost is seen by nobody, and each other one by all.
use Rattle.std.proofs.Common.{◌∙◌, Bool, Contains, false, refl, rules, subst, sym, true≢false}
use Rattle.bus_demo.specs.Fates.{IsFated}
use Rattle.bus_demo.proofs.PlayerLemmas.{on_ok}
use Rattle.bus_demo.proofs.bus.Bus.carry.Goals as goal

pub returns-then-is_lost-clause-goes : goal.returns-then-is_lost-clause-goes
returns-then-is_lost-clause-goes g c = record {
  count = search rules;
  time = search rules;
  noted = c.note.new.self;
  lost = λ _. (subst (λ (is : Bool). IsFated c.args.sent.part is c.later-self.result c.args.self.now.book c.note.new.self) c.if-is_lost.true c.note.ensures, refl, refl, refl);
  seen = λ other. absurd (other (c.loses-is_lost.ensures.0 c.if-is_lost.true));
}

pub returns-clause-goes : goal.returns-clause-goes
returns-clause-goes g c = on_ok c.show.result _ _ (λ seen. record {
  count = search rules;
  time = search rules;
  noted = c.note.new.self;
  lost = λ is.
      let same = subst (λ n. Contains c.args.self.now.lose.now n) c.show.ensures.frames is in
      absurd (true≢false (sym (c.loses-is_lost.ensures.1 same) ∙ c.if-is_lost.false));
  seen = λ _. (
    subst (λ now. IsFated c.args.sent.part false now c.args.self.now.book c.note.new.self) (sym c.show.ensures.now)
        (subst (λ (is : Bool). IsFated c.args.sent.part is c.later-self.result c.args.self.now.book c.note.new.self) c.if-is_lost.false c.note.ensures),
    search rules,
  );
}) c.show.ensures.seen
