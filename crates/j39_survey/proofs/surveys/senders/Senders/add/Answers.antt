-- A frame more, from an address that is new, from one that is not, or from none that a controller can hold.
use Rattle.j39_survey.proofs.Common.{◌≡◌, ◌==◌, ◌||◌, ◌+◌, ◌∙◌, ap, sym, false, true, arith, rules, nat_lt, not-true, not-false, list_any, capped}
use Rattle.j39_survey.specs.GroupCounts.{controllers_in}
use Rattle.j39_survey.proofs.GroupLemmas.{controllers-same, heard-more, senders-new, senders-none, senders-old}
use Rattle.j39_survey.proofs.surveys.senders.Senders.add.Goals as goal

pub returns-then-not-is_address : goal.returns-then-not-is_address
returns-then-not-is_address c = λ sources h.
    let x = c.args.source in
    let cannot : nat_lt x 254 ≡ false = search rules in
    record {
      count_is = senders-none sources x c.args.self.now.count h.count_is cannot;
      heard_are = λ a. h.heard_are a ∙ ap (list_any (λ y. a == y)) (sym (controllers-same sources x cannot));
    }

pub returns-then-add : goal.returns-then-add
returns-then-add c = λ sources h.
    let x = c.args.source in
    let can : nat_lt x 254 ≡ true = search rules in
    let new : list_any (λ y. x == y) (controllers_in sources) ≡ false = sym (h.heard_are x) ∙ not-true _ (sym c.add.ensures.new ∙ c.if-add.true) in
    let more : c.saturating_add-self.result ≡ capped (c.args.self.now.count + 1) = omega arith in
    record {
      count_is = senders-new sources x c.args.self.now.count _ h.count_is can new more;
      heard_are = λ a. c.add.ensures.added a ∙ ap (λ b. a == x || b) (h.heard_are a) ∙ heard-more sources x a can;
    }

pub returns-else-add : goal.returns-else-add
returns-else-add c = λ sources h.
    let x = c.args.source in
    let can : nat_lt x 254 ≡ true = search rules in
    let old : list_any (λ y. x == y) (controllers_in sources) ≡ true = sym (h.heard_are x) ∙ not-false _ (sym c.add.ensures.new ∙ c.if-add.false) in
    record {
      count_is = senders-old sources x c.args.self.now.count h.count_is can old;
      heard_are = λ a. c.add.ensures.added a ∙ ap (λ b. a == x || b) (h.heard_are a) ∙ heard-more sources x a can;
    }
