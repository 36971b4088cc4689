-- Each option in turn is right, or it is the first that is wrong.
use Rattle.j39_cli.proofs.Common.{drop, take, found_of}
use Rattle.j39_cli.specs.Answer.{IsRead}
use Rattle.j39_cli.specs.Asked.{IsAsked, asked_checks, asked_found}
use Rattle.j39_cli.proofs.CheckLemmas.{passed, stopped}
use Rattle.j39_cli.proofs.asked.asked_value.Goals as goal

pub returns-in_err-from-clause-read : goal.returns-in_err-from-clause-read
returns-in_err-from-clause-read c =
    let texts = asked_found (found_of c.args.given.now) in
    let all = asked_checks texts in
    let next = IsRead (IsAsked texts) in
    passed next (take 1 all) (drop 1 all) _ _ _ c.in_ok-spns.ensures.read (λ _.
    stopped next (take 1 (drop 1 all)) (drop 2 all) _ _ _ c.in_err-from.ensures.read c.from_residual-in_err-from.ensures)

pub returns-in_err-to-clause-read : goal.returns-in_err-to-clause-read
returns-in_err-to-clause-read c =
    let texts = asked_found (found_of c.args.given.now) in
    let all = asked_checks texts in
    let next = IsRead (IsAsked texts) in
    passed next (take 1 all) (drop 1 all) _ _ _ c.in_ok-spns.ensures.read (λ _.
    passed next (take 1 (drop 1 all)) (drop 2 all) _ _ _ c.in_ok-from.ensures.read (λ _.
    stopped next (take 1 (drop 2 all)) (drop 3 all) _ _ _ c.in_err-to.ensures.read c.from_residual-in_err-to.ensures))

pub returns-in_err-pgns-clause-read : goal.returns-in_err-pgns-clause-read
returns-in_err-pgns-clause-read c =
    let texts = asked_found (found_of c.args.given.now) in
    let all = asked_checks texts in
    let next = IsRead (IsAsked texts) in
    passed next (take 1 all) (drop 1 all) _ _ _ c.in_ok-spns.ensures.read (λ _.
    passed next (take 1 (drop 1 all)) (drop 2 all) _ _ _ c.in_ok-from.ensures.read (λ _.
    passed next (take 1 (drop 2 all)) (drop 3 all) _ _ _ c.in_ok-to.ensures.read (λ _.
    stopped next (take 1 (drop 3 all)) (drop 4 all) _ _ _ c.in_err-pgns.ensures.read c.from_residual-in_err-pgns.ensures)))

pub returns-in_err-since-clause-read : goal.returns-in_err-since-clause-read
returns-in_err-since-clause-read c =
    let texts = asked_found (found_of c.args.given.now) in
    let all = asked_checks texts in
    let next = IsRead (IsAsked texts) in
    passed next (take 1 all) (drop 1 all) _ _ _ c.in_ok-spns.ensures.read (λ _.
    passed next (take 1 (drop 1 all)) (drop 2 all) _ _ _ c.in_ok-from.ensures.read (λ _.
    passed next (take 1 (drop 2 all)) (drop 3 all) _ _ _ c.in_ok-to.ensures.read (λ _.
    passed next (take 1 (drop 3 all)) (drop 4 all) _ _ _ c.in_ok-pgns.ensures.read (λ _.
    stopped next (take 1 (drop 4 all)) (drop 5 all) _ _ _ c.in_err-since.ensures.read c.from_residual-in_err-since.ensures))))

pub returns-in_err-until-clause-read : goal.returns-in_err-until-clause-read
returns-in_err-until-clause-read c =
    let texts = asked_found (found_of c.args.given.now) in
    let all = asked_checks texts in
    let next = IsRead (IsAsked texts) in
    passed next (take 1 all) (drop 1 all) _ _ _ c.in_ok-spns.ensures.read (λ _.
    passed next (take 1 (drop 1 all)) (drop 2 all) _ _ _ c.in_ok-from.ensures.read (λ _.
    passed next (take 1 (drop 2 all)) (drop 3 all) _ _ _ c.in_ok-to.ensures.read (λ _.
    passed next (take 1 (drop 3 all)) (drop 4 all) _ _ _ c.in_ok-pgns.ensures.read (λ _.
    passed next (take 1 (drop 4 all)) (drop 5 all) _ _ _ c.in_ok-since.ensures.read (λ _.
    stopped next (take 1 (drop 5 all)) (drop 6 all) _ _ _ c.in_err-until.ensures.read c.from_residual-in_err-until.ensures)))))

pub returns-clause-read : goal.returns-clause-read
returns-clause-read c =
    let texts = asked_found (found_of c.args.given.now) in
    let all = asked_checks texts in
    let next = IsRead (IsAsked texts) in
    passed next (take 1 all) (drop 1 all) _ _ _ c.in_ok-spns.ensures.read (λ spns_are.
    passed next (take 1 (drop 1 all)) (drop 2 all) _ _ _ c.in_ok-from.ensures.read (λ from_is.
    passed next (take 1 (drop 2 all)) (drop 3 all) _ _ _ c.in_ok-to.ensures.read (λ to_is.
    passed next (take 1 (drop 3 all)) (drop 4 all) _ _ _ c.in_ok-pgns.ensures.read (λ pgns_are.
    passed next (take 1 (drop 4 all)) (drop 5 all) _ _ _ c.in_ok-since.ensures.read (λ since_is.
    passed next (take 1 (drop 5 all)) (drop 6 all) _ _ _ c.in_ok-until.ensures.read (λ until_is. record {
      spns_are = spns_are;
      from_is = from_is;
      to_is = to_is;
      pgns_are = pgns_are;
      since_is = since_is;
      until_is = until_is;
    }))))))
