-- The place where a row of the head stands, or one where none stands.
use Rattle.j39_reports.proofs.Common.{◌∙◌, arith, ap, sym, is_same, Origin, pairs_of}
use Rattle.j39_reports.proofs.LeadLemmas.{known, nowhere}
use Rattle.j39_reports.proofs.summaries.rows.known_lead.Goals as goal

pub returns-then-eq : goal.returns-then-eq
returns-then-eq c =
    known (pairs_of c.args.rows.now) c.args.place _ c.args.head.now c.pair_at.ensures
    (ap (λ (o : Origin). is_same c.pair_at.result.0 o) (sym c.origin.ensures) ∙ sym c.eq.ensures ∙ c.if-eq.true)

pub returns-else-eq : goal.returns-else-eq
returns-else-eq c = nowhere (pairs_of c.args.rows.now) c.args.head.now (omega (arith, c.len.ensures, c.len.type_inv))

pub returns-else-place-len : goal.returns-else-place-len
returns-else-place-len c = nowhere (pairs_of c.args.rows.now) c.args.head.now (omega (arith, c.len.ensures, c.len.type_inv))
