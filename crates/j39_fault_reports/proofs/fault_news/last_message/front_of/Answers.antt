use Rattle.std.proofs.Common.{arith, sym, take_all}
use Rattle.j39_fault_reports.proofs.fault_news.last_message.front_of.Goals as goal

pub returns-then-payload-le-LONGEST-clause-value : goal.returns-then-payload-le-LONGEST-clause-value
returns-then-payload-le-LONGEST-clause-value c = sym (take_all 1785 c.args.payload.now (omega arith))
