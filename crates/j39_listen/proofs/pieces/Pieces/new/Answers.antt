use Rattle.std.proofs.Common.{[], refl}
use Rattle.j39_listen.proofs.LineLemmas.{same_tally}
use Rattle.j39_listen.proofs.RunLemmas.{has_met-none}
use Rattle.j39_listen.proofs.pieces.Pieces.new.Goals as goal

pub returns : goal.returns
returns g c = λ held subject output met none.
    let e = c.default.ensures in
    record {
      begun = [];
      begins = c.new.ensures;
      has_read = record {
        lines = [];
        spelled = [];
        whole = tt;
        taken_is = refl;
        spell_each = tt;
        met = has_met-none (g.A.Account.has_met subject) c.args.bus c.args.account output c.default.result held met none (same_tally c.default.result _ e.0 e.1.0 e.1.1);
      };
    }
