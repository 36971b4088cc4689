use Rattle.j39_net.proofs.WholeReport.{whole_reported}
use Rattle.j39_net.proofs.laws.broadcasts_reported.Goals as goal

pub returns : goal.returns
returns c groups delay now i at token L members m later earlier f b entries net hm only fits is one current all report =
    whole_reported delay now i at token L members m later earlier f b net hm only fits is one current all groups entries report
