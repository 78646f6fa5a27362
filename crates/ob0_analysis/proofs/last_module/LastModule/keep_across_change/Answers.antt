use Rattle.ob0_analysis.proofs.LastModule.{last_stays}
use Rattle.ob0_analysis.proofs.last_module.LastModule.keep_across_change.Goals as goal

pub returns : goal.returns
returns c = λ old new was tokens words scan.
    last_stays old new c.in-Some.kept c.args.change c.in_ok-wider.wider (rw c.in-Some.is at was) tokens words scan c.in_ok-wider.ensures.wider c.in_ok-wider.ensures.prefix c.in_ok-wider.ensures.suffix
