use Rattle.std.proofs.Common.{sym, arith}
use Rattle.ob0_analysis.proofs.LastModule.{is_last}
use Rattle.ob0_analysis.proofs.last_module.LastModule.keep_last_module.Goals as goal

pub returns : goal.returns
returns c =
    let wider = c.in_ok-wider.ensures in
    is_last c.args.tokens.now c.args.tree.now c.args.bindings c.args.types c.args.same c.in_ok-wider.wider c.in_ok-body.body c.requires wider.wider (rw c.tokens.ensures at c.if-wider-tokens.false)
    (omega (arith, wider.prefix, c.in_ok-prefix.ensures)) (omega (arith, wider.suffix, c.in_ok-end.ensures)) (sym c.in_ok-body.ensures)
