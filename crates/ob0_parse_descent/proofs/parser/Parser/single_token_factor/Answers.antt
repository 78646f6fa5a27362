use Rattle.std.proofs.Common.{◌+◌, arith}
use Rattle.ob0_tree.proofs.Viewed.{designator_made}
use Rattle.ob0_parse_descent.proofs.Lone.{weaker_stops, lone_name, lone_number}
use Rattle.ob0_parse_descent.proofs.parser.Parser.single_token_factor.Goals as goal

pub returns-in-Identifier-clause-alone : goal.returns-in-Identifier-clause-alone
returns-in-Identifier-clause-alone c =
    let here = rw c.in-Identifier.is at c.in-Some.ensures.here in
    let stops = weaker_stops _ (c.args.at + 1) c.args.level c.kind-next.result c.kind-next.ensures.here (omega (arith, c.if-bound-level.false, c.binding_rank-bound.ensures)) in
    rw (designator_made _, c.new-selectors.ensures.items) (lone_name c.args.level here c.in-Some.ensures.within c.requires.level stops)

pub returns-in-Integer-clause-alone : goal.returns-in-Integer-clause-alone
returns-in-Integer-clause-alone c =
    let here = rw c.in-Integer.is at c.in-Some.ensures.here in
    let stops = weaker_stops _ (c.args.at + 1) c.args.level c.kind-next.result c.kind-next.ensures.here (omega (arith, c.if-bound-level.false, c.binding_rank-bound.ensures)) in
    lone_number c.args.level here c.in-Some.ensures.within stops
