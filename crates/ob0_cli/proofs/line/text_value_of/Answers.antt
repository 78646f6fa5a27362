use Rattle.std.proofs.Common.{◌∙◌, sym}
use Rattle.clap.specs.Words.{found_of}
use Rattle.clap.proofs.WalkLemmas.{first_value-rows}
use Rattle.ob0_cli.proofs.line.text_value_of.Goals as goal

pub unreachable-requires : goal.unreachable-requires
unreachable-requires c =
    let bad = c.in-None.ensures ∙ (first_value-rows (found_of c.args.given.now) c.args.id.now ∙ c.requires.1) in
    cc

pub returns : goal.returns
returns c = sym (c.in-Some.ensures ∙ first_value-rows (found_of c.args.given.now) c.args.id.now)
