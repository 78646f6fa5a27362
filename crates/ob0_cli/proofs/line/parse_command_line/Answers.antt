use Rattle.std.proofs.Common.{◌≡◌, ◌∙◌, List, [], ap, map, subst, sym}
use Rattle.clap.specs.Faults.{is_simple_and_free}
use Rattle.clap.specs.Words.{App, Text, fault_of}
use Rattle.ob0_cli.specs.RequestedCommands.{FoundSubcommand, YieldsCommandLine}
use Rattle.ob0_cli.specs.ClapCommands.{ob0_app}
use Rattle.ob0_cli.proofs.Named.{parsed, simple_and_free}
use Rattle.ob0_cli.proofs.line.parse_command_line.Goals as goal

pub command_line_of-requires : goal.command_line_of-requires
command_line_of-requires c =
    let words : List Text = map (λ w. w.now) c.args.words.now in
    let is = c.requires in
    let matches = c.in-Ok in
    let none : fault_of ob0_app words ≡ [] = ap (λ (a : App). fault_of a words) (sym is) ∙ matches.ensures.kinds (ap is_simple_and_free is ∙ simple_and_free) in
    (parsed c.args.ob0_command words matches.matches is none matches.ensures.parsed matches.ensures.matches).1

pub returns-in-Ok : goal.returns-in-Ok
returns-in-Ok c =
    let words : List Text = map (λ w. w.now) c.args.words.now in
    let is = c.requires in
    let matches = c.in-Ok in
    let none : fault_of ob0_app words ≡ [] = ap (λ (a : App). fault_of a words) (sym is) ∙ matches.ensures.kinds (ap is_simple_and_free is ∙ simple_and_free) in
    let same = (parsed c.args.ob0_command words matches.matches is none matches.ensures.parsed matches.ensures.matches).0 in
    record {
      gives = record { has_no_fault = none; read = subst (λ (f : FoundSubcommand). YieldsCommandLine f c.command_line_of.result) same c.command_line_of.ensures };
      refuses = tt;
    }
