use Rattle.std.proofs.Common.{◌≡◌, ◌≤◌, ◌∙◌, ℕ, Option, ap, subst, sym}
use Rattle.std.specs.Prelude.{unwrap_or}
use Rattle.std.specs.Str.Parse.{ExplainsUnsignedError, HasUnsignedDigitsIfOk, ParsesUnsigned}
use Rattle.clap.specs.Lexer.{without_minus}
use Rattle.clap.specs.Matches.{ReadsOne}
use Rattle.clap.specs.Words.{found_of}
use Rattle.clap.proofs.WalkLemmas.{one_text-rows}
use Rattle.ob0_cli.specs.RequestedCommands.{max_option_value}
use Rattle.ob0_cli.proofs.Numbers.{bounded_reads}
use Rattle.ob0_cli.proofs.line.bounded_value_of.Goals as goal

pub unreachable-requires : goal.unreachable-requires
unreachable-requires c =
    let one = one_text-rows (found_of c.args.given.now) c.args.id.now ∙ c.requires.1 in
    let read = c.get_one.ensures.value (without_minus c.requires.0) one in
    let got = bounded_reads (λ bs r. ParsesUnsigned 32 10 bs r × ExplainsUnsignedError 10 bs r × HasUnsignedDigitsIfOk bs r) c.args.id.now c.requires.0 c.get_one.result (λ u x g. g.0) read c.requires.2 in
    let bad = sym c.in-None.is ∙ got.1 in
    cc

pub returns-clause-number : goal.returns-clause-number
returns-clause-number c =
    let one = one_text-rows (found_of c.args.given.now) c.args.id.now ∙ c.requires.1 in
    let read = c.get_one.ensures.value (without_minus c.requires.0) one in
    let is = subst (λ (o : Option ℕ). ReadsOne (λ bs r. ParsesUnsigned 32 10 bs r × ExplainsUnsignedError 10 bs r × HasUnsignedDigitsIfOk bs r) (without_minus c.requires.0) o) c.in-Some.is read in
    (without_minus c.requires.0, c.requires.1, is.0.1)

pub returns-clause-bound : goal.returns-clause-bound
returns-clause-bound c =
    let one = one_text-rows (found_of c.args.given.now) c.args.id.now ∙ c.requires.1 in
    let read = c.get_one.ensures.value (without_minus c.requires.0) one in
    let got = bounded_reads (λ bs r. ParsesUnsigned 32 10 bs r × ExplainsUnsignedError 10 bs r × HasUnsignedDigitsIfOk bs r) c.args.id.now c.requires.0 c.get_one.result (λ u x g. g.0) read c.requires.2 in
    let same : got.0 ≡ c.in-Some.number = ap (λ (o : Option ℕ). unwrap_or o got.0) (sym got.1 ∙ c.in-Some.is) in
    subst (λ (n : ℕ). n ≤ max_option_value c.args.id.now) same got.3
