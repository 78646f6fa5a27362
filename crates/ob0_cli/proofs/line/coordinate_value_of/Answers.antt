use Rattle.std.proofs.Common.{◌∙◌, ℕ, Option, subst, sym}
use Rattle.std.specs.Str.Parse.{ExplainsUnsignedError, HasUnsignedDigitsIfOk, ParsesUnsigned}
use Rattle.clap.specs.Matches.{ReadsOne}
use Rattle.clap.specs.Words.{found_of}
use Rattle.clap.proofs.WalkLemmas.{one_text-rows}
use Rattle.ob0_cli.proofs.Numbers.{place_reads}
use Rattle.ob0_cli.proofs.line.coordinate_value_of.Goals as goal

pub unreachable-requires : goal.unreachable-requires
unreachable-requires c =
    let one = one_text-rows (found_of c.args.given.now) c.args.id.now ∙ c.requires.1 in
    let read = c.get_one.ensures.value c.requires.0 one in
    let got = place_reads (λ bs r. ParsesUnsigned 64 10 bs r × ExplainsUnsignedError 10 bs r × HasUnsignedDigitsIfOk bs r) c.requires.0 c.get_one.result (λ u x g. g.0) read c.requires.2 in
    let bad = sym c.in-None.is ∙ got.1 in
    cc

pub returns : goal.returns
returns c =
    let one = one_text-rows (found_of c.args.given.now) c.args.id.now ∙ c.requires.1 in
    let read = c.get_one.ensures.value c.requires.0 one in
    let is = subst (λ (o : Option ℕ). ReadsOne (λ bs r. ParsesUnsigned 64 10 bs r × ExplainsUnsignedError 10 bs r × HasUnsignedDigitsIfOk bs r) c.requires.0 o) c.in-Some.is read in
    (c.requires.0, c.requires.1, is.0.1)
