use Rattle.std.proofs.Common.{◌≡◌, ◌+◌, ◌++◌, ◌∷◌, [], ap, arith, rules, subst, sym}
use Rattle.ob0_commands.proofs.Gathering.{Gathered, all_gathered, space_passed, word_gathered, word_refused}
use Rattle.ob0_commands.proofs.input_numbers.parse_number_list.Goals as goal

pub loop-at-preserved-then-is_white_space : goal.loop-at-preserved-then-is_white_space
loop-at-preserved-then-is_white_space c = space_passed c.args.text.now c.loop-at.at c.loop-at.numbers.items c.loop-at-test.true (search rules) c.loop-at.invariant

pub loop-at-preserved : goal.loop-at-preserved
loop-at-preserved c =
    let grown = word_gathered c.args.text.now c.loop-at.at (c.loop-at.at + c.first_word_length.result) c.loop-at.numbers.items c.in-Some.number c.loop-at-test.true (search rules) (omega arith) (search rules) (ap (λ n. c.loop-at.at + n) c.first_word_length.ensures.is) c.in-Some.ensures c.loop-at.invariant in
    let pushed : c.push.new.self.items ≡ c.loop-at.numbers.items ++ c.in-Some.number ∷ [] = search rules in
    subst (Gathered c.args.text.now (c.loop-at.at + c.first_word_length.result)) (sym pushed) grown

pub returns-in_default : goal.returns-in_default
returns-in_default c =
    word_refused c.args.text.now c.loop-at.at (c.loop-at.at + c.first_word_length.result) c.loop-at.numbers.items c.loop-at-test.true (search rules) (ap (λ n. c.loop-at.at + n) c.first_word_length.ensures.is) c.in_default.ensures c.loop-at.invariant

pub returns : goal.returns
returns c = all_gathered c.args.text.now c.loop-at.at c.loop-at.numbers.items (omega (arith, c.loop-at-test.false)) c.loop-at.invariant
