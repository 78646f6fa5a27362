use Rattle.std.proofs.Common.{◌≡◌, ℕ, List, Option, is_some, true, false, ◌++◌, sym, ap, ◌∙◌}
use Rattle.ob0_tree.specs.declared.tree.If.{If, out-If}
use Rattle.ob0_tree.specs.declared.tree.Role.{Role}
use Rattle.ob0_tree.specs.declared.tree.Role.TheVariants as role
use Rattle.ob0_tree.specs.FirstIdentifier.{first_identifier, token_of_first_identifier}
use Rattle.ob0_tree.specs.Tree.{branches, identifiers}
use Rattle.ob0_tree.specs.View.{else_part_of, elsif_of, expression_of, if_of, items_of, sequence_of_list, statement_of}
use Rattle.ob0_tree.proofs.Firsts.{found_first, found_later}
use Rattle.ob0_tree.proofs.Viewed.{if_parts, repeat_read, while_read}
use Rattle.ob0_tree.proofs.first_identifiers.+statements.Goals as goal

-- Proves that the first identifier of an IF statement is found part by part: it is the first
-- identifier of the first of the four parts that has one.
module _ (i : If) where
  abbrev condition : List (Role × ℕ)
  condition = identifiers role.DeclaringName (expression_of (out-If i).condition)

  abbrev first_branch : List (Role × ℕ)
  first_branch = identifiers role.DeclaringName (sequence_of_list (out-If i).then.items)

  abbrev elsif_parts : List (Role × ℕ)
  elsif_parts = identifiers role.DeclaringName (items_of elsif_of (out-If i).elsifs.items)

  abbrev last_branch : List (Role × ℕ)
  last_branch = identifiers role.DeclaringName (else_part_of (out-If i).otherwise)

  whole : token_of_first_identifier (condition ++ (first_branch ++ (elsif_parts ++ last_branch))) ≡ first_identifier (if_of i)
  whole = ap first_identifier (sym (if_parts i))

  module _ {a : Option ℕ} (is_a : a ≡ token_of_first_identifier condition) where
    in_condition : is_some a ≡ true → a ≡ first_identifier (if_of i)
    in_condition some = found_first condition (first_branch ++ (elsif_parts ++ last_branch)) is_a some ∙ whole

    module _ (no_a : is_some a ≡ false) {b : Option ℕ} (is_b : b ≡ token_of_first_identifier first_branch) where
      in_first_branch : is_some b ≡ true → b ≡ first_identifier (if_of i)
      in_first_branch some =
          found_first first_branch (elsif_parts ++ last_branch) is_b some
          ∙ (found_later condition (first_branch ++ (elsif_parts ++ last_branch)) is_a no_a ∙ whole)

      module _ (no_b : is_some b ≡ false) {d : Option ℕ} (is_d : d ≡ token_of_first_identifier elsif_parts) where
        after_two : token_of_first_identifier (elsif_parts ++ last_branch) ≡ first_identifier (if_of i)
        after_two = found_later first_branch (elsif_parts ++ last_branch) is_b no_b ∙ (found_later condition (first_branch ++ (elsif_parts ++ last_branch)) is_a no_a ∙ whole)

        in_elsifs : is_some d ≡ true → d ≡ first_identifier (if_of i)
        in_elsifs some = found_first elsif_parts last_branch is_d some ∙ after_two

        in_last_branch : is_some d ≡ false → token_of_first_identifier last_branch ≡ first_identifier (if_of i)
        in_last_branch none = found_later elsif_parts last_branch is_d none ∙ after_two

pub first_identifier_in_if-returns-then-is_some : goal.first_identifier_in_if-returns-then-is_some
first_identifier_in_if-returns-then-is_some t c = in_condition c.args.i.now c.first_identifier_in_expression-found.ensures (sym c.is_some.ensures ∙ c.if-is_some.true)

pub first_identifier_in_if-returns-then-is_some-2 : goal.first_identifier_in_if-returns-then-is_some-2
first_identifier_in_if-returns-then-is_some-2 t c =
    in_first_branch c.args.i.now c.first_identifier_in_expression-found.ensures (sym c.is_some.ensures ∙ c.if-is_some.false) c.first_identifier_in_sequence-found.ensures (sym c.is_some-2.ensures ∙ c.if-is_some-2.true)

pub first_identifier_in_if-returns-then-is_some-3 : goal.first_identifier_in_if-returns-then-is_some-3
first_identifier_in_if-returns-then-is_some-3 t c =
    in_elsifs c.args.i.now c.first_identifier_in_expression-found.ensures (sym c.is_some.ensures ∙ c.if-is_some.false) c.first_identifier_in_sequence-found.ensures (sym c.is_some-2.ensures ∙ c.if-is_some-2.false) c.first_identifier_in_elsifs-found.ensures
    (sym c.is_some-3.ensures ∙ c.if-is_some-3.true)

pub first_identifier_in_if-returns-in-Some : goal.first_identifier_in_if-returns-in-Some
first_identifier_in_if-returns-in-Some t c =
    c.first_identifier_in_sequence.ensures
    ∙ (ap (λ o. first_identifier (else_part_of o)) (sym c.in-Some.is)
    ∙ in_last_branch c.args.i.now c.first_identifier_in_expression-found.ensures (sym c.is_some.ensures ∙ c.if-is_some.false) c.first_identifier_in_sequence-found.ensures (sym c.is_some-2.ensures ∙ c.if-is_some-2.false) c.first_identifier_in_elsifs-found.ensures
    (sym c.is_some-3.ensures ∙ c.if-is_some-3.false))

pub first_identifier_in_if-returns-in-None : goal.first_identifier_in_if-returns-in-None
first_identifier_in_if-returns-in-None t c =
    ap (λ o. first_identifier (else_part_of o)) (sym c.in-None.is)
    ∙ in_last_branch c.args.i.now c.first_identifier_in_expression-found.ensures (sym c.is_some.ensures ∙ c.if-is_some.false) c.first_identifier_in_sequence-found.ensures (sym c.is_some-2.ensures ∙ c.if-is_some-2.false) c.first_identifier_in_elsifs-found.ensures
    (sym c.is_some-3.ensures ∙ c.if-is_some-3.false)

pub first_identifier_in_statement-returns-else-is_some : goal.first_identifier_in_statement-returns-else-is_some
first_identifier_in_statement-returns-else-is_some t c =
    let condition = identifiers role.DeclaringName (expression_of c.deref-in-While.result.now.condition) in
    let body = identifiers role.DeclaringName (sequence_of_list c.deref-in-While-2.result.now.body.items) in
    c.first_identifier_in_sequence.ensures
    ∙ (found_later condition body c.first_identifier_in_expression-found.ensures (sym c.is_some.ensures ∙ c.if-is_some.false)
    ∙ ap first_identifier (sym (while_read c.in-While.w c.deref-in-While.ensures c.deref-in-While-2.ensures) ∙ sym (ap statement_of c.in-While.is)))

pub first_identifier_in_statement-returns-then-is_some-2 : goal.first_identifier_in_statement-returns-then-is_some-2
first_identifier_in_statement-returns-then-is_some-2 t c =
    let body = identifiers role.DeclaringName (sequence_of_list c.deref-in-Repeat.result.now.body.items) in
    let condition = identifiers role.DeclaringName (expression_of c.deref-in-Repeat.result.now.condition) in
    found_first body condition c.first_identifier_in_sequence-found.ensures (sym c.is_some-in-Repeat.ensures ∙ c.if-is_some-2.true)
    ∙ ap first_identifier (sym (repeat_read c.in-Repeat.r c.deref-in-Repeat.ensures c.deref-in-Repeat.ensures) ∙ sym (ap statement_of c.in-Repeat.is))

pub first_identifier_in_statement-returns-else-is_some-2 : goal.first_identifier_in_statement-returns-else-is_some-2
first_identifier_in_statement-returns-else-is_some-2 t c =
    let body = identifiers role.DeclaringName (sequence_of_list c.deref-in-Repeat.result.now.body.items) in
    let condition = identifiers role.DeclaringName (expression_of c.deref-in-Repeat-2.result.now.condition) in
    c.first_identifier_in_expression.ensures
    ∙ (found_later body condition c.first_identifier_in_sequence-found.ensures (sym c.is_some-in-Repeat.ensures ∙ c.if-is_some-2.false)
    ∙ ap first_identifier (sym (repeat_read c.in-Repeat.r c.deref-in-Repeat.ensures c.deref-in-Repeat-2.ensures) ∙ sym (ap statement_of c.in-Repeat.is)))
