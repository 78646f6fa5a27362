use Rattle.std.proofs.Common.{sym, ap, ◌∙◌}
use Rattle.ob0_tree.specs.View.{items_of, variable_section_of, variable_declaration_of}
use Rattle.ob0_scope_numbering.specs.IdentifierWalk.{visit_variable_section, visit_variables}
use Rattle.ob0_scope_numbering.proofs.Going.{gone_through}
use Rattle.ob0_scope_numbering.proofs.numbering.NumberingWalk.walk_variable_section.Goals as goal

pub returns-after-loop-v : goal.returns-after-loop-v
returns-after-loop-v c = gone_through (λ xs. visit_variables (items_of variable_declaration_of xs)) c.loop-v.invariant c.loop-v-test.false
    ∙ (ap (λ xs. visit_variables (items_of variable_declaration_of xs) c.args.self.now) c.deref-v-items.ensures.value ∙ sym (ap (λ s. visit_variable_section (variable_section_of s) c.args.self.now) c.in-Some.is))
