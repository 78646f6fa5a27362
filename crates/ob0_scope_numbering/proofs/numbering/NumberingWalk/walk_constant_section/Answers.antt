use Rattle.std.proofs.Common.{sym, ap, ◌∙◌}
use Rattle.ob0_tree.specs.View.{items_of, constant_section_of, constant_declaration_of}
use Rattle.ob0_scope_numbering.specs.IdentifierWalk.{visit_constant_section, visit_constants}
use Rattle.ob0_scope_numbering.proofs.Going.{gone_through}
use Rattle.ob0_scope_numbering.proofs.numbering.NumberingWalk.walk_constant_section.Goals as goal

pub returns-after-loop-c : goal.returns-after-loop-c
returns-after-loop-c c = gone_through (λ xs. visit_constants (items_of constant_declaration_of xs)) c.loop-c.invariant c.loop-c-test.false
    ∙ (ap (λ xs. visit_constants (items_of constant_declaration_of xs) c.args.self.now) c.deref-c-items.ensures.value ∙ sym (ap (λ s. visit_constant_section (constant_section_of s) c.args.self.now) c.in-Some.is))
