use Rattle.std.proofs.Common.{sym, ap, ◌∙◌}
use Rattle.ob0_tree.specs.View.{formals_of, items_of, parameter_section_after_semicolon_of}
use Rattle.ob0_scope_numbering.specs.IdentifierWalk.{visit_formals, visit_parameter_sections}
use Rattle.ob0_scope_numbering.proofs.Going.{gone_through}
use Rattle.ob0_scope_numbering.proofs.Declaring.{sections_first}
use Rattle.ob0_scope_numbering.proofs.numbering.NumberingWalk.walk_parameters.Goals as goal

pub returns-after-loop-s : goal.returns-after-loop-s
returns-after-loop-s c = gone_through (λ xs. visit_parameter_sections (items_of parameter_section_after_semicolon_of xs)) c.loop-s.invariant c.loop-s-test.false
    ∙ (ap (λ xs. visit_parameter_sections (items_of parameter_section_after_semicolon_of xs) c.args.self.now) c.deref-s-items.ensures.value
    ∙ (sections_first c.in-Some.sections.items c.args.self.now ∙ sym (ap (λ s. visit_formals (formals_of s) c.args.self.now) c.in-Some.is)))
