use Rattle.std.proofs.lemmas.Result.{err_from_is_err_and}
use Rattle.ob0_tree.specs.View.{parameter_section_of, parameter_section_after_semicolon_of}
use Rattle.ob0_parse_descent.proofs.Refusals.{fails_in}
use Rattle.ob0_parse_descent.proofs.Lists.{listing_one, listing_more, listing_done, listing_fails}
use Rattle.ob0_parse_descent.proofs.parser.Parser.parse_parameter_section_list.Goals as goal

pub returns-in_err-first : goal.returns-in_err-first
returns-in_err-first c =
    let p = err_from_is_err_and c.from_residual.result c.from_residual.ensures.1 in
    rw (p.1, p.2) (fails_in c.in_err-first.ensures)

pub loop-sections-init : goal.loop-sections-init
loop-sections-init c =
    rw (c.in_ok-push_with_doubling.ensures.added, c.new-sections.ensures.items) (listing_one parameter_section_of parameter_section_after_semicolon_of c.in_ok-first.first c.in_ok-first.ensures)

pub returns-in_err-section : goal.returns-in_err-section
returns-in_err-section c =
    let p = err_from_is_err_and c.from_residual-in_err-section.result c.from_residual-in_err-section.ensures.1 in
    rw (p.1, p.2) (listing_fails c.loop-sections.invariant c.in_err-section.ensures)

pub loop-sections-preserved : goal.loop-sections-preserved
loop-sections-preserved c =
    let item = rw c.in-Some.is at c.in_ok-section.ensures in
    rw c.in_ok-push_with_doubling-2.ensures.added (listing_more parameter_section_of parameter_section_after_semicolon_of c.loop-sections.sections.items _ c.loop-sections.invariant item.0)

pub returns : goal.returns
returns c =
    let absent = rw c.in_default.is at c.in_ok-section.ensures in
    listing_done c.loop-sections.invariant absent
