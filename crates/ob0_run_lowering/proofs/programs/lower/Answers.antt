use Rattle.std.proofs.Common.{◌≡◌, refl, sym, ap, ◌∙◌, subst}
use Rattle.ob0_tree.specs.ParsedModule.{named_tree_of}
use Rattle.ob0_tree.specs.Tree.{Tree, module_text}
use Rattle.ob0_tree.specs.View.{block_of}
use Rattle.ob0_language_names.specs.Names.{Name}
use Rattle.ob0_language_names.specs.BlockParts.{module_block}
use Rattle.ob0_language_names.specs.Scopes.{numbered}
use Rattle.ob0_language_types.specs.Bindings.{declared_object}
use Rattle.ob0_scope_table.specs.LabelledTrees.{tree_with_labels}
use Rattle.ob0_types_table.specs.DeclarationTables.{DeclarationTableView, declared_object_in}
use Rattle.ob0_run_lowering.proofs.LoweredBlocks.{program_means}
use Rattle.ob0_run_lowering.proofs.programs.lower.Goals as goal

pub returns : goal.returns
returns c = λ well known.
    let r = c.args.resolved.now in
    let m : Tree Name module_text = named_tree_of r.module_read in
    let same : c.in_ok-types.types ≡ c.args.known.now = c.in_ok-types.ensures in
    let is : module_block (numbered m) ≡ tree_with_labels r (block_of c.block.result.now) =
    ap module_block c.module.ensures.resolved.numbering ∙ ap (λ b. tree_with_labels r (block_of b)) (sym (c.block.ensures ∙ ap (λ read. read.block) c.module.ensures.value)) in
    program_means c.in_ok-types.types m (record { sites = c.new-2.result; routines = c.new-3.result }) c.lower_block.new.self (tree_with_labels r (block_of c.block.result.now)) c.in_ok-entry.entry
    (record { cells = c.in_ok-entry.entry.cells; body = c.in_ok-entry.entry.body; procedures = c.lower_block.new.self.routines }) well (λ k. subst (λ (t : DeclarationTableView). declared_object_in t k ≡ declared_object m k) (sym same) (known k)) is
    c.new-2.ensures.items c.in_ok-entry.ensures refl
