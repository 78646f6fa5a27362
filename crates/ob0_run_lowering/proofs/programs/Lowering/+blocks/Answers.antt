use Rattle.std.proofs.Common.{◌≡◌, suc, ◌-◌, length, take, refl, ap, ◌∙◌, subst, arith}
use Rattle.ob0_tree.specs.View.{block_of, items_of, procedure_of}
use Rattle.ob0_tree.specs.declared.tree.Procedure.{out-Procedure}
use Rattle.ob0_scope_table.specs.LabelledTrees.{tree_with_labels}
use Rattle.ob0_run_machine.specs.declared.code.Routine.{Routine}
use Rattle.ob0_run_lowering.specs.declared.scene.LoweredSite.TheVariants as site
use Rattle.ob0_run_lowering.specs.declared.scene.Scene.{Scene}
use Rattle.ob0_run_lowering.specs.Blocks.{count_after_block}
use Rattle.ob0_run_lowering.specs.PlacedNames.{AddsSite}
use Rattle.ob0_run_lowering.proofs.LoweredBlocks.{block_means, goes_itself, goes_on, procedure_means}
use Rattle.ob0_run_lowering.proofs.programs.Lowering.+blocks.Goals as goal

pub lower_block-loop-p-init : goal.lower_block-loop-p-init
lower_block-loop-p-init t c = record { goes = goes_itself _ _ _ _ }

pub lower_block-loop-p-preserved : goal.lower_block-loop-p-preserved
lower_block-loop-p-preserved t c =
    let r = c.args.context.now.resolved.now in
    let items = c.deref-p-items.result.now in
    record {
      goes = goes_on c.args.context.now.types.now (record { sites = c.place_variable_declarations.new.sites; routines = c.args.self.now.routines }) c.loop-p.self c.lower_procedure.new.self c.in_ok-own.own.depth r items c.loop-p.p-index c.p-item.result (tree_with_labels r (items_of procedure_of items))
          c.loop-p.invariant.goes c.loop-p-test.true c.p-item.is c.in_ok-lower_procedure.ensures;
    }

pub lower_block-returns : goal.lower_block-returns
lower_block-returns t c =
    let own = c.in_ok-own.own in
    let scene : Scene = record { resolved = c.args.context.now.resolved; types = c.args.context.now.types; sites = c.as_slice.result; depth = own.depth } in
    let entry : Routine = record { cells = own.cells - c.args.frame.cells; body = c.in_ok-body.body } in
    block_means c.args.context.now.types.now c.args.self.now (record { sites = c.place_variable_declarations.new.sites; routines = c.args.self.now.routines }) c.loop-p.self c.args.b.now c.deref-p-items.result.now c.loop-p.p-index c.args.frame own scene entry c.args.context.now.resolved.now
    c.in_ok-own.ensures refl c.loop-p.invariant.goes c.loop-p-test.false c.deref-p-items.ensures.value refl c.as_slice.ensures.value refl c.in_ok-body.ensures refl

pub lower_procedure-returns : goal.lower_procedure-returns
lower_procedure-returns t c = λ rest.
    let r = c.args.context.now.resolved.now in
    let deep : c.in-Some.inside ≡ suc c.args.depth = omega (arith, c.in-Some.ensures) in
    let count : c.len.result ≡ length c.args.self.now.routines.items = omega (arith, c.len.ensures) in
    let outside : c.len-outside.result ≡ length c.push_site.new.sites.items = omega (arith, c.len-outside.ensures) in
    procedure_means c.args.context.now.types.now c.args.self.now c.lower_block.new.self (record { sites = c.truncate.new.self; routines = c.push.new.self }) c.args.depth c.in-Some-routine_count_after_block.index c.args.p.now r c.in_ok-frame.frame c.in_ok-entry.entry rest
    record {
      headed = c.push_site.new.sites.items;
      first = record { depth = c.in-Some.inside; cells = 0; var_parameter_count = 0 };
      inside = record { sites = c.place_formals.new.sites; routines = c.args.self.now.routines };
      index_is = c.in-Some-routine_count_after_block.ensures r ∙ ap (λ n. count_after_block n (tree_with_labels r (block_of (out-Procedure c.args.p.now).block))) count;
      own_site = subst (λ o. AddsSite o (site.Procedure c.args.depth c.in-Some-routine_count_after_block.index) c.args.self.now.sites.items c.push_site.new.sites.items) c.ordinal_at-ordinal.ensures c.in_ok-push_site.ensures;
      first_is = ap (λ n. record { depth = n; cells = 0; var_parameter_count = 0 }) deep;
      parameters = c.in_ok-frame.ensures;
      unchanged = refl;
      lowers = c.in_ok-entry.ensures;
      back = subst (λ n. c.truncate.new.self.items ≡ take n c.lower_block.new.self.sites.items) outside c.truncate.ensures.items;
      added = c.in_ok-push.ensures.items;
    }
