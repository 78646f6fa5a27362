use Rattle.std.proofs.Common.{length, subst, sym}
use Rattle.ob0_tree.specs.Module.{max_nesting}
use Rattle.ob0_tree.specs.Tree.{block, Tree, forms_module}
use Rattle.ob0_tree.specs.View.{block_of}
use Rattle.ob0_parse_descent.specs.ParserPromises.{IsReadTree}
use Rattle.ob0_parse.specs.ModuleBlock.{block_with_procedures}
use Rattle.ob0_parse.proofs.Whole.{module_found, module_places, module_read, refused_by}
use Rattle.ob0_parse.proofs.module_parser.reparse_tree.Goals as goal

pub returns-in-Ok-clause-found : goal.returns-in-Ok-clause-found
returns-in-Ok-clause-found c =
    let s = c.args.tokens.now in
    let taken = subst (λ (b : Tree _ block). IsReadTree (forms_module c.in-Ok.name b c.in-Ok.closing) max_nesting s.tokens 0 (length s.tokens)) (sym c.into_block_with_procedures.ensures) (rw c.tokens.ensures at c.in-Ok.ensures.read) in
    let tree = forms_module c.in-Ok.name (block_of c.into_block_with_procedures.result) c.in-Ok.closing in
    record { module_of = module_found s tree c.text-scanned.ensures.scan.short taken; places = module_places s tree taken }

pub returns-in-Ok-clause-read : goal.returns-in-Ok-clause-read
returns-in-Ok-clause-read c =
    let taken = rw c.tokens.ensures at c.in-Ok.ensures.read in
    module_read c.args.tokens.now (forms_module c.in-Ok.name (block_with_procedures c.parse_module.new.procedures.items c.in-Ok.parts) c.in-Ok.closing) taken

pub returns-in_ok-keep_procedures-in-Err-clause-refused : goal.returns-in_ok-keep_procedures-in-Err-clause-refused
returns-in_ok-keep_procedures-in-Err-clause-refused c = refused_by c.args.tokens.now _ (rw c.tokens.ensures at c.in-Err.ensures.read)

pub returns-in_ok-keep_procedures-in-Err-clause-stay : goal.returns-in_ok-keep_procedures-in-Err-clause-stay
returns-in_ok-keep_procedures-in-Err-clause-stay c =
    record { trees = c.keep_procedures.ensures c.args.tokens.now.tokens (rw c.tokens.ensures at c.in-Err.ensures.procedures) (rw c.tokens.ensures at c.in-Err.ensures.kept) }

pub returns-in_err-keep_procedures-in-Err-clause-stay : goal.returns-in_err-keep_procedures-in-Err-clause-stay
returns-in_err-keep_procedures-in-Err-clause-stay c =
    record { trees = c.keep_procedures.ensures c.args.tokens.now.tokens (rw c.tokens.ensures at c.in-Err.ensures.procedures) (rw c.tokens.ensures at c.in-Err.ensures.kept) }
