use Rattle.std.proofs.Common.{ap, ◌∙◌, arith}
use Rattle.ob0_tree.specs.ParsedModule.{named_tree_of}
use Rattle.ob0_language_types.specs.Typing.{value_of_constant_object}
use Rattle.ob0_language_types.proofs.ConstantsDeclared.{constant-declared, predeclared-none}
use Rattle.ob0_types.proofs.checked_modules.WellTyped.constant.Goals as goal

pub returns-then-declaration-lt-PREDECLARED_COUNT : goal.returns-then-declaration-lt-PREDECLARED_COUNT
returns-then-declaration-lt-PREDECLARED_COUNT c = predeclared-none (named_tree_of c.args.self.now.module_read) c.args.declaration (omega (arith, c.if-declaration-lt-PREDECLARED_COUNT.true))

pub returns-else-declaration-lt-PREDECLARED_COUNT : goal.returns-else-declaration-lt-PREDECLARED_COUNT
returns-else-declaration-lt-PREDECLARED_COUNT c =
    let m = named_tree_of c.args.self.now.module_read in
    c.constant-value.ensures
    ∙ ap value_of_constant_object (c.declarations.ensures c.args.declaration)
    ∙ constant-declared m c.resolved-module.ensures.well_typed.well_typed c.args.declaration (omega (arith, c.if-declaration-lt-PREDECLARED_COUNT.false))
