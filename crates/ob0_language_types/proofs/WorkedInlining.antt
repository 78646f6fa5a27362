-- Worked examples of inlining: the least number replaces one use, and all uses.
use Rattle.std.proofs.Common.{◌≡◌, negsuc, Some, refl}
use Rattle.ob0_tree.specs.declared.tree.Sign.TheVariants as sign
use Rattle.ob0_tree.specs.Tree.{compares, end, integer, none, parenthesised, product, sum}
use Rattle.ob0_language_names.specs.Inlining.{inlined, module_with_constant_inlined_everywhere, set_of_one_occurrence}
use Rattle.ob0_language_names.proofs.WorkedTrees.{least_constant, least_constant_gone, least_constant_inlined}
use Rattle.ob0_language_types.specs.ValueLiterals.{number_literal}

-- occurrence 2 is the use of c, whose ordinal is 7
pub here-inlined : inlined least_constant (set_of_one_occurrence 2) (number_literal (negsuc 2147483647)) ≡ least_constant_inlined
here-inlined = refl

pub everywhere-inlined : module_with_constant_inlined_everywhere least_constant 7 (number_literal (negsuc 2147483647)) ≡ least_constant_gone
everywhere-inlined = refl

pub minus_five-written : number_literal (negsuc 4) ≡ parenthesised (compares (sum (Some sign.Minus) (product (integer 5) end) end) none)
minus_five-written = refl
