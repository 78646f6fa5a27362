use Rattle.std.proofs.Common.{◌-◌, All, length}
use Rattle.ob0_tree.specs.Module.{max_nesting}
use Rattle.ob0_tree.specs.View.{items_of, procedure_of}
use Rattle.ob0_parse.specs.KeptTreeTokens.{KeptTreeMatchesTokens}
use Rattle.ob0_parse_descent.proofs.Items.{Taking}
use Rattle.ob0_parse.proofs.module_block.parse_module_procedures.Given as goal

abbrev pub invariant-loop-procedure : goal.invariant-loop-procedure
invariant-loop-procedure l = record {
  taking : Taking (items_of procedure_of l.procedures.items) max_nesting l.parser.tokens.now l.at l.next;
  kept : All (KeptTreeMatchesTokens l.parser.tokens.now) l.kept.items;
}

abbrev pub decreases-loop-procedure : goal.decreases-loop-procedure
decreases-loop-procedure l = length l.parser.tokens.now - l.next
