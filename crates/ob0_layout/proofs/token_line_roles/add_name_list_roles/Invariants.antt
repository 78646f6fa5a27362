use Rattle.ob0_tree.specs.Tree.{comma_then_name}
use Rattle.ob0_layout.proofs.Walks.{Walking}
use Rattle.ob0_layout.proofs.token_line_roles.add_name_list_roles.Given as goal

abbrev pub invariant-loop-name : goal.invariant-loop-name
invariant-loop-name l = Walking comma_then_name 0 l.initial.out.items l._name-items l._name-index l.out.items
