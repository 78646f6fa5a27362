use Rattle.std.proofs.Common.{[], sym, ◌∙◌, append-nil}
use Rattle.ob0_tree.specs.Tree.{spell}
use Rattle.ob0_parse_descent.proofs.Unique.{same}
use Rattle.ob0_parse.proofs.tree_is_unique.Goals as goal

pub returns : goal.returns
returns c text a b p q = (same a b [] [] tt tt (append-nil (spell a) ∙ (sym p.spelled ∙ (q.spelled ∙ sym (append-nil (spell b)))))).0
