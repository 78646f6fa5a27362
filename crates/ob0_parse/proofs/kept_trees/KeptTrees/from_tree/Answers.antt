use Rattle.std.proofs.Common.{[], refl}
use Rattle.std.proofs.lemmas.List.Elements.{All-cons, All-nil}
use Rattle.ob0_parse.specs.KeptTreeTokens.{KeptTreeMatchesTokens}
use Rattle.ob0_parse.proofs.FromTree.{parts_taken}
use Rattle.ob0_parse.proofs.kept_trees.KeptTrees.from_tree.Goals.{in-Some+in_ok-push, in_default}
use Rattle.ob0_parse.proofs.kept_trees.KeptTrees.from_tree.Goals as goal

pub returns : goal.returns
returns c = λ s parsed.
    let parts = parts_taken s c.args.tree parsed _ _ _ _ _ c.into_block-block.ensures c.take-statements.ensures.value refl c.into_procedures-procedures.ensures in
    let P = KeptTreeMatchesTokens s.tokens in
    record {
      trees = c.in_ok-keep_procedures.ensures s.tokens parts.procedures
          (elim c.match-kept_tree_of_body.branch [
            | in-Some+in_ok-push w ↦ rw (w.trees-is, w.in_ok-push.ensures.items, c.new-trees.ensures.items) (All-cons P w.in-Some.body [] (w.in-Some.ensures s.tokens parts) (All-nil P))
            | in_default w ↦ rw (w.trees-is, c.new-trees.ensures.items) (All-nil P)
          ]);
    }
