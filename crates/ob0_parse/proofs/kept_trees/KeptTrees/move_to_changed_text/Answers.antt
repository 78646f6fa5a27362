use Rattle.std.proofs.Common.{of_calls, subst, sym}
use Rattle.ob0_parse.specs.KeptTreeTokens.{KeptTreeMatchesTokens}
use Rattle.ob0_parse.proofs.Carried.{retained}
use Rattle.ob0_parse.proofs.kept_trees.KeptTrees.move_to_changed_text.Goals as goal

pub retain_mut-requires : goal.retain_mut-requires
retain_mut-requires c = search of_calls parts 8

pub returns : goal.returns
returns c = λ old new h kept. record {
  trees = retained _ (KeptTreeMatchesTokens old) (KeptTreeMatchesTokens new) _ _ _ c.retain_mut.ensures.filtered
      (λ x there t y r. let met = r.called.met in (λ e p. subst (KeptTreeMatchesTokens new) r.leaves (met.0 e old new h (subst (KeptTreeMatchesTokens old) (sym r.shows) p)), met.1))
      kept.trees;
}
