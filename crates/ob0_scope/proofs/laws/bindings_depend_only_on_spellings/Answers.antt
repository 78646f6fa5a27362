use Rattle.ob0_scope.proofs.SameSpellings.{bindings_depend_only_on_spellings}
use Rattle.ob0_scope.proofs.laws.bindings_depend_only_on_spellings.Goals as goal

pub returns : goal.returns
returns c = bindings_depend_only_on_spellings
