use Rattle.ob0_language_types.proofs.DeclaredPlaces.{bindings_match_declarations-holds}
use Rattle.ob0_language_types.proofs.binding_laws.bindings_match_declarations.Goals as goal

pub returns : goal.returns
returns c = bindings_match_declarations-holds
