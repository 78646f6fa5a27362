use Rattle.ob0_refs.proofs.ParametersFollowProcedureName.{parameters_are_following-holds}
use Rattle.ob0_refs.proofs.hover_laws.parameters_follow_procedure_name.Goals as goal

pub returns : goal.returns
returns c = parameters_are_following-holds
