use Rattle.std.proofs.Common.{◌≤◌, arith}
use Rattle.serde_json.specs.Data.{depth}
use Rattle.ob0_text.specs.declared.position_types.Unit.{Unit}
use Rattle.ob0_text.specs.declared.position_types.Unit.TheVariants.{Utf16, Utf8}
use Rattle.ob0_world_editor.specs.InitializeRequest.{initialize_message}
use Rattle.ob0_world_editor.proofs.Hearing.{if_ok}
use Rattle.ob0_world_editor.proofs.initialize_request.initialize.Goals as goal

shallow : (unit : Unit) → depth (initialize_message unit) ≤ 127
shallow Utf16 = omega arith
shallow Utf8 = omega arith

pub returns : goal.returns
returns c = if_ok c.content_of_message.result (λ content sent. (sent (shallow c.args.unit)).reads) c.content_of_message.ensures
