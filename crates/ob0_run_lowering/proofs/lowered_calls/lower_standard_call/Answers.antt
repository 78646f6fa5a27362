use Rattle.std.proofs.Common.{Some, ap, ◌∙◌}
use Rattle.std.proofs.lemmas.Result.{MatchResult-weaker}
use Rattle.ob0_types_table.specs.DeclarationTableView.{standard_procedure_of}
use Rattle.ob0_language_types.specs.Expressions.{a_standard_procedure}
use Rattle.ob0_run_lowering.proofs.Called.{line_written}
use Rattle.ob0_run_lowering.proofs.lowered_calls.lower_standard_call.Goals as goal

pub returns-in-Read : goal.returns-in-Read
returns-in-Read c = MatchResult-weaker c.lower_read.result c.lower_read.ensures (λ made h. λ x declared. h x (declared ∙ ap (λ s. Some (a_standard_procedure (standard_procedure_of s))) c.in-Read.is)) (λ y h. h)

pub returns-in-Write : goal.returns-in-Write
returns-in-Write c = MatchResult-weaker c.lower_write.result c.lower_write.ensures (λ made h. λ x declared. h x (declared ∙ ap (λ s. Some (a_standard_procedure (standard_procedure_of s))) c.in-Write.is)) (λ y h. h)

pub returns-in-WriteLn : goal.returns-in-WriteLn
returns-in-WriteLn c = λ x declared. line_written c.args.scene.now x c.args.given.now (declared ∙ ap (λ s. Some (a_standard_procedure (standard_procedure_of s))) c.in-WriteLn.is)
