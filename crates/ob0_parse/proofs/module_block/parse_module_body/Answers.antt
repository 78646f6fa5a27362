use Rattle.ob0_parse.proofs.module_block.parse_module_body.Goals as goal

pub returns-in-Body-clause-read : goal.returns-in-Body-clause-read
returns-in-Body-clause-read c = (rw c.in-Body.is at c.in-Some.ensures.taken).0
