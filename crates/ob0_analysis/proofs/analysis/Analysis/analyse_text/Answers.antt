use Rattle.ob0_analysis.proofs.analysis.Analysis.analyse_text.Goals as goal

pub analyse_tokens-requires-clause-kept : goal.analyse_tokens-requires-clause-kept
analyse_tokens-requires-clause-kept c = c.empty.ensures c.in-Ok.tokens.tokens
