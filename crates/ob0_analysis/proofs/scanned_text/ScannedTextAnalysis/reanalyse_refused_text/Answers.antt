use Rattle.ob0_analysis.proofs.scanned_text.ScannedTextAnalysis.reanalyse_refused_text.Goals as goal

pub analyse_tokens-requires-clause-kept : goal.analyse_tokens-requires-clause-kept
analyse_tokens-requires-clause-kept c =
    let before = c.requires.before in
    c.move_to_changed_text.ensures before.old.tokens _ before.same before.kept
