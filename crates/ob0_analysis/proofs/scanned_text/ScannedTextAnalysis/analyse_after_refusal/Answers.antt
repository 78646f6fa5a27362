use Rattle.ob0_parse.proofs.Carried.{kept_stay}
use Rattle.ob0_parse.proofs.Stays.{refusal_stays}
use Rattle.ob0_analysis.proofs.GivenBack.{refusal_given_back}
use Rattle.ob0_analysis.proofs.scanned_text.ScannedTextAnalysis.analyse_after_refusal.Goals as goal

pub reanalyse_refused_text-requires-clause-same_kinds : goal.reanalyse_refused_text-requires-clause-same_kinds
reanalyse_refused_text-requires-clause-same_kinds c =
    λ same_kinds. (refusal_stays c.args.ill.tokens c.in-Ok.changed.rescan.tokens c.args.ill.refusal (c.in-Ok.ensures.alike same_kinds) c.requires.0.0, c.requires.0.1)

pub reanalyse_refused_text-requires-clause-before : goal.reanalyse_refused_text-requires-clause-before
reanalyse_refused_text-requires-clause-before c = record {
  old = c.args.ill.tokens;
  new_scan = c.in-Ok.ensures.ok.scan;
  same = c.in-Ok.ensures.same;
  written = c.in-Ok.ensures.written;
  kept = c.requires.1;
  same_kinds = λ same_kinds. kept_stay c.args.ill.tokens.tokens c.in-Ok.changed.rescan.tokens.tokens c.args.ill.kept (c.in-Ok.ensures.alike same_kinds) c.requires.1;
  was = c.requires.2;
}

pub reanalysis_failure_after_refusal-requires : goal.reanalysis_failure_after_refusal-requires
reanalysis_failure_after_refusal-requires c = refusal_given_back c.args.ill.tokens _ c.args.ill.refusal c.args.ill.kept c.args.ill.last _ c.in-Err.ensures.err c.requires.0 c.requires.1 c.requires.2
