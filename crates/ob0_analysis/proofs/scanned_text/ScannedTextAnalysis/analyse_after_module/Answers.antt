use Rattle.ob0_analysis.proofs.GivenBack.{module_given_back}
use Rattle.ob0_analysis.proofs.scanned_text.ScannedTextAnalysis.analyse_after_module.Goals as goal

pub reanalyse_module-requires : goal.reanalyse_module-requires
reanalyse_module-requires c = record {
  earlier_module = record {
    old = c.into_parts-tokens.result.0;
    old_scan = c.text-text.ensures.scan;
    new_scan = c.in-Ok.ensures.ok.scan;
    parsed = c.into_parts-tokens.ensures.parsed;
    resolved = c.into_parts-tokens.ensures.resolved;
    types_are = c.into_parts-tokens.ensures.types;
    same = c.in-Ok.ensures.same;
    written = c.in-Ok.ensures.written;
  };
  same_kinds = c.in-Ok.ensures.alike;
  same_names = c.in-Ok.ensures.same_names;
  same_words = c.in-Ok.ensures.same_words;
}

pub reanalysis_failure_after_module-requires : goal.reanalysis_failure_after_module-requires
reanalysis_failure_after_module-requires c =
    let parts = c.into_parts-tokens in
    module_given_back parts.result.0 _ parts.result.1 parts.result.2 parts.result.3 _ c.in-Err.ensures.err parts.ensures.parsed parts.ensures.resolved parts.ensures.types
