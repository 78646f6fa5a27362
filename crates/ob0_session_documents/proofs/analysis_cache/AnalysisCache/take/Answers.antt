use Rattle.std.proofs.Common.{ap, subst, sym}
use Rattle.ob0_session_documents.specs.KeptAnalyses.{CacheContains}
use Rattle.ob0_session_documents.proofs.Kept.{found_in, left_in}
use Rattle.ob0_session_documents.proofs.analysis_cache.AnalysisCache.take.Goals as goal

pub returns-in_err-analysis-clause-others : goal.returns-in_err-analysis-clause-others
returns-in_err-analysis-clause-others c uri text h =
    let left = left_in c.args.uri.now c.in_ok-by_uri.by_uri.now c.pop.new.self c.len-count.ensures.valid.0 (ap (λ s. s.entries) c.pop.ensures.entries) uri text h in
    (subst (λ o. CacheContains o uri text) c.in_ok-by_uri.ensures.value left.0, left.1)

pub returns-clause-found : goal.returns-clause-found
returns-clause-found c =
    subst (λ o. CacheContains o c.args.uri.now c.in_ok-analysis.analysis) c.in_ok-by_uri.ensures.value
    (found_in c.args.uri.now c.in_ok-by_uri.by_uri.now c.in_ok-analysis.analysis (sym c.in_ok-analysis.ensures.value))

pub returns-clause-others : goal.returns-clause-others
returns-clause-others c uri text h =
    let left = left_in c.args.uri.now c.in_ok-by_uri.by_uri.now c.pop.new.self c.len-count.ensures.valid.0 (ap (λ s. s.entries) c.pop.ensures.entries) uri text h in
    (subst (λ o. CacheContains o uri text) c.in_ok-by_uri.ensures.value left.0, left.1)
