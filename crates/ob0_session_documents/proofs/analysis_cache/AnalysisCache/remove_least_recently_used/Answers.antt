use Rattle.std.proofs.Common.{ap, subst}
use Rattle.ob0_session_documents.specs.KeptAnalyses.{CacheContains}
use Rattle.ob0_session_documents.proofs.Kept.{older_in}
use Rattle.ob0_session_documents.proofs.analysis_cache.AnalysisCache.remove_least_recently_used.Goals as goal

pub returns : goal.returns
returns c uri text h =
    subst (λ o. CacheContains o uri text) c.in_ok-by_uri.ensures.value
    (older_in c.in_ok-by_uri.by_uri.now c.pop_lru.new.self _ (ap (λ s. s.entries) c.pop_lru.ensures.entries) uri text h)
