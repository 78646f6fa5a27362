use Rattle.std.proofs.Common.{IfSome, subst}
use Rattle.ob0_session_documents.specs.KeptAnalyses.{CacheContains}
use Rattle.ob0_session_documents.proofs.Kept.{peeked_in}
use Rattle.ob0_session_documents.proofs.analysis_cache.AnalysisCache.get.Goals as goal

pub returns : goal.returns
returns c =
    subst (λ o. IfSome c.peek.result (λ a. CacheContains o c.args.uri.now a.now)) c.in_ok-by_uri.ensures.value
    (peeked_in c.args.uri.now c.in_ok-by_uri.by_uri.now c.peek.result c.peek.ensures)
