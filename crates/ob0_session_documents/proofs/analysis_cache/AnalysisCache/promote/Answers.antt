use Rattle.std.proofs.Common.{ap, subst, sym}
use Rattle.ob0_session_documents.specs.KeptAnalyses.{CacheContains}
use Rattle.ob0_session_documents.proofs.Kept.{promoted_in}
use Rattle.ob0_session_documents.proofs.analysis_cache.AnalysisCache.promote.Goals as goal

pub returns-in-Some : goal.returns-in-Some
returns-in-Some c uri text h =
    subst (λ o. CacheContains o uri text) (sym c.in-Some.is)
    (promoted_in c.args.uri.now c.in-Some.by_uri c.promote.new.self (ap (λ s. s.entries) c.promote.ensures.entries) uri text h)
