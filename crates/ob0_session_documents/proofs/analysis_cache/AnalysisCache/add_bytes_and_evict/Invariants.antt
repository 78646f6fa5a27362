use Rattle.ob0_session_documents.specs.KeptAnalyses.{AddsNoAnalysis}
use Rattle.ob0_session_documents.proofs.analysis_cache.AnalysisCache.add_bytes_and_evict.Given as goal

abbrev pub decreases-loop-counted : goal.decreases-loop-counted
decreases-loop-counted l = l.counted

abbrev pub invariant-loop-counted : goal.invariant-loop-counted
invariant-loop-counted l = AddsNoAnalysis l.fn.self l.self
