use Rattle.std.proofs.Common.{◌∙◌, inl, inr, Some, ap, subst, sym}
use Rattle.ob0_session_documents.specs.KeptAnalyses.{CacheContains}
use Rattle.ob0_session_documents.proofs.Kept.{put_in}
use Rattle.ob0_session_documents.proofs.analysis_cache.AnalysisCache.insert_without_evicting.Goals as goal

pub returns-in_err-put-in-Some : goal.returns-in_err-put-in-Some
returns-in_err-put-in-Some c uri text h =
    inl (subst (λ o. CacheContains o uri text) (ap Some c.in_err-put-in-Some.ensures.err ∙ sym c.in-Some.is) h)

pub returns-in_ok-put-in-Some : goal.returns-in_ok-put-in-Some
returns-in_ok-put-in-Some c uri text h =
    elim (put_in c.in-Some.by_uri c.put.new.self c.in_ok-key.key c.args.analysis (ap (λ s. s.entries) c.in_ok-put-in-Some.ensures.entries) uri text h) [
      | inl was ↦ inl (subst (λ o. CacheContains o uri text) (sym c.in-Some.is) was)
      | inr put ↦ inr (put.0 ∙ c.in_ok-key.ensures.ok, put.1)
    ]
