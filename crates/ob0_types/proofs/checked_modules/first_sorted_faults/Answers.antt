use Rattle.std.proofs.Common.{rules, refl, ◌≡◌, ◌↔◌, ◌++◌, [], length, min, arith, subst, ap, ◌∙◌, ◌+◌, ◌-◌}
use Rattle.std.proofs.lemmas.Fn.{always_returns_same}
use Rattle.std.specs.List.{filter}
use Rattle.std.specs.List.Sorted.{IsPermutation, IsSortedByKey}
use Rattle.ob0_scan.specs.TextWithTokens.{TextWithTokens}
use Rattle.ob0_scope_table.specs.Resolution.{is_duplicate_or_end_name_fault}
use Rattle.ob0_scope_table.specs.declared.faults.FaultAtTokens.{FaultAtTokens}
use Rattle.ob0_types.proofs.AllReported.{empty_alike}
use Rattle.ob0_types.proofs.FaultNumbers.{sorted_by_key}
use Rattle.ob0_types.proofs.checked_modules.first_sorted_faults.Tie as tie
use Rattle.ob0_types.proofs.checked_modules.first_sorted_faults.Goals as goal

pub returns-clause-none : goal.returns-clause-none
returns-clause-none c =
    let first = c.args.of_types.items in
    let scopes = filter is_duplicate_or_end_name_fault c.args.resolved.now.faults in
    let added = c.add_duplicates_and_end_names.new.faults in
    let sorted = c.sort_by_key.new.self in
    let kept = c.truncate.new.self in
    let all = c.in_ok-add_duplicates_and_end_names.ensures ∙ ap (λ fs. first ++ filter is_duplicate_or_end_name_fault fs) c.faults.ensures in
    let joined : added.items ≡ first ++ scopes = all in
    let a = added.ok.0 in
    let s = sorted.ok.0 in
    let k = kept.ok.0 in
    let same : length sorted.items ≡ length added.items = omega (arith, c.sort_by_key.ensures.len, a, s) in
    let cut : length kept.items + (length sorted.items - 100) ≡ length sorted.items = omega (arith, c.truncate.ensures.len, k, s) in
    subst (λ fs. (kept.items ≡ []) ↔ (fs ≡ [])) joined (empty_alike kept.items added.items (λ e. omega (arith, e, same, cut)) (λ e. omega (arith, e, same, cut)))

pub returns-clause-first : goal.returns-clause-first
returns-clause-first c =
    let first = c.args.of_types.items in
    let count = length c.args.resolved.now.module_read.source.tokens in
    let all = c.in_ok-add_duplicates_and_end_names.ensures ∙ ap (λ fs. first ++ filter is_duplicate_or_end_name_fault fs) c.faults.ensures in
    let end = c.saturating_sub-end.result in
    let last : end ≡ count - 1 = c.saturating_sub-end.ensures ∙ (ap (λ ts. length ts - 1) c.tokens-2.ensures ∙ ap (λ (s : TextWithTokens). length s.tokens - 1) c.tokens.ensures) in
    let sorted = c.sort_by_key.new.self.items in
    let cmp = (tie.ghosts-8-0-1-2 c.sort_by_key.lifetimes).cmp in
    record {
      all = sorted;
      joined = subst (λ fs. IsPermutation fs sorted) all c.in_ok-sort_by_key.ensures.permutation;
      in_order = sorted_by_key cmp count sorted (λ f l x f₂ l₂ y. refl) (subst (λ n. IsSortedByKey (λ (x : FaultAtTokens). (min x.first n, min x.last n, x.code)) cmp sorted) last
          (c.in_ok-sort_by_key.ensures.sorted (λ x. (min x.first end, min x.last end, x.code)) (always_returns_same _ _ _ (λ a r f q. (search rules, search rules)))));
      first = c.truncate.ensures.items;
    }
