use Rattle.std.proofs.Common.{◌≡◌, ◌≤◌, ◌+◌, ◌-◌, ℕ, List, length, refl, sym, ap, ap₂, ◌∙◌, subst, take, drop, arith}
use Rattle.ob0_scan.specs.declared.lexeme.Token.{Token}
use Rattle.ob0_scan.specs.TextWithTokens.{TextWithTokens, IsScanOf}
use Rattle.ob0_scan.specs.ReusedLexemes.{token_kinds_without_values, spellings_of_identifiers_in, words_of_tokens, ReusesOldLexemes}
use Rattle.ob0_scan.specs.RescanState.{scan_with_new_middle}
use Rattle.ob0_scan.proofs.Alike.{kinds_stay}
use Rattle.ob0_scan.proofs.Named.{back_written, front_written, names_stay, words_stay}
use Rattle.ob0_scan.proofs.SameKinds.{joined_length, joined_tokens, same_tokens}
use Rattle.ob0_scan.specs.SamePrefixAndSuffix.{PrefixAndSuffixHaveSameKinds, PrefixAndSuffixHaveSameWords}
use Rattle.ob0_scan.specs.declared.tokens.CommonPrefixAndSuffix.{CommonPrefixAndSuffix}
use Rattle.ob0_scan.proofs.incremental_scan.rescan_in_place.Goals as goal

pub replace_middle-requires-clause-between : goal.replace_middle-requires-clause-between
replace_middle-requires-clause-between c = c.in-Ok.ensures.ok

pub returns-in_ok-tokens-in-Ok-clause-ok : goal.returns-in_ok-tokens-in-Ok-clause-ok
returns-in_ok-tokens-in-Ok-clause-ok c =
    subst (λ (s : TextWithTokens). IsScanOf c.args.new_text.now s) (sym c.in_ok-tokens-in-Ok.ensures) (record { of = refl; scan = c.in-Ok.ensures.ok.scan })

pub returns-in_ok-tokens-in-Ok-clause-reused : goal.returns-in_ok-tokens-in-Ok-clause-reused
returns-in_ok-tokens-in-Ok-clause-reused c =
    let b = c.in-Ok.between in
    let read : c.len.result + c.len-in-Ok.result ≡ length b.tokens.items + length b.comments.items = omega (arith, c.len.ensures, c.len-in-Ok.ensures, b.tokens.ok, b.comments.ok) in
    subst (λ (n : ℕ). ReusesOldLexemes c.args.old c.in_ok-tokens-in-Ok.tokens c.args.from c.args.removed c.args.added n) (sym read)
    (subst (λ (s : TextWithTokens). ReusesOldLexemes c.args.old s c.args.from c.args.removed c.args.added (length b.tokens.items + length b.comments.items)) (sym c.in_ok-tokens-in-Ok.ensures) c.in-Ok.ensures.ok.reuses)

pub returns-in_ok-tokens-in-Ok-clause-alike : goal.returns-in_ok-tokens-in-Ok-clause-alike
returns-in_ok-tokens-in-Ok-clause-alike c =
    let b = c.in-Ok.between in
    λ alike. ap (λ (s : TextWithTokens). token_kinds_without_values s.tokens) c.in_ok-tokens-in-Ok.ensures
    ∙ kinds_stay c.args.old.tokens b.tokens.items b.old_start.tokens b.old_end.tokens c.args.removed c.args.added c.in-Ok.ensures.ok.tokens_ordered
    (c.has_same_kinds_as_replaced_tokens-same_kinds.ensures alike
    ∙ ap (λ (l : List Token). token_kinds_without_values (take (b.old_end.tokens - b.old_start.tokens) (drop b.old_start.tokens l))) c.tokens.ensures)

pub returns-in_ok-tokens-in-Ok-clause-same_names : goal.returns-in_ok-tokens-in-Ok-clause-same_names
returns-in_ok-tokens-in-Ok-clause-same_names c =
    let b = c.in-Ok.between in
    λ same. ap (λ (s : TextWithTokens). spellings_of_identifiers_in s.text s.tokens) c.in_ok-tokens-in-Ok.ensures
    ∙ names_stay c.args.old c.args.new_text.now c.args.from c.args.removed c.args.added b c.requires c.in-Ok.ensures.ok
    (c.has_same_names_as_replaced_tokens-same_names.ensures same)

pub returns-in_ok-tokens-in-Ok-clause-same_words : goal.returns-in_ok-tokens-in-Ok-clause-same_words
returns-in_ok-tokens-in-Ok-clause-same_words c =
    let b = c.in-Ok.between in
    λ same. ap (λ (s : TextWithTokens). words_of_tokens s.text s.tokens) c.in_ok-tokens-in-Ok.ensures
    ∙ words_stay c.args.old c.args.new_text.now c.args.from c.args.removed c.args.added b c.requires c.in-Ok.ensures.ok
    (c.has_same_words_as_replaced_tokens-same_words.ensures same)

pub returns-in_ok-tokens-in-Ok-clause-same : goal.returns-in_ok-tokens-in-Ok-clause-same
returns-in_ok-tokens-in-Ok-clause-same c =
    let b = c.in-Ok.between in
    let old : List Token = c.args.old.tokens in
    let new : TextWithTokens = c.in_ok-tokens-in-Ok.tokens in
    let last : ℕ = b.old_end.tokens in
    let s : CommonPrefixAndSuffix = record { prefix = b.old_start.tokens; old_suffix = last; new_suffix = length c.tokens-in-Ok-2.result.now - (length c.tokens-in-Ok.result.now - last) } in
    let is : new.tokens ≡ joined_tokens old b.tokens.items b.old_start.tokens last c.args.removed c.args.added = ap (λ (s : TextWithTokens). s.tokens) c.in_ok-tokens-in-Ok.ensures in
    let counts : s.new_suffix ≡ length (joined_tokens old b.tokens.items b.old_start.tokens last c.args.removed c.args.added) - (length old - last) =
    ap₂ (λ (x y : List Token). length x - (length y - last)) (c.tokens-in-Ok-2.ensures ∙ is) c.tokens-in-Ok.ensures in
    subst (λ (l : List Token). PrefixAndSuffixHaveSameKinds s old l) (sym is)
    (same_tokens old b.tokens.items b.old_start.tokens last c.args.removed c.args.added s c.in-Ok.ensures.ok.tokens_ordered c.in-Ok.ensures.ok.tokens_inside refl refl counts)

pub returns-in_ok-tokens-in-Ok-clause-written : goal.returns-in_ok-tokens-in-Ok-clause-written
returns-in_ok-tokens-in-Ok-clause-written c =
    let b = c.in-Ok.between in
    let old : TextWithTokens = c.args.old in
    let new : TextWithTokens = c.in_ok-tokens-in-Ok.tokens in
    let whole = scan_with_new_middle old c.args.new_text.now c.args.removed c.args.added b in
    let w = c.in-Ok.ensures.ok in
    let last : ℕ = b.old_end.tokens in
    let s : CommonPrefixAndSuffix = record { prefix = b.old_start.tokens; old_suffix = last; new_suffix = length c.tokens-in-Ok-2.result.now - (length c.tokens-in-Ok.result.now - last) } in
    let counts : s.new_suffix ≡ length whole.tokens - (length old.tokens - last) =
    ap₂ (λ (x y : List Token). length x - (length y - last)) (c.tokens-in-Ok-2.ensures ∙ ap (λ (s : TextWithTokens). s.tokens) c.in_ok-tokens-in-Ok.ensures) c.tokens-in-Ok.ensures in
    let inside : b.old_start.tokens ≤ length old.tokens = omega (arith, w.tokens_ordered, w.tokens_inside) in
    let at : s.new_suffix ≡ b.old_start.tokens + length b.tokens.items = omega (arith, counts, joined_length old.tokens b.tokens.items b.old_start.tokens last c.args.removed c.args.added inside, w.tokens_inside) in
    subst (λ (n : TextWithTokens). PrefixAndSuffixHaveSameWords s old n) (sym c.in_ok-tokens-in-Ok.ensures)
    (record {
      front = front_written old c.args.new_text.now c.args.from c.args.removed c.args.added b c.requires w;
      back = back_written old c.args.new_text.now c.args.from c.args.removed c.args.added s.new_suffix b c.requires w at;
    })
