use Rattle.std.proofs.Common.{◌≡◌, ℕ, ◌<◌, ◌≤◌, Bool, true, false, List, length, map, refl, sym, ap, ◌∙◌, subst}
use Rattle.std.specs.Bool.{IsTrue}
use Rattle.std.specs.List.{All}
use Rattle.std.specs.Prelude.{nat_lt}
use Rattle.std.proofs.lemmas.Bool.{ltb-true, ltb-false}
use Rattle.std.proofs.lemmas.Simd.{map-map}
use Rattle.ob0_scan.specs.TextWithTokens.{TextWithTokens, IsScan, max_text_length}
use Rattle.ob0_text.specs.Units.{width_of}
use Rattle.ob0_text.specs.declared.edits.Indent.{Indent}
use Rattle.ob0_tree.specs.ParsedModule.{ParsedModule, tree_of, named_tree_of}
use Rattle.ob0_tree.specs.TokenIndexLeaves.{token_text_at, token_value_at}
use Rattle.ob0_edits_tokens.specs.ByteCuts.{edit_of_cut, length_after_cuts_from_offset}
use Rattle.ob0_edits_tokens.proofs.TextCuts.{AreCuts}
use Rattle.ob0_layout.specs.Layout.{formatted_lexemes, formatted_text}
use Rattle.ob0_text.specs.Patches.{Cut, patched_text}
use Rattle.ob0_layout.proofs.Unnamed.{roles_mapped}
use Rattle.ob0_layout.specs.declared.gap_sites.GapSite.{GapSite}
use Rattle.ob0_layout.specs.declared.line_role.LineRole.{LineRole}
use Rattle.ob0_layout.specs.LineRoles.{line_roles}
use Rattle.ob0_layout.specs.Cuts.{GapLiesInText, gap_cut}
use Rattle.ob0_layout.specs.Gaps.{all_gaps, changed_gaps}
use Rattle.ob0_layout.proofs.Gaps.{all_changed_are, changed_length, gaps_patched, sites_lie}
use Rattle.ob0_layout.proofs.formatting_edits.format.Goals as goal

abbrev changed_in : Indent → List LineRole → (s : TextWithTokens) → IsScan s → List Cut
changed_in indent ss s scan = changed_gaps s.text (all_gaps indent s.text ss scan.lexemes)

-- The gaps that the code found are the gaps of the source.
of_source : {s t : TextWithTokens} (e : s ≡ t) (indent : Indent) (found read : List GapSite) (ss is : List LineRole) → read ≡ found → ss ≡ is → ((scan : IsScan s) → map (gap_cut indent) found ≡ changed_in indent ss s scan) → (scan : IsScan t) → map (gap_cut indent) read ≡ changed_in indent is t scan
of_source e indent found read ss is r f h = λ scan.
    ap (map (gap_cut indent)) r ∙ subst (λ (x : TextWithTokens). (scan : IsScan x) → map (gap_cut indent) found ≡ changed_in indent ss x scan) e h scan ∙ ap (λ xs. changed_in indent xs _ scan) f

lie_in_source : {s t : TextWithTokens} (e : s ≡ t) (indent : Indent) (len : ℕ) (read : List GapSite) (is : List LineRole) → IsScan s → len ≡ length t.text → ((scan : IsScan t) → map (gap_cut indent) read ≡ changed_in indent is t scan) → All (GapLiesInText len) read
lie_in_source {t = t} e indent len read is scan long h =
    let there = subst IsScan e scan in
    let lie = sites_lie t.text indent 0 read (subst (AreCuts t.text 0) (sym (h there)) (all_changed_are indent t there is)) in
    subst (λ (n : ℕ). All (GapLiesInText n) read) (sym long) lie

-- The counted length is the length of the formatted text.
counted : (m : ParsedModule) (indent : Indent) (scan : IsScan m.source) → length_after_cuts_from_offset (length m.source.text) 0 (changed_in indent (line_roles 0 (tree_of m)) m.source scan) ≡ length (formatted_text indent (named_tree_of m) scan.lexemes)
unfolding formatted_lexemes
counted m indent scan =
    ap (λ (ss : List LineRole). length_after_cuts_from_offset (length m.source.text) 0 (changed_in indent ss m.source scan)) (sym (roles_mapped (token_text_at m.source) (token_value_at m.source) 0 (tree_of m)))
    ∙ changed_length indent m.source scan (line_roles 0 (named_tree_of m))

past : (b : Bool) (n m : ℕ) → (n ≤ m → IsTrue b) → b ≡ false → m < n
past b n m h e = by_test (nat_lt m n) refl
  where
    by_test : (t : Bool) → nat_lt m n ≡ t → m < n
    by_test true f = ltb-true m n f
    by_test false f = let never : false ≡ true = subst IsTrue e (h (ltb-false m n f)) in absurd (cc)

pub is_formatted_text_within_limit-requires-clause-within : goal.is_formatted_text_within_limit-requires-clause-within
is_formatted_text_within_limit-requires-clause-within g c =
    let long = ap length (c.text.ensures.value ∙ ap (λ (x : TextWithTokens). x.text) c.tokens-tokens.ensures.source) in
    lie_in_source c.tokens-tokens.ensures.source c.args.indent (length c.text.result.now) c.deref-2.result.now (line_roles 0 (tree_of c.args.module.now)) c.text.ensures.scan long
    (of_source c.tokens-tokens.ensures.source c.args.indent c.in_ok-gap_sites.gap_sites.items c.deref-2.result.now c.deref.result.now _ c.deref-2.ensures.value (c.deref.ensures.value ∙ c.in_ok-roles.ensures) c.in_ok-gap_sites.ensures)

pub returns-then-not-is_formatted_text_within_limit-clause-too_long : goal.returns-then-not-is_formatted_text_within_limit-clause-too_long
returns-then-not-is_formatted_text_within_limit-clause-too_long g c = λ scan reported.
    let long = ap length (c.text.ensures.value ∙ ap (λ (x : TextWithTokens). x.text) c.tokens-tokens.ensures.source) in
    let same = of_source c.tokens-tokens.ensures.source c.args.indent c.in_ok-gap_sites.gap_sites.items c.deref-2.result.now c.deref.result.now (line_roles 0 (tree_of c.args.module.now)) c.deref-2.ensures.value (c.deref.ensures.value ∙ c.in_ok-roles.ensures) c.in_ok-gap_sites.ensures scan in
    subst (λ (n : ℕ). max_text_length < n) ((λ i. length_after_cuts_from_offset (long i) 0 (same i)) ∙ counted c.args.module.now c.args.indent scan) (past c.is_formatted_text_within_limit.result _ max_text_length c.is_formatted_text_within_limit.ensures.1 c.if-not-is_formatted_text_within_limit.true)

pub returns-clause-edits : goal.returns-clause-edits
returns-clause-edits g c = λ scan.
    let same = of_source c.tokens-tokens.ensures.source c.args.indent c.in_ok-gap_sites.gap_sites.items c.deref-3.result.now c.deref.result.now (line_roles 0 (tree_of c.args.module.now)) c.deref-3.ensures.value (c.deref.ensures.value ∙ c.in_ok-roles.ensures) c.in_ok-gap_sites.ensures scan in
    let edit = edit_of_cut (g.T.TextStore.unit_of c.args.store.now) (g.T.TextStore.content c.args.store.now) in
    c.in_ok-gap_edits.ensures ∙ sym (map-map edit (gap_cut c.args.indent) c.deref-3.result.now)
    ∙ ap (map edit)
    (same ∙ ap (λ (ss : List LineRole). changed_in c.args.indent ss c.args.module.now.source scan) (sym (roles_mapped (token_text_at c.args.module.now.source) (token_value_at c.args.module.now.source) 0 (tree_of c.args.module.now))))

pub returns-clause-fits : goal.returns-clause-fits
returns-clause-fits g c = λ scan.
    let long = ap length (c.text.ensures.value ∙ ap (λ (x : TextWithTokens). x.text) c.tokens-tokens.ensures.source) in
    let same = of_source c.tokens-tokens.ensures.source c.args.indent c.in_ok-gap_sites.gap_sites.items c.deref-2.result.now c.deref.result.now (line_roles 0 (tree_of c.args.module.now)) c.deref-2.ensures.value (c.deref.ensures.value ∙ c.in_ok-roles.ensures) c.in_ok-gap_sites.ensures scan in
    subst (λ (n : ℕ). n ≤ max_text_length) ((λ i. length_after_cuts_from_offset (long i) 0 (same i)) ∙ counted c.args.module.now c.args.indent scan) (c.is_formatted_text_within_limit.ensures.0 c.if-not-is_formatted_text_within_limit.false)

pub returns-clause-patched_text : goal.returns-clause-patched_text
unfolding formatted_lexemes
returns-clause-patched_text g c = λ scan held.
    let unit = g.T.TextStore.unit_of c.args.store.now in
    let m = c.args.module.now in
    let edits = c.in_ok-gap_edits.field-0.items in
    let gs = changed_in c.args.indent (line_roles 0 (named_tree_of m)) m.source scan in
    let made = gaps_patched c.args.indent m.source scan (line_roles 0 (named_tree_of m)) unit edits
    (returns-clause-edits g c scan ∙ ap (λ (t : List ℕ). map (edit_of_cut unit t) gs) held) in
    ap (λ (t : List ℕ). patched_text (width_of unit) t edits) held ∙ made
