-- Proves that the kept names and types of the last module are still right after a further change of
-- the text.
use Rattle.std.proofs.Common.{◌≡◌, ◌≤◌, ◌+◌, ◌-◌, ℕ, List, Some, take, drop, length, sym, ap, ◌∙◌, arith, length-drop}
use Rattle.std.proofs.lemmas.List.{drop-drop, length-map, take-take}
use Rattle.ob0_scan.specs.declared.lexeme.Token.{Token}
use Rattle.ob0_scan.specs.declared.tokens.CommonPrefixAndSuffix.{CommonPrefixAndSuffix}
use Rattle.ob0_scan.specs.ReusedLexemes.{token_kinds_without_values, kind_without_value, words_of_tokens}
use Rattle.ob0_scan.specs.SamePrefixAndSuffix.{PrefixAndSuffixHaveSameKinds, PrefixAndSuffixHaveSameWords}
use Rattle.ob0_scan.specs.TextWithTokens.{IsScan, TextWithTokens}
use Rattle.ob0_tree.specs.ParsedModule.{parsed_module}
use Rattle.ob0_tree.specs.declared.tree.ModuleTree.{ModuleTree}
use Rattle.ob0_tree.proofs.Leaves.{leaves_ascend}
use Rattle.ob0_scope_table.specs.BoundsOfBodies.{body_bounds_of_range, module_tree_of}
use Rattle.ob0_scope_table.specs.declared.one_body.BodyBounds.{BodyBounds}
use Rattle.ob0_scope_table.specs.declared.resolved.Bindings.{Bindings}
use Rattle.ob0_types.specs.declared.checked_modules.CheckResult.{CheckResult}
use Rattle.ob0_analysis.specs.LastModule.{IsEarlierModule, WidensDifference, IsLastModuleOf}
use Rattle.ob0_analysis.specs.declared.last_module.LastModule.{LastModule}
use Rattle.ob0_analysis.proofs.WiderRange.{wider_bounds}

less_front : {A : Type 0} (n m : ℕ) (xs ys : List A) → n ≤ m → take m xs ≡ take m ys → take n xs ≡ take n ys
less_front n m xs ys le e = sym (take-take n m xs le) ∙ (ap (take n) e ∙ take-take n m ys le)

less_back : {A : Type 0} (i j d n m : ℕ) (xs ys : List A) → i + d ≡ n → j + d ≡ m → drop i xs ≡ drop j ys → drop n xs ≡ drop m ys
less_back i j d n m xs ys p q e =
    ap (λ k. drop k xs) (sym p) ∙ (sym (drop-drop d i xs) ∙ (ap (drop d) e ∙ (drop-drop d j ys ∙ ap (λ k. drop k ys) q)))

count_kinds : (ts : List Token) → length (token_kinds_without_values ts) ≡ length ts
count_kinds ts = length-map ts (λ (t : Token). kind_without_value t.kind)

-- Both texts have the same number of tokens after the range of differences.
as_many : (s : CommonPrefixAndSuffix) (old new : List Token) → PrefixAndSuffixHaveSameKinds s old new → length new + s.old_suffix ≡ length old + s.new_suffix
as_many s old new h =
    let left : length (token_kinds_without_values new) - s.new_suffix ≡ length (token_kinds_without_values old) - s.old_suffix =
    sym (length-drop s.new_suffix (token_kinds_without_values new)) ∙ (ap length h.back ∙ length-drop s.old_suffix (token_kinds_without_values old)) in
    omega (arith, left, count_kinds new, count_kinds old, h.new_inside, h.old_inside)

module _ (s wider : CommonPrefixAndSuffix) (still : WidensDifference s wider) where
  abbrev more : ℕ
  more = wider.old_suffix - s.old_suffix

  there : s.old_suffix + more ≡ wider.old_suffix
  there = omega (arith, still.back)

  here : s.new_suffix + more ≡ wider.new_suffix
  here = omega (arith, still.back, still.adds_equally_many_tokens)

  tokens_still : (old new : List Token) → PrefixAndSuffixHaveSameKinds s old new → wider.old_suffix ≤ length old → PrefixAndSuffixHaveSameKinds wider old new
  tokens_still old new h inside = record {
    old_range = omega (arith, still.front, still.back, h.old_range);
    new_range = omega (arith, still.front, still.back, still.adds_equally_many_tokens, h.new_range);
    old_inside = inside;
    new_inside = omega (arith, still.adds_equally_many_tokens, inside, as_many s old new h);
    front = less_front wider.prefix s.prefix (token_kinds_without_values new) (token_kinds_without_values old) still.front h.front;
    back = less_back s.new_suffix s.old_suffix more wider.new_suffix wider.old_suffix (token_kinds_without_values new) (token_kinds_without_values old) here there h.back;
  }

  words_still : (old new : TextWithTokens) → PrefixAndSuffixHaveSameWords s old new → PrefixAndSuffixHaveSameWords wider old new
  words_still old new h = record {
    front = less_front wider.prefix s.prefix _ _ still.front h.front;
    back = less_back s.new_suffix s.old_suffix more wider.new_suffix wider.old_suffix _ _ here there h.back;
  }

  -- A wider range that ends inside the new text also ends inside the old text.
  inside_old : (old new : List Token) → PrefixAndSuffixHaveSameKinds s old new → wider.new_suffix ≤ length new → wider.old_suffix ≤ length old
  inside_old old new h inside = omega (arith, still.adds_equally_many_tokens, inside, as_many s old new h)

-- ---- two changes

joined : (s t : CommonPrefixAndSuffix) (old mid new : List Token) → t.prefix ≡ s.prefix → t.old_suffix ≡ s.new_suffix → PrefixAndSuffixHaveSameKinds s old mid → PrefixAndSuffixHaveSameKinds t mid new → PrefixAndSuffixHaveSameKinds (record { prefix = s.prefix; old_suffix = s.old_suffix; new_suffix = t.new_suffix }) old new
joined s t old mid new p q h k = record {
  old_range = h.old_range;
  new_range = omega (arith, p, k.new_range);
  old_inside = h.old_inside;
  new_inside = k.new_inside;
  front = ap (λ n. take n (token_kinds_without_values new)) (sym p) ∙ (k.front ∙ (ap (λ n. take n (token_kinds_without_values mid)) p ∙ h.front));
  back = k.back ∙ (ap (λ n. drop n (token_kinds_without_values mid)) q ∙ h.back);
}

joined_words : (s t : CommonPrefixAndSuffix) (old mid new : TextWithTokens) → t.prefix ≡ s.prefix → t.old_suffix ≡ s.new_suffix → PrefixAndSuffixHaveSameWords s old mid → PrefixAndSuffixHaveSameWords t mid new → PrefixAndSuffixHaveSameWords (record { prefix = s.prefix; old_suffix = s.old_suffix; new_suffix = t.new_suffix }) old new
joined_words s t old mid new p q h k = record {
  front = ap (λ n. take n (words_of_tokens new.text new.tokens)) (sym p) ∙ (k.front ∙ (ap (λ n. take n (words_of_tokens mid.text mid.tokens)) p ∙ h.front));
  back = k.back ∙ (ap (λ n. drop n (words_of_tokens mid.text mid.tokens)) q ∙ h.back);
}

-- ---- the last module

-- The module of the previous text is the last module if the range of differences is widened to one of its bodies.
pub is_last : (new : TextWithTokens) (tree : ModuleTree) (b : Bindings) (types : CheckResult) (s wider : CommonPrefixAndSuffix) (place : BodyBounds) → IsEarlierModule new tree b types s → WidensDifference s wider → wider.new_suffix ≤ length new.tokens
    → place.first + 1 ≡ wider.prefix → place.closing ≡ wider.old_suffix + 1 → body_bounds_of_range s.prefix s.old_suffix (module_tree_of tree) ≡ Some place → IsLastModuleOf new (record { bindings = b; types = types; same = wider })
is_last new tree b types s wider place h still inside first closing found = record {
  tree = tree;
  earlier_module = record {
    old = h.old;
    old_scan = h.old_scan;
    new_scan = h.new_scan;
    parsed = h.parsed;
    resolved = h.resolved;
    types_are = h.types_are;
    same = tokens_still s wider still h.old.tokens new.tokens h.same (inside_old s wider still h.old.tokens new.tokens h.same inside);
    written = words_still s wider still h.old new h.written;
  };
  place = place;
  placed = record {
    found = wider_bounds s.prefix s.old_suffix wider.prefix wider.old_suffix place (omega (arith, first)) still.front (omega (arith, closing)) (length h.old.tokens) (module_tree_of tree) (leaves_ascend (parsed_module h.old tree) h.parsed) found;
    first = first;
    closing = closing;
  };
}

-- The last module is still the last module after a further change.
pub last_stays : (mid new : TextWithTokens) (last : LastModule) (change wider : CommonPrefixAndSuffix) → IsLastModuleOf mid last → PrefixAndSuffixHaveSameKinds change mid.tokens new.tokens → PrefixAndSuffixHaveSameWords change mid new → IsScan new → WidensDifference change wider → wider.prefix ≡ last.same.prefix → wider.old_suffix ≡ last.same.new_suffix
    → IsLastModuleOf new (record { bindings = last.bindings; types = last.types; same = record { prefix = last.same.prefix; old_suffix = last.same.old_suffix; new_suffix = wider.new_suffix } })
last_stays mid new last change wider w tokens words scan still p q =
    let inside : wider.old_suffix ≤ length mid.tokens = omega (arith, q, w.earlier_module.same.new_inside) in
    record {
      tree = w.tree;
      earlier_module = record {
        old = w.earlier_module.old;
        old_scan = w.earlier_module.old_scan;
        new_scan = scan;
        parsed = w.earlier_module.parsed;
        resolved = w.earlier_module.resolved;
        types_are = w.earlier_module.types_are;
        same = joined last.same wider w.earlier_module.old.tokens mid.tokens new.tokens p q w.earlier_module.same (tokens_still change wider still mid.tokens new.tokens tokens inside);
        written = joined_words last.same wider w.earlier_module.old mid new p q w.earlier_module.written (words_still change wider still mid new words);
      };
      place = w.place;
      placed = w.placed;
    }
