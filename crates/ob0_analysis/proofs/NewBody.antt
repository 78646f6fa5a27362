-- Proves that if a text differs from the previous text in only one body, the rest of its module is
-- the same. The reason is that no two trees have the same spelling.
use Rattle.std.proofs.Common.{◌≡◌, ◌<◌, ◌≤◌, ◌+◌, ◌-◌, ℕ, zero, suc, Bool, true, false, nat_lt, if◌then◌else◌, Some, List, [], ◌∷◌, ◌++◌, map, take, drop, length, slice_get, refl, sym, ap, ◌∙◌, subst, arith, append_assoc, length-append, ⊎_elim}
use Rattle.std.proofs.lemmas.List.{append_cancel_right, drop-drop, drop_at, map-append, take-take, take_at}
use Rattle.std.proofs.lemmas.Bool.{le-ltb}
use Rattle.ob0_scan.specs.declared.lexeme.TokenKind.{TokenKind}
use Rattle.ob0_scan.specs.declared.lexeme.TokenKind.TheVariants as kind
use Rattle.ob0_scan.specs.declared.lexeme.ReservedWord.TheVariants as reserved
use Rattle.ob0_scan.specs.declared.tokens.CommonPrefixAndSuffix.{CommonPrefixAndSuffix}
use Rattle.ob0_scan.specs.ReusedLexemes.{token_kinds_without_values, words_of_tokens}
use Rattle.ob0_scan.specs.SamePrefixAndSuffix.{PrefixAndSuffixHaveSameKinds, PrefixAndSuffixHaveSameWords}
use Rattle.ob0_scan.specs.TextWithTokens.{IsScan, TextWithTokens, Word}
use Rattle.ob0_tree.specs.Terminals.{EndOfText, WordOrSymbol, Name, Number, Terminal, mapped_terminal}
use Rattle.ob0_tree.specs.IdentifierIndexes.{names_without_roles}
use Rattle.ob0_tree.specs.ParsedModule.{TreeMatchesText, ParsedModule, parsed_module, tree_of}
use Rattle.ob0_tree.specs.declared.tree.ModuleTree.{ModuleTree}
use Rattle.ob0_tree.specs.Tree.{Tree, begins, body, identifiers, item, mapped_tree, maybe, module_text, none, one, spell}
use Rattle.ob0_tree.specs.declared.tree.Role.{Role}
use Rattle.ob0_tree.specs.declared.tree.Role.TheVariants as role
use Rattle.ob0_tree.proofs.Leaves.{leaves_spelled, lexeme_names}
use Rattle.ob0_tree.proofs.Mapped.{spell_mapped}
use Rattle.ob0_parse_descent.proofs.Unique.{same}
use Rattle.ob0_parse.specs.KeptTreeTokens.{indexed_terminals_of_kinds}
use Rattle.ob0_parse.proofs.TerminalsOfKinds.{drop_terminals, moved_terminals, name_index, take_terminals, terminals_of_tokens}
use Rattle.ob0_scope.specs.BindingsBeforeBodyReplacement.{AreBindingsBeforeBodyReplacement}
use Rattle.ob0_scope_table.specs.Bindings.{resolution_with_bindings}
use Rattle.ob0_scope_table.specs.BoundsOfBodies.{module_tree_of}
use Rattle.ob0_tree.specs.FirstIdentifier.{token_of_first_identifier}
use Rattle.ob0_scope_table.specs.BodyReplacement.{ReplacesStatementsOfOneBody, PathToBody, body_at_path, closing_name_at_path, shifted_token_index, path_to_body_in_module, module_without_body}
use Rattle.ob0_scope_table.specs.SpellingChangesInOneBody.{is_outside_range}
use Rattle.ob0_scope_table.proofs.BodyPlaces.{body_place_read}
use Rattle.ob0_scope_table.proofs.Moved.{moved_above, moved_below, out_cases}
use Rattle.ob0_scope_table.specs.declared.one_body.BodyBounds.{BodyBounds}
use Rattle.ob0_scope_table.specs.declared.resolved.Bindings.{Bindings}
use Rattle.ob0_types.specs.NewBody.{IsCheckResultBeforeBodyReplacement}
use Rattle.ob0_analysis.specs.LastModule.{IsLastModuleOf}
use Rattle.ob0_analysis.specs.BodyAfterFirstIdentifier.{IsBodyAfterFirstIdentifier}
use Rattle.ob0_analysis.specs.declared.last_module.LastModule.{LastModule}
use Rattle.ob0_analysis.proofs.OneBody.{get_dropped, get_taken}
use Rattle.ob0_analysis.proofs.NoBegin.{NoBegin, begin_mark, first_part, last_begin, no_begin}
use Rattle.ob0_analysis.proofs.Ways.{around_body, way_less, way_moved}

-- ---- a body up to its first identifier

record UpTo (xs : List (Terminal ℕ)) (n : ℕ) : Type 0 where
  pub front : List (Terminal ℕ)
  pub back : List (Terminal ℕ)
  pub is : xs ≡ front ++ (Name n ∷ back)

up_to_name : (xs : List (Terminal ℕ)) (n : ℕ) (ns : List ℕ) → lexeme_names xs ≡ n ∷ ns → UpTo xs n
up_to_name [] n ns e = absurd (cc (e))
up_to_name (Name k ∷ xs) n ns e = let same_name : k ≡ n = cc (e) in record { front = []; back = xs; is = ap (λ (m : ℕ). Name m ∷ xs) same_name }
up_to_name (Number k ∷ xs) n ns e = let h = up_to_name xs n ns e in record { front = Number k ∷ h.front; back = h.back; is = ap (λ l. Number k ∷ l) h.is }
up_to_name (WordOrSymbol k ∷ xs) n ns e = let h = up_to_name xs n ns e in record { front = WordOrSymbol k ∷ h.front; back = h.back; is = ap (λ l. WordOrSymbol k ∷ l) h.is }
up_to_name (EndOfText ∷ xs) n ns e = let h = up_to_name xs n ns e in record { front = EndOfText ∷ h.front; back = h.back; is = ap (λ l. EndOfText ∷ l) h.is }

of_some : {a b : ℕ} → Some a ≡ Some b → a ≡ b
of_some e = cc

up_to_first : (ids : List (Role × ℕ)) (xs : List (Terminal ℕ)) (n : ℕ) → names_without_roles ids ≡ lexeme_names xs → token_of_first_identifier ids ≡ Some n → UpTo xs n
up_to_first [] xs n names e = absurd (cc (e))
up_to_first (x ∷ ids) xs n names e =
    let same_name : x.1 ≡ n = of_some e in
    up_to_name xs n (names_without_roles ids) (sym names ∙ ap (λ m. m ∷ names_without_roles ids) same_name)

-- Holds if the statements are BEGIN, then tokens other than BEGIN, then the first identifier, then the remaining
-- tokens.
record Opened (statements : Tree ℕ (maybe body)) (n : ℕ) : Type 0 where
  pub written : Tree ℕ (item body)
  pub is : statements ≡ one written
  pub front : List (Terminal ℕ)
  pub back : List (Terminal ℕ)
  pub spelled : spell statements ≡ begin_mark ∷ (front ++ (Name n ∷ back))
  pub plain : NoBegin front

opened : (statements : Tree ℕ (maybe body)) (n : ℕ) → token_of_first_identifier (identifiers role.DeclaringName statements) ≡ Some n → Opened statements n
opened none n e = absurd (cc (e))
opened (one (begins s)) n e =
    let h = up_to_first (identifiers role.DeclaringName s) (spell s) n (leaves_spelled role.DeclaringName s) e in
    record {
      written = begins s;
      is = refl;
      front = h.front;
      back = h.back;
      spelled = ap (λ l. begin_mark ∷ l) h.is;
      plain = first_part h.front (Name n ∷ h.back) (subst NoBegin h.is (no_begin s refl));
    }

-- ---- a module around a body

up_to_last : {A : Type 0} (f : List A) (b : A) (u : List A) (n : A) (v z : List A) → f ++ ((b ∷ (u ++ (n ∷ v))) ++ z) ≡ (f ++ (b ∷ u)) ++ (n ∷ (v ++ z))
up_to_last f b u n v z = ap (λ l. f ++ (b ∷ l)) (append_assoc u (n ∷ v) z) ∙ sym (append_assoc f (b ∷ u) (n ∷ (v ++ z)))

up_to_end : {A : Type 0} (f x : List A) (e c : A) (z : List A) → f ++ (x ++ (e ∷ c ∷ z)) ≡ ((f ++ x) ++ (e ∷ [])) ++ (c ∷ z)
up_to_end f x e c z = sym (append_assoc f x (e ∷ c ∷ z)) ∙ sym (append_assoc (f ++ x) (e ∷ []) (c ∷ z))

spelled_by_kinds : (m : ParsedModule) → TreeMatchesText m → spell (tree_of m) ≡ indexed_terminals_of_kinds 0 (token_kinds_without_values m.source.tokens)
spelled_by_kinds m parsed = append_cancel_right (spell (tree_of m)) (indexed_terminals_of_kinds 0 (token_kinds_without_values m.source.tokens)) (EndOfText ∷ []) (parsed.places ∙ terminals_of_tokens 0 m.source.tokens)

record Halves (m : ParsedModule) (path : PathToBody) (first closing : ℕ) : Type 0 where
  pub front : List (Terminal ℕ)
  pub inside : List (Terminal ℕ)
  pub back : List (Terminal ℕ)
  pub less : spell (module_without_body path (tree_of m)) ≡ front ++ back
  pub until : take first (indexed_terminals_of_kinds 0 (token_kinds_without_values m.source.tokens)) ≡ front ++ (begin_mark ∷ inside)
  pub plain : NoBegin inside
  pub shorter : length front < first
  pub front_is : front ≡ take (length front) (indexed_terminals_of_kinds 0 (token_kinds_without_values m.source.tokens))
  pub before : ℕ
  pub closes : before + 1 ≡ closing
  pub back_is : back ≡ drop before (indexed_terminals_of_kinds 0 (token_kinds_without_values m.source.tokens))

halves : (m : ParsedModule) → TreeMatchesText m → (path : PathToBody) (first closing : ℕ) → token_of_first_identifier (identifiers role.DeclaringName (body_at_path path (tree_of m))) ≡ Some first → closing_name_at_path path (tree_of m) ≡ closing → Halves m path first closing
halves m parsed path first closing is_first is_closing =
    let t : Tree ℕ module_text = tree_of m in
    let c : ℕ = closing_name_at_path path t in
    let o = opened (body_at_path path t) first is_first in
    let a = around_body path t o.written o.is in
    let end_mark : Terminal ℕ = WordOrSymbol (kind.ReservedWord reserved.End) in
    let back : List (Terminal ℕ) = end_mark ∷ Name c ∷ a.back in
    let all : List (Terminal ℕ) = indexed_terminals_of_kinds 0 (token_kinds_without_values m.source.tokens) in
    let start : List (Terminal ℕ) = a.front ++ (begin_mark ∷ o.front) in
    let upper : List (Terminal ℕ) = a.front ++ spell (body_at_path path t) in
    let whole : all ≡ a.front ++ (spell (body_at_path path t) ++ back) = sym (spelled_by_kinds m parsed) ∙ a.whole_is in
    let at_first : all ≡ start ++ (Name first ∷ (o.back ++ back)) =
    whole ∙ (ap (λ l. a.front ++ (l ++ back)) o.spelled ∙ up_to_last a.front begin_mark o.front (Name first) o.back back) in
    let at_closing : all ≡ (upper ++ (end_mark ∷ [])) ++ (Name c ∷ a.back) = whole ∙ up_to_end a.front (spell (body_at_path path t)) end_mark (Name c) a.back in
    let first_index : first ≡ 0 + length start = name_index 0 first (token_kinds_without_values m.source.tokens) start (o.back ++ back) at_first in
    let closing_index : c ≡ 0 + length (upper ++ (end_mark ∷ [])) = name_index 0 c (token_kinds_without_values m.source.tokens) (upper ++ (end_mark ∷ [])) a.back at_closing in
    let first_count : length start ≡ length a.front + length (begin_mark ∷ o.front) = length-append a.front (begin_mark ∷ o.front) in
    let closing_count : length (upper ++ (end_mark ∷ [])) ≡ length upper + 1 = length-append upper (end_mark ∷ []) in
    record {
      front = a.front;
      inside = o.front;
      back = back;
      less = a.less_is;
      until = ap (take first) at_first ∙ take_at start (Name first ∷ (o.back ++ back)) first (omega (arith, first_index));
      plain = o.plain;
      shorter = omega (arith, first_index, first_count);
      front_is = sym (ap (take (length a.front)) whole ∙ take_at a.front (spell (body_at_path path t) ++ back) (length a.front) refl);
      before = length upper;
      closes = omega (arith, closing_index, closing_count, is_closing);
      back_is = sym (ap (drop (length upper)) (whole ∙ sym (append_assoc a.front (spell (body_at_path path t)) back)) ∙ drop_at upper back (length upper) refl);
    }

-- ---- the tokens of both

take_short : {A : Type 0} (n : ℕ) (xs : List A) → length (take n xs) ≤ n
take_short zero xs = omega arith
take_short (suc n) [] = omega arith
take_short (suc n) (x ∷ xs) = let h = take_short n xs in omega (arith, h)

module _ (s : CommonPrefixAndSuffix) (old_range : s.prefix ≤ s.old_suffix) (new_range : s.prefix ≤ s.new_suffix) where
  -- A moved token is on the same side of the range of differences as before.
  same_side : (c : ℕ) → nat_lt (shifted_token_index s c) s.prefix ≡ nat_lt c s.prefix
  same_side c = one (nat_lt c s.prefix) refl
    where
      one : (b : Bool) → nat_lt c s.prefix ≡ b → nat_lt (if b then c else s.new_suffix + (c - s.old_suffix)) s.prefix ≡ b
      one true e = e
      one false e = le-ltb (s.new_suffix + (c - s.old_suffix)) s.prefix (omega (arith, new_range))

  -- The way to the body in the new module is the way in the old module.
  same_way : (old new : ParsedModule) → module_without_body (path_to_body_in_module s.prefix (tree_of new)) (tree_of new) ≡ mapped_tree (shifted_token_index s) (shifted_token_index s) (module_without_body (path_to_body_in_module s.prefix (tree_of old)) (tree_of old)) → path_to_body_in_module s.prefix (tree_of new) ≡ path_to_body_in_module s.prefix (tree_of old)
  same_way old new e =
      sym (way_less s.prefix (path_to_body_in_module s.prefix (tree_of new)) (tree_of new))
      ∙ (ap (path_to_body_in_module s.prefix) e
      ∙ (way_moved s.prefix (shifted_token_index s) same_side (module_without_body (path_to_body_in_module s.prefix (tree_of old)) (tree_of old))
      ∙ way_less s.prefix (path_to_body_in_module s.prefix (tree_of old)) (tree_of old)))

module _ (old new : ParsedModule) (s : CommonPrefixAndSuffix) (tokens : PrefixAndSuffixHaveSameKinds s old.source.tokens new.source.tokens) where
  -- The new module without its body is the old module without its body, with its tokens moved.
  without_same : (path new_path : PathToBody) (first closing now_closing : ℕ) → Halves old path first closing → Halves new new_path first now_closing → first < s.prefix → s.old_suffix < closing → now_closing + s.old_suffix ≡ closing + s.new_suffix
      → module_without_body new_path (tree_of new) ≡ mapped_tree (shifted_token_index s) (shifted_token_index s) (module_without_body path (tree_of old))
  without_same path new_path first closing now_closing was is front_side back_side same_closing =
      let ks : List TokenKind = token_kinds_without_values old.source.tokens in
      let js : List TokenKind = token_kinds_without_values new.source.tokens in
      let r : Terminal ℕ → Terminal ℕ = mapped_terminal (shifted_token_index s) (shifted_token_index s) in
      let same_take : take first ks ≡ take first js =
      sym (take-take first s.prefix ks (omega (arith, front_side))) ∙ (ap (take first) (sym tokens.front) ∙ take-take first s.prefix js (omega (arith, front_side))) in
      let same_start : was.front ++ (begin_mark ∷ was.inside) ≡ is.front ++ (begin_mark ∷ is.inside) =
      sym was.until ∙ (take_terminals first 0 ks ∙ (ap (indexed_terminals_of_kinds 0) same_take ∙ (sym (take_terminals first 0 js) ∙ is.until))) in
      let same_front : was.front ≡ is.front = last_begin was.front was.inside is.front is.inside was.plain is.plain same_start in
      let n : ℕ = length was.front in
      let front_by_kinds : was.front ≡ indexed_terminals_of_kinds 0 (take n ks) = was.front_is ∙ take_terminals n 0 ks in
      let short : length (take n ks) ≤ n = take_short n ks in
      let stays : (d : ℕ) → d < length (take n ks) → shifted_token_index s (0 + d) ≡ 0 + d = λ d less. let here : 0 + d < s.prefix = omega (arith, less, short, was.shorter, front_side) in moved_below s (0 + d) here in
      let front_moved : map r was.front ≡ is.front =
      ap (map r) front_by_kinds ∙ (moved_terminals (shifted_token_index s) 0 0 (take n ks) stays ∙ (sym front_by_kinds ∙ same_front)) in
      let d : ℕ = was.before - s.old_suffix in
      let there : s.old_suffix + d ≡ was.before = omega (arith, was.closes, back_side) in
      let here : s.new_suffix + d ≡ is.before = omega (arith, was.closes, is.closes, back_side, same_closing) in
      let same_drop : drop was.before ks ≡ drop is.before js =
      ap (λ k. drop k ks) (sym there) ∙ (sym (drop-drop d s.old_suffix ks) ∙ (ap (drop d) (sym tokens.back) ∙ (drop-drop d s.new_suffix js ∙ ap (λ k. drop k js) here))) in
      let back_by_kinds : was.back ≡ indexed_terminals_of_kinds was.before (drop was.before ks) = was.back_is ∙ drop_terminals was.before 0 was.before ks (omega arith) in
      let goes : (e : ℕ) → e < length (drop was.before ks) → shifted_token_index s (was.before + e) ≡ is.before + e =
      λ e less. let high : s.old_suffix ≤ was.before + e = omega (arith, there) in moved_above s (was.before + e) tokens.old_range high ∙ omega (arith, there, here) in
      let back_moved : map r was.back ≡ is.back =
      ap (map r) back_by_kinds ∙ (moved_terminals (shifted_token_index s) was.before is.before (drop was.before ks) goes ∙ (ap (indexed_terminals_of_kinds is.before) same_drop ∙ (sym (drop_terminals is.before 0 is.before js (omega arith)) ∙ sym is.back_is))) in
      let spelled : spell (module_without_body new_path (tree_of new)) ≡ spell (mapped_tree (shifted_token_index s) (shifted_token_index s) (module_without_body path (tree_of old))) =
      is.less
      ∙ (sym (ap (λ l. l ++ is.back) front_moved ∙ ap (λ l. is.front ++ l) refl)
      ∙ (sym (ap (λ l. map r was.front ++ l) back_moved)
      ∙ (sym (map-append r was.front was.back) ∙ (ap (map r) (sym was.less) ∙ sym (spell_mapped (shifted_token_index s) (shifted_token_index s) (module_without_body path (tree_of old))))))) in
      (same (module_without_body new_path (tree_of new)) (mapped_tree (shifted_token_index s) (shifted_token_index s) (module_without_body path (tree_of old))) [] [] tt tt (ap (λ l. l ++ []) spelled)).0

-- ---- tokens outside the range have the same spelling

words_outside : (s : CommonPrefixAndSuffix) (old new : TextWithTokens) → PrefixAndSuffixHaveSameWords s old new → s.prefix ≤ s.old_suffix → (i : ℕ) → is_outside_range s.prefix s.old_suffix i ≡ true
    → slice_get (words_of_tokens new.text new.tokens) (shifted_token_index s i) ≡ slice_get (words_of_tokens old.text old.tokens) i
words_outside s old new written range i out = ⊎_elim
    (λ less. ap (slice_get (words_of_tokens new.text new.tokens)) (moved_below s i less)
    ∙ (sym (get_taken s.prefix (words_of_tokens new.text new.tokens) i less)
    ∙ (ap (λ (l : List Word). slice_get l i) written.front ∙ get_taken s.prefix (words_of_tokens old.text old.tokens) i less)))
    (λ le. let here : s.old_suffix + (i - s.old_suffix) ≡ i = omega (arith, le) in
    ap (slice_get (words_of_tokens new.text new.tokens)) (moved_above s i range le)
    ∙ (sym (get_dropped s.new_suffix (words_of_tokens new.text new.tokens) (i - s.old_suffix) (s.new_suffix + (i - s.old_suffix)) refl)
    ∙ (ap (λ (l : List Word). slice_get l (i - s.old_suffix)) written.back ∙ get_dropped s.old_suffix (words_of_tokens old.text old.tokens) (i - s.old_suffix) i here)))
    (out_cases s.prefix s.old_suffix i out)

pub body_replaced : (old new : ParsedModule) (s : CommonPrefixAndSuffix) → IsScan old.source → IsScan new.source → TreeMatchesText old → TreeMatchesText new → PrefixAndSuffixHaveSameKinds s old.source.tokens new.source.tokens → PrefixAndSuffixHaveSameWords s old.source new.source
    → (was is : BodyBounds) → IsBodyAfterFirstIdentifier (tree_of old) s.prefix s.old_suffix was → IsBodyAfterFirstIdentifier (tree_of new) s.prefix s.new_suffix is → ReplacesStatementsOfOneBody old new (path_to_body_in_module s.prefix (tree_of old)) s
body_replaced old new s old_scan new_scan old_parsed new_parsed tokens written place now a b =
    let path : PathToBody = path_to_body_in_module s.prefix (tree_of old) in
    let new_path : PathToBody = path_to_body_in_module s.prefix (tree_of new) in
    let first : ℕ = place.first in
    let front : first < s.prefix = omega (arith, a.first) in
    let back : s.old_suffix < place.closing = omega (arith, a.closing) in
    let same_first : now.first ≡ first = omega (arith, a.first, b.first) in
    let same_closing : now.closing + s.old_suffix ≡ place.closing + s.new_suffix = omega (arith, a.closing, b.closing) in
    let p = body_place_read s.prefix s.old_suffix (tree_of old) place a.found in
    let q = body_place_read s.prefix s.new_suffix (tree_of new) now b.found in
    let is_first : token_of_first_identifier (identifiers role.DeclaringName (body_at_path new_path (tree_of new))) ≡ Some first = q.first ∙ ap Some same_first in
    let was = halves old old_parsed path first place.closing p.first p.closes in
    let is = halves new new_parsed new_path first now.closing is_first q.closes in
    let moved_too : module_without_body new_path (tree_of new) ≡ mapped_tree (shifted_token_index s) (shifted_token_index s) (module_without_body path (tree_of old)) =
    without_same old new s tokens path new_path first place.closing now.closing was is front back same_closing in
    let closes : closing_name_at_path new_path (tree_of new) ≡ shifted_token_index s (closing_name_at_path path (tree_of old)) =
    q.closes ∙ sym (ap (shifted_token_index s) p.closes ∙ (moved_above s place.closing tokens.old_range (omega (arith, back)) ∙ omega (arith, same_closing, back))) in
    let one_way : new_path ≡ path = same_way s tokens.old_range tokens.new_range old new moved_too in
    record {
      old_range = tokens.old_range;
      new_range = tokens.new_range;
      old_scan = old_scan;
      new_scan = new_scan;
      old_parsed = old_parsed;
      new_parsed = new_parsed;
      outside = subst (λ w. module_without_body w (tree_of new) ≡ mapped_tree (shifted_token_index s) (shifted_token_index s) (module_without_body path (tree_of old))) one_way moved_too;
      words = words_outside s old.source new.source written tokens.old_range;
      old_path = refl;
      new_path = one_way;
      old_in_body = p.is_bound_to_declaration;
      new_in_body = q.is_bound_to_declaration;
      first = first;
      first_identifier_of_old_body = p.first;
      first_identifier_of_new_body = subst (λ w. token_of_first_identifier (identifiers role.DeclaringName (body_at_path w (tree_of new))) ≡ Some first) one_way is_first;
      front = front;
      back = subst (λ n. s.old_suffix < n) (sym p.closes) back;
      closing = subst (λ w. closing_name_at_path w (tree_of new) ≡ shifted_token_index s (closing_name_at_path path (tree_of old))) one_way closes;
    }

-- ---- the reused results

module _ (new : TextWithTokens) (tree : ModuleTree) (last : LastModule) (place : BodyBounds) (h : IsLastModuleOf new last) (now : IsBodyAfterFirstIdentifier (module_tree_of tree) last.same.prefix last.same.new_suffix place) (parsed : TreeMatchesText (parsed_module new tree)) where
  abbrev before_it : ParsedModule
  before_it = parsed_module h.earlier_module.old h.tree

  abbrev path_before : PathToBody
  path_before = path_to_body_in_module last.same.prefix (tree_of before_it)

  is_replaced : ReplacesStatementsOfOneBody before_it (parsed_module new tree) path_before last.same
  is_replaced =
      body_replaced before_it (parsed_module new tree) last.same h.earlier_module.old_scan h.earlier_module.new_scan h.earlier_module.parsed parsed h.earlier_module.same h.earlier_module.written
      h.place place h.placed now

  pub was_bound_elsewhere : AreBindingsBeforeBodyReplacement (parsed_module new tree) last.bindings last.same
  was_bound_elsewhere = record { old = before_it; path = path_before; replaced = is_replaced; resolved = h.earlier_module.resolved }

  pub were_types_elsewhere : (c : Bindings) → IsCheckResultBeforeBodyReplacement (resolution_with_bindings (parsed_module new tree) c) last.types last.same place.closing
  were_types_elsewhere c = record {
    old = resolution_with_bindings before_it last.bindings;
    path = path_before;
    replaced = is_replaced;
    closes = sym (ap (λ path. closing_name_at_path path (module_tree_of tree)) is_replaced.new_path) ∙ (body_place_read last.same.prefix last.same.new_suffix (module_tree_of tree) place now.found).closes;
    types_are = h.earlier_module.types_are;
  }
