-- Proves which identifiers are at a place and which are bound to a declaration, by the table of
-- ordinals and by token.
use Rattle.std.proofs.Common.{◌≡◌, ℕ, ◌+◌, Bool, true, false, not, cond, ◌&&◌, ◌||◌, Option, Some, None, List, [], ◌∷◌, ◌++◌, map, length, refl, sym, ap, ◌∙◌, subst, option_map, option_and_then, slice_get, append_assoc, arith, length-append}
use Rattle.std.specs.List.{filter, find, position_from, zip}
use Rattle.ob0_scan.specs.TextWithTokens.{TextWithTokens}
use Rattle.ob0_scan.specs.declared.lexeme.Span.{Span}
use Rattle.ob0_scan.specs.declared.lexeme.Token.{Token}
use Rattle.ob0_scan.specs.declared.lexeme.TokenKind.{TokenKind}
use Rattle.ob0_scan.specs.declared.lexeme.TokenKind.TheVariants as kind
use Rattle.ob0_tree.proofs.Leaves.{leaves_parsed}
use Rattle.ob0_tree.specs.IdentifierIndexes.{index_if_identifier, identifier_indexes_from, identifier_names, names_without_roles}
use Rattle.ob0_tree.specs.ParsedModule.{tree_of}
use Rattle.ob0_tree.specs.TokenIndexLeaves.{token_text_at, token_value_at}
use Rattle.ob0_tree.specs.Tree.{identifiers}
use Rattle.ob0_tree.specs.declared.tree.Role.{Role}
use Rattle.ob0_tree.specs.declared.tree.Role.TheVariants as role
use Rattle.ob0_tree.proofs.MappedIdentifiers.{leaves_mapped}
use Rattle.ob0_language_names.specs.Names.{Label, naming_by_spelling, declared, same_ordinal_label}
use Rattle.ob0_language_names.specs.Occurrences.{label_ordinal}
use Rattle.ob0_scope_table.specs.Resolution.{IsResolution, Resolution, label_from_table, ordinal_in, token_span}
use Rattle.ob0_scope_table.specs.Spans.{span_or_empty}
use Rattle.ob0_language_names.specs.Scopes.{label_from_ordinal, same_ordinal}
use Rattle.ob0_scope.specs.declared.bound_names.BoundName as named
use Rattle.ob0_scope.specs.BoundTokens.{is_identifier, is_identifier_at_offset}
use Rattle.ob0_scope_table.specs.Spans.{is_in_span_or_at_end}
use Rattle.ob0_scope.specs.NamesAtPlaces.{LabelledIdentifier, is_declaring_role, name_at_offset, bound_name_of, identifier_is_bound_to_declaration, labelled_identifiers, tokens_bound_to_declaration}

-- returns an identifier with the label of its token
abbrev bound_by : (ℕ → Label) → Role × ℕ → LabelledIdentifier
bound_by label x = (x, label x.1)

zipped : (label : ℕ → Label) (xs : List (Role × ℕ)) → zip xs (map label (names_without_roles xs)) ≡ map (bound_by label) xs
zipped label [] = refl
zipped label (x ∷ xs) = λ i. bound_by label x ∷ zipped label xs i

pub bound_by_table : (r : Resolution) → IsResolution r → labelled_identifiers r.module_read ≡ map (bound_by (label_from_table r.module_read.source r.ordinals)) (identifiers role.DeclaringName (tree_of r.module_read))
bound_by_table r is =
    let m = r.module_read in
    let ids = identifiers role.DeclaringName (tree_of m) in
    ap (zip ids) (ap identifier_names is.numbering ∙ leaves_mapped (label_from_table m.source r.ordinals) (token_value_at m.source) (tree_of m))
    ∙ zipped (label_from_table m.source r.ordinals) ids

-- references

bound_to : (source : TextWithTokens) (ordinals : List (Option ℕ)) (d i : ℕ) → same_ordinal_label (label_from_table source ordinals i) (declared d) ≡ same_ordinal (ordinal_in ordinals i) d
bound_to source ordinals d i = one (ordinal_in ordinals i)
  where
    one : (o : Option ℕ) → same_ordinal_label (label_from_ordinal naming_by_spelling o (token_text_at source i)) (declared d) ≡ same_ordinal o d
    one None = refl
    one (Some k) = refl

-- true for an identifier with this ordinal; the declaring one counts only if it is requested
abbrev pub is_listed : List (Option ℕ) → Bool → ℕ → Role × ℕ → Bool
is_listed ordinals include d x = same_ordinal (ordinal_in ordinals x.1) d && (include || not (is_declaring_role x.0))

-- returns the identifiers of a declaration by the table, with or without the declaring one
abbrev pub tokens_listed : List (Option ℕ) → Bool → ℕ → List (Role × ℕ) → List ℕ
tokens_listed ordinals include d xs = map (λ x. x.1) (filter (is_listed ordinals include d) xs)

-- Filtering the identifiers and filtering the labelled identifiers give the same tokens.
listed : (source : TextWithTokens) (ordinals : List (Option ℕ)) (include : Bool) (d : ℕ) (xs : List (Role × ℕ))
    → tokens_listed ordinals include d xs ≡ map (λ (s : LabelledIdentifier). s.0.1) (filter (identifier_is_bound_to_declaration include d) (map (bound_by (label_from_table source ordinals)) xs))
listed source ordinals include d [] = refl
listed source ordinals include d (x ∷ xs) =
    let found = filter (identifier_is_bound_to_declaration include d) (map (bound_by (label_from_table source ordinals)) xs) in
    one (is_listed ordinals include d x) (filter (is_listed ordinals include d) xs) found (listed source ordinals include d xs)
    ∙ ap (λ b. map (λ (s : LabelledIdentifier). s.0.1) (cond (b && (include || not (is_declaring_role x.0))) (bound_by (label_from_table source ordinals) x ∷ found) found)) (sym (bound_to source ordinals d x.1))
  where
    one : (b : Bool) (later : List (Role × ℕ)) (found : List LabelledIdentifier) → map (λ (x : Role × ℕ). x.1) later ≡ map (λ (s : LabelledIdentifier). s.0.1) found
        → map (λ (x : Role × ℕ). x.1) (cond b (x ∷ later) later) ≡ map (λ (s : LabelledIdentifier). s.0.1) (cond b (bound_by (label_from_table source ordinals) x ∷ found) found)
    one true later found e = ap (λ z. x.1 ∷ z) e
    one false later found e = e

pub bound_listed : (r : Resolution) (d : ℕ) (include : Bool) → IsResolution r
    → tokens_listed r.ordinals include d (identifiers role.DeclaringName (tree_of r.module_read)) ≡ tokens_bound_to_declaration r.module_read d include
bound_listed r d include is =
    let m = r.module_read in
    listed m.source r.ordinals include d (identifiers role.DeclaringName (tree_of m))
    ∙ ap (λ xs. map (λ (s : LabelledIdentifier). s.0.1) (filter (identifier_is_bound_to_declaration include d) xs)) (sym (bound_by_table r is))

-- places

-- holds if the tokens, counted from i, have these spans
abbrev SpansAre : (ℕ → Span) → ℕ → List Token → Type 0
SpansAre span i [] = Unit {0}
SpansAre span i (t ∷ ts) = (span i ≡ t.span) × SpansAre span (i + 1) ts

got : (front : List Token) (t : Token) (ts : List Token) → slice_get (front ++ (t ∷ ts)) (length front) ≡ Some t
got [] t ts = refl
got (x ∷ front) t ts = got front t ts

all_spans : (front ts : List Token) → SpansAre (λ i. span_or_empty (slice_get (front ++ ts) i)) (length front) ts
all_spans front [] = tt
all_spans front (t ∷ ts) =
    let longer : front ++ (t ∷ ts) ≡ (front ++ (t ∷ [])) ++ ts = sym (append_assoc front (t ∷ []) ts) in
    let count : length (front ++ (t ∷ [])) ≡ length front + 1 = omega (arith, length-append front (t ∷ [])) in (
      ap span_or_empty (got front t ts),
      subst (λ n. SpansAre (λ i. span_or_empty (slice_get (front ++ (t ∷ ts)) i)) n ts) count
          (subst (λ (all : List Token). SpansAre (λ i. span_or_empty (slice_get all i)) (length (front ++ (t ∷ []))) ts) (sym longer) (all_spans (front ++ (t ∷ [])) ts)),
    )

identifier_first : (i : ℕ) (k : TokenKind) → index_if_identifier i k ≡ cond (is_identifier k) (i ∷ []) []
identifier_first i kind.Identifier = refl
identifier_first i (kind.ReservedWord word) = refl
identifier_first i (kind.Integer value) = refl
identifier_first i (kind.Symbol symbol) = refl

found_from : (offset : ℕ) (span : ℕ → Span) (i : ℕ) (ts : List Token) → SpansAre span i ts → find (λ i. is_in_span_or_at_end offset (span i)) (identifier_indexes_from i ts) ≡ position_from (is_identifier_at_offset offset) i ts
found_from offset span i [] h = refl
found_from offset span i (t ∷ ts) h =
    let later = identifier_indexes_from (i + 1) ts in
    ap (λ z. find (λ i. is_in_span_or_at_end offset (span i)) (z ++ later)) (identifier_first i t.kind)
    ∙ (one (is_identifier t.kind) later ∙ (λ j. cond (is_identifier t.kind && is_in_span_or_at_end offset (h.0 j)) (Some i) (found_from offset span (i + 1) ts h.1 j)))
  where
    one : (b : Bool) (later : List ℕ) → find (λ i. is_in_span_or_at_end offset (span i)) (cond b (i ∷ []) [] ++ later) ≡ cond (b && is_in_span_or_at_end offset (span i)) (Some i) (find (λ i. is_in_span_or_at_end offset (span i)) later)
    one true later = refl
    one false later = refl

-- returns the name at a token, from its ordinal
abbrev pub named_so : List (Option ℕ) → ℕ → Option named.BoundName
named_so ordinals i = option_map {U = named.BoundName} (λ ordinal. record { token = i; ordinal = ordinal }) (ordinal_in ordinals i)

label_back : (source : TextWithTokens) (ordinals : List (Option ℕ)) (x : Role × ℕ) → bound_name_of (bound_by (label_from_table source ordinals) x) ≡ named_so ordinals x.1
label_back source ordinals x = one (ordinal_in ordinals x.1)
  where
    one : (o : Option ℕ) → option_map {U = named.BoundName} (λ ordinal. record { token = x.1; ordinal = ordinal }) (label_ordinal (label_from_ordinal naming_by_spelling o (token_text_at source x.1))) ≡ option_map {U = named.BoundName} (λ ordinal. record { token = x.1; ordinal = ordinal }) o
    one None = refl
    one (Some k) = refl

found_named : (source : TextWithTokens) (ordinals : List (Option ℕ)) (offset : ℕ) (xs : List (Role × ℕ))
    → option_and_then bound_name_of (find (λ (s : LabelledIdentifier). is_in_span_or_at_end offset (token_span source s.0.1)) (map (bound_by (label_from_table source ordinals)) xs))
    ≡ option_and_then (named_so ordinals) (find (λ i. is_in_span_or_at_end offset (token_span source i)) (names_without_roles xs))
found_named source ordinals offset [] = refl
found_named source ordinals offset (x ∷ xs) = one (is_in_span_or_at_end offset (token_span source x.1)) _ _ (found_named source ordinals offset xs)
  where
    one : (b : Bool) (found : Option LabelledIdentifier) (later : Option ℕ) → option_and_then bound_name_of found ≡ option_and_then (named_so ordinals) later
        → option_and_then bound_name_of (cond b (Some (bound_by (label_from_table source ordinals) x)) found) ≡ option_and_then (named_so ordinals) (cond b (Some x.1) later)
    one true found later e = label_back source ordinals x
    one false found later e = e

-- The name at a place is the name at the token of the first identifier there.
pub name_found : (r : Resolution) (offset : ℕ) → IsResolution r → option_and_then (named_so r.ordinals) (position_from (is_identifier_at_offset offset) 0 r.module_read.source.tokens) ≡ name_at_offset r.module_read offset
name_found r offset is =
    let m = r.module_read in
    let spans = all_spans [] m.source.tokens in
    sym (ap (λ xs. option_and_then bound_name_of (find (λ (s : LabelledIdentifier). is_in_span_or_at_end offset (token_span m.source s.0.1)) xs)) (bound_by_table r is)
    ∙ (found_named m.source r.ordinals offset (identifiers role.DeclaringName (tree_of m))
    ∙ ap (option_and_then (named_so r.ordinals)) (ap (find (λ i. is_in_span_or_at_end offset (token_span m.source i))) (leaves_parsed m is.parsed) ∙ found_from offset (token_span m.source) 0 m.source.tokens spans)))
