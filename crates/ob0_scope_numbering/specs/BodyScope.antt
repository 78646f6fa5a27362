-- Defines the scope of one body (the statements of a block), made from a table that has the
-- ordinals of the declared names. Also defines the state before the body in a walk over a module's
-- identifiers.
-- Rule: none; used in contracts about the names of one body.
use Rattle.std.specs.Prelude.{ℕ, List, [], ◌∷◌, Option, Some, None, map}
use Rattle.ob0_scan.specs.TextWithTokens.{TextWithTokens}
use Rattle.ob0_language_names.specs.Names.{Name, naming_by_spelling}
use Rattle.ob0_language_names.specs.Scopes.{Scope, predeclared_scope}
use Rattle.ob0_scope_table.specs.Resolution.{ordinal_and_spelling_at_token}
use Rattle.ob0_scope_numbering.specs.IdentifierSpellings.{original_spellings}
use Rattle.ob0_scope_numbering.specs.IdentifierWalk.{WalkState}

-- adds a name to a scope, bound to this ordinal; if the ordinal is None, adds nothing
abbrev pub declare_name_if_bound : {N : Type 0} → Option ℕ → N → Scope N → Scope N
declare_name_if_bound None x scope = scope
declare_name_if_bound (Some k) x scope = (x, k) ∷ scope

-- adds names to a scope, in order; each name is given with its ordinal, and a name without an
-- ordinal (None) isn't added
abbrev pub declare_names_with_ordinals : {N : Type 0} → List (Option ℕ × N) → Scope N → Scope N
declare_names_with_ordinals [] scope = scope
declare_names_with_ordinals (p ∷ ps) scope = declare_names_with_ordinals ps (declare_name_if_bound p.0 p.1 scope)

-- Returns the scope of the predeclared names and of the names that are declared at these tokens, in
-- order. Each name is bound to the ordinal that the table `ordinals` has for its token. The name at
-- a token without an ordinal isn't added.
abbrev pub scope_from_table : TextWithTokens → List (Option ℕ) → List ℕ → Scope Name
scope_from_table source ordinals names =
    declare_names_with_ordinals (map (ordinal_and_spelling_at_token source ordinals) names)
    (predeclared_scope naming_by_spelling)

-- returns the state before the first identifier of a body, with the body's scope and this
-- collection of ordinals
abbrev pub state_before_body : {M : Type 0} {put_ordinal : ℕ → Option ℕ → M → M}
    → TextWithTokens
    → Scope Name
    → M
    → WalkState put_ordinal
state_before_body source scope marks =
    record {
      spellings = original_spellings source;
      scope = scope;
      declaration_tokens = [];
      uses = [];
      marks = marks;
    }
