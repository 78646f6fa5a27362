-- States when the result of parsing a module, or the procedures that are declared directly in it,
-- is right. The parser stores these procedures in a separate list (`ps`).
-- Rule: none; used in private contracts of the parser.
use Rattle.std.specs.Prelude.{ℕ, List, [], ◌∷◌, Result, Ok, Err, length}
use Rattle.ob0_scan.specs.declared.lexeme.Token.{Token}
use Rattle.ob0_tree.specs.declared.tree.Procedure.{Procedure}
use Rattle.ob0_tree.specs.Module.{max_nesting}
use Rattle.ob0_tree.specs.Tree.{procedure, items, block, module_text, Tree, declares, forms_block, forms_module}
use Rattle.ob0_tree.specs.View.{constant_section_of, type_section_of, variable_section_of, items_of, procedure_of, body_of}
use Rattle.ob0_parse_descent.specs.ParserPromises.{nonterminal, text_end, IsReadTree, FailsToRead}
use Rattle.ob0_parse.specs.declared.module_block.ModuleBlockWithoutProcedures.{ModuleBlockWithoutProcedures}
use Rattle.ob0_parse_descent.specs.declared.refusal.ParseRefusal.{ParseRefusal}

-- Returns the tree of a block with the procedures `ps`, and with the sections and body in `parts`.
abbrev pub block_with_procedures : List Procedure → ModuleBlockWithoutProcedures → Tree ℕ block
block_with_procedures ps parts =
    forms_block
    (declares (constant_section_of parts.constants) (type_section_of parts.types) (variable_section_of parts.variables)
    (items_of procedure_of ps))
    (body_of parts.body)

-- States that the result of parsing a module's procedures at the token `at` is right. If the result
-- is an index, the procedures `ps` begin at `at` and end before that index. If the result is a
-- refusal, the procedures at `at` can't be read, for the reason that the refusal gives.
abbrev pub ReadsModuleProcedures : List Procedure → List Token → ℕ → Result ℕ ParseRefusal → Type 0
ReadsModuleProcedures ps ts at (Ok next) = IsReadTree (items_of procedure_of ps) max_nesting ts at next
ReadsModuleProcedures ps ts at (Err e) = FailsToRead (nonterminal (items procedure) max_nesting ∷ []) ts at e

-- States that the result of parsing a module is right. The tree of a parsed module, which has the
-- procedures `ps`, spells all tokens from the first to the last. If the result is a refusal, the
-- tokens can't be read as a module, for the reason that the refusal gives.
abbrev pub ReadsModule : List Procedure
    → List Token
    → Result (ℕ × ModuleBlockWithoutProcedures × ℕ) ParseRefusal
    → Type 0
ReadsModule ps ts (Ok x) = IsReadTree (forms_module x.0 (block_with_procedures ps x.1) x.2) max_nesting ts 0 (length ts)
ReadsModule ps ts (Err e) = FailsToRead (nonterminal module_text max_nesting ∷ text_end ∷ []) ts 0 e
