-- Proves that a text has a given tree according to its lexemes exactly if it has that tree
-- according to the parser's tokens.
use Rattle.std.proofs.Common.{◌≡◌, ◌∙◌, ℕ, List, [], ◌∷◌, ◌++◌, map, refl, sym, subst}
use Rattle.std.specs.Prelude.{◌≤◌, length}
use Rattle.std.specs.List.{flat_map}
use Rattle.std.specs.Str.{IsUtf8}
use Rattle.std.proofs.lemmas.List.{map-append}
use Rattle.ob0_scan.specs.declared.lexeme.LexemeKind.{LexemeKind}
use Rattle.ob0_scan.specs.declared.lexeme.LexemeKind.TheVariants as lexeme
use Rattle.ob0_scan.specs.TextLexemes.{Lexeme, LexesInto}
use Rattle.ob0_scan.specs.TextWithTokens.{TextWithTokens, IsScan, words_of_one_lexeme, words_of_lexemes, tokens_of_lexemes_from, comments_of_lexemes_from, max_text_length}
use Rattle.ob0_tree.specs.Tree.{Tree, module_text}
use Rattle.ob0_language_names.specs.Names.{Name}
use Rattle.ob0_layout.proofs.Named.{named_lexeme, text_words}
use Rattle.ob0_edits.specs.ReportedErrors.{IsTextOfTree, IsWellTypedModule}
use Rattle.ob0_edits.specs.TextBytes.{utf8}
use Rattle.ob0_world_rules.specs.WellTypedTexts.{terminals_of_lexeme, IsModuleText, WellTypedText}
use Rattle.ob0_world_rules.specs.Laws.{ModuleTextDefinitionsAgree}

spelled_one : (l : Lexeme) (kind : LexemeKind) → map named_lexeme (words_of_one_lexeme l kind) ≡ terminals_of_lexeme kind l.text
spelled_one l lexeme.WhiteSpace = refl
spelled_one l lexeme.Comment = refl
spelled_one l (lexeme.Token kind) = refl

pub spelled_so : (lexemes : List Lexeme) → map named_lexeme (words_of_lexemes lexemes) ≡ flat_map (λ l. terminals_of_lexeme l.kind l.text) lexemes
spelled_so [] = refl
spelled_so (l ∷ lexemes) = map-append named_lexeme (words_of_one_lexeme l l.kind) (words_of_lexemes lexemes) ∙ (λ i. spelled_one l l.kind i ++ spelled_so lexemes i)

pub module_text_of : (tree : Tree Name module_text) (bytes : List ℕ) → IsTextOfTree tree bytes → IsModuleText tree bytes
module_text_of tree bytes h =
    let scan : IsScan h.scanned = h.scan.scan in
    record {
      utf8 = subst IsUtf8 h.scan.of scan.utf8;
      lexemes = scan.lexemes;
      lexed = subst (λ text. LexesInto text scan.lexemes) h.scan.of scan.lexed;
      spelled = sym (spelled_so scan.lexemes) ∙ sym (text_words h.scanned scan) ∙ h.module_of.spelled;
      short = subst (λ text. length text ≤ max_text_length) h.scan.of h.module_of.short;
      shallow = h.module_of.shallow;
    }

pub text_of_module : (tree : Tree Name module_text) (bytes : List ℕ) → IsModuleText tree bytes → IsTextOfTree tree bytes
text_of_module tree bytes h =
    let scanned : TextWithTokens = record { text = bytes; tokens = tokens_of_lexemes_from 0 h.lexemes; comments = comments_of_lexemes_from 0 h.lexemes } in
    let scan : IsScan scanned = record { utf8 = h.utf8; short = h.short; lexemes = h.lexemes; lexed = h.lexed; tokens = refl; comments = refl } in
    record {
      scanned = scanned;
      scan = record { of = refl; scan = scan };
      module_of = record { spelled = text_words scanned scan ∙ spelled_so h.lexemes ∙ h.spelled; short = h.short; shallow = h.shallow };
    }

pub well_typed_text : (text : List ℕ) → IsWellTypedModule (utf8 text) → WellTypedText text
well_typed_text text h = record { tree = h.tree; text_of = module_text_of h.tree (utf8 text) h.text_of; well_typed = h.well_typed }

pub well_typed_module : (text : List ℕ) → WellTypedText text → IsWellTypedModule (utf8 text)
well_typed_module text h = record { tree = h.tree; text_of = text_of_module h.tree (utf8 text) h.text_of; well_typed = h.well_typed }

pub module_text_definitions_agree : ModuleTextDefinitionsAgree
module_text_definitions_agree tree bytes = (module_text_of tree bytes, text_of_module tree bytes)
