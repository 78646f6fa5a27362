-- Proves that an edit of an answer keeps the module's run also if the editor makes it with other white
-- space, and that other line ends are such white space.
use Rattle.std.proofs.Common.{◌≡◌, ◌∙◌, ℕ, ◌≤◌, List, map, length, flat_map, refl, sym, ap, subst, inl, inr}
use Rattle.std.specs.Prelude.{◌⊎◌, Some, encode_utf8_all}
use Rattle.ob0_scan.specs.TextLexemes.{Lexeme}
use Rattle.ob0_scan.specs.TextWithTokens.{max_text_length}
use Rattle.ob0_scan.proofs.Cuts.{cut_into_lexemes_is_unique}
use Rattle.ob0_tree.specs.Terminals.{Terminal}
use Rattle.ob0_tree.specs.Tree.{Tree, module_text}
use Rattle.ob0_language_names.specs.Names.{Name}
use Rattle.ob0_layout.proofs.Named.{named_lexeme}
use Rattle.ob0_edits.specs.TextBytes.{utf8}
use Rattle.ob0_text.specs.declared.position_types.Unit.{Unit}
use Rattle.ob0_world_rules.specs.WellTypedTexts.{terminals_of_lexeme, IsModuleText, WellTypedText, SameRun}
use Rattle.ob0_world_rules.specs.TextEdits.{Replacement, text_after_edits}
use Rattle.ob0_world_rules.specs.OtherWhiteSpace.{FileLineEnd, edits_with_line_ends, HaveSameTokens}
use Rattle.ob0_world_rules.specs.Headline.{PreservesRun}
use Rattle.ob0_world_rules.specs.Laws.{EditsPreserveRun, OtherWhiteSpacePreservesRun, LineEndsKeepTokens}
use Rattle.ob0_world_rules.specs.ClientAndServer.{AppliedEdit}
use Rattle.ob0_world_rules.proofs.ModuleTexts.{spelled_so}
use Rattle.ob0_world_rules.proofs.KeptRuns.{answer_edits_preserve_run}
use Rattle.std.proofs.lemmas.Option.{same_Some}
use Rattle.ob0_world_rules.proofs.LineEnds.{Ended, ended_bytes, ended_utf8, same_words_ended}
use Rattle.ob0_world_rules.proofs.LineEndEdits.{edits_ended}

-- returns the leaves of a syntax tree for these lexemes
abbrev terminals_of : List Lexeme → List (Terminal Name)
terminals_of lexemes = flat_map (λ l. terminals_of_lexeme l.kind l.text) lexemes

module _ (edited made : List ℕ) (alike : HaveSameTokens edited made) where
  same_terminals : terminals_of alike.others ≡ terminals_of alike.lexemes
  same_terminals = sym (spelled_so alike.others) ∙ ap (map named_lexeme) alike.same ∙ spelled_so alike.lexemes

  -- A module of the one text is a module of the other.
  module_made : (tree : Tree Name module_text) → IsModuleText tree (utf8 edited) → IsModuleText tree (utf8 made)
  module_made tree is =
      let one : alike.lexemes ≡ is.lexemes = cut_into_lexemes_is_unique (utf8 edited) alike.lexemes is.lexemes alike.edited_lexemes is.lexed in
      record {
        utf8 = alike.scalar_values;
        lexemes = alike.others;
        lexed = alike.made_lexemes;
        spelled = same_terminals ∙ ap terminals_of one ∙ is.spelled;
        short = alike.short;
        shallow = is.shallow;
      }

  module_edited : (tree other : Tree Name module_text) → IsModuleText other (utf8 edited) → IsModuleText tree (utf8 made) → IsModuleText tree (utf8 edited)
  module_edited tree other known is =
      let one : alike.others ≡ is.lexemes = cut_into_lexemes_is_unique (utf8 made) alike.others is.lexemes alike.made_lexemes is.lexed in
      record {
        utf8 = known.utf8;
        lexemes = alike.lexemes;
        lexed = alike.edited_lexemes;
        spelled = sym same_terminals ∙ ap terminals_of one ∙ is.spelled;
        short = known.short;
        shallow = is.shallow;
      }

  well_typed_made : WellTypedText edited → WellTypedText made
  well_typed_made fits = record { tree = fits.tree; text_of = module_made fits.tree fits.text_of; well_typed = fits.well_typed }

  run_made : (text : List ℕ) → WellTypedText edited → SameRun text edited → SameRun text made
  run_made text fits same before after is also = same before after is (module_edited after fits.tree fits.text_of also)

-- An edit that preserves the run does so also with other white space.
pub applied_keeps : (uri text edited made : List ℕ) → WellTypedText text → WellTypedText edited → SameRun text edited → (made ≡ edited) ⊎ HaveSameTokens edited made → PreservesRun (record { uri = uri; before = text; after = made })
applied_keeps uri text edited made before after same (inl is) =
    record { before_is_well_typed = before; after_is_well_typed = subst WellTypedText (sym is) after; same = subst (SameRun text) (sym is) same }
applied_keeps uri text edited made before after same (inr alike) =
    record { before_is_well_typed = before; after_is_well_typed = well_typed_made edited made alike after; same = run_made edited made alike text after same }

pub other_white_space_preserves_run : OtherWhiteSpacePreservesRun
other_white_space_preserves_run unit uri text edited made ask edits requested makes alike =
    let keep = answer_edits_preserve_run unit text ask edits requested in
    let is : keep.after ≡ edited = same_Some keep.after edited (sym keep.makes ∙ makes) in
    applied_keeps uri text edited made keep.before_is_well_typed (subst WellTypedText is keep.after_is_well_typed) (subst (SameRun text) is keep.same) (inr alike)

ended_alike : (ends : FileLineEnd) (edited made : List ℕ) → WellTypedText edited → Ended ends edited made → length (utf8 made) ≤ max_text_length → HaveSameTokens edited made
ended_alike ends edited made fits ended short =
    let (others, lexed, same) = same_words_ended ends (utf8 edited) (utf8 made) fits.text_of.lexemes fits.text_of.lexed (ended_bytes ends edited made ended) in
    record {
      lexemes = fits.text_of.lexemes;
      edited_lexemes = fits.text_of.lexed;
      others = others;
      made_lexemes = lexed;
      same = same;
      scalar_values = ended_utf8 ends edited made ended fits.text_of.utf8;
      short = short;
    }

pub line_ends_keep_tokens : LineEndsKeepTokens
line_ends_keep_tokens unit ends text edited edits makes fits =
    let (made, is, ended) = edits_ended ends unit text edited edits makes in
    (made, is, ended_alike ends edited made fits ended)
