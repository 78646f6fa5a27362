use Rattle.std.proofs.Common.{◌≡◌, ◌++◌, ◌-◌, ◌∙◌, ap, length, length-drop, map, take, drop, sym, map-id, arith}
use Rattle.std.proofs.lemmas.List.{length-map, take_all}
use Rattle.std.proofs.lemmas.Iterator.{items_from_drains}
use Rattle.std.proofs.lemmas.Iterator.Adapters.{YieldsList-from_vec}
use Rattle.ob0_scan.specs.ReusedLexemes.{token_after_shift}
use Rattle.ob0_scan.proofs.Kept.{put_between, written_behind, written_over}
use Rattle.ob0_scan.proofs.old_lexemes.splice_tokens.Goals as goal

pub returns : goal.returns
returns c =
    let e = c.in_ok-splice.ensures.items in
    let gone = e.3 in
    let given : e.1 ≡ c.args.between.items = sym (map-id e.1) ∙ items_from_drains e.1 (gone.1.0, gone.1.1, λ _. (gone.0, gone.1.2)) (YieldsList-from_vec c.args.between.items e.2.0 (omega (arith, e.2.1, c.args.between.ok))) in
    let items = c.args.tokens.now.items in
    let held = c.deref_mut.result.now in
    let k = c.args.old_end in
    let new = c.shift_tokens.new.tokens in
    let shifted = token_after_shift c.args.change.removed c.args.change.added in
    let size : c.args.tokens.now.len ≡ length items = omega (arith, c.args.tokens.now.ok) in
    let behind : new ≡ map shifted (drop k held) = c.shift_tokens.ensures ∙ ap (map shifted) (take_all (length held - k) (drop k held) (omega (arith, length-drop k held))) in
    let many : length new ≡ length held - k = ap length behind ∙ (length-map (drop k held) shifted ∙ length-drop k held) in
    put_between items (written_over k c.args.tokens.now.len held items new) new c.args.between.items e.1 c.splice.new.self.items c.args.old_start k c.requires.ordered c.requires.inside
    (written_behind k c.args.tokens.now.len held items new c.requires.inside size c.deref_mut.ensures.value many) e.4 given
    ∙ ap (λ zs. take c.args.old_start items ++ (c.args.between.items ++ zs)) (behind ∙ ap (λ us. map shifted (drop k us)) c.deref_mut.ensures.value)
