use Rattle.std.proofs.Common.{[], ◌∷◌, length, sym, ap, subst, arith, length-append}
use Rattle.ob0_run_lowering.specs.declared.scene.LoweredSite.TheVariants as site
use Rattle.ob0_run_lowering.specs.PlacedNames.{AddsSite}
use Rattle.ob0_run_lowering.proofs.GrowingSites.{grows_itself, grows_then, no_site_added, site_added}
use Rattle.ob0_run_lowering.proofs.declaration_sites.push_site.Goals as goal

pub loop-sites-init : goal.loop-sites-init
loop-sites-init c = record { grows = grows_itself c.args.sites.now.items; within = λ h. h }

pub loop-sites-preserved : goal.loop-sites-preserved
loop-sites-preserved c = record {
  grows = grows_then c.args.sites.now.items c.loop-sites.sites.items c.push.new.self.items c.loop-sites.invariant.grows (site.Nowhere ∷ [], c.in_ok-push.ensures.items);
  within = λ h. omega (arith, ap length c.in_ok-push.ensures.items, length-append c.loop-sites.sites.items (site.Nowhere ∷ []), c.loop-sites-test.true, c.len.ensures);
}

pub returns-in_default : goal.returns-in_default
returns-in_default c = subst (λ o. AddsSite o c.args.site c.args.sites.now.items c.args.sites.now.items) (sym c.in_default.is) (no_site_added c.args.site c.args.sites.now.items)

pub returns : goal.returns
returns c =
    subst (λ o. AddsSite o c.args.site c.args.sites.now.items c.push-2.new.self.items) (sym c.in-Some.is)
    (site_added c.args.sites.now.items c.loop-sites.sites.items c.push-2.new.self.items c.in-Some.index c.args.site c.loop-sites.invariant.grows c.loop-sites.invariant.within (omega (arith, c.loop-sites-test.false, c.len.ensures)) c.in_ok-push-2.ensures.items)
