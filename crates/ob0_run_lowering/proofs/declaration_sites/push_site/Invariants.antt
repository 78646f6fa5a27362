use Rattle.std.proofs.Common.{◌-◌, ◌≤◌, length}
use Rattle.ob0_run_lowering.specs.PlacedNames.{GrowsTo}
use Rattle.ob0_run_lowering.proofs.declaration_sites.push_site.Given as goal

abbrev pub invariant-loop-sites : goal.invariant-loop-sites
invariant-loop-sites l = record {
  grows : GrowsTo l.initial.sites.items l.sites.items;
  within : length l.initial.sites.items ≤ l.index → length l.sites.items ≤ l.index;
}

abbrev pub decreases-loop-sites : goal.decreases-loop-sites
decreases-loop-sites l = l.index - length l.sites.items
