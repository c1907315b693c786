-- A new generator's state. Assumes nothing.
use Rattle.std.proofs.Common.{sym, refl, ap, ◌∙◌, zero-add}
use Rattle.sources.specs.Maps.{run}
use Rattle.sources.specs.Subcounters.{none_given}
use Rattle.sources.proofs.Drawing.{live_all, left_all}
use Rattle.sources.proofs.subcounters.Subcounters.new.Goals as goal

pub invariant_of-result : goal.invariant_of-result
invariant_of-result c = record {
  long = refl;
  small = c.requires;
  shared = refl;
  counted = zero-add _ ∙ left_all c.args.total;
  mapped = c.fresh-map.ensures ∙ ap (run 0) c.div_ceil.ensures ∙ sym (live_all c.args.total);
}

pub returns : goal.returns
unfolding none_given
returns c = record { total = refl; share = refl; draws = refl; counts = refl }
