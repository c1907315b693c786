-- Draw number and map stay functions of the counts. Assumes nothing.
use Rattle.std.proofs.Common.{ℕ, sym, ap, ◌∙◌, subst, zero-add, arith, length-set}
use Rattle.sources.specs.Maps.{lacks}
use Rattle.sources.specs.SubcounterLaws.{Chosen, live_chosen}
use Rattle.sources.proofs.Drawing.{live_kept, live_spent}
use Rattle.sources.proofs.subcounters.Subcounters.give.Goals as goal

pub invariant_of-self : goal.invariant_of-self
invariant_of-self c =
    let s = c.args.self.now in
    let k = c.find-c.result in
    let q = subst (λ (i : ℕ). Chosen s.total s.share s.counts i) (sym c.find-c.ensures.found) (live_chosen s.total s.share c.args.index s.counts c.requires) in
    let counted = s.counted in
    let left = q.left in record {
      long = length-set s.counts k _ ∙ s.long;
      small = s.small;
      shared = s.shared;
      counted = omega arith;
      mapped = c.clear.ensures ∙ ap (lacks k) s.mapped ∙ sym (live_spent s.total s.share 0 k k _ s.counts (zero-add k) q.inside q.live (omega arith));
    }

pub invariant_of-self-else-spent : goal.invariant_of-self-else-spent
invariant_of-self-else-spent c =
    let s = c.args.self.now in
    let k = c.find-c.result in
    let q = subst (λ (i : ℕ). Chosen s.total s.share s.counts i) (sym c.find-c.ensures.found) (live_chosen s.total s.share c.args.index s.counts c.requires) in
    let counted = s.counted in
    let left = q.left in
    let live = q.live in record {
      long = length-set s.counts k _ ∙ s.long;
      small = s.small;
      shared = s.shared;
      counted = omega arith;
      mapped = s.mapped ∙ sym (live_kept s.total s.share 0 k k s.counts (zero-add k) q.inside (omega arith));
    }
