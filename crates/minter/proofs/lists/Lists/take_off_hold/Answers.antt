-- A number that is taken off hold keeps the places. Assumes nothing.
use Rattle.std.proofs.Common.{ℕ, ◌+◌, ◌≤◌, List, length, vec_items, sym, subst}
use Rattle.minter.specs.Finds.{Once}
use Rattle.machine.specs.Machine.{outside}
use Rattle.minter.proofs.Rooms.{without_once, without_few}
use Rattle.minter.proofs.lists.Lists.take_off_hold.Goals as goal

pub invariant_of-self-clause-held_once : goal.invariant_of-self-clause-held_once
invariant_of-self-clause-held_once c =
    let s = c.args.self.now in
    subst Once (sym c.remove.ensures.items) (without_once c.args.n (vec_items s.aside) (vec_items s.held) s.held_once s.hold_places)

pub invariant_of-self-clause-hold_places : goal.invariant_of-self-clause-hold_places
invariant_of-self-clause-hold_places c =
    let s = c.args.self.now in
    subst (λ (xs : List ℕ). length (vec_items s.aside) + outside (vec_items s.aside) xs ≤ 64) (sym c.remove.ensures.items) (without_few c.args.n (vec_items s.aside) (vec_items s.held) s.held_once s.hold_places)
