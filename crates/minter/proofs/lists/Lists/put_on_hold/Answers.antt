-- A number that finds a place keeps the places. Assumes nothing.
use Rattle.std.proofs.Common.{ℕ, ◌+◌, ◌≤◌, List, length, vec_items, sym, subst, arith}
use Rattle.minter.specs.Finds.{Once}
use Rattle.machine.specs.Machine.{outside}
use Rattle.minter.proofs.Rooms.{added_once, added_few, held_room}
use Rattle.minter.proofs.lists.Lists.put_on_hold.Goals as goal

pub add-requires : goal.add-requires
add-requires c =
    let s = c.args.self.now in
    let few = held_room c.args.n (vec_items s.aside) (vec_items s.held) s.held_once s.hold_places c.requires.new c.requires.place in
    let len = s.held.ok.0 in
    omega (arith, s.held_room)

pub invariant_of-self-clause-held_once : goal.invariant_of-self-clause-held_once
invariant_of-self-clause-held_once c =
    let s = c.args.self.now in
    subst Once (sym c.add.ensures.items) (added_once c.args.n (vec_items s.aside) (vec_items s.held) s.held_once s.hold_places c.requires.new)

pub invariant_of-self-clause-hold_places : goal.invariant_of-self-clause-hold_places
invariant_of-self-clause-hold_places c =
    let s = c.args.self.now in
    subst (λ (xs : List ℕ). length (vec_items s.aside) + outside (vec_items s.aside) xs ≤ 64) (sym c.add.ensures.items) (added_few c.args.n (vec_items s.aside) (vec_items s.held) s.held_once s.hold_places c.requires.place)
