-- A held number that comes aside takes no new place. Assumes nothing.
use Rattle.std.proofs.Common.{◌≡◌, ℕ, ◌+◌, ◌≤◌, true, false, List, length, vec_items, sym, subst, arith}
use Rattle.sources.proofs.Looks.{has_any}
use Rattle.sources.specs.Lists.{has}
use Rattle.machine.specs.Machine.{outside}
use Rattle.minter.proofs.Rooms.{aside_room, aside_few}
use Rattle.minter.proofs.lists.Lists.set_aside.Goals as goal

pub push_reserved-requires : goal.push_reserved-requires
push_reserved-requires c =
    let s = c.args.self.now in
    let on : has c.args.n (vec_items s.held) ≡ true = cc in
    let out : has c.args.n (vec_items s.aside) ≡ false = let e = has_any c.args.n (vec_items s.aside) in cc in
    let r = aside_room c.args.n (vec_items s.aside) (vec_items s.held) s.hold_places out on in
    let l = s.aside.ok.0 in
    omega (arith, s.aside_room)

pub invariant_of-self-clause-hold_places : goal.invariant_of-self-clause-hold_places
invariant_of-self-clause-hold_places c =
    let s = c.args.self.now in
    let on : has c.args.n (vec_items s.held) ≡ true = cc in
    let out : has c.args.n (vec_items s.aside) ≡ false = let e = has_any c.args.n (vec_items s.aside) in cc in
    subst (λ (xs : List ℕ). length xs + outside xs (vec_items s.held) ≤ 64) (sym c.push_reserved.ensures.items) (aside_few c.args.n (vec_items s.aside) (vec_items s.held) s.hold_places out on)
