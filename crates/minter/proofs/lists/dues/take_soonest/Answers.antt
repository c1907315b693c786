-- The first number of the soonest second. Assumes nothing.
use Rattle.std.proofs.Common.{◌≡◌, true, false, nat_eq, List, None, vec_items, sym, ap, ◌∙◌, arith, rules, tests}
use Rattle.std.proofs.lemmas.Bool.{true≢false}
use Rattle.std.proofs.lemmas.Iterator.{YieldsList-from_slice, IsFirst-from_position}
use Rattle.sources.specs.Lists.{first, rest}
use Rattle.machine.specs.Machine.{numbers, in_order}
use Rattle.machine.specs.declared.call.Due.{Due}
use Rattle.minter.proofs.Found.{soonest_of, none_soonest, found_soonest, taken_soonest}
use Rattle.minter.proofs.lists.dues.take_soonest.Goals as goal

pub returns-in_err-second-clause-answer : goal.returns-in_err-second-clause-answer
returns-in_err-second-clause-answer c =
    let e = none_soonest c.args.until (vec_items c.args.dues.now) (sym (c.in_err-second.ensures ∙ ap (soonest_of c.args.until) c.deref.ensures.value)) in
    let none : c.from_residual.result ≡ None = search rules in
    none ∙ sym (ap (λ (ys : List Due). first (numbers (in_order ys))) e)

pub returns-in_err-second-clause-left : goal.returns-in_err-second-clause-left
returns-in_err-second-clause-left c =
    let e = none_soonest c.args.until (vec_items c.args.dues.now) (sym (c.in_err-second.ensures ∙ ap (soonest_of c.args.until) c.deref.ensures.value)) in
    ap (λ (ys : List Due). numbers (in_order ys)) e ∙ sym (ap (λ (ys : List Due). rest (numbers (in_order ys))) e)

pub returns-in_err-at : goal.returns-in_err-at
returns-in_err-at c =
    let xs = vec_items c.args.dues.now in
    let found = IsFirst-from_position _ _ c.position.result (λ (d : Due). nat_eq d.second c.in_ok-second.second ≡ true) (λ (d : Due). nat_eq d.second c.in_ok-second.second ≡ false) c.position.ensures.ran (YieldsList-from_slice xs cc) (λ x q k. search (rules, tests)) (λ x q k. search (rules, tests)) in
    let none = found_soonest c.args.until _ xs c.position.result (sym (c.in_ok-second.ensures ∙ ap (soonest_of c.args.until) c.deref.ensures.value)) found in
    absurd (rw c.in_err-at.was at none)

pub returns : goal.returns
returns c =
    let xs = vec_items c.args.dues.now in
    let found = IsFirst-from_position _ _ c.position.result (λ (d : Due). nat_eq d.second c.in_ok-second.second ≡ true) (λ (d : Due). nat_eq d.second c.in_ok-second.second ≡ false) c.position.ensures.ran (YieldsList-from_slice xs cc) (λ x q k. search (rules, tests)) (λ x q k. search (rules, tests)) in
    let soonest = found_soonest c.args.until _ xs c.position.result (sym (c.in_ok-second.ensures ∙ ap (soonest_of c.args.until) c.deref.ensures.value)) found in
    let taken = taken_soonest c.args.until _ c.in_ok-at.at xs (vec_items c.remove.new.self) c.remove.result (rw c.in_ok-at.was at soonest) (rw c.in_ok-at.was at found).0 c.remove.ensures.value c.remove.ensures.items in
    record {
      answer = taken.0;
      left = taken.1;
      later = taken.2;
      len = λ e. c.remove.ensures.len;
      fewer = omega (arith, c.remove.ensures.len);
      same = λ e. absurd (true≢false e);
      capacity = c.remove.ensures.capacity;
    }
