-- A step is what comes of the call, and the answer to it. Assumes nothing.
use Rattle.std.proofs.Common.{◌≡◌, refl}
use Rattle.machine.specs.Calls.{Asked, Mint, Hold, Release, Queue, Tick, Bind, Purge}
use Rattle.machine.specs.Machine.{Machine, outcome, answer, said, step}

pub stepped : (m : Machine) (c : Asked) → (step m c).0 ≡ (outcome m c).0
stepped m Mint = refl
stepped m (Hold t) = refl
stepped m (Release t) = refl
stepped m (Queue t d) = refl
stepped m (Tick s) = refl
stepped m (Bind t e w) = refl
stepped m (Purge t e) = refl

pub step_answer : (m : Machine) (c : Asked) → (step m c).1 ≡ said (answer c) (outcome m c).1
step_answer m Mint = refl
step_answer m (Hold t) = refl
step_answer m (Release t) = refl
step_answer m (Queue t d) = refl
step_answer m (Tick s) = refl
step_answer m (Bind t e w) = refl
step_answer m (Purge t e) = refl
