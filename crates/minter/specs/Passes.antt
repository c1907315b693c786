-- What a mint does on its way: put_last and set_aside, numbers that come aside, each only if it is held and not there;
-- aside_put and passed, the same of a machine; drawn_free, draws until a number that is not held; aside_taken and
-- returned_taken, the machine once such a number was found in a list.
use Rattle.std.specs.Prelude.{ℕ, cond, not, ◌&&◌, List, [], ◌∷◌, ◌++◌, take, drop, Some, None, Option}
use Rattle.sources.specs.Lists.{has, rest}
use Rattle.sources.specs.Stock.{drawn}
use Rattle.machine.specs.Machine.{Machine, with_lists, holds, front, back}

abbrev pub put_last : List ℕ → List ℕ → ℕ → List ℕ
put_last held aside n = cond (has n held && not (has n aside)) (aside ++ (n ∷ [])) aside

abbrev pub set_aside : List ℕ → List ℕ → List ℕ → List ℕ
set_aside held aside [] = aside
set_aside held aside (x ∷ xs) = set_aside held (put_last held aside x) xs

abbrev pub aside_put : Machine → ℕ → Machine
aside_put m n = with_lists m m.source (put_last m.held m.aside n) m.returned

-- after the first k numbers of returned came aside
abbrev pub passed : Machine → ℕ → Machine
passed m k = with_lists m m.source (set_aside m.held m.aside (take k m.returned)) (drop k m.returned)

abbrev pub drawn_once : Machine → Machine
drawn_once m = with_lists m (drawn m.source) m.aside m.returned

-- over the numbers to come: those passed come aside
abbrev pub drawn_free : List ℕ → Machine → Machine × Option ℕ
drawn_free [] m = (drawn_once m, None)
drawn_free (x ∷ xs) m = cond (holds m x) (drawn_free xs (aside_put (drawn_once m) x)) (drawn_once m, Some x)

-- after the first number that is not held was taken out of aside
abbrev pub aside_taken : Machine → Machine
aside_taken m = with_lists m m.source (front (holds m) m.aside ++ rest (back (holds m) m.aside)) m.returned

-- the same of returned; those before it come aside
abbrev pub returned_taken : Machine → Machine
returned_taken m = with_lists m m.source (set_aside m.held m.aside (front (holds m) m.returned)) (rest (back (holds m) m.returned))
