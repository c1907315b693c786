-- The sources that a run is made over, by their template.
-- generated: a new generator; rolled: a new roll; Whole: every name of the template is the source's, with its first turn to come;
-- Listed: the names of some numbers are the source's, with their first turns to come.
use Rattle.std.specs.Prelude.{◌≡◌, ℕ, ◌<◌, true, false, List, [], is_ok}
use Rattle.names.specs.Naming.{name_of}
use Rattle.names.specs.Templates.{form}
use Rattle.names.specs.Validate.{reads}
use Rattle.names.specs.declared.template.Template.{Template}
use Rattle.sources.specs.Lists.{has}
use Rattle.sources.specs.Named.{new_stock, total_of}
use Rattle.sources.specs.Rolls.{accepted, first_wrong}
use Rattle.sources.specs.Stock.{Stock}
use Rattle.sources.specs.Subcounters.{new_ahead}
use Rattle.machine.specs.Law.{is_name_of, new}
use Rattle.machine.specs.Names.{Name, read_as}

-- all numbers of the template, in the order that a chooser makes
abbrev pub generated : (ℕ → ℕ → ℕ) → Template → Stock
generated pick p = new_stock p (new_ahead (total_of p) pick)

-- the numbers of the list, or none where the list is refused
abbrev pub taken : Template → List ℕ → List ℕ
taken p xs = accepted (first_wrong (total_of p) [] xs) xs

abbrev pub rolled : Template → List ℕ → Stock
rolled p xs = new_stock p (taken p xs)

pub record Whole (p : Template) (s : Stock) : Type 0 where
  -- the source's names are exactly those that the template reads
  pub names : (t : Name) → is_name_of s t ≡ is_ok (reads (form p) t)
  -- each of them waits for its first turn
  pub turns : (t : Name) → (new s).waiting t ≡ is_ok (reads (form p) t)
  -- they are the names of the numbers below the total
  pub numbers : (n : ℕ) → n < total_of p → is_name_of s (name_of (form p) n) ≡ true

pub record Listed (p : Template) (xs : List ℕ) (s : Stock) : Type 0 where
  pub names : (t : Name) → is_name_of s t ≡ read_as (λ n. has n xs) false (reads (form p) t)
  pub turns : (t : Name) → (new s).waiting t ≡ read_as (λ n. has n xs) false (reads (form p) t)
