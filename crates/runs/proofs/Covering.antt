-- Which names a new source has. Assumes nothing.
use Rattle.std.proofs.Common.{◌≡◌, ℕ, ◌<◌, Bool, true, false, cond, not, ltb, List, is_ok, Ok, Err, Result, refl, ap, ◌∙◌}
use Rattle.std.proofs.lemmas.Bool.{lt-ltb}
use Rattle.names.proofs.Guarded.{undo}
use Rattle.names.proofs.Templates.{good}
use Rattle.names.specs.Naming.{name_of}
use Rattle.names.specs.Templates.{form}
use Rattle.names.specs.Validate.{reads}
use Rattle.names.specs.declared.fault.NameFault.{NameFault}
use Rattle.names.specs.declared.template.Template.{Template}
use Rattle.sources.specs.ListLaws.{has_bit}
use Rattle.sources.specs.Lists.{count, has}
use Rattle.sources.specs.Named.{new_stock, total_of}
use Rattle.sources.specs.Stock.{is_ahead, is_foreign}
use Rattle.sources.specs.declared.source.Stand.TheVariants.{Ahead, Foreign}
use Rattle.machine.specs.Names.{Name, read_as}
use Rattle.runs.specs.Sources.{Whole, Listed}

not_foreign : (b : Bool) → not (is_foreign (cond b Ahead Foreign)) ≡ b
not_foreign true = refl
not_foreign false = refl

ahead : (b : Bool) → is_ahead (cond b Ahead Foreign) ≡ b
ahead true = refl
ahead false = refl

-- two tests that agree, on what was read
agree : (f g : ℕ → Bool) (r : Result ℕ NameFault) → ((n : ℕ) → f n ≡ g n) → read_as f false r ≡ read_as g false r
agree f g (Ok n) e = e n
agree f g (Err x) e = refl

-- a test that holds of every number that is read
holds_read : (f : ℕ → Bool) (r : Result ℕ NameFault) → ((n : ℕ) → r ≡ Ok n → f n ≡ true) → read_as f false r ≡ is_ok r
holds_read f (Ok n) e = e n refl
holds_read f (Err x) e = refl

pub listed : (p : Template) (xs : List ℕ) → Listed p xs (new_stock p xs)
listed p xs = record {
  names = λ t. agree (λ n. not (is_foreign (cond (has n xs) Ahead Foreign))) (λ n. has n xs) (reads (form p) t) (λ n. not_foreign (has n xs));
  turns = λ t. agree (λ n. is_ahead (cond (has n xs) Ahead Foreign)) (λ n. has n xs) (reads (form p) t) (λ n. ahead (has n xs));
}

pub whole : (p : Template) (xs : List ℕ) → ((n : ℕ) → count n xs ≡ cond (ltb n (total_of p)) 1 0) → Whole p (new_stock p xs)
whole p xs each = record {
  names = λ t. (listed p xs).names t ∙ all_read t;
  turns = λ t. (listed p xs).turns t ∙ all_read t;
  numbers = λ n h. (listed p xs).names (name_of (form p) n) ∙ ap (read_as (λ n. has n xs) false) ((undo (form p) (good p)).names n h) ∙ below n h;
}
  where
    below : (n : ℕ) → n < total_of p → has n xs ≡ true
    below n h = has_bit n xs (ltb n (total_of p)) (each n) ∙ lt-ltb n (total_of p) h

    all_read : (t : Name) → read_as (λ n. has n xs) false (reads (form p) t) ≡ is_ok (reads (form p) t)
    all_read t = holds_read (λ n. has n xs) (reads (form p) t) (λ n e. below n ((undo (form p) (good p)).readings t n e).0)
