-- The worked examples of the rules, as one table over the definitions that the contracts cite.
-- Row: what the definitions compute, and what it is; table: the examples; Holds: each row computes what it says.
use Rattle.std.specs.Prelude.{◌≡◌, ℕ, List, [], ◌∷◌, Ok, Err, codes}
use Rattle.names.specs.Check.{weighted, check_char}
use Rattle.names.specs.Faults.{template_refusal, name_refusal}
use Rattle.names.specs.Forms.{Form}
use Rattle.names.specs.Naming.{digits, name_of, total}
use Rattle.names.specs.Reader.{read_template}
use Rattle.names.specs.Validate.{reads}
use Rattle.names.specs.declared.fault.Refusal.{Refusal}
use Rattle.sources.specs.Choices.{by_letter, serving}
use Rattle.sources.specs.Subcounters.{new_ahead}

pub record Row : Type 0 where
  pub computed : List ℕ
  pub stated : List ℕ

infixl 20 ◌is◌
abbrev pub ◌is◌ : List ℕ → List ℕ → Row
xs is ys = record { computed = xs; stated = ys }

-- what a definition gives under a template, from the template's text; nothing where that is none
abbrev pub under : List ℕ → (Form → List ℕ) → List ℕ
under text g = elim (read_template text) [ Ok f ↦ g f | Err e ↦ [] ]

abbrev pub sum : List ℕ → List ℕ
sum text = weighted 1 text ∷ []

abbrev pub check : List ℕ → List ℕ
check text = check_char text ∷ []

abbrev pub name : List ℕ → ℕ → List ℕ
name text n = under text (λ f. name_of f n)

-- the numbers in the order of their draws, by the chooser of the template's letter
abbrev pub order : List ℕ → List ℕ
order text = under text (λ f. new_ahead (total f.mask) (by_letter (serving f)))

-- number and place of a refusal
abbrev pub refusal : Refusal → List ℕ
refusal r = r.number ∷ r.place ∷ []

abbrev pub template_fault : List ℕ → List ℕ
template_fault text = elim (read_template text) [ Ok f ↦ [] | Err e ↦ refusal (template_refusal e) ]

abbrev pub name_fault : List ℕ → List ℕ → List ℕ
name_fault text t = under text (λ f. elim (reads f t) [ Ok n ↦ [] | Err e ↦ refusal (name_refusal e) ])

unfoldable pub table : List Row
table =
    (sum (codes "13030/xf93gt2") is (891 ∷ []))
    ∷ (check (codes "13030/xf93gt2") is codes "q")
    ∷ (name (codes "99999/q7.sdk") 0 is codes "99999/q70n")
    ∷ (name (codes "99999/q7.sdk") 1 is codes "99999/q71z")
    ∷ (name (codes "99999/q7.sdk") 2 is codes "99999/q728")
    ∷ (name (codes "99999/q7.sdk") 3 is codes "99999/q73k")
    ∷ (name (codes "99999/q7.sdk") 4 is codes "99999/q74w")
    ∷ (name (codes "99999/q7.sdk") 5 is codes "99999/q756")
    ∷ (name (codes "99999/q7.sdk") 6 is codes "99999/q76h")
    ∷ (name (codes "99999/q7.sdk") 7 is codes "99999/q77t")
    ∷ (name (codes "99999/q7.sdk") 8 is codes "99999/q784")
    ∷ (name (codes "99999/q7.sdk") 9 is codes "99999/q79f")
    ∷ (order (codes "99999/q7.rdk") is (1 ∷ 0 ∷ 9 ∷ 7 ∷ 5 ∷ 4 ∷ 3 ∷ 2 ∷ 6 ∷ 8 ∷ []))
    ∷ (digits (codes "de") 28 is codes "0z")
    ∷ (digits (codes "de") 289 is codes "9z")
    ∷ (template_fault [] is (5 ∷ 0 ∷ []))
    ∷ (template_fault (codes "9999/q7.sdk") is (1 ∷ 4 ∷ []))
    ∷ (template_fault (codes "99999/.sd") is (2 ∷ 6 ∷ []))
    ∷ (template_fault (codes "99999/q7.sk") is (4 ∷ 10 ∷ []))
    ∷ (name_fault (codes "99999/q7.sdk") (codes "99999/q72n") is (8 ∷ 9 ∷ []))
    ∷ (name_fault (codes "99999/q7.sdk") (codes "99999/q70") is (6 ∷ 9 ∷ []))
    ∷ []

abbrev pub Holds : List Row → Type 0
Holds [] = Unit {0}
Holds (r ∷ rs) = (r.computed ≡ r.stated) × Holds rs
