-- verdict_of: what becomes of one line under a template
-- counts_of: how many of some lines are good, and how many are refused
use Rattle.std.specs.Prelude.{ℕ, suc, List, [], ◌∷◌, Result, Ok, Err}
use Rattle.names.specs.Faults.{name_refusal}
use Rattle.names.specs.Forms.{Form}
use Rattle.names.specs.Validate.{reads}
use Rattle.checklist.specs.declared.sheet.Counts.{Counts}
use Rattle.names.specs.declared.fault.Refusal.{Refusal}

abbrev pub verdict_of : Form → List ℕ → Result ℕ Refusal
verdict_of f line = elim (reads f line) [ Ok n ↦ Ok n | Err e ↦ Err (name_refusal e) ]

-- one line more
abbrev pub counted : Result ℕ Refusal → Counts → Counts
counted (Ok n) c = record { good = suc c.good; refused = c.refused }
counted (Err r) c = record { good = c.good; refused = suc c.refused }

abbrev pub counts_of : Form → List (List ℕ) → Counts
counts_of f [] = record { good = 0; refused = 0 }
counts_of f (l ∷ ls) = counted (verdict_of f l) (counts_of f ls)
