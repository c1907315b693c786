-- The calls of a session's lines make its register, and have the law over runs. Assumes nothing.
use Rattle.std.proofs.Common.{◌≡◌, ℕ, Bool, true, false, cond, ltb, leb, List, [], ◌∷◌, ◌++◌, Some, None, Ok, Err, Option, Result, sym, refl, ap, ◌∙◌}
use Rattle.commands.specs.Forms as forms
use Rattle.commands.specs.Forms.{Said, mint, hold_set, hold_release, queue, tick, bind_set, bind_purge, fetch, validate}
use Rattle.commands.specs.declared.fault.CommandFault.{CommandFault}
use Rattle.commands.specs.declared.fault.CommandFault.TheVariants.{Lines}
use Rattle.machine.proofs.Runs.{from_new}
use Rattle.machine.specs.Calls.{Asked}
use Rattle.machine.specs.Machine as machine
use Rattle.machine.specs.Machine.{Machine, step, final}
use Rattle.machine.specs.declared.fault.RegisterFault.{RegisterFault}
use Rattle.names.specs.Templates.{form}
use Rattle.names.specs.declared.template.Template.{Template}
use Rattle.runs.proofs.Covering.{whole}
use Rattle.sessions.proofs.Framing.{by_fault}
use Rattle.sessions.specs.Frames.{Desk, heard, counted, unheard, answered}
use Rattle.sessions.specs.Opening.{NewDesk}
use Rattle.sessions.specs.Performing.{Performed, calls, by_look, performed}
use Rattle.serving.specs.Ruling.{read_calls, line_calls, open_calls, Ruled}
use Rattle.serving.specs.Serving.{lines_desk, source_of, open_desk}
use Rattle.sources.specs.Choices.{by_letter, serving}
use Rattle.sources.specs.Lists.{count}
use Rattle.sources.specs.Named.{total_of}
use Rattle.sources.specs.Stock.{Lawful}
use Rattle.sources.specs.Subcounters.{new_ahead}

looks : (m : Machine) (text : ℕ → List ℕ) (r : Result ℕ RegisterFault) → (by_look m text r).machine ≡ m
looks m text (Ok n) = refl
looks m text (Err f) = refl

-- a command leaves what its calls leave
by_command : (m : Machine) (s : Said) → (performed m s).machine ≡ final m (calls m s)
by_command m (mint n) = refl
by_command m (hold_set t) = refl
by_command m (hold_release t) = refl
by_command m (queue t d) = refl
by_command m (tick s) = refl
by_command m (bind_set t w e x) = refl
by_command m (bind_purge t w e) = refl
by_command m (fetch t w e) = looks m _ (machine.fetch m t e).1
by_command m (validate t) = looks m _ (machine.validate m t)

same_machine : (d : Desk) (p : Performed) (o : Option RegisterFault) → (by_fault d p o).desk.machine ≡ p.machine
same_machine d p None = refl
same_machine d p (Some f) = refl

by_heard : (d : Desk) (r : Result Said CommandFault) → (heard (counted d) r).desk.machine ≡ final d.machine (read_calls d.machine r)
by_heard d (Ok s) = same_machine (counted d) (performed d.machine s) (performed d.machine s).fault ∙ by_command d.machine s
by_heard d (Err f) = refl

by_line : (d : Desk) (l : List ℕ) → (answered 4096 d l).desk.machine ≡ final d.machine (line_calls d l)
by_line d l = go (leb 65535 d.lines)
  where
    go : (b : Bool) → (cond b (unheard d Lines) (heard (counted d) (forms.reads l))).desk.machine ≡ final d.machine (cond b [] (read_calls d.machine (forms.reads l)))
    go true = refl
    go false = by_heard d (forms.reads l)

final_on : (m : Machine) (xs ys : List Asked) → final m (xs ++ ys) ≡ final (final m xs) ys
final_on m [] ys = refl
final_on m (x ∷ xs) ys = final_on (step m x).0 xs ys

-- the lines leave what their calls leave
by_lines : (d : Desk) (ls : List (List ℕ)) → (lines_desk d ls).machine ≡ final d.machine (open_calls d ls)
by_lines d [] = refl
by_lines d (l ∷ ls) =
    by_lines (answered 4096 d l).desk ls
    ∙ ap (λ (m : Machine). final m (open_calls (answered 4096 d l).desk ls)) (by_line d l)
    ∙ sym (final_on d.machine (line_calls d l) (open_calls (answered 4096 d l).desk ls))

pub ruled : (d : NewDesk) (p : Template) (ls : List (List ℕ)) → Lawful (source_of (form p))
    → ((n : ℕ) → count n (new_ahead (total_of p) (by_letter (serving (form p)))) ≡ cond (ltb n (total_of p)) 1 0) → Ruled d (form p) ls
ruled d p ls lawful each =
    let all = whole p (new_ahead (total_of p) (by_letter (serving (form p)))) each in
    record {
      names = all.names;
      turns = all.turns;
      law = from_new (source_of (form p)) 512 (open_calls (open_desk d (form p)) ls) lawful;
      after = by_lines (open_desk d (form p)) ls;
    }
