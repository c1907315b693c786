-- An open session that was given some of its lines. Assumes nothing.
use Rattle.std.proofs.Common.{◌≡◌, ℕ, ◌+◌, ◌-◌, ◌*◌, ◌≤◌, false, cond, ltb, leb, List, ◌∷◌, ◌++◌, length, take, drop, sym, ap, ◌∙◌, append_assoc, arith}
use Rattle.commands.specs.Forms.{reads}
use Rattle.commands.specs.declared.fault.CommandFault.TheVariants.{Lines, Output}
use Rattle.machine.specs.Runs.{Sound}
use Rattle.sessions.specs.Frames.{Desk, Answered, heard, counted, unheard, answered, Replied}
use Rattle.sessions.specs.declared.line.Reply.{Reply}
use Rattle.std.proofs.lemmas.List.{length-append, length-drop, length-take-le, take_all}
use Rattle.std.proofs.lemmas.Bool.Decides.{nat_tests}
use Rattle.texts.proofs.Fill.{puts_join}
use Rattle.texts.specs.Output.{Puts}
use Rattle.texts.specs.declared.output.Output as output
use Rattle.serving.specs.Serving.{lines_text, lines_desk}

-- it began with d and now stands at e; of its lines these are left, each with 4,096 bytes free
pub record Answering (store tallies : Type 0) (d e : Desk) (lines left : List (List ℕ)) (old now : output.Output) : Type 0 where
  pub sound : Sound e.machine
  pub stored : store
  pub tallied : tallies
  pub so_far : List ℕ
  pub wrote : Puts old so_far now
  pub text : so_far ++ lines_text e left ≡ lines_text d lines
  pub desk : lines_desk e left ≡ lines_desk d lines
  pub room : now.fill + 4096 * (length left + 1) ≤ length now.bytes.now

-- with 4,096 bytes free or more, a line is answered as with 4,096
pub free_enough : (free : ℕ) (d : Desk) (l : List ℕ) → 4096 ≤ free → answered free d l ≡ answered 4096 d l
free_enough free d l room =
    let fits : ltb free 4096 ≡ false = grind (arith, nat_tests) in
    ap (λ b. cond (leb 65535 d.lines) (unheard d Lines) (cond b (unheard d Output) (heard (counted d) (reads l)))) fits

-- a text that finds room is put whole, and the buffer keeps its length
pub put_whole : {old new : output.Output} {text : List ℕ} → Puts old text new → old.fill + length text ≤ length old.bytes.now → (new.fill ≡ old.fill + length text) × (length new.bytes.now ≡ length old.bytes.now)
put_whole {old} {new} {text} put h =
    let all : take (length old.bytes.now - old.fill) text ≡ text = take_all (length old.bytes.now - old.fill) text (omega arith) in
    let front = length-append (take old.fill old.bytes.now) (take (length old.bytes.now - old.fill) text ++ drop (old.fill + length text) old.bytes.now) in
    let back = length-append (take (length old.bytes.now - old.fill) text) (drop (old.fill + length text) old.bytes.now) in (
      put.wrote.place ∙ ap (λ (t : List ℕ). old.fill + length t) all,
      omega (arith, ap length put.wrote.bytes, front, back, ap length all, length-take-le old.fill old.bytes.now (omega arith), length-drop (old.fill + length text) old.bytes.now),
    )

-- what was said is the answer to the first line that was left
pub goes_on : {store store' tallies tallies' : Type 0} {d e e' : Desk} {lines all left : List (List ℕ)} {l : List ℕ} {old was now : output.Output} {reply : Reply} {said : Answered}
    → Answering store tallies d e lines all old was → all ≡ l ∷ left → Replied said e' was now reply → length said.text ≤ 4096
    → Sound e'.machine → store' → tallies' → said ≡ answered (length was.bytes.now - was.fill) e l → Answering store' tallies' d e' lines left old now
goes_on {d = d} {e} {e'} {lines} {all} {left} {l} {was = was} {now} {said = said} going next replied brief s k u same =
    let room : was.fill + 4096 * (length left + 2) ≤ length was.bytes.now = omega (arith, going.room, ap length next) in
    let so : said ≡ answered 4096 e l = same ∙ free_enough (length was.bytes.now - was.fill) e l (omega (arith, room)) in
    let text = said.text in
    let whole = put_whole replied.text (omega (arith, room, brief)) in
    record {
      sound = s;
      stored = k;
      tallied = u;
      so_far = going.so_far ++ text;
      wrote = puts_join going.wrote replied.text;
      text =
          append_assoc going.so_far text (lines_text e' left)
          ∙ ap (λ (x : Desk). going.so_far ++ (text ++ lines_text x left)) replied.desk
          ∙ ap (λ (a : Answered). going.so_far ++ (a.text ++ lines_text a.desk left)) so
          ∙ ap (λ (ls : List (List ℕ)). going.so_far ++ lines_text e ls) (sym next)
          ∙ going.text;
      desk = ap (λ (x : Desk). lines_desk x left) (replied.desk ∙ ap (λ (a : Answered). a.desk) so) ∙ ap (lines_desk e) (sym next) ∙ going.desk;
      room = omega (arith, room, brief, whole.0, whole.1);
    }
