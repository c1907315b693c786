-- A session that was given some lines, none of which opened it. Assumes nothing.
use Rattle.std.proofs.Common.{◌≡◌, ℕ, ◌+◌, ◌-◌, ◌*◌, ◌≤◌, false, cond, ltb, leb, List, [], ◌∷◌, ◌++◌, length, Some, Ok, Err, Result, sym, refl, ap, ◌∙◌, subst, append_assoc, arith}
use Rattle.commands.specs.Forms.{opens}
use Rattle.commands.specs.declared.fault.CommandFault.{CommandFault}
use Rattle.commands.specs.declared.fault.CommandFault.TheVariants.{Lines, Output}
use Rattle.names.specs.Forms.{Form}
use Rattle.names.specs.Templates.{form}
use Rattle.sessions.specs.Opening.{NewDesk, Opened, entered, unopened, opened, Led}
use Rattle.sessions.specs.Tallies.{Tallies}
use Rattle.sessions.specs.declared.opening.Entered.{Entered}
use Rattle.sessions.specs.declared.opening.TurnedAway.{TurnedAway}
use Rattle.std.proofs.lemmas.Bool.Decides.{nat_tests}
use Rattle.texts.proofs.Fill.{puts_none, puts_join}
use Rattle.texts.specs.Output.{Puts}
use Rattle.texts.specs.declared.output.Output as output
use Rattle.serving.proofs.Answering.{put_whole}
use Rattle.serving.specs.Found.{Opens}
use Rattle.serving.specs.Serving.{Awaited, after_text, awaited}

-- it began with d and now stands at e; of its lines these are left, each with 4,096 bytes free
pub record Awaiting (tallies : Type 0) (d e : NewDesk) (lines left : List (List ℕ)) (old now : output.Output) : Type 0 where
  pub tallied : tallies
  pub so_far : List ℕ
  pub wrote : Puts old so_far now
  pub whole : after_text so_far (awaited e left) ≡ awaited d lines
  pub room : now.fill + 4096 * (length left + 1) ≤ length now.bytes.now

pub begins : {tallies : Type 0} {d : NewDesk} {lines : List (List ℕ)} {old : output.Output} → tallies → old.fill + 4096 * (length lines + 1) ≤ length old.bytes.now → Awaiting tallies d d lines lines old old
begins {old = old} u r = record { tallied = u; so_far = []; wrote = puts_none old; whole = refl; room = r }

free_enough : (free : ℕ) (d : NewDesk) (l : List ℕ) → 4096 ≤ free → opened free d l ≡ opened 4096 d l
free_enough free d l room =
    let fits : ltb free 4096 ≡ false = grind (arith, nat_tests) in
    ap (λ b. cond (leb 65535 d.lines) (unopened d Lines) (cond b (unopened d Output) (entered (record { tallies = d.tallies; lines = d.lines + 1 }) (opens l)))) fits

-- what an opening line comes to, by its outcome
abbrev by_outcome : Opened → List (List ℕ) → Result Form CommandFault → Awaited
by_outcome o ls (Ok f) = record { desk = o.desk; text = o.text; form = Some f; rest = ls }
by_outcome o ls (Err e) = after_text o.text (awaited o.desk ls)

module _ {tallies : Type 0} {d e : NewDesk} {lines all left : List (List ℕ)} {l : List ℕ} {old was : output.Output}
    (going : Awaiting tallies d e lines all old was) (next : all ≡ l ∷ left) (brief : length (opened (length was.bytes.now - was.fill) e l).text ≤ 4096) where
  this : Opened
  this = opened (length was.bytes.now - was.fill) e l

  room : was.fill + 4096 * (length left + 2) ≤ length was.bytes.now
  room = omega (arith, going.room, ap length next)

  so : awaited e all ≡ by_outcome this left this.outcome
  unfolding this
  so = ap (awaited e) next ∙ ap (λ (o : Opened). by_outcome o left o.outcome) (sym (free_enough (length was.bytes.now - was.fill) e l (omega (arith, room))))

  pub goes_on : {tallies' : Type 0} {now : output.Output} {after : Tallies} {away : TurnedAway} → Led (opened (length was.bytes.now - was.fill) e l) after was now (Err away) → tallies'
      → Awaiting tallies' d (record { tallies = after; lines = away.session.lines }) lines left old now
  unfolding this
  goes_on {after = after} {away} led u =
      let whole = put_whole led.2 (omega (arith, room, brief)) in
      record {
        tallied = u;
        so_far = going.so_far ++ this.text;
        wrote = puts_join going.wrote led.2;
        whole =
            ap (λ (x : NewDesk). after_text (going.so_far ++ this.text) (awaited x left)) (sym led.1)
            ∙ (λ j. record { desk = (awaited this.desk left).desk; text = append_assoc going.so_far this.text (awaited this.desk left).text j; form = (awaited this.desk left).form; rest = (awaited this.desk left).rest })
            ∙ ap (λ (r : Result Form CommandFault). after_text going.so_far (by_outcome this left r)) (sym led.0)
            ∙ ap (after_text going.so_far) (sym so)
            ∙ going.whole;
        room = omega (arith, room, brief, whole.0, whole.1);
      }

  pub opens_here : {now : output.Output} {after : Tallies} {ent : Entered} → Led (opened (length was.bytes.now - was.fill) e l) after was now (Ok ent) → Opens (awaited d lines) after old now ent left
  unfolding this
  opens_here {now} {ent = ent} led =
      let whole = put_whole led.3 (omega (arith, room, brief)) in
      let same : after_text going.so_far (by_outcome this left (Ok (form ent.template))) ≡ awaited d lines =
      ap (λ (r : Result Form CommandFault). after_text going.so_far (by_outcome this left r)) (sym led.0) ∙ ap (after_text going.so_far) (sym so) ∙ going.whole in
      record {
        form = sym (ap (λ (a : Awaited). a.form) same);
        desk = sym (ap (λ (a : Awaited). a.desk) same) ∙ led.1;
        minted = led.2;
        rest = sym (ap (λ (a : Awaited). a.rest) same);
        text = subst (λ (t : List ℕ). Puts old t now) (ap (λ (a : Awaited). a.text) same) (puts_join going.wrote led.3);
        room = omega (arith, room, brief, whole.0, whole.1);
      }
