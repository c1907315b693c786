use Rattle.std.proofs.Common.{◌+◌, ◌-◌, length, ap, ◌∙◌, arith}
use Rattle.reports.specs.Reports.{line, template}
use Rattle.sessions.proofs.Entering.{opened_counted, turned_led, turned_brief}
use Rattle.sessions.proofs.Lengths.{template_short}
use Rattle.sessions.specs.Opening.{Opened, new_desk, by_template, entered}
use Rattle.sessions.proofs.session.NewSession.opening.Goals as goal

pub returns-in-Ok-clause-brief : goal.returns-in-Ok-clause-brief
returns-in-Ok-clause-brief g c =
    let d = new_desk g.U.Store.pairs g.U.Store.capacity c.args.tallies.now c.args.self.lines in
    let free = length c.args.out.now.bytes.now - c.args.out.now.fill in
    let word = c.in-Ok.word.now in
    let read = c.in-Ok.ensures.reads in
    let counted = opened_counted free d c.args.text.now c.in_default.ensures.answer in
    let said = ap (entered (record { tallies = d.tallies; lines = d.lines + 1 })) read.0 ∙ ap (by_template (record { tallies = d.tallies; lines = d.lines + 1 }) word) read.1 in
    omega (arith, ap (λ (o : Opened). length o.text) (counted ∙ said), ap (λ n. length (line (template word n))) c.total.ensures.value, template_short word c.total.result c.in-Ok.ensures.short c.total.type_inv)

pub returns-in-Err-read_line-clause-led : goal.returns-in-Err-read_line-clause-led
returns-in-Err-read_line-clause-led g c = λ u.
    let d = new_desk g.U.Store.pairs g.U.Store.capacity c.args.tallies.now c.args.self.lines in
    let free = length c.args.out.now.bytes.now - c.args.out.now.fill in
    let counted = opened_counted free d c.args.text.now c.in_default.ensures.answer in
    turned_led free d c.args.text.now counted c.in-Err-read_line.ensures.reads (c.refuse.ensures.after u) c.refuse.ensures.text search

pub returns-in-Err-read_line-clause-brief : goal.returns-in-Err-read_line-clause-brief
returns-in-Err-read_line-clause-brief g c =
    let d = new_desk g.U.Store.pairs g.U.Store.capacity c.args.tallies.now c.args.self.lines in
    let free = length c.args.out.now.bytes.now - c.args.out.now.fill in
    let counted = opened_counted free d c.args.text.now c.in_default.ensures.answer in
    turned_brief free d c.args.text.now counted c.in-Err-read_line.ensures.reads c.refuse.ensures.brief search
