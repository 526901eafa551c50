use Rattle.lab_model.proofs.Common.{rules, Result, refl, OnOk, OnErr, on_ok_weaker}
use Rattle.lab_text.specs.Words.{words_left}
use Rattle.std.proofs.lemmas.Result.{on_err_weaker}
use Rattle.lab_table.proofs.Images.{IsTable-same, image-change}
use Rattle.lab_table.proofs.table.Table.message.Goals as goal

-- what holds at an answer and at a refusal holds
either : {A E P : Type 0} (r : Result A E) → OnOk r P → OnErr r P → P
either r ok err = search rules

-- a message leaves the image alone
pub invariant_of-self : goal.invariant_of-self
invariant_of-self g c =
    let m = g.T.Target.meaning in
    let law = g.met.T.Target.lawful in
    let words = words_left c.args.words in
    let old = c.self.inside.lines.items in
    let same = image-change m (λ t. m.messaged t words) (λ t. law.messaged t words) old
    c.args.line in
    IsTable-same m law old c.tell_line.new.lines.items (either c.tell_line.result
    (on_ok_weaker c.tell_line.result (λ state. rw state same) c.tell_line.ensures.state)
    (on_err_weaker c.tell_line.result (λ kept. rw kept refl) c.tell_line.ensures.err))
    c.self.invariant
