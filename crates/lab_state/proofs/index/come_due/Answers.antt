-- One number after another is taken out and marked anew, until none is due.
use Rattle.lab_model.proofs.Common.{rules, ◌∙◌, arith}
use Rattle.lab_state.proofs.Dues.{due-goes, fewer-wait, stands-end, stands-more}
use Rattle.lab_state.proofs.index.come_due.Goals as goal

-- before the first each waits and is marked as it was
pub loop-due-init : goal.loop-due-init
loop-due-init g c = search rules

-- the marks reach as far as before
pub mark_due-requires-clause-reach : goal.mark_due-requires-clause-reach
mark_due-requires-clause-reach g c = omega arith

-- the number that is taken out was due
pub mark_due-requires-clause-goes : goal.mark_due-requires-clause-goes
mark_due-requires-clause-goes g c = due-goes c.args.before c.args.clock c.args.bios.now.items
    c.args.devices.now.slots c.requires.later c.loop-due.ready c.loop-due.waiting.due
    c.in-Some.due.number c.in-Some.due.moment c.in-Some.ensures.some.held
    c.in-Some.ensures.some.upto (c.loop-due.invariant.stands c.in-Some.due.number)

-- the number that is taken out waited
pub loop-due-smaller : goal.loop-due-smaller
loop-due-smaller g c = rw c.take.ensures.due
    (fewer-wait c.args.clock c.loop-due.waiting.due c.in-Some.due c.in-Some.ensures.some)

-- it was due, and is marked anew
pub loop-due-preserved : goal.loop-due-preserved
loop-due-preserved g c = record {
  stands = rw c.take.ensures.due (stands-more c.args.before c.args.clock c.args.bios.now.items
      c.args.devices.now.slots c.requires.later c.mark_due.new.ready c.loop-due.ready
      c.loop-due.waiting.due c.in-Some.due.number c.in-Some.due.moment
      c.in-Some.ensures.some.held c.in-Some.ensures.some.upto
      c.mark_due.ensures.here c.mark_due.ensures.others c.loop-due.invariant.stands);
  grouped = c.mark_due.ensures.grouped (λ other apart. c.loop-due.invariant.grouped other);
  reach = c.mark_due.ensures.reach ∙ c.loop-due.invariant.reach;
  room = c.take.ensures.spare ∙ c.loop-due.invariant.room;
}

-- nothing that waits is due
pub returns : goal.returns
returns g c = search (rules, stands-end)
