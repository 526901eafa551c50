-- The living bios are asked one after another.
use Rattle.lab_model.proofs.Common.{rules, sym, ◌∙◌, Bio, flies_at}
use Rattle.lab_bios.proofs.Walks.{left-none, any-may}
use Rattle.lab_bios.proofs.flights.has_flight.Goals as goal

-- one of them is in flight there
pub returns-then-flies_there : goal.returns-then-flies_there
returns-then-flies_there c =
    let split = any-may c.args.bios.now.items c.loop-number.from c.in-Some.number
    (λ (bio : Bio). flies_at c.args.device bio.device bio.stage) c.in-Some.ensures.next in
    sym (rw (← c.flies_there.ensures, c.if-flies_there.true) at split) ∙ c.loop-number.invariant

-- where this one isn't, one is just where one behind it is
pub loop-number-preserved : goal.loop-number-preserved
loop-number-preserved c =
    let split = any-may c.args.bios.now.items c.loop-number.from c.in-Some.number
    (λ (bio : Bio). flies_at c.args.device bio.device bio.stage) c.in-Some.ensures.next in
    sym (rw (← c.flies_there.ensures, c.if-flies_there.false) at split) ∙ c.loop-number.invariant

-- once none is left, none is
pub returns : goal.returns
returns c = search (rules, left-none)
