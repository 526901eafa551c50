-- One bio after another is written.
use Rattle.lab_model.proofs.Common.{rules, arith, bio_of}
use Rattle.lab_trace.proofs.MadeSteps.{one-written}
use Rattle.lab_trace.proofs.made.push_made.Goals as goal

pub loop-place-preserved : goal.loop-place-preserved
loop-place-preserved g c =
    let place = c.loop-place.place in
    let state = c.args.state.now in
    one-written state (bio_of state c.args.number) c.args.first place c.args.count
    c.loop-place.text.items c.push_comma.new.text.items c.push_one.new.text.items _ (omega arith)
    c.in_ok-push_comma.ensures
    (rw (c.bio_of-bio.ensures.bio, c.bio_of.ensures.bio) at c.in_ok-push_one.ensures) c.loop-place.invariant

-- no bio is left
pub returns : goal.returns
returns g c = search rules
