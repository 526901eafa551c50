-- The first of the script and of the logs, else the first of a bio, else the clock's.
use Rattle.lab_model.proofs.Common.{refl}
use Rattle.lab_state.proofs.OwnBios.{belongs}
use Rattle.lab_next.proofs.Parts.{find-parts, none-found}
use Rattle.lab_next.proofs.order.next_for.Goals as goal

-- one of the script or of a log
pub returns-in-Some : goal.returns-in-Some
returns-in-Some g c =
    let parts = find-parts c.args.scenario.now c.args.state.now (belongs c.args.state.now c.args.who)
    in
    rw (parts, ← c.front_for.ensures, c.in-Some.is) refl

-- one of a bio
pub returns-in-Some-ready_for : goal.returns-in-Some-ready_for
returns-in-Some-ready_for g c =
    let parts = find-parts c.args.scenario.now c.args.state.now (belongs c.args.state.now c.args.who)
    in
    let none = none-found c.front_for.result c.in_default.not-Some in
    rw (parts, ← c.front_for.ensures, none, ← c.ready_for.ensures, c.in-Some-ready_for.is) refl

-- the clock's
pub returns-in-None : goal.returns-in-None
returns-in-None g c =
    let parts = find-parts c.args.scenario.now c.args.state.now (belongs c.args.state.now c.args.who)
    in
    let none = none-found c.front_for.result c.in_default.not-Some in
    rw (parts, ← c.front_for.ensures, none, ← c.ready_for.ensures, c.in-None.is) c.clock_for.ensures
