-- A worker that isn't over is there; its next event may come and belongs to it, so the counts stay
-- right.
use Rattle.lab_model.proofs.Common.{rules, true, length, ap₂, ◌∙◌, sym, arith}
use Rattle.lab_any.specs.Any.{any_meaning}
use Rattle.lab_any.specs.AnyLaws.{any-lawful}
use Rattle.lab_runner.specs.Counts.{place_of}
use Rattle.lab_runner.proofs.Workers.{next-may, next-owned, unended-is-worker}
use Rattle.lab_runner.proofs.Owned.{fired-shared, fired-turn, idle-turn, stop-turn, written-all}
use Rattle.lab_runner.proofs.Owned.{written-more}
use Rattle.lab_runner.proofs.shared.Shared.turn.Goals as goal

-- nothing that belongs to it may come
pub returns-in_default : goal.returns-in_default
returns-in_default g c =
    idle-turn any_meaning c.args.who _ c.args.self.now c.self.view_is c.if-self.false
    (sym c.is_over.ensures ∙ c.if-is_over.false) (sym c.next_for.ensures ∙ c.in_default.is)

-- the next may come
pub fire_counted-requires-clause-enabled : goal.fire_counted-requires-clause-enabled
fire_counted-requires-clause-enabled g c =
    let lab = c.self.inside.lab in
    next-may lab.scenario lab.state c.args.who c.in-Some.event
    (sym c.next_for.ensures ∙ c.in-Some.is)

-- the worker is there
pub fire_counted-requires-clause-worker : goal.fire_counted-requires-clause-worker
fire_counted-requires-clause-worker g c = search (rules, unended-is-worker)

-- what is counted stays right
pub invariant_of-self : goal.invariant_of-self
invariant_of-self g c =
    let lab = c.self.inside.lab in
    let counts = c.self.inside.counts in
    fired-shared any_meaning any-lawful g.N.Naming.scenario
    (record { lab = lab; counts = counts.items; stop = c.self.inside.stop }) _ c.args.who
    c.in-Some.event c.self.invariant (next-owned lab.scenario lab.state c.args.who c.in-Some.event
    (sym c.next_for.ensures ∙ c.in-Some.is)) (unended-is-worker lab.scenario lab.state c.args.who
    (sym c.is_over.ensures ∙ c.if-is_over.false))
    c.fire_counted.ensures.scenario c.in-Ok.ensures.history c.fire_counted.ensures.running
    (written-more counts.len (place_of (length lab.scenario.logs) c.args.who) counts.items
    c.deref_mut.result.now c.fire_counted.new.counts
    (omega (arith, c.fire_counted.auto.counts, c.deref_mut.ensures.len))
    c.in-Ok.ensures.counts c.deref_mut.ensures.value)

-- the event was fired and counted
pub returns-in-Ok : goal.returns-in-Ok
returns-in-Ok g c =
    let lab = c.self.inside.lab in
    let counts = c.self.inside.counts in
    fired-turn any_meaning c.args.who _ c.args.self.now c.self.view_is c.if-self.false
    (sym c.is_over.ensures ∙ c.if-is_over.false) _
    (record {
      event = c.in-Some.event;
      next = sym c.next_for.ensures ∙ c.in-Some.is;
      effect_is = c.in-Ok.ensures.next;
      history = c.in-Ok.ensures.history;
      scenario = c.fire_counted.ensures.scenario;
      budget = c.fire_counted.ensures.budget;
      counts = written-more counts.len (place_of (length lab.scenario.logs) c.args.who)
          counts.items c.deref_mut.result.now c.fire_counted.new.counts
          (omega (arith, c.fire_counted.auto.counts, c.deref_mut.ensures.len))
          c.in-Ok.ensures.counts c.deref_mut.ensures.value;
      stop = c.if-self.false;
    })

-- memory ran out
pub returns-in-Err : goal.returns-in-Err
returns-in-Err g c =
    let whole = written-all c.self.inside.counts.len c.self.inside.counts.items
    c.fire_counted.new.counts
    (omega (arith, c.fire_counted.auto.counts, c.deref_mut.ensures.len)) in
    stop-turn any_meaning c.args.who _ c.args.self.now c.self.view_is c.if-self.false
    (sym c.is_over.ensures ∙ c.if-is_over.false) _
    (record {
      event = c.in-Some.event;
      next = sym c.next_for.ensures ∙ c.in-Some.is;
      asks = ap₂ (λ lab counts. record { lab = lab; counts = counts; stop = true })
          c.in-Err.ensures.lab (whole ∙ c.in-Err.ensures.kept ∙ c.deref_mut.ensures.value);
    })
