-- Each event that a word picks goes on, and is watched, until there is none.
use Rattle.lab_model.proofs.Common.{rules, sym, subst, ◌∙◌}
use Rattle.lab_core.proofs.Seeded.{PacedSoFar, chosen-leads, paced-more, paced-none}
use Rattle.lab_core.proofs.Watched.{watched-more, watched-none}
use Rattle.lab_core.specs.Runs.{IsPaced}
use Rattle.lab_core.specs.Words.{seeded}
use Rattle.lab_core.proofs.Choice.{chosen-may}
use Rattle.lab_core.proofs.Known.{fewer-left}
use Rattle.lab_core.proofs.lab.Lab.simulate_watched.Goals as goal

pub events-init : goal.events-init
events-init g c = search (rules, paced-none, watched-none)

-- what is picked may come
pub about_to-requires : goal.about_to-requires
about_to-requires g c = search (rules, chosen-may)

pub fire-requires : goal.fire-requires
fire-requires g c = search (rules, chosen-may)

-- it was fired, and watched
pub events-preserved : goal.events-preserved
events-preserved g c = record {
  paced = paced-more g.T.Target.meaning c.args.prompt (seeded c.args.seed) c.args.self.now
      c.events.self c.fire.new.self c.events.generator c.draw.new.generator c.draw.result
      c.in-Some.event c.events.invariant.paced c.draw.ensures
      (sym c.pick.ensures.picked ∙ c.in-Some.is) c.in_ok-fire.ensures.next
      c.in_ok-fire.ensures.history c.in_ok-fire.ensures.scenario c.in_ok-fire.ensures.budget;
  watched = watched-more g.T.Target.meaning g.O.Observer.awaits g.O.Observer.sees c.args.self.now
      c.events.self c.fire.new.self c.args.observer.now c.events.observer c.about_to.new.self
      c.fired.new.self c.in-Some.event c.events.invariant.watched c.in_ok-about_to.ensures
      c.in_ok-fire.ensures.next c.in_ok-fire.ensures.history c.in_ok-fire.ensures.scenario
      c.in_ok-fire.ensures.budget c.in_ok-fired.ensures;
}

-- fewer are left
pub events-smaller : goal.events-smaller
events-smaller g c = search (rules, fewer-left)

-- so the seed picked the events
pub returns-clause-paced : goal.returns-clause-paced
returns-clause-paced g c = search (rules, chosen-leads)

-- and where memory was wanting, those so far
pub returns-in_err-about_to-clause-paced : goal.returns-in_err-about_to-clause-paced
returns-in_err-about_to-clause-paced g c = search (rules, chosen-leads, c.events.invariant.paced)

pub returns-in_err-fire-clause-paced : goal.returns-in_err-fire-clause-paced
returns-in_err-fire-clause-paced g c =
    subst (λ lab. IsPaced g.T.Target.meaning c.args.prompt c.args.seed c.args.self.now lab)
    (sym c.in_err-fire.ensures.err)
    (search (rules, chosen-leads, c.events.invariant.paced))

-- the last event among them, where it was the observer's
pub returns-in_err-fired-clause-paced : goal.returns-in_err-fired-clause-paced
returns-in_err-fired-clause-paced g c =
    let paced : PacedSoFar g.T.Target.meaning c.args.prompt (seeded c.args.seed) c.args.self.now
    c.fire.new.self c.draw.new.generator =
    paced-more g.T.Target.meaning c.args.prompt (seeded c.args.seed) c.args.self.now
    c.events.self c.fire.new.self c.events.generator c.draw.new.generator c.draw.result
    c.in-Some.event c.events.invariant.paced c.draw.ensures
    (sym c.pick.ensures.picked ∙ c.in-Some.is) c.in_ok-fire.ensures.next
    c.in_ok-fire.ensures.history c.in_ok-fire.ensures.scenario c.in_ok-fire.ensures.budget in
    search (rules, chosen-leads, paced)
