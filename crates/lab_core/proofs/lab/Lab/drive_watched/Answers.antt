-- Each first event drives it on, and is watched, until there is none.
use Rattle.lab_model.proofs.Common.{rules, sym, ◌∙◌}
use Rattle.lab_core.proofs.Seeded.{driven-more, driven-none}
use Rattle.lab_core.proofs.Watched.{watched-more, watched-none}
use Rattle.lab_core.proofs.Enabled.{listed-may}
use Rattle.lab_core.proofs.Known.{fewer-left}
use Rattle.lab_core.proofs.lab.Lab.drive_watched.Goals as goal

pub events-init : goal.events-init
events-init g c = search (rules, driven-none, watched-none)

-- the first may come
pub about_to-requires : goal.about_to-requires
about_to-requires g c = listed-may c.events.self.scenario c.events.self.state 0 c.in-Some.event
    (sym c.next_event.ensures.first ∙ c.in-Some.is)

pub fire-requires : goal.fire-requires
fire-requires g c = listed-may c.events.self.scenario c.events.self.state 0 c.in-Some.event
    (sym c.next_event.ensures.first ∙ c.in-Some.is)

-- it was fired, and watched
pub events-preserved : goal.events-preserved
events-preserved g c = record {
  driven = driven-more g.T.Target.meaning c.args.self.now c.events.self c.fire.new.self
      c.in-Some.event c.events.invariant.driven
      (sym c.next_event.ensures.first ∙ c.in-Some.is) c.in_ok-fire.ensures.next
      c.in_ok-fire.ensures.history c.in_ok-fire.ensures.scenario c.in_ok-fire.ensures.budget;
  watched = watched-more g.T.Target.meaning g.O.Observer.awaits g.O.Observer.sees c.args.self.now
      c.events.self c.fire.new.self c.args.observer.now c.events.observer c.about_to.new.self
      c.fired.new.self c.in-Some.event c.events.invariant.watched c.in_ok-about_to.ensures
      c.in_ok-fire.ensures.next c.in_ok-fire.ensures.history c.in_ok-fire.ensures.scenario
      c.in_ok-fire.ensures.budget c.in_ok-fired.ensures;
}

-- fewer are left
pub events-smaller : goal.events-smaller
events-smaller g c = search (rules, fewer-left)

-- the last event too, where memory was wanting for the observer
pub returns-in_err-fired-clause-driven : goal.returns-in_err-fired-clause-driven
returns-in_err-fired-clause-driven g c =
    driven-more g.T.Target.meaning c.args.self.now c.events.self c.fire.new.self
    c.in-Some.event c.events.invariant.driven
    (sym c.next_event.ensures.first ∙ c.in-Some.is) c.in_ok-fire.ensures.next
    c.in_ok-fire.ensures.history c.in_ok-fire.ensures.scenario c.in_ok-fire.ensures.budget
