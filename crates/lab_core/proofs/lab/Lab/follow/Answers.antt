-- Each event goes on, and is watched.
use Rattle.lab_model.proofs.Common.{rules, get_or, ◌∙◌, ◌++◌, ◌∷◌, [], ap, sym, take_more}
use Rattle.lab_model.specs.declared.event.Event.TheVariants.{Line}
use Rattle.lab_core.proofs.Watched.{watched-more, watched-none}
use Rattle.lab_core.proofs.lab.Lab.follow.Goals as goal

pub loop-event-init : goal.loop-event-init
loop-event-init g c = search (rules, watched-none)

pub loop-event-preserved : goal.loop-event-preserved
loop-event-preserved g c = record {
  scenario = c.in_ok-fire.ensures.scenario ∙ c.loop-event.invariant.scenario;
  budget = c.in_ok-fire.ensures.budget ∙ c.loop-event.invariant.budget;
  history = c.in_ok-fire.ensures.history
      ∙ ap (λ h. h ++ get_or c.args.events.now c.loop-event.event-index (Line 0) ∷ [])
      c.loop-event.invariant.history
      ∙ sym (take_more c.args.events.now c.loop-event.event-index (Line 0)
      c.loop-event-test.true);
  watched = watched-more g.T.Target.meaning g.O.Observer.awaits g.O.Observer.sees c.args.self.now
      c.loop-event.self c.fire.new.self c.args.observer.now c.loop-event.observer
      c.about_to.new.self c.fired.new.self
      (get_or c.args.events.now c.loop-event.event-index (Line 0))
      c.loop-event.invariant.watched c.in_ok-about_to.ensures c.in_ok-fire.ensures.next
      c.in_ok-fire.ensures.history c.in_ok-fire.ensures.scenario c.in_ok-fire.ensures.budget
      c.in_ok-fired.ensures;
}
