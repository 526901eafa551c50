-- Every event that may come in a state that fits goes on to a state that fits: so every run of a
-- fine scenario ends in one, and nothing that may come there is wrong.
use Rattle.lab_model.proofs.Common.{rules, List, [], ◌∷◌, refl, Lawful, Meaning, Next, Leads}
use Rattle.lab_model.proofs.Common.{Scenario, State}
use Rattle.lab_model.specs.declared.event.Event.{Event}
use Rattle.lab_model.specs.declared.event.Event.TheVariants.{Line, Map, Serve, Release, Finish}
use Rattle.lab_model.specs.declared.event.Event.TheVariants.{Control, Clock}
use Rattle.law_never_wrong.specs.Fits.{Fits}
use Rattle.law_never_wrong.specs.NeverWrong.{EachMay, EventsFit, ListsAreRuns, NeverWrong, RunsFit}
use Rattle.law_never_wrong.proofs.AnswerFits.{finish-keeps-Fits, serve-keeps-Fits}
use Rattle.law_never_wrong.proofs.AnswerFits.{release-keeps-Fits, tick-keeps-Fits}
use Rattle.law_never_wrong.proofs.ControlFits.{control-keeps-Fits}
use Rattle.law_never_wrong.proofs.Survives.{goes-next}
use Rattle.law_never_wrong.proofs.LineFits.{line-keeps-Fits}
use Rattle.law_never_wrong.proofs.MapFits.{map-keeps-Fits}
use Rattle.law_never_wrong.proofs.Runs.{opening-Fits}

module _ {S : Type 0} (m : Meaning S) (lawful : Lawful m) where
  -- each event keeps the fact that the state fits
  pub events-fit : EventsFit m
  events-fit c s fits (Line log) may = line-keeps-Fits m c s fits log may
  events-fit c s fits (Map number) may = map-keeps-Fits m lawful c s fits number may
  events-fit c s fits (Serve number) may = serve-keeps-Fits m c s fits number may
  events-fit c s fits (Release number) may = release-keeps-Fits m c s fits number may
  events-fit c s fits (Finish number) may = finish-keeps-Fits m c s fits number may
  events-fit c s fits Control may = control-keeps-Fits m lawful c s fits may
  events-fit c s fits Clock may = tick-keeps-Fits m c s fits may

  -- events lead from a state that fits to one that fits
  leads-fit : (c : Scenario S) (events : List Event) (s end : State S) → Fits m c s
      → Leads m c s events end → Fits m c end
  leads-fit c [] s end fits leads = rw leads fits
  leads-fit c (e ∷ es) s end fits is = search (rules, leads-fit c es is.1, events-fit c s fits e)

  -- so each run of a fine scenario ends in a state that fits
  pub all-runs-fit : RunsFit m
  all-runs-fit c fine events s run = leads-fit c events _ s (opening-Fits m c fine) run

  -- and no event that may come there is wrong
  pub all-never-wrong : NeverWrong m
  all-never-wrong c fine past s run e may =
      search (rules, goes-next (Fits m c) _ (events-fit c s (all-runs-fit c fine past s run) e may))

  -- events that may come where they stand lead to a state
  each-leads : (c : Scenario S) (events : List Event) (s : State S) → Fits m c s
      → EachMay m c (Next s) events → (end : State S) × Leads m c s events end
  each-leads c [] s fits each = (s, refl)
  each-leads c (event ∷ events) s fits each =
      search (rules, each-leads c events, goes-next (Fits m c) _ (events-fit c s fits event each.0))

  -- so each such list is a run
  pub all-lists-are-runs : ListsAreRuns m
  all-lists-are-runs c fine events each = search (rules, each-leads, opening-Fits)
