-- What an operation touches, from its making on as long as no event of the script comes. At first
-- only it descends from itself, and what is owed for it are its own routes; each event touches no
-- more than it takes off, so the operation touches no more than its routes. Where the lines that
-- hold its sectors pass all, each event takes off no more than it touches, and nothing is owed once
-- the operation is answered: so it touches all its routes.
use Rattle.lab_model.proofs.Common.{rules, ◌++◌, [], ap, arith, Bool, cond, eq-eqb, false, ℕ}
use Rattle.lab_model.proofs.Common.{le_refl, length, List, None, refl, Some, sym, true, ◌∙◌}
use Rattle.lab_model.proofs.Common.{◌∷◌, ◌≡◌, ◌≢◌, ◌≤◌, Bio, bio_of, DevNo, effect, Fine, Flush}
use Rattle.lab_model.proofs.Common.{is_enabled, IsRun, Kind, Lawful, Leads, Meaning, Next}
use Rattle.lab_model.proofs.Common.{None-not-Some, State, opening, Scenario, Some-holds}
use Rattle.lab_model.proofs.Common.{sum_by-cons, nat_tests}
use Rattle.std.proofs.Common.{count_by}
use Rattle.law_slots.proofs.WalkRuns.{run-keeps-walk}
use Rattle.law_within_budget.proofs.Ranks.{ranked}
use Rattle.law_within_budget.proofs.WalkVersions.{walk-gives-versions}
use Rattle.law_never_wrong.proofs.Events.{all-runs-fit}
use Rattle.law_headline.specs.Routes.{OnItsWay, touched, TouchesRoutes}
use Rattle.law_sectors_touched.proofs.Words.{descends, DiskSector, entry-within, Event, Fits, Line}
use Rattle.law_sectors_touched.proofs.Words.{is_control, routes, times, touched_by}
use Rattle.law_sectors_touched.specs.AllRoutes.{IsOnWay, TouchesAllRoutes, WayPasses}
use Rattle.law_sectors_touched.proofs.Descent.{comes-from, is_flying}
use Rattle.law_sectors_touched.proofs.Judged.{Sound}
use Rattle.law_sectors_touched.proofs.Leaving.{line-behind, Made}
use Rattle.law_sectors_touched.proofs.Owed.{sum_to-ends, sum_to-last, counted, outstanding, owed}
use Rattle.law_sectors_touched.proofs.Owed.{owes, owes-lives, owes-unless}
use Rattle.law_sectors_touched.proofs.RouteImages.{span_hits, times-span}
use Rattle.law_sectors_touched.proofs.Ways.{AllTravel, leads-stay, LeadsOn, way-stays}
use Rattle.law_sectors_touched.proofs.EventOwes.{event-owes}
use Rattle.law_sectors_touched.proofs.Events.{event-image}
use Rattle.law_sectors_touched.proofs.Hits.{times-append}

-- an event after others that lead to a state where it may come
pub leads-more : {S : Type 0} (m : Meaning S) (c : Scenario S) (past : List Event)
    (start s : State S) (event : Event) (next : State S) → Leads m c start past s → is_enabled c s
    event ≡ true → effect m c s event ≡ Next next → Leads m c start (past ++ event ∷ []) next
leads-more m c [] start s event next leads may is = search rules
leads-more m c (_ ∷ past) start s event next leads may is = search (rules, leads-more m c past)

-- where none of some events is the script's, the first isn't, and none of the others
pub quiet-parts : (event : Event) (events : List Event) → count_by is_control (event ∷ events) ≡ 0
    → (is_control event ≡ false) × (count_by is_control events ≡ 0)
quiet-parts e more quiet = search (rules, sum_by-cons (λ e. cond {A = ℕ} (is_control e) 1 0) e more)

module _ {S : Type 0} (m : Meaning S) (lawful : Lawful m) (c : Scenario S) (fine : Fine m c) where
  -- a state that a run comes to is sound
  pub run-sound : (past : List Event) (s : State S) → IsRun m c past s → Sound m c s
  run-sound past s run = record {
    lawful = lawful;
    ranked = ranked m c fine.acyclic;
    versions = walk-gives-versions m c fine.creates s (run-keeps-walk m lawful c past s run).0;
    fits = all-runs-fit m lawful c fine past s run;
  }

module _ {S : Type 0} {m : Meaning S} (lawful : Lawful m) {c : Scenario S} (fine : Fine m c)
    {log : ℕ} {before : List Event} {s begun : State S} {bio : Bio} {events : List Event}
    {end : State S} (trip : OnItsWay m c log before s begun bio events end) where
  -- the run until then
  pub begun-run : IsRun m c (before ++ Line log ∷ []) begun
  begun-run = leads-more m c before (opening c) s (Line log) begun trip.run trip.may trip.begins

  -- its end fits
  pub begun-fits : Fits m c begun
  begun-fits = all-runs-fit m lawful c fine (before ++ Line log ∷ []) begun begun-run

  -- the log has made the operation
  pub begun-made : Made log bio
  begun-made = line-behind m c s begun log trip.may trip.begins (length begun.bios) bio
      (omega (arith, trip.is_new)) trip.made

  -- only it descends from itself
  pub begun-alone : (number : ℕ) (other : Bio) → bio_of begun number ≡ Some other → descends begun
      (length begun.bios) number ≡ true → (number ≡ length begun.bios) × (other ≡ bio)
  begun-alone n b lives comes =
      search (rules, comes-from begun-fits _ n b lives comes, entry-within, Some-holds, trip.made)

  -- so if it is on a way, all are
  pub begun-travel : (way : DevNo → ℕ → Bool) → IsOnWay way bio
      → AllTravel begun (length begun.bios) bio.kind way
  begun-travel way on number other lives comes = grind (arith, nat_tests, begun-alone)

  -- what is owed are its own routes
  pub begun-owed : (x : DiskSector)
      → outstanding m begun x (length begun.bios) ≡ times x (routes m begun bio)
  begun-owed x =
      let first = length begun.bios in
      let itself : descends begun first first ≡ true = rw (eq-eqb first first refl) refl in
      sum_to-last (owes m begun x first) first (omega (arith, trip.is_new))
      (λ n less. owes-unless m begun x first n (λ other lives comes.
      absurd (omega (arith, less, (comes-from begun-fits first n other lives comes).up))))
      ∙ owes-lives m begun x first first bio trip.made ∙ ap (λ d. counted d
      (owed (is_flying bio.stage) (span_hits m begun x bio.kind bio.device bio.span))) itself
      ∙ ap (λ stage. owed (is_flying stage) (span_hits m begun x bio.kind bio.device bio.span))
      begun-made.enters ∙ sym (times-span m begun x bio)

module _ {S : Type 0} (m : Meaning S) (lawful : Lawful m) (c : Scenario S) (fine : Fine m c)
    (x : DiskSector) (kind : Kind) (sized : kind ≢ Flush) (way : DevNo → ℕ → Bool) where
  -- nothing is owed once the first is answered
  gone-owes : (first : ℕ) (end : State S) → Fits m c end → bio_of end first ≡ None
      → outstanding m end x first ≤ 0
  gone-owes first end fits gone =
      let ends = sum_to-ends (owes m end x first) 0 (length end.bios) (omega arith)
      (λ n some. owes-unless m end x first n (λ bio lives comes.
      None-not-Some (sym gone ∙ (comes-from fits first n bio lives comes).stands))) in
      omega (arith, ends)

  -- events touch no more than is owed before them; and where the lines on the way pass all, events
  -- until the first is answered touch all of it
  touches-owed : (first : ℕ) (events past : List Event) (s end : State S) → IsRun m c past s
      → first ≤ length s.bios → count_by is_control events ≡ 0 → Leads m c s events end
      → LeadsOn m s kind way → AllTravel s first kind way
      → (times x (touched m c (Next s) first events) ≤ outstanding m s x first)
      × (WayPasses m s kind way → bio_of end first ≡ None
      → outstanding m s x first ≤ times x (touched m c (Next s) first events))
  touches-owed first [] past s end run numbered quiet leads on_way travel = (
    omega arith,
    search (rules, gone-owes, all-runs-fit),
  )
  touches-owed first (event ∷ events) past s end run numbered quiet leads on_way travel =
      let next = leads.1 in
      let on : IsRun m c (past ++ event ∷ []) next =
      leads-more m c past (opening c) s event next run leads.0 leads.2 in
      let parts = quiet-parts event events quiet in
      let sound = run-sound m lawful c fine past s run in
      let same = event-image lawful sound.fits next event parts.0 leads.0 leads.2 in
      let owes = event-owes sound x numbered sized way on_way travel next
      (all-runs-fit m lawful c fine (past ++ event ∷ []) next on) event parts.0 leads.0 leads.2 in
      let rest = touches-owed first events (past ++ event ∷ []) next end on
      (omega (arith, numbered, owes.count)) parts.1 leads.3 (leads-stay m s next same kind way
      on_way) owes.travels in
      let both = times-append x (touched_by s first event)
      (touched m c (effect m c s event) first events) in
      let onward = ap (λ after. times x (touched m c after first events)) leads.2 in (
        omega (arith, owes.less, rest.0, onward, both),
        λ passes gone. omega (
          arith,
          owes.all passes,
          rest.1 (way-stays m s next same kind way passes) gone,
          onward,
          both,
        ),
      )

-- so an operation touches no more than its routes
pub operations-touch : {S : Type 0} (m : Meaning S) → Lawful m → TouchesRoutes m
operations-touch m lawful c fine log before s begun bio events end trip x =
    let touches = (touches-owed m lawful c fine x bio.kind trip.is_sized (λ device sector. true)
    (length begun.bios) events (before ++ Line log ∷ []) begun end (begun-run lawful fine trip)
    (le_refl (length begun.bios)) trip.quiet trip.leads
    (λ device sector line ref on held refers. refl)
    (begun-travel lawful fine trip (λ device sector. true) (λ place less. refl))).0 in
    omega (arith, touches, begun-owed lawful fine trip x)

-- and one on such a way just these
pub operations-touch-all : {S : Type 0} (m : Meaning S) → Lawful m → TouchesAllRoutes m
operations-touch-all m lawful c fine log before s begun bio events end trip way passes on gone x =
    let touches = touches-owed m lawful c fine x bio.kind trip.is_sized way (length begun.bios)
    events (before ++ Line log ∷ []) begun end (begun-run lawful fine trip)
    (le_refl (length begun.bios)) trip.quiet trip.leads passes.leads
    (begun-travel lawful fine trip way on) in
    omega (arith, touches.0, touches.1 passes gone, begun-owed lawful fine trip x)
