-- What stands at the end of an accepted script: disks whose numbers differ, and no more logs than
-- there are parts. After every run the disks have the numbers of the scenario's, the moment of a
-- log that hasn't started is 0, and no more devices were made than micro-commands are done.
use Rattle.lab_model.proofs.Common.{nat_tests, ◌≡◌, ◌≢◌, ℕ, ◌==◌, true, false, eqb, List, [], ◌∷◌}
use Rattle.lab_model.proofs.Common.{map, sym, ◌∙◌, arith, ◌≤◌, length, All, AllPairs, list_any}
use Rattle.lab_model.proofs.Common.{or_parts, false_from_ne_true, length-map, All-cons, Meaning}
use Rattle.lab_model.proofs.Common.{LogPlan, rules, subst, get_or-map, Lawful}
use Rattle.lab_model.specs.declared.plan.DiskPlan.{DiskPlan}
use Rattle.lab_model.proofs.Common.{IsRun, Scenario, State, LogState, Fine, map-map}
use Rattle.std.proofs.lemmas.Bool.{eq-eqb}
use Rattle.std.proofs.lemmas.List.{map_push}
use Rattle.std.proofs.lemmas.List.Quantifiers.{all_pairs_push}
use Rattle.lab_script.specs.Script.{ScriptRow}
use Rattle.lab_script.specs.Task.{Task, ram, replay}
use Rattle.lab_rulebook.specs.Parts.{Parts}
use Rattle.lab_rulebook.specs.Standing.{Standing, nothing}
use Rattle.lab_rulebook.specs.Walked.{standing_next}
use Rattle.lab_rulebook.proofs.ClearLemmas.{IsClear, standing_from}
use Rattle.lab_rulebook.proofs.FoundLemmas.{IsFree}
use Rattle.lab_model.specs.declared.event.Event.{Event}
use Rattle.lab_model.specs.Given.{NumbersDiffer}
use Rattle.law_slots.proofs.ByBio.{disk_numbers}
use Rattle.law_slots.proofs.AllOf.{AllOf}
use Rattle.law_needs_met.proofs.EventsLeave.{run-keeps, log_moments, each-leaves}
use Rattle.lab_model.specs.declared.rule.Rule.TheVariants as told

-- no two of some numbers are the same
abbrev pub Differ : List ℕ → Type 0
Differ numbers = AllPairs (λ a b. a ≢ b) numbers

-- where no test finds a number among what f makes of some items, it isn't among them
none-is : {X : Type 0} (f : X → ℕ) (n : ℕ) (xs : List X)
    → list_any (λ x. f x == n) xs ≡ false → All (λ a. a ≢ n) (map f xs)
none-is f n [] none = λ k d within. absurd (omega (arith, within))
none-is f n (x ∷ xs) none =
    let parts = or_parts (eqb (f x) n) (list_any (λ y. f y == n) xs) none in
    All-cons (λ a. a ≢ n) (f x) (map f xs)
    (λ same. let both : true ≡ false = sym (eq-eqb (f x) n same) ∙ parts.0 in cc)
    (none-is f n xs parts.1)

-- the numbers of declared disks
abbrev pub plan_numbers : List DiskPlan → List ℕ
plan_numbers disks = map (λ disk. disk.number) disks

module _ {S : Type 0} (m : Meaning S) (parts : Parts S) where
  -- disks and logs that stand so
  pub record AreRead (plans : List DiskPlan) (bound : List LogPlan) : Type 0 where
    pub disks : Differ (plan_numbers plans)
    pub logs : length bound ≤ length parts.logs

  -- what stands so
  abbrev pub StandsRead : Standing S → Type 0
  StandsRead s = AreRead s.disks s.logs

  -- each command that breaks no rule; so a disk that is declared has a number of its own
  after-stands : (s : Standing S) (task : Task) → IsFree m parts s task → StandsRead s
      → StandsRead (standing_next m parts s task)
  after-stands s (ram number size) free stands = record {
    disks = rw (map_push (λ (disk : DiskPlan). disk.number) s.disks
        (record { number = number; size = size }))
        (all_pairs_push (λ a b. a ≢ b) (plan_numbers s.disks) number stands.disks
        (none-is (λ (disk : DiskPlan). disk.number) number s.disks
        (false_from_ne_true (list_any (λ (disk : DiskPlan). disk.number == number) s.disks)
        (free told.V2))));
    logs = stands.logs;
  }
  after-stands s replay free stands = grind (arith, nat_tests, length-map)
  after-stands s _ free stands = stands

  -- nothing stands so
  pub nothing-stands : StandsRead nothing
  nothing-stands = grind (arith, nat_tests)

  -- command by command
  pub clear-stands : (rows : List ScriptRow) (s : Standing S) → IsClear m parts s rows
      → StandsRead s → StandsRead (standing_from m parts s rows)
  clear-stands [] s free stands = stands
  clear-stands (row ∷ rows) s free stands = search (rules, clear-stands rows, after-stands)

-- items of which f makes numbers that differ
differ-items : {X : Type 0} (f : X → ℕ) (xs : List X) → Differ (map f xs)
    → AllPairs (λ x y. f x ≢ f y) xs
differ-items f xs differ i j d before within =
    search (rules, differ i j (f d), length-map, get_or-map)

module _ {S : Type 0} (m : Meaning S) (c : Scenario S) where
  -- the disks have the scenario's numbers, no moment stands that hasn't been given, and no more
  -- devices were made than micro-commands are done
  pub record IsAsPlanned (s : State S) : Type 0 where
    pub numbers : disk_numbers s.disks ≡ plan_numbers c.disks
    pub moments : s.started ≡ false → AllOf (λ moment. moment ≡ 0) (log_moments s.logs)
    pub devices : length s.devices ≤ s.done

  -- the moments of logs are 0 where each is as one whose moment is
  opening-moments : (log : LogState) → log.moment ≡ 0 → (logs : List LogPlan)
      → AllOf (λ moment. moment ≡ 0) (log_moments (map (λ _. log) logs))
  opening-moments log none [] = tt
  opening-moments log none (_ ∷ logs) = (none, opening-moments log none logs)

  -- each event keeps all three, so each run does
  pub runs-as-planned : Lawful m → Fine m c → (events : List Event) (s : State S)
      → IsRun m c events s → IsAsPlanned s
  runs-as-planned lawful fine = run-keeps m lawful c IsAsPlanned _ (λ s _ _. each-leaves m c s)
      (search rules) fine (search (rules, map-map, opening-moments))

  -- where the planned numbers differ, no two disks have one number
  pub disks-differ : (s : State S) → IsAsPlanned s → Differ (plan_numbers c.disks)
      → NumbersDiffer s.disks
  disks-differ s is differ =
      differ-items (λ disk. disk.number) s.disks (subst Differ (sym is.numbers) differ)
