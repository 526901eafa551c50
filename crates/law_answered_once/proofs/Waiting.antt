-- What each event does to bios and logs, all that the laws of answers need of it. The operations of
-- a log that wait for their answer, by the bios that live.
use Rattle.lab_model.proofs.Common.{◌≡◌, ℕ, cond, nat_eq, List, [], ◌∷◌, ◌++◌, Option, Some, None}
use Rattle.lab_model.proofs.Common.{map, filter_map, ◌⊎◌, option_map, Told, answered, Bio}
use Rattle.lab_model.specs.declared.parent.Parent.{Parent}
use Rattle.lab_model.proofs.Common.{starting, change_numbered, next_line}
use Rattle.lab_model.specs.declared.parent.Parent.TheVariants.{FromLog, FromBio}
use Rattle.lab_model.proofs.Common.{Scenario, State, LogState, bio_of, rules, zero, suc, ◌≤◌, Bool}
use Rattle.lab_model.proofs.Common.{true, false, length, refl, ap, ◌∙◌, arith, cons_option}
use Rattle.lab_model.proofs.Common.{list_any, filter_map-append, is_busy, is_log, numbered}
use Rattle.lab_model.proofs.Common.{Some-holds, nil_from_length}
use Rattle.lab_model.specs.declared.event.Event.{Event}
use Rattle.lab_model.specs.declared.event.Event.TheVariants.{Line, Map, Serve, Release, Finish}
use Rattle.lab_model.specs.declared.event.Event.TheVariants.{Control, Clock}
use Rattle.law_slots.proofs.ByLine.{Comes}
use Rattle.law_answered_once.specs.LineOrder.{Operation, operations}

-- the operation that a parent is, if it is one of this log
abbrev pub operation_for : ℕ → Parent → Option Operation
operation_for log (FromLog number line action) =
    cond (nat_eq log number) (Some (record { line = line; action = action })) None
operation_for log (FromBio number piece) = None

-- the operations of a log that some bios were made for
abbrev pub operations_for : ℕ → List Bio → List Operation
operations_for log bios = filter_map (λ bio. operation_for log bio.parent) bios

-- bios and logs stay
pub record Rests {S : Type 0} (s next : State S) : Type 0 where
  pub bios : next.bios ≡ s.bios
  pub logs : next.logs ≡ s.logs

-- bios stay, and each log starts
pub record Restarts {S : Type 0} (s next : State S) : Type 0 where
  pub bios : next.bios ≡ s.bios
  pub logs : next.logs ≡ map (starting s.clock) s.logs

-- one bio changes and keeps its parent, and children of bios are made
pub record GoesOn {S : Type 0} (s : State S) (at : ℕ) (next : State S) : Type 0 where
  pub f : Bio → Bio
  pub keeps : (bio : Bio) → (f bio).parent ≡ bio.parent
  pub made : List Bio
  pub made_operations : (log : ℕ) → operations_for log made ≡ []
  pub bios : next.bios ≡ change_numbered s.bios at (option_map f) ++ map (λ bio. Some bio) made
  pub logs : next.logs ≡ s.logs

-- a living bio is answered
pub record IsAnswered {S : Type 0} (s : State S) (at : ℕ) (next : State S) : Type 0 where
  pub bio : Bio
  pub lives : bio_of s at ≡ Some bio
  pub told : Told
  pub bios : next.bios ≡ (answered s at bio told).bios
  pub logs : next.logs ≡ (answered s at bio told).logs

-- a log takes its line, and a bio is made for an operation
pub record TakesLine {S : Type 0} (c : Scenario S) (s : State S) (at : ℕ)
    (next : State S) : Type 0 where
  pub from : Comes c s at
  pub f : LogState → LogState
  pub keeps_taken : (l : LogState) → (f l).taken ≡ l.taken
  pub keeps_answers : (l : LogState) → (f l).answers ≡ l.answers
  pub made : List Bio
  pub made_operations : (log : ℕ)
      → operations_for log made ≡ cond (nat_eq log at) (operations (from.line ∷ [])) []
  pub bios : next.bios ≡ s.bios ++ map (λ bio. Some bio) made
  pub logs : next.logs ≡ change_numbered s.logs at (λ l. f (next_line l))

-- what an event does
abbrev pub Moves : {S : Type 0} → Scenario S → State S → Event → State S → Type 0
Moves c s (Line log) next = TakesLine c s log next
Moves c s (Map number) next = GoesOn s number next
Moves c s (Serve number) next = IsAnswered s number next
Moves c s (Release number) next = GoesOn s number next
Moves c s (Finish number) next = IsAnswered s number next
Moves c s Control next = Rests s next ⊎ Restarts s next
Moves c s Clock next = Rests s next

-- the operation of a log that an entry's bio was made for
abbrev pub entry_operation : ℕ → Option Bio → Option Operation
entry_operation log None = None
entry_operation log (Some bio) = operation_for log bio.parent

-- the operations of a log that wait
abbrev pub waiting : ℕ → List (Option Bio) → List Operation
waiting log bios = filter_map (entry_operation log) bios

-- bios that are made wait after those before
pub waiting-append : (log : ℕ) (bios : List (Option Bio)) (made : List Bio)
    → waiting log (bios ++ map (λ bio. Some bio) made)
    ≡ waiting log bios ++ operations_for log made
waiting-append log bios made =
    filter_map-append (entry_operation log) bios (map (λ bio. Some bio) made)
    ∙ ap (λ l. waiting log bios ++ l) (made_alone made)
  where
    made_alone : (made : List Bio)
        → waiting log (map (λ bio. Some bio) made) ≡ operations_for log made
    made_alone [] = refl
    made_alone (bio ∷ made) = ap (cons_option (operation_for log bio.parent)) (made_alone made)

-- a bio that keeps its parent waits for it as before, and so do all others
pub waiting-change : (log : ℕ) (f : Bio → Bio) → ((bio : Bio) → (f bio).parent ≡ bio.parent)
    → (bios : List (Option Bio)) (at : ℕ)
    → waiting log (change_numbered bios at (option_map f)) ≡ waiting log bios
waiting-change log f keeps (entry ∷ bios) (suc (suc place)) =
    ap (cons_option (entry_operation log entry)) (waiting-change log f keeps bios (suc place))
waiting-change log f keeps (Some bio ∷ bios) (suc zero) = rw (keeps bio)
waiting-change log f keeps (None ∷ bios) (suc zero) = refl
waiting-change log f keeps [] zero = refl
waiting-change log f keeps _ _ = refl

-- where a bio that wasn't made for the log is taken out, the log's operations wait as before
pub waiting-others : (log : ℕ) (bios : List (Option Bio)) (at : ℕ) (bio : Bio)
    → numbered bios at ≡ Some (Some bio) → operation_for log bio.parent ≡ None
    → waiting log (change_numbered bios at (λ entry. None)) ≡ waiting log bios
waiting-others log bios zero bio there other = search rules
waiting-others log [] (suc place) bio there other = search rules
waiting-others log (entry ∷ bios) (suc zero) bio there other = search rules
waiting-others log (entry ∷ bios) (suc (suc place)) bio there other =
    search (rules, waiting-others log bios (suc place) bio there other)

-- only this operation waited, and none does once its bio is taken out
pub record WasOnly (log : ℕ) (bios : List (Option Bio)) (at : ℕ)
    (operation : Operation) : Type 0 where
  pub before : waiting log bios ≡ operation ∷ []
  pub after : waiting log (change_numbered bios at (λ entry. None)) ≡ []

-- where at most one waits and one waits behind an entry, none waits for the entry
only_behind : {X : Type 0} (o : Option X) (xs after : List X) (x : X)
    → (length xs ≤ 1 → (xs ≡ x ∷ []) × (after ≡ [])) → length (cons_option o xs) ≤ 1
    → (cons_option o xs ≡ x ∷ []) × (cons_option o after ≡ [])
only_behind o xs after x behind most = search rules

-- where at most one operation waits, the one whose bio lives is it
pub waiting-only : (log : ℕ) (bios : List (Option Bio)) (at : ℕ) (bio : Bio)
    (operation : Operation)
    → numbered bios at ≡ Some (Some bio) → operation_for log bio.parent ≡ Some operation
    → length (waiting log bios) ≤ 1 → WasOnly log bios at operation
waiting-only log bios zero bio operation there own most = cc
waiting-only log [] (suc place) bio operation there own most = cc
waiting-only log (entry ∷ bios) (suc zero) bio operation there own most =
    let is : entry_operation log entry ≡ Some operation =
    ap (entry_operation log) (Some-holds there) ∙ own in
    let rest = nil_from_length (waiting log bios) (omega (arith, rw is at most)) in
    record { before = rw is (rw rest refl); after = rest }
waiting-only log (entry ∷ bios) (suc (suc place)) bio operation there own most =
    let only = only_behind (entry_operation log entry) (waiting log bios) _ operation (λ few.
    let rest = waiting-only log bios (suc place) bio operation there own few in
    (rest.before, rest.after)) most in
    record { before = only.0; after = only.1 }

-- whether a list has an item
abbrev pub has_item : {X : Type 0} → List X → Bool
has_item [] = false
has_item (x ∷ xs) = true

-- an operation of a log waits exactly where a bio that was made for it lives
pub waiting-busy : {S : Type 0} (s : State S) (log : ℕ)
    → is_busy s log ≡ has_item (waiting log s.bios)
waiting-busy s log = by_bios s.bios
  where
    by_bios : (bios : List (Option Bio))
        → list_any (λ bio. is_log log bio.parent) (filter_map (λ entry. entry) bios)
        ≡ has_item (waiting log bios)
    by_bios [] = refl
    by_bios (None ∷ bios) = by_bios bios
    by_bios (Some bio ∷ bios) = rw (by_bios bios) (search rules)

-- no operation of a log waits for which no bio lives
pub waiting-free : {S : Type 0} (s : State S) (log : ℕ) → is_busy s log ≡ false
    → waiting log s.bios ≡ []
waiting-free s log free = search (rules, waiting-busy)
