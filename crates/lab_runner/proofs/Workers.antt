-- The first event of a worker among those that may come: it may come, and belongs to the worker.
-- Workers: which there are, which are the same, and that each has a place of its own.
use Rattle.lab_model.proofs.Common.{◌≡◌, Bool, true, List, [], ◌∷◌, Some, filter, arith, is_enabled}
use Rattle.lab_model.proofs.Common.{enabled_events, owner_of, Scenario, State, rules, ℕ, zero, suc}
use Rattle.lab_model.proofs.Common.{◌+◌, ◌<◌, ◌≤◌, false, Option, None, length, true≢false}
use Rattle.lab_model.proofs.Common.{slice_get_within, numbered, LogPlan, LogState}
use Rattle.lab_model.specs.Order.{all_events}
use Rattle.lab_model.specs.declared.event.Event.{Event}
use Rattle.lab_model.specs.declared.event.Who.{Who}
use Rattle.std.proofs.Common.{find}
use Rattle.lab_next.specs.Over.{is_same, has_ended, is_over}
use Rattle.lab_runner.specs.Counts.{IsWorker, place_of}

-- an item that is found passes the test
found-passes : {X : Type 0} (test : X → Bool) (xs : List X) (x : X) → find test xs ≡ Some x
    → test x ≡ true
found-passes test [] x found = cc
found-passes test (y ∷ ys) x found = grind (arith, found-passes test ys x)

-- one that is found among those that a filter keeps is kept
found-kept : {X : Type 0} (test keeps : X → Bool) (xs : List X) (x : X)
    → find test (filter keeps xs) ≡ Some x → keeps x ≡ true
found-kept test keeps [] x found = cc
found-kept test keeps (y ∷ ys) x found = grind (arith, found-kept test keeps ys x)

module _ {S : Type 0} (c : Scenario S) (s : State S) (who : Who) (event : Event)
    (found : find (λ e. is_same (owner_of s e) who) (enabled_events c s) ≡ Some event) where
  -- it may come
  pub next-may : is_enabled c s event ≡ true
  next-may = found-kept (λ e. is_same (owner_of s e) who) (is_enabled c s) (all_events c s) event found

  -- and belongs to the worker
  pub next-owned : is_same (owner_of s event) who ≡ true
  next-owned = found-passes (λ e. is_same (owner_of s e) who) (enabled_events c s) event found

-- those that are the same are one
pub same-is : (one other : Who) → is_same one other ≡ true → one ≡ other
same-is one other same = search rules

-- those of one place are one
pub place-tells : (logs : ℕ) (one other : Who) → IsWorker logs one → IsWorker logs other
    → place_of logs one ≡ place_of logs other → one ≡ other
place-tells logs one other there also same = search rules

-- each place is one of the counts
pub place-inside : (logs : ℕ) (who : Who) → IsWorker logs who → place_of logs who < logs + 2
place-inside logs who there = grind arith

-- a log that hasn't ended is one of the logs
unended-there : {S : Type 0} (s : State S) (logs : List LogPlan) (log : ℕ)
    (plan : Option LogPlan) (state : Option LogState) → numbered logs log ≡ plan
    → has_ended s log plan state ≡ false → (0 < log) × (log ≤ length logs)
unended-there s logs log None state is over = absurd (true≢false over)
unended-there s logs zero (Some plan) state is over = cc
unended-there s logs (suc place) (Some plan) state is over =
    let inside = slice_get_within logs place plan is in (omega arith, omega arith)

-- who has something left is a worker
pub unended-is-worker : {S : Type 0} (c : Scenario S) (s : State S) (who : Who)
    → is_over c s who ≡ false → IsWorker (length c.logs) who
unended-is-worker c s who over = search (rules, unended-there)
