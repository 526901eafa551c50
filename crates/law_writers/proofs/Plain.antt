-- Where no target changes a byte, no run does.
use Rattle.lab_model.proofs.Common.{rules, ◌∷◌, [], AllByRecursion, Bio, effect, Kind, After}
use Rattle.lab_model.proofs.Common.{judgements, List, Meaning, Next, Option, opening, Scenario}
use Rattle.lab_model.proofs.Common.{State, Table, table_judged, Wrong, ℕ}
use Rattle.lab_model.specs.declared.event.Event.{Event}
use Rattle.lab_model.specs.declared.piece.Piece.{Piece}
use Rattle.std.proofs.lemmas.List.Elements.{All-from_recursion}
use Rattle.law_reads_recorded.specs.Recorded.{judged_with}
use Rattle.law_writers.specs.Unmarked.{ChangesNone, JudgedPlainly, NeverChanges, PlainFrom}
use Rattle.law_writers.specs.Unmarked.{RunsArePlain}

module _ {S : Type 0} (m : Meaning S) (never : NeverChanges m) where
  -- no piece that the lines of a table judge is changed
  judged-plain : (kind : Kind) (now : ℕ) (table : Table S) (pieces : List Piece)
      → AllByRecursion (λ k. ChangesNone k.verdict) (judgements m kind now table pieces)
  judged-plain kind now table [] = search rules
  judged-plain kind now table (piece ∷ more) =
      search (rules, judged-plain kind now (table_judged m kind now table piece) more)

  -- nor any of a bio, by the table that is there
  table-plain : (now : ℕ) (bio : Bio) (table : Option (Table S))
      → AllByRecursion (λ k. ChangesNone k.verdict) (judged_with m now bio table)
  table-plain now bio table = search (rules, judged-plain)

  -- so none of a bio is, if it lives and wherever it enters
  bio-plain : (s : State S) (found : Option Bio) → JudgedPlainly m s found
  bio-plain s found = search (rules, All-from_recursion, table-plain)

  -- so no event changes a byte, one after another
  all-plain : (c : Scenario S) (after : After S) (events : List Event) → PlainFrom m c after events
  all-plain c after [] = tt
  all-plain c (Wrong cause) (event ∷ events) = tt
  all-plain c (Next s) (event ∷ events) =
      (search (rules, bio-plain, event), all-plain c (effect m c s event) events)

-- so no run changes a byte
pub runs-are-plain : {S : Type 0} (m : Meaning S) → RunsArePlain m
runs-are-plain m never c events = all-plain m never c (Next (opening c)) events
