-- Words for what is noted in the examples' runs, and how it is computed.
use Rattle.std.specs.Prelude.{ℕ, true, List, [], ◌∷◌, ◌++◌, Option, Some, None, codes, fold}
use Rattle.std.specs.Prelude.{option_map}
use Rattle.lab_sector.specs.declared.device.DevNo.{DevNo}
use Rattle.lab_sector.specs.declared.span.Span.{Span}
use Rattle.lab_target.specs.Meaning.{Meaning}
use Rattle.lab_model.specs.declared.entry.Action.{Action}
use Rattle.lab_model.specs.declared.event.Event.{Event}
use Rattle.lab_model.specs.Effect.{effect, step_from}
use Rattle.lab_model.specs.Guard.{is_enabled}
use Rattle.lab_model.specs.Scenario.{Scenario}
use Rattle.lab_model.specs.State.{State, opening}
use Rattle.lab_next.specs.declared.writer.Writer.{Writer}
use Rattle.lab_findings.specs.declared.culprit.Culprit.{Culprit}
use Rattle.lab_findings.specs.declared.finding.Finding.{Finding}
use Rattle.lab_findings.specs.declared.found.Wrong.{Wrong}
use Rattle.lab_findings.specs.declared.noted.Noted.{Noted}
use Rattle.lab_findings.specs.declared.noted.Noted.TheVariants.{Found, Synced}
use Rattle.lab_findings.specs.declared.sought.Sought.{Sought}
use Rattle.lab_findings.specs.Searched.{noted_here, watch_next}
use Rattle.lab_findings.specs.Watched.{Watched, unwatched}

-- a run so far: its state, what is watched of it, and what was noted
pub record Seen (S : Type 0) : Type 0 where
  pub state : State S
  pub watched : Watched
  pub noted : List Noted

module _ {S : Type 0} (m : Meaning S) (c : Scenario S) where
  -- the run after one more event that leads to this state
  abbrev pub seen_at : Seen S → Event → State S → Seen S
  seen_at seen event next = record {
    state = next;
    watched = watch_next m seen.state next event seen.watched;
    noted = seen.noted ++ noted_here m seen.state event seen.watched;
  }

  -- the run after one more event, if that may come
  abbrev pub seen_next : Option (Seen S) → Event → Option (Seen S)
  seen_next None event = None
  seen_next (Some seen) event = option_map (seen_at seen event)
      (step_from m c (is_enabled c seen.state event) seen.state event (effect m c seen.state event))

  -- what is noted in a history, where this is asked for; nothing is if it leads nowhere
  abbrev pub noted_for : Sought → List Event → Option (List Noted)
  noted_for sought events = option_map (λ seen. seen.noted) (fold seen_next
      (Some (record { state = opening c; watched = unwatched sought; noted = [] })) events)

-- all findings are asked for
abbrev pub everything : Sought
everything = record {
  eio = true;
  lost = true;
  corrupt = true;
  stale = true;
  misplaced = true;
  broken_sync = true;
}

-- some sectors
abbrev pub sectors : ℕ → ℕ → Span
sectors first len = record { first = first; len = len }

-- so many wrong sectors, of which this is the first
abbrev pub wrong : ℕ → ℕ → Option Wrong
wrong first count = Some (record { first = first; count = count })

-- a line of a mapped device's table, a moody one
abbrev pub culprit : ℕ → ℕ → Culprit
culprit device line = record {
  device = device;
  line = line;
  target = codes "moody" ++ 0 ∷ 0 ∷ 0 ∷ [];
}

-- it did it
abbrev pub by : ℕ → ℕ → Option Culprit
by device line = Some (culprit device line)

-- a sector of the operation on a line of a log
abbrev pub sector_of : ℕ → ℕ → ℕ → Writer
sector_of log line sector = record { origin = record { log = log; line = line }; sector = sector }

-- what is wrong with the operation on a line of a log that is issued and answered at moment 0, where no
-- writer is told
abbrev pub found : Finding → ℕ → ℕ → Action → DevNo → Span → Option Wrong → Option Culprit → Noted
found finding log line action device span wrong culprit = Found (record {
  finding = finding;
  origin = record { log = log; line = line };
  action = action;
  device = device;
  span = span;
  issued = 0;
  answered = 0;
  wrong = wrong;
  culprit = culprit;
  got = None;
  wanted = None;
})

-- the same with the writer that was found and the one that was wanted
abbrev pub with_writers : Option Writer → Option Writer → Noted → Noted
with_writers got wanted (Found it) = Found (record it { got = got; wanted = wanted })
with_writers got wanted (Synced it) = Synced it

-- the same with the moments when it was issued and answered
abbrev pub timed : ℕ → ℕ → Noted → Noted
timed issued answered (Found it) = Found (record it { issued = issued; answered = answered })
timed issued answered (Synced it) = Synced it

-- a sync of a device on a line of log 1 was answered
abbrev pub synced : ℕ → DevNo → Noted
synced line device =
    Synced (record { origin = record { log = 1; line = line }; device = device })
