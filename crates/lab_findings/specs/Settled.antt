-- What is watched once an operation is answered (this project's own).
use Rattle.std.specs.Prelude.{ℕ, length, List, [], ◌∷◌, Option, Some, None, Bool, false, nat_lt}
use Rattle.std.specs.Prelude.{if◌then◌else◌, is_some, option_map}
use Rattle.lab_sector.specs.declared.request.Kind.{Kind}
use Rattle.lab_sector.specs.declared.request.Kind.TheVariants.{Read, Flush}
use Rattle.lab_sector.specs.declared.span.Span.{Span}
use Rattle.lab_model.specs.Bios.{Bio}
use Rattle.lab_model.specs.declared.event.Event.{Event}
use Rattle.lab_model.specs.State.{State, bio_of}
use Rattle.lab_next.specs.declared.origin.Origin.{Origin}
use Rattle.lab_next.specs.declared.writer.Writer.{Writer}
use Rattle.lab_next.specs.Answering.{kind_answered, number_answered, origin_answered}
use Rattle.lab_watch.specs.Grids.{cleared, next, with_writers_from, writers_in}
use Rattle.lab_watch.specs.Settled.{settled}
use Rattle.lab_findings.specs.declared.deed.Deed.{Deed}
use Rattle.lab_findings.specs.Deeds.{Deeds, deed_of, with_deed}
use Rattle.lab_findings.specs.Judged.{written_hits}
use Rattle.lab_findings.specs.Watched.{Watched, device_reach, grid_number, keeps_claims}
use Rattle.lab_findings.specs.Wrongs.{wrong_from}

-- whether an operation that is known so was issued after the bio of a number was made
abbrev pub issued_after : ℕ → Option Deed → Bool
issued_after number None = false
issued_after number (Some deed) = nat_lt number deed.bio

-- which of two operations was issued last: this one, by the bio of a number, or what stood there
abbrev pub newer : Deeds → ℕ → Writer → Option Writer → Writer
newer deeds number writer None = writer
newer deeds number writer (Some other) =
    if issued_after number (deed_of deeds other.origin) then other else writer

-- the newest at a sector once the bio of a number is answered: it itself, where it claims the sector and
-- none was issued after it, else what stood there
abbrev pub newer_if : Deeds → ℕ → Option Writer → Option Writer → Option Writer
newer_if deeds number None other = other
newer_if deeds number (Some writer) other = Some (newer deeds number writer other)

-- at each of some sectors, with these claims, where these stood there
abbrev pub all_newer : Deeds → ℕ → List (Option Writer) → List (Option Writer)
    → List (Option Writer)
all_newer deeds number [] others = []
all_newer deeds number (claim ∷ claims) [] = []
all_newer deeds number (claim ∷ claims) (other ∷ others) =
    newer_if deeds number claim other ∷ all_newer deeds number claims others

-- the sectors that an operation claims, from this one on: all but those that are void
abbrev pub claims_over : Writer → List (Option Writer) → List (Option Writer)
claims_over writer [] = []
claims_over writer (void ∷ voids) =
    (if is_some void then None else Some writer) ∷ claims_over (next writer) voids

-- what the operation of a number lost at these sectors of a device stands lost, and nothing else there
abbrev pub lapsed_by : Watched → ℕ → ℕ → Span → Watched
lapsed_by watched number device span = record watched {
  lapses = with_writers_from watched.lapses device span.first
      (writers_in watched.writers.drops number 0 span.len);
}

-- the newest at these sectors of a device once an operation there is answered without failure
abbrev pub risen : Watched → ℕ → Origin → ℕ → Span → List (Option Writer)
risen watched number origin device span = all_newer watched.deeds number
    (claims_over (record { origin = origin; sector = 0 })
    (writers_in watched.voids number 0 span.len))
    (writers_in watched.newest device span.first span.len)

-- an operation at these sectors of a device is the newest, where it claims to be
abbrev pub raised_on : Watched → ℕ → Origin → ℕ → Span → Watched
raised_on watched number origin device span = record watched {
  newest = with_writers_from watched.newest device span.first
      (risen watched number origin device span);
}

-- a write or trim is answered without failure: it is the newest where it claims to be, and what it lost
-- stands lost
abbrev pub raised_by : Watched → ℕ → Origin → Bio → Watched
raised_by watched number origin bio =
    lapsed_by (raised_on watched number origin (grid_number bio.device) bio.span) number
    (grid_number bio.device) bio.span

-- where claims are needed, and it hasn't failed
abbrev pub raised_if : Watched → ℕ → Origin → Bio → Option Kind → Watched
raised_if watched number origin bio None = watched
raised_if watched number origin bio (Some kind) =
    if keeps_claims watched.sought then raised_by watched number origin bio else watched

-- the first lost sector of a write or trim, counted from its first, where it hasn't failed
abbrev pub first_lost : Watched → ℕ → ℕ → Option Kind → Option ℕ
first_lost watched number count None = None
first_lost watched number count (Some kind) = option_map (λ wrong. wrong.first)
    (wrong_from 0 (written_hits (writers_in watched.writers.drops number 0 count)))

-- what is known of an operation once it is answered, if it was known
abbrev pub closed_deed : Deeds → Origin → ℕ → Option ℕ → Option Deed → Deeds
closed_deed deeds origin made lost None = deeds
closed_deed deeds origin made lost (Some deed) =
    with_deed deeds origin (record deed { made = Some made; lost = lost })

-- it is put down that an operation is answered once so many bios are made
abbrev pub put_down : Watched → ℕ → ℕ → Origin → ℕ → Option Kind → Watched
put_down watched number count origin made kind = record watched {
  deeds = closed_deed watched.deeds origin made (first_lost watched number count kind)
      (deed_of watched.deeds origin);
}

-- nothing is claimed any more by the operation of a number, of so many sectors
abbrev pub unclaimed : Watched → ℕ → ℕ → Watched
unclaimed watched number count = if keeps_claims watched.sought
    then record watched { claims = cleared watched.claims number 0 count } else watched

-- a write or trim is answered
abbrev pub overwritten : Watched → ℕ → Origin → Bio → Option Kind → ℕ → Watched
overwritten watched number origin bio kind made =
    put_down (raised_if watched number origin bio kind) number bio.span.len origin made kind

-- an operation is answered, by the kind of its bio
abbrev pub closed_by : Watched → ℕ → Origin → Bio → Kind → Option Kind → ℕ → Watched
closed_by watched number origin bio Read kind made = unclaimed watched number bio.span.len
closed_by watched number origin bio Flush kind made = unclaimed watched number device_reach
closed_by watched number origin bio _ kind made =
    overwritten watched number origin bio kind made

-- the event answers an operation of a log, if it answers one by a living bio
abbrev pub closed : {S : Type 0} → State S → Event → Watched → ℕ → Option Origin → Option Bio
    → Watched
closed s event watched number (Some origin) (Some bio) =
    closed_by watched number origin bio bio.kind (kind_answered s event) (length s.bios)
closed s event watched number origin bio = watched

-- once an event's bio is answered, in the state in which the event comes
abbrev pub watch_settled : {S : Type 0} → State S → Event → Watched → Watched
watch_settled s event watched =
    settle (closed s event watched (number_answered event) (origin_answered s event)
    (bio_of s (number_answered event))) where
      settle : Watched → Watched
      settle known = record known { writers = settled s event known.writers }
