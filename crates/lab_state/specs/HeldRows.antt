-- How many bios are held for each line of each device, once that is counted (dm-delay's status; the
-- rows are this project's own).
use Rattle.std.specs.Prelude.{◌≡◌, ℕ, ◌+◌, ◌-◌, ◌<◌, ◌^◌, cond, List, [], Option, Some, None, IfSome}
use Rattle.std.specs.Prelude.{get_or, length, option_and_then, slice_get}
use Rattle.std.specs.Option.{option_flatten}
use Rattle.lab_bios.specs.Origin.{state_with}
use Rattle.lab_model.specs.declared.parent.Parent.{Parent}
use Rattle.lab_model.specs.declared.parent.Parent.TheVariants.{FromBio}
use Rattle.lab_model.specs.Bios.{Bio, Stage, Held}
use Rattle.lab_model.specs.ControlEffect.{held_counts, is_change, is_flush, is_read}
use Rattle.lab_model.specs.Lists.{change, numbered}
use Rattle.lab_sector.specs.declared.request.Kind.{Kind}
use Rattle.lab_state.specs.declared.held_place.HeldPlace.{HeldPlace}
use Rattle.lab_target.specs.declared.verdict.Held.{Held as HeldCounts}

-- the counts of each line, by device
abbrev pub HeldRows : Type 0
HeldRows = List (List HeldCounts)

-- those of a line of a device, if they are kept
abbrev pub counts_at : HeldRows → ℕ → ℕ → Option HeldCounts
counts_at rows device line = slice_get (get_or rows device []) line

-- where a bio of a kind with this parent is counted at a stage: for a piece of which line of which
-- device it is held, if it is
abbrev pub place_at : Kind → Parent → Stage → Option HeldPlace
place_at kind (FromBio number piece) (Held due holder) =
    Some (record { device = holder; line = piece.line; kind = kind })
place_at kind _ _ = None

-- where a bio is counted, if it lives
abbrev pub living_place : Option Bio → Option HeldPlace
living_place bio = option_and_then (λ bio. place_at bio.kind bio.parent bio.stage) bio

-- where the bio of a number is counted
abbrev pub place_of : List (Option Bio) → ℕ → Option HeldPlace
place_of bios number = living_place (option_flatten (numbered bios number))

-- the counts with one more of a kind
abbrev pub with_kind : Kind → HeldCounts → HeldCounts
with_kind kind held = record {
  reads = held.reads + cond (is_read kind) 1 0;
  writes = held.writes + cond (is_change kind) 1 0;
  flushes = held.flushes + cond (is_flush kind) 1 0;
}

-- the counts with one less of a kind
abbrev pub without_kind : Kind → HeldCounts → HeldCounts
without_kind kind held = record {
  reads = held.reads - cond (is_read kind) 1 0;
  writes = held.writes - cond (is_change kind) 1 0;
  flushes = held.flushes - cond (is_flush kind) 1 0;
}

-- nothing is held
abbrev pub nothing : HeldCounts
nothing = record { reads = 0; writes = 0; flushes = 0 }

-- each count that is kept is none
abbrev pub AreEmpty : HeldRows → Type 0
AreEmpty rows = (device line : ℕ) → IfSome (counts_at rows device line) (λ held. held ≡ nothing)

-- the rows with f of the counts at a place, if one is given and they are kept
abbrev pub change_place : (Kind → HeldCounts → HeldCounts) → Option HeldPlace → HeldRows → HeldRows
change_place f None rows = rows
change_place f (Some place) rows =
    change rows place.device (λ row. change row place.line (f place.kind))

-- each of these counts can still be raised
pub record HasRoom (held : HeldCounts) : Type 0 where
  pub reads : held.reads + 1 < 2 ^ 64
  pub writes : held.writes + 1 < 2 ^ 64
  pub flushes : held.flushes + 1 < 2 ^ 64

-- each count that is kept can
abbrev pub HaveRoom : HeldRows → Type 0
HaveRoom rows = (device line : ℕ) → IfSome (counts_at rows device line) HasRoom

-- how many of these bios are held for a line of a device
abbrev pub held_among : List (Option Bio) → ℕ → ℕ → HeldCounts
held_among bios device line = held_counts (state_with bios) device line

-- each count that is kept is that
pub record AreHeldCounted (bios : List (Option Bio)) (rows : HeldRows) : Type 0 where
  pub each : (device line : ℕ)
      → IfSome (counts_at rows device line) (λ held. held ≡ held_among bios device line)

-- so many of these bios are held for each of so many lines of a device
pub record AreHeldAt (bios : List (Option Bio)) (device lines : ℕ) (counts : List HeldCounts)
    : Type 0 where
  pub len : length counts ≡ lines
  pub each : (line : ℕ) → line < lines
      → slice_get counts line ≡ Some (held_among bios device line)
