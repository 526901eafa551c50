-- Targets that take the dearest course of each piece: on to where they refer to, held where they
-- may hold (this project's own).
use Rattle.std.specs.Prelude.{◌≡◌, ℕ, ◌≤◌, true, is_some, length, nat_lt, None, Some, slice_get}
use Rattle.lab_sector.specs.declared.request.Kind.{Kind}
use Rattle.lab_sector.specs.declared.span.Span.{Span}
use Rattle.lab_target.specs.declared.verdict.Verdict.{Verdict}
use Rattle.lab_target.specs.declared.verdict.Verdict.TheVariants.{Pass}
use Rattle.lab_target.specs.Laws.{IsPiece}
use Rattle.lab_target.specs.Meaning.{Meaning, Shape}
use Rattle.lab_model.specs.declared.table_line.TableLine.{TableLine}
use Rattle.lab_model.specs.Scenario.{Scenario, version_of, versions_of}
use Rattle.lab_model.specs.Tables.{Table}

-- a piece passes where there is a reference, and is held exactly where it may be; where there is
-- none it doesn't pass
abbrev pub IsDearest : {S : Type 0} → Shape S → Kind → Verdict → Type 0
IsDearest shape kind (Pass device span hold marks) =
    (is_some (shape.reference kind) ≡ true) × (nat_lt 0 hold ≡ shape.may_hold kind)
IsDearest shape kind verdict = shape.reference kind ≡ None

-- whatever becomes of a target, it takes the dearest course of each piece
abbrev pub PassesAll : {S : Type 0} → Meaning S → S → Type 0
PassesAll {S} m t = (later : S) → m.shape later ≡ m.shape t
    → (kind : Kind) (piece : Span) (now : ℕ) → IsPiece kind piece
    → IsDearest (m.shape later) kind (m.verdict later kind piece now)

-- all targets of a type do
abbrev pub TypePassesAll : {S : Type 0} → Meaning S → Type 0
TypePassesAll {S} m = (t : S) → PassesAll m t

-- all targets that are ever loaded do
abbrev pub TablesPassAll : {S : Type 0} → Meaning S → Scenario S → Type 0
TablesPassAll {S} m c =
    (device version : ℕ) (table : Table S) (number : ℕ) (line : TableLine S)
    → version_of c device version ≡ Some table → slice_get table number ≡ Some line
    → PassesAll m line.target

-- no device has more than one version
abbrev pub HasOneVersion : {S : Type 0} → Scenario S → Type 0
HasOneVersion c = (device : ℕ) → length (versions_of c.versions device) ≤ 1
