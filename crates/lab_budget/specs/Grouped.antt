-- The versions of a device by their sizes, so that those that don't have some sectors are passed by
-- at once (this project's own).
use Rattle.std.specs.Prelude.{◌≡◌, ℕ, ◌+◌, ◌<◌, ◌≤◌, false, List, Some, IfSome, filter, drop, slice_get}
use Rattle.lab_sector.specs.declared.request.Kind.{Kind}
use Rattle.lab_sector.specs.declared.span.Span.{Span}
use Rattle.lab_model.specs.MapEffect.{fits_table}
use Rattle.lab_model.specs.Tables.{Table, size_of}
use Rattle.lab_budget.specs.declared.size_row.SizeRow.{SizeRow}

-- no table from a place up to another has more sectors than this
abbrev pub HaveAtMost : {S : Type 0} → List (Table S) → ℕ → ℕ → ℕ → Type 0
HaveAtMost {S} tables from upto most = (place : ℕ) (table : Table S) → from ≤ place
    → place < upto → slice_get tables place ≡ Some table → size_of table ≤ most

-- each number is a place before which no table behind the number's own place has more sectors than
-- this
abbrev pub AreNext : {S : Type 0} → List (Table S) → ℕ → List ℕ → Type 0
AreNext tables size next = (place later : ℕ) → slice_get next place ≡ Some later
    → HaveAtMost tables (place + 1) later size

-- the row's places are of these tables
abbrev pub IsRowOf : {S : Type 0} → List (Table S) → SizeRow → Type 0
IsRowOf tables row = AreNext tables row.size row.next.items

-- the tables that have the sectors, from a place on
abbrev pub fitting_from : {S : Type 0} → Kind → Span → List (Table S) → ℕ → List (Table S)
fitting_from kind span tables place = filter (λ table. fits_table table kind span) (drop place tables)

-- none of the tables from a place up to another has the sectors
abbrev pub NoneFits : {S : Type 0} → Kind → Span → List (Table S) → ℕ → ℕ → Type 0
NoneFits kind span tables from upto = (place : ℕ) → from ≤ place → place < upto
    → IfSome (slice_get tables place) (λ table. fits_table table kind span ≡ false)
