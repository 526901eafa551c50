-- The test of the rule on suspends decides it. The tests of the rules on tables decide those rules.
use Rattle.lab_model.proofs.Common.{rules, ◌≡◌, ℕ, Bool, Some, Meaning, ◌+◌, Option, None}
use Rattle.lab_model.proofs.Common.{slice_get, Decides-like, Kind, Ref, kinds, Table, In-kinds}
use Rattle.lab_model.proofs.Common.{member-place, Reaches, size_at}
use Rattle.std.proofs.Common.{Decides}
use Rattle.lab_script.specs.Task.{Task}
use Rattle.lab_rulebook.specs.Parts.{Parts}
use Rattle.lab_rulebook.specs.Standing.{Standing as Stands, Standing, table_meant}
use Rattle.lab_model.specs.declared.rule.Rule.TheVariants.{V6, V4, V5}
use Rattle.lab_rulebook.specs.ScriptRules.{Breaks, SuspendedBelow, ReachesPast}
use Rattle.lab_rule_checks.specs.Suspends.{suspended_by}
use Rattle.lab_model.specs.declared.table_line.TableLine.{TableLine}
use Rattle.lab_standing.proofs.LinkRows.{any-Decides}
use Rattle.lab_rule_checks.specs.Reach.{is_past, line_is_past, table_is_past}

module _ {S : Type 0} (m : Meaning S) (parts : Parts S) (s : Stands S) where
  -- where a command suspends a device, what lies below it decides
  pub v6-some : (task : Task) (device : ℕ) (told : Bool) → suspended_by s task ≡ Some device
      → Decides told (SuspendedBelow m parts s device) → Decides told (Breaks m parts s task V6)
  v6-some task device told is below = search rules

module _ {S : Type 0} (m : Meaning S) (parts : Parts S) (s : Standing S) where
  -- a reference doesn't end inside its device
  abbrev pub PastEnd : ℕ → Ref → Type 0
  PastEnd len ref = Reaches (size_at s.disks s.devices ref.dev) (ref.first + len) → ⊥

  -- a reference is there, and goes past its device
  abbrev pub Past : ℕ → Option Ref → Type 0
  Past len reference = (ref : Ref) × (reference ≡ Some ref) × PastEnd len ref

  past-Decides : (len : ℕ) (reference : Option Ref)
      → Decides (is_past s len reference) (Past len reference)
  past-Decides len = search rules

  -- a reference of a line, for some kind, goes past its device
  abbrev pub LinePast : TableLine S → Type 0
  LinePast line = (place : ℕ) × (kind : Kind) × (slice_get kinds place ≡ Some kind)
      × Past line.len ((m.shape line.target).reference kind)

  line-Decides : (line : TableLine S) → Decides (line_is_past m s line) (LinePast line)
  line-Decides line = search (rules, any-Decides, past-Decides)

  -- the test of V4
  pub past_end-Decides : (table : Table S)
      → Decides (table_is_past m s table) (ReachesPast m parts s table)
  past_end-Decides table = Decides-like (table_is_past m s table)
      (λ f. (f.0, f.1, f.3.1, f.3.3.0, f.2, f.3.3.1, f.3.3.2))
      (λ (number, line, kind, ref, is_line, refers, past).
      let (place, is_kind) = member-place kind kinds (In-kinds kind) in
      (number, line, is_line, (place, kind, is_kind, (ref, refers, past))))
      (any-Decides (line_is_past m s) LinePast line-Decides table)

  -- the table that a command means decides V4
  pub v4-Decides : (task : Task) (table : Table S) (past : Bool)
      → table_meant parts s task ≡ Some table → Decides past (ReachesPast m parts s table)
      → Decides past (Breaks m parts s task V4)
  v4-Decides task table past is d = rw is d

  -- a command that means no table breaks neither V4 nor V5
  pub v4-none : (task : Task) → table_meant parts s task ≡ None → Breaks m parts s task V4 → ⊥
  v4-none task is broken = rw is at broken

  pub v5-none : (task : Task) → table_meant parts s task ≡ None → Breaks m parts s task V5 → ⊥
  v5-none task is broken = search rules
