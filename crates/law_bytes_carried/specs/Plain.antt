-- Lines that pass each piece as it is (dm-linear, dm-delay).
use Rattle.std.specs.Prelude.{◌≡◌, ℕ, ◌+◌, ◌-◌, Bool, true, Some}
use Rattle.lab_sector.specs.declared.device.DevNo.{DevNo}
use Rattle.lab_sector.specs.declared.device.DevNo.TheVariants.{Dm}
use Rattle.lab_sector.specs.declared.request.Kind.{Kind}
use Rattle.lab_sector.specs.declared.span.Span.{Span}
use Rattle.lab_target.specs.declared.verdict.Ref.{Ref}
use Rattle.lab_target.specs.declared.verdict.Verdict.{Verdict}
use Rattle.lab_target.specs.declared.verdict.Verdict.TheVariants.{Pass}
use Rattle.lab_target.specs.Laws.{IsPiece}
use Rattle.lab_target.specs.Meaning.{Meaning}
use Rattle.lab_model.specs.declared.table_line.TableLine.{TableLine}
use Rattle.lab_target.specs.Types.{no_marks}
use Rattle.lab_model.specs.State.{State}
use Rattle.law_sectors_touched.specs.AllRoutes.{HoldingLine}

-- a piece passes, at once or later, and no byte of it is changed
abbrev pub IsPlain : Verdict → Type 0
IsPlain (Pass device span hold marks) = marks ≡ no_marks
IsPlain verdict = ⊥

-- whatever becomes of a target, it passes each piece of a kind as it is
abbrev pub PassesPlainly : {S : Type 0} → Meaning S → Kind → S → Type 0
PassesPlainly {S} m kind t = (later : S) → m.shape later ≡ m.shape t → (piece : Span) (now : ℕ)
    → IsPiece kind piece → IsPlain (m.verdict later kind piece now)

-- all lines that hold a sector on a way pass each piece as it is, and the way leads on to the
-- sector that stands for it there
pub record WayIsPlain {S : Type 0} (m : Meaning S) (s : State S) (kind : Kind)
    (way : DevNo → ℕ → Bool) : Type 0 where
  pub leads : (device sector : ℕ) (line : TableLine S) (ref : Ref) → way (Dm device) sector ≡ true
      → HoldingLine s device sector line → (m.shape line.target).reference kind ≡ Some ref
      → way ref.dev (ref.first + (sector - line.start)) ≡ true
  pub plain : (device sector : ℕ) (line : TableLine S) → way (Dm device) sector ≡ true
      → HoldingLine s device sector line → PassesPlainly m kind line.target
