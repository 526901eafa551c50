-- Whom a living bio answers to is there, in each state that fits.
use Rattle.lab_model.proofs.Common.{ℕ, Meaning, Bio, Scenario, State}
use Rattle.lab_model.specs.declared.parent.Parent.{Parent}
use Rattle.lab_model.specs.declared.parent.Parent.TheVariants.{FromLog, FromBio}
use Rattle.law_never_wrong.specs.Fits.{Fits, FitsParent}
use Rattle.law_never_wrong.proofs.Done.{same-numbers}
use Rattle.law_needs_met.specs.NoDefault.{FindsParents, ParentWaits}

module _ {S : Type 0} (m : Meaning S) (c : Scenario S) (s : State S) (fits : Fits m c s) where
  -- a bio that fits its parent is waited for
  parent-waits : (number : ℕ) (bio : Bio) (parent : Parent) → FitsParent m c s number bio parent
      → ParentWaits c s number parent
  parent-waits number bio (FromLog log line action) fit =
      let there = same-numbers c.logs s.logs fits.logs log fit.plan fit.is_log in
      record { plan = fit.plan; log = there.0; is_plan = fit.is_log; is_log = there.1 }
  parent-waits number bio (FromBio parent piece) fit = record {
    above = fit.1.above;
    failed = fit.1.failed;
    answered = fit.1.answered;
    device = fit.0;
    slot = fit.1.slot;
    table = fit.1.table;
    line = fit.1.line;
    earlier = fit.1.earlier;
    lives = fit.1.lives;
    flies = fit.1.flies;
    at_device = fit.1.at_device;
    stands = fit.1.stands;
    is_live = fit.1.is_live;
    is_line = fit.1.is_line;
  }

  -- so is each living bio
  pub parents-wait : FindsParents c s
  parents-wait number bio lives =
      parent-waits number bio bio.parent (fits.bios number bio lives).parent
