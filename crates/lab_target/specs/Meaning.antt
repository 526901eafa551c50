-- What a target is to everything above it: functions of its state, over any type of state.
-- A place is a sector counted in the target's line; words and texts are lists of bytes.
use Rattle.std.specs.Prelude.{ℕ, List, Bool, Option, Result}
use Rattle.lab_sector.specs.declared.device.DevNo.{DevNo}
use Rattle.lab_sector.specs.declared.request.Kind.{Kind}
use Rattle.lab_sector.specs.declared.span.Span.{Span}
use Rattle.lab_target.specs.declared.fault.TargetFault.{TargetFault}
use Rattle.lab_target.specs.declared.verdict.Held.{Held}
use Rattle.lab_target.specs.declared.verdict.Ref.{Ref}
use Rattle.lab_target.specs.declared.verdict.Verdict.{Verdict}

-- what no event changes of a target
pub record Shape (S : Type 0) : Type 0 where
  -- where bios of a kind go, if they go anywhere
  pub reference : Kind → Option Ref
  -- whether a piece of a kind may be held
  pub may_hold : Kind → Bool
  -- the number of the block that a place is in
  pub block : ℕ → ℕ
  -- whether the words are a message to it
  pub takes : List (List ℕ) → Bool
  -- the words that make it, from the type on
  pub printed : List ℕ
  -- the same target in its opening state
  pub opening : S

-- what words say of a target before its devices are known: the device words in order, and the
-- target
-- that devices make in their places
pub record Draft (S : Type 0) : Type 0 where
  pub devices : List (List ℕ)
  pub made : List DevNo → S

-- a type of target
pub record Meaning (S : Type 0) : Type 0 where
  -- what a line's words from the type on say, on a line of so many sectors
  pub parsed : List (List ℕ) → ℕ → Result (Draft S) TargetFault
  pub shape : S → Shape S
  -- whether its numbers are in the ranges that words allow
  pub is_sound : S → Bool
  -- after its table is loaded at a moment
  pub started : S → ℕ → S
  -- what becomes of a piece at a moment, and the target after that
  pub verdict : S → Kind → Span → ℕ → Verdict
  pub judged : S → Kind → Span → ℕ → S
  -- the reply to a message, and the target after it
  pub reply : S → List (List ℕ) → List ℕ
  pub messaged : S → List (List ℕ) → S
  -- the words of its status at a moment, from the type on, where so many of its pieces are held
  pub status : S → ℕ → Held → List ℕ
