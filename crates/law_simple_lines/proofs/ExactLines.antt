-- Linear, zero, error and delay targets take the dearest course. Linear, zero, error and delay
-- targets take the dearest course among targets of any type, too, where no target of another type
-- has their shape.
use Rattle.std.proofs.Common.{◌≡◌, ℕ, zero, suc, ◌*◌, nat_lt, refl, sym, ◌∙◌, arith, ap}
use Rattle.std.proofs.lemmas.Bool.{lt-ltb}
use Rattle.lab_sector.specs.declared.request.Kind.TheVariants.{Read, Write, Trim, Flush}
use Rattle.lab_simple.specs.ErrorTarget.{error_target}
use Rattle.lab_simple.specs.Linear.{linear}
use Rattle.lab_simple.specs.Zero.{zero_target}
use Rattle.lab_delay.specs.Delay.{delay_target, group_for}
use Rattle.law_within_budget.specs.PassesAll.{TypePassesAll, IsDearest}
use Rattle.lab_sector.specs.declared.request.Kind.{Kind}
use Rattle.lab_sector.specs.declared.span.Span.{Span}
use Rattle.lab_target.specs.Laws.{IsPiece}
use Rattle.lab_any.specs.declared.any_target.AnyTarget.{AnyTarget}
use Rattle.lab_any.specs.Any.{acts_of, any_meaning}
use Rattle.law_simple_lines.specs.ExactLines.{ExactAmongAny, IsExactType}
use Rattle.lab_any.specs.declared.any_target.AnyTarget.TheVariants as any

-- a linear target passes all, and holds nothing
pub linear-passes : TypePassesAll linear
linear-passes t later alike kind piece now is = (refl, refl)

-- a zero target refers to nothing, and passes nothing
pub zero-passes : TypePassesAll zero_target
zero-passes t later alike Read piece now is = refl
zero-passes t later alike Write piece now is = refl
zero-passes t later alike Trim piece now is = refl
zero-passes t later alike Flush piece now is = refl

-- nor does an error target
pub error-passes : TypePassesAll error_target
error-passes t later alike kind piece now is = refl

-- a delay is above 0 in microseconds exactly if it is in milliseconds
delay-held : (delay : ℕ) → nat_lt 0 (1000 * delay) ≡ nat_lt 0 delay
delay-held zero = refl
delay-held (suc delay) =
    lt-ltb 0 (1000 * suc delay) (omega arith) ∙ sym (lt-ltb 0 (suc delay) (omega arith))

-- a delay target passes all, and holds where its group has a delay
pub delay-passes : TypePassesAll delay_target
delay-passes t later alike kind piece now is = (refl, delay-held (group_for later kind).delay)

-- targets of one shape have one opening state
opening-same : (later t : AnyTarget) → (acts_of later).shape ≡ (acts_of t).shape
    → (acts_of later).shape.opening ≡ (acts_of t).shape.opening
opening-same later t same = ap (λ shape. shape.opening) same

-- so what has the shape of one of the four types is of one of them
same-exact : (t later : AnyTarget) → IsExactType t → (acts_of later).shape ≡ (acts_of t).shape
    → IsExactType later
same-exact t (any.Linear u) is same = tt
same-exact t (any.Zero u) is same = tt
same-exact t (any.Error u) is same = tt
same-exact t (any.Delay u) is same = tt
same-exact (any.Linear t) (any.Flakey u) is same =
    let no = opening-same (any.Flakey u) (any.Linear t) same in cc
same-exact (any.Zero t) (any.Flakey u) is same =
    let no = opening-same (any.Flakey u) (any.Zero t) same in cc
same-exact (any.Error t) (any.Flakey u) is same =
    let no = opening-same (any.Flakey u) (any.Error t) same in cc
same-exact (any.Delay t) (any.Flakey u) is same =
    let no = opening-same (any.Flakey u) (any.Delay t) same in cc
same-exact (any.Linear t) (any.Dust u) is same =
    let no = opening-same (any.Dust u) (any.Linear t) same in cc
same-exact (any.Zero t) (any.Dust u) is same =
    let no = opening-same (any.Dust u) (any.Zero t) same in cc
same-exact (any.Error t) (any.Dust u) is same =
    let no = opening-same (any.Dust u) (any.Error t) same in cc
same-exact (any.Delay t) (any.Dust u) is same =
    let no = opening-same (any.Dust u) (any.Delay t) same in cc
same-exact (any.Flakey t) later is same = absurd is
same-exact (any.Dust t) later is same = absurd is

-- what a target does with each piece as it stands
abbrev PassesNow : AnyTarget → Type 0
PassesNow t = (kind : Kind) (piece : Span) (now : ℕ) → IsPiece kind piece
    → IsDearest (any_meaning.shape t) kind (any_meaning.verdict t kind piece now)

-- and each of the four takes the dearest course, as its type does
exact-now : (t : AnyTarget) → IsExactType t → PassesNow t
exact-now (any.Linear t) is kind piece now may = linear-passes t t refl kind piece now may
exact-now (any.Zero t) is kind piece now may = zero-passes t t refl kind piece now may
exact-now (any.Error t) is kind piece now may = error-passes t t refl kind piece now may
exact-now (any.Delay t) is kind piece now may = delay-passes t t refl kind piece now may
exact-now (any.Flakey t) is kind piece now may = absurd is
exact-now (any.Dust t) is kind piece now may = absurd is

-- so do all that a target of the four becomes
pub any-passes : ExactAmongAny
any-passes t is later same = exact-now later (same-exact t later is same)
