-- Linear and delay pass each piece as it is, also among targets of any type, where no target of
-- another type has their shape.
use Rattle.std.proofs.Common.{◌≡◌, refl, ap}
use Rattle.lab_simple.specs.Linear.{linear}
use Rattle.lab_delay.specs.Delay.{delay_target}
use Rattle.lab_any.specs.declared.any_target.AnyTarget.{AnyTarget}
use Rattle.lab_any.specs.Any.{acts_of, any_meaning}
use Rattle.law_bytes_carried.specs.Plain.{IsPlain}
use Rattle.law_simple_lines.specs.PlainLines.{AllPlain, PlainAmongAny}
use Rattle.lab_any.specs.declared.any_target.AnyTarget.TheVariants as any

-- linear does
pub linear-plain : AllPlain linear
linear-plain t kind later same piece now of = refl

-- so does delay
pub delay-plain : AllPlain delay_target
delay-plain t kind later same piece now of = refl

-- targets of one shape have one opening state
opening-same : (later t : AnyTarget) → (acts_of later).shape ≡ (acts_of t).shape
    → (acts_of later).shape.opening ≡ (acts_of t).shape.opening
opening-same later t same = ap (λ shape. shape.opening) same

-- so they do among targets of any type
pub any-plain : PlainAmongAny
any-plain (any.Linear t) is kind later same piece now of = by_type later same
  where
    by_type : (later : AnyTarget)
        → (acts_of later).shape ≡ (acts_of (any.Linear t)).shape
        → IsPlain (any_meaning.verdict later kind piece now)
    by_type (any.Linear u) same = refl
    by_type (any.Zero u) same = let no = opening-same (any.Zero u) (any.Linear t) same in cc
    by_type (any.Error u) same = let no = opening-same (any.Error u) (any.Linear t) same in cc
    by_type (any.Flakey u) same = let no = opening-same (any.Flakey u) (any.Linear t) same in cc
    by_type (any.Dust u) same = let no = opening-same (any.Dust u) (any.Linear t) same in cc
    by_type (any.Delay u) same = refl
any-plain (any.Zero t) is kind later same piece now of = absurd is
any-plain (any.Error t) is kind later same piece now of = absurd is
any-plain (any.Flakey t) is kind later same piece now of = absurd is
any-plain (any.Dust t) is kind later same piece now of = absurd is
any-plain (any.Delay t) is kind later same piece now of = by_type later same
  where
    by_type : (later : AnyTarget)
        → (acts_of later).shape ≡ (acts_of (any.Delay t)).shape
        → IsPlain (any_meaning.verdict later kind piece now)
    by_type (any.Linear u) same = refl
    by_type (any.Zero u) same = let no = opening-same (any.Zero u) (any.Delay t) same in cc
    by_type (any.Error u) same = let no = opening-same (any.Error u) (any.Delay t) same in cc
    by_type (any.Flakey u) same = let no = opening-same (any.Flakey u) (any.Delay t) same in cc
    by_type (any.Dust u) same = let no = opening-same (any.Dust u) (any.Delay t) same in cc
    by_type (any.Delay u) same = refl
