-- Which lines pass each piece as it is: linear and delay (dm-linear, dm-delay).
use Rattle.lab_sector.specs.declared.request.Kind.{Kind}
use Rattle.lab_target.specs.Meaning.{Meaning}
use Rattle.lab_any.specs.declared.any_target.AnyTarget.{AnyTarget}
use Rattle.lab_any.specs.declared.any_target.AnyTarget.TheVariants.{Linear, Delay}
use Rattle.lab_any.specs.Any.{any_meaning}
use Rattle.law_bytes_carried.specs.Plain.{PassesPlainly}

-- all targets of a type pass each piece of each kind as it is
abbrev pub AllPlain : {S : Type 0} → Meaning S → Type 0
AllPlain {S} m = (t : S) (kind : Kind) → PassesPlainly m kind t

-- whether a target of any type is linear or delay
abbrev pub IsPlainType : AnyTarget → Type 0
IsPlainType (Linear t) = Unit {0}
IsPlainType (Delay t) = Unit {0}
IsPlainType t = ⊥

-- all those do, among targets of any type
abbrev pub PlainAmongAny : Type 0
PlainAmongAny = (t : AnyTarget) → IsPlainType t → (kind : Kind) → PassesPlainly any_meaning kind t
