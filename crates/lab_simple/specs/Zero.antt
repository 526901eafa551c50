-- The zero target: reads give zeroes, and writes go nowhere (dm-zero).
use Rattle.std.specs.Prelude.{None, codes}
use Rattle.lab_sector.specs.declared.request.Kind.{Kind}
use Rattle.lab_sector.specs.declared.request.Kind.TheVariants.{Read}
use Rattle.lab_target.specs.declared.verdict.Verdict.{Verdict}
use Rattle.lab_target.specs.declared.verdict.Verdict.TheVariants.{Done, Zeroes}
use Rattle.lab_target.specs.Meaning.{Meaning}
use Rattle.lab_target.specs.Types.{no_arguments}
use Rattle.lab_simple.specs.Stateless.{stateless}

-- what becomes of a piece
abbrev pub verdict_of : Kind → Verdict
verdict_of Read = Zeroes
verdict_of _ = Done

-- reads give zeroes, and all else is done
abbrev pub zero_target : Meaning (Unit {0})
zero_target = record (stateless (codes "zero") (no_arguments tt) (λ target. None)
    (λ target. codes "zero")) { verdict = λ target kind piece now. verdict_of kind }
