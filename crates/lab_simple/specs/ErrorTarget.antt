-- The error target: all fails (dm-error).
use Rattle.std.specs.Prelude.{None, codes}
use Rattle.lab_target.specs.Meaning.{Meaning}
use Rattle.lab_target.specs.Types.{no_arguments}
use Rattle.lab_simple.specs.Stateless.{stateless}

-- all pieces fail
abbrev pub error_target : Meaning (Unit {0})
error_target =
    stateless (codes "error") (no_arguments tt) (λ target. None) (λ target. codes "error")
