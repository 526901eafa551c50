-- What the micro-commands of a script are made of (this project's own).
use Rattle.std.specs.Prelude.{ℕ, List, map}
use Rattle.lab_model.specs.declared.micro.Micro.{Micro}
use Rattle.lab_model.specs.declared.micro.Order.{Order}

-- the micro-commands of one line
abbrev pub on_line : ℕ → List Order → List Micro
on_line number steps = map (λ order. record { line = number; order = order }) steps
