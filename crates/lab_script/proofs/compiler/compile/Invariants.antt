use Rattle.lab_model.proofs.Common.{◌≡◌, ◌++◌, drop}
use Rattle.lab_script.specs.Image.{walk_known}
use Rattle.lab_script.specs.Script.{script_rows}
use Rattle.lab_script.specs.Walk.{micros_from, micros_of}
use Rattle.lab_script.proofs.compiler.compile.Given as goal

-- the micro-commands so far and those of the lines that are left are the script's
abbrev pub invariant-loop-line : goal.invariant-loop-line
invariant-loop-line l =
    l.micros.items ++ micros_from (walk_known l.walk)
    (script_rows (drop l.line-index l.script.lines.items))
    ≡ micros_of (script_rows l.script.lines.items)
