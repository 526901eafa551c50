use Rattle.lab_model.proofs.Common.{◌≡◌, ◌+◌, ◌<◌, ◌≤◌, ◌*◌, ◌^◌, ℕ, List, Option, length}
use Rattle.lab_model.proofs.Common.{greatest_sector, DevNo}
use Rattle.lab_text.specs.Lines.{lines_left}
use Rattle.lab_table.specs.TableText.{table_of}
use Rattle.lab_table.proofs.Rows.{rest_of}
use Rattle.lab_table.proofs.reading.read_lines.Given as goal

-- under any names the lines so far, with those that are left, are the text's
abbrev pub invariant-loop-bytes : goal.invariant-loop-bytes
invariant-loop-bytes g l =
    (goal.iterator-loop-bytes g).can_next l.bytes-iterator
    × (goal.iterator-loop-bytes g).is_finite l.bytes-iterator
    × ((found : List ℕ → Option DevNo) → table_of g.T.Target.meaning found l.fn.text
    ≡ rest_of g.T.Target.bound g.T.Target.meaning found l.lines.items l.end l.number
    (lines_left l.bytes-iterator))
    × (l.number + length (lines_left l.bytes-iterator) < 2 ^ 64)
    × (l.end ≤ 2 * greatest_sector)
