use Rattle.lab_model.proofs.Common.{rules, arith, ◌≡◌, ◌||◌, ◌+◌, false, length, ap, [], ◌∷◌, ◌++◌}
use Rattle.lab_model.proofs.Common.{Err, length-lines_of, is_blank, is_comment}
use Rattle.lab_text.specs.Lines.{lines_left}
use Rattle.lab_table.specs.TableText.{next_line}
use Rattle.lab_table.proofs.AsRead.{lines_after-fault}
use Rattle.lab_table.proofs.Rows.{after, rest_of-read}
use Rattle.lab_table.proofs.reading.read_lines.Goals as goal

-- at first no line is read, and all are left
pub loop-bytes-init : goal.loop-bytes-init
loop-bytes-init g c = search (rules, length-lines_of)

-- the line that was read goes over to the table's
pub loop-bytes-preserved : goal.loop-bytes-preserved
loop-bytes-preserved g c =
    let line = c.in-Some.bytes.now in
    let left = c.in-Some.ensures.steps in
    let kept : (is_comment line || is_blank line) ≡ false = search rules in
    let pushed : c.push.new.self.items ≡ c.loop-bytes.lines.items ++ c.in-Ok.next ∷ [] =
    search rules in (
      tt,
      tt,
      λ found. rw (c.loop-bytes.invariant.2 found, left, pushed)
          (rest_of-read g.T.Target.bound g.T.Target.meaning found c.loop-bytes.lines.items
          c.loop-bytes.end c.loop-bytes.number line (lines_left c.next.new.self) c.in-Ok.next kept
          (search (rules, c.in-Ok.ensures.found found)) c.in-Ok.ensures.number),
      omega (arith, ap length left, c.loop-bytes.invariant.3),
      omega (arith, c.in-Ok.ensures.near, c.in-Ok.ensures.short),
    )

-- a line's fault ends those before it
pub returns-in-Err : goal.returns-in-Err
returns-in-Err g c = λ found.
    let m = g.T.Target.meaning in
    let lines = c.loop-bytes.lines.items in
    let line = c.in-Some.bytes.now in
    let kept : (is_comment line || is_blank line) ≡ false = search rules in
    record {
      others = after g.T.Target.bound m found lines c.loop-bytes.end c.loop-bytes.number
          (lines_left c.loop-bytes.bytes-iterator);
      is = c.loop-bytes.invariant.2 found;
      ends = λ other.
          let read : next_line m found (length lines) c.loop-bytes.end line ≡ Err c.in-Err.why =
          search (rules, c.in-Err.ensures.found other found) in
          rw (c.in-Some.ensures.steps, kept) (lines_after-fault m found (length lines)
          c.loop-bytes.end (c.loop-bytes.number + 1) line _ c.in-Err.why read);
    }

-- and where memory runs out nothing is said of what ends them
pub returns-then-is_err : goal.returns-then-is_err
returns-then-is_err g c = λ found.
    let same : c.push.new.self.items ≡ c.loop-bytes.lines.items = search rules in
    record {
      others = after g.T.Target.bound g.T.Target.meaning found c.loop-bytes.lines.items
          c.loop-bytes.end c.loop-bytes.number (lines_left c.loop-bytes.bytes-iterator);
      is = rw same (c.loop-bytes.invariant.2 found);
      ends = λ other. absurd (other c.from-why.ensures);
    }
