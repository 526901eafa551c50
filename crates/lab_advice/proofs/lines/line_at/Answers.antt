use Rattle.std.proofs.Common.{rules, sym, ap, ◌∙◌}
use Rattle.std.specs.List.{slice_get}
use Rattle.std.proofs.lemmas.Iterator.Consumers.{nth_from_yields_List, YieldsList-from_first}
use Rattle.lab_text.specs.Lines.{lines_left, lines_of}
use Rattle.lab_advice.proofs.lines.line_at.Goals as goal

-- the line behind so many others
pub returns : goal.returns
returns c = nth_from_yields_List c.nth.result c.nth.new.self c.in_ok-before.before c.nth.ensures.ran
    (YieldsList-from_first (λ line. line.now) lines_left (lines_of c.args.bytes.now) c.new.ensures)
    ∙ ap (slice_get (lines_of c.args.bytes.now)) c.in_ok-before.ensures.1
    ∙ sym (search (rules, c.in_ok-before.ensures.0))
