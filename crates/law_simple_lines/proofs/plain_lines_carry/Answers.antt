-- Linear and delay pass each piece as it is.
use Rattle.law_simple_lines.proofs.plain_lines_carry.Goals as goal
use Rattle.law_simple_lines.proofs.PlainLines.{any-plain, delay-plain, linear-plain}

pub returns : goal.returns
returns c = record { linear = linear-plain; delay = delay-plain; any = any-plain }
