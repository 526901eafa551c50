use Rattle.lab_model.proofs.Common.{length, ap, arith, length-lines_of}
use Rattle.lab_iolog.proofs.reader.behind_header.Goals as goal

-- the lines behind the header are fewer than the text's bytes
pub returns-in-Some-clause-countable : goal.returns-in-Some-clause-countable
returns-in-Some-clause-countable c =
    let fewer = ap length c.in-Some.ensures.steps in
    let all = ap length c.new-lines.ensures in
    omega (arith, length-lines_of c.args.text.now)
