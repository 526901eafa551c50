-- What the words say is told as the target's definitions tell it.
use Rattle.std.proofs.Common.{◌∙◌, rules}
use Rattle.std.specs.Prelude.{codes}
use Rattle.lab_text.specs.Words.{words_left}
use Rattle.lab_target.proofs.ReadBack.{of_type-same}
use Rattle.lab_flakey.specs.Flakey.{arguments}
use Rattle.lab_flakey.specs.Words.{pcg_words}
use Rattle.lab_flakey.proofs.flakey.FlakeyTarget.read_unbound.Goals as goal

-- the words' own fault is told
pub returns-in_err-line : goal.returns-in_err-line
returns-in_err-line c =
    let told = of_type-same (codes "flakey") (arguments pcg_words) (words_left c.args.words) _
    c.in-Some.ensures ∙ c.in_err-line.ensures.line in
    search (rules, told)

-- the words say a line with the device word
pub returns : goal.returns
returns c = c.new.ensures _ _
    (of_type-same (codes "flakey") (arguments pcg_words) (words_left c.args.words) _
    c.in-Some.ensures ∙ c.in_ok-line.ensures.line ∙ search rules)
