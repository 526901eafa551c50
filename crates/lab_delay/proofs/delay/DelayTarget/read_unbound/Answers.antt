-- What the words say is what those after the type word say.
use Rattle.std.proofs.Common.{◌∙◌, rules}
use Rattle.std.specs.Prelude.{codes}
use Rattle.std.proofs.lemmas.Result.{err_from_is_err_and}
use Rattle.lab_text.specs.Words.{words_left}
use Rattle.lab_target.proofs.ReadBack.{of_type-same}
use Rattle.lab_delay.specs.Delay.{arguments}
use Rattle.lab_delay.proofs.LineLemmas.{drafted-bound}
use Rattle.lab_delay.proofs.delay.DelayTarget.read_unbound.Goals as goal

-- the words have a fault of their own
pub returns-in_err-groups : goal.returns-in_err-groups
returns-in_err-groups c =
    let p = err_from_is_err_and c.from_residual.result c.from_residual.ensures.1 in
    rw (p.1, p.2) (λ memory. of_type-same (codes "delay") arguments (words_left c.args.words) _
    c.in-Some.ensures ∙ c.in_err-groups.ensures.line)

-- the words make one group
pub returns-in-One : goal.returns-in-One
returns-in-One c = c.new.ensures _ _
    (of_type-same (codes "delay") arguments (words_left c.args.words) _
    c.in-Some.ensures ∙ c.in_ok-groups.ensures.line ∙ search (rules, drafted-bound))

-- the words make two groups
pub returns-in-Two : goal.returns-in-Two
returns-in-Two c = c.new-in-Two.ensures _ _
    (of_type-same (codes "delay") arguments (words_left c.args.words) _
    c.in-Some.ensures ∙ c.in_ok-groups.ensures.line ∙ search (rules, drafted-bound))

-- the words make three groups
pub returns-in-Three : goal.returns-in-Three
returns-in-Three c = c.new-in-Three.ensures _ _
    (of_type-same (codes "delay") arguments (words_left c.args.words) _
    c.in-Some.ensures ∙ c.in_ok-groups.ensures.line ∙ search (rules, drafted-bound))
