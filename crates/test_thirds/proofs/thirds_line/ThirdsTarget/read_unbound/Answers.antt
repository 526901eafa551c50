use Rattle.std.proofs.Common.{◌∙◌}
use Rattle.std.specs.Prelude.{codes}
use Rattle.lab_text.specs.Words.{words_left}
use Rattle.lab_target.proofs.ReadBack.{of_type-same}
use Rattle.test_thirds.specs.Thirds.{arguments}
use Rattle.test_thirds.proofs.thirds_line.ThirdsTarget.read_unbound.Goals as goal

-- the words say a line with the device word and the offset
pub returns : goal.returns
returns c = c.new.ensures _ _
    (of_type-same (codes "thirds") arguments (words_left c.args.words) _
    c.in-Some.ensures ∙ c.in_ok-device.ensures.line)
