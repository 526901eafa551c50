-- Five words are pushed one after another.
use Rattle.std.proofs.Common.{ap}
use Rattle.std.specs.Prelude.{◌++◌, codes, decimal}
use Rattle.lab_text.specs.Words.{spaced}
use Rattle.lab_flakey.specs.Features.{direction_word}
use Rattle.lab_flakey.specs.Printed.{corruption_words}
use Rattle.lab_flakey.proofs.PrintingLemmas.{spaced-five}
use Rattle.lab_flakey.proofs.print.push_corruption.Goals as goal

-- the text is longer by the five words
pub returns : goal.returns
returns c =
    let corruption = c.in-Some.corruption in
    let words = spaced-five c.args.out.now.items (codes "corrupt_bio_byte") (decimal corruption.nth)
    (direction_word corruption.direction) (decimal corruption.value) (decimal corruption.flags) in
    let all = ap (λ corrupt. c.args.out.now.items ++ spaced (corruption_words corrupt))
    c.in-Some.is in
    cc (
      words,
      all,
      c.in_ok-push_word.ensures,
      c.in_ok-push_count.ensures,
      c.in_ok-push_direction.ensures,
      c.in_ok-push_count-2.ensures,
      c.in_ok-push_count-3.ensures,
      c.from.ensures,
    )
