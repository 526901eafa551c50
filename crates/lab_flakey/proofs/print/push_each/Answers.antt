-- Six runs of words are pushed one after another.
use Rattle.std.proofs.Common.{ap, List, ℕ}
use Rattle.std.specs.Prelude.{◌++◌, codes}
use Rattle.lab_text.specs.Words.{spaced}
use Rattle.lab_flakey.specs.Printed.{chance_words, corruption_words, feature_words_are, flag_words}
use Rattle.lab_flakey.proofs.PrintingLemmas.{spaced-six}
use Rattle.lab_flakey.proofs.print.push_each.Goals as goal

-- the text is longer by the six runs
pub returns : goal.returns
returns c =
    let features = c.args.features.now in
    let words = spaced-six c.args.out.now.items
    (flag_words features.error_reads (codes "error_reads"))
    (flag_words features.drop_writes (codes "drop_writes"))
    (flag_words features.error_writes (codes "error_writes")) (corruption_words features.corrupt)
    (chance_words (codes "random_read_corrupt") features.random_read)
    (chance_words (codes "random_write_corrupt") features.random_write) in
    let all = ap (λ (w : List (List ℕ)). c.args.out.now.items ++ spaced w)
    (feature_words_are features) in
    cc (
      words,
      all,
      c.in_ok-push_flag.ensures,
      c.in_ok-push_flag-2.ensures,
      c.in_ok-push_flag-3.ensures,
      c.in_ok-push_corruption.ensures,
      c.in_ok-push_chance.ensures,
      c.in_ok-push_chance-2.ensures,
    )
