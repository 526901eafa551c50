-- A line has no word exactly where each of its bytes is a blank.
use Rattle.lab_text.proofs.WordsLemmas.{words_of-nil-iff}
use Rattle.lab_text.proofs.lines.is_blank.Goals as goal

pub returns-clause-no_word : goal.returns-clause-no_word
returns-clause-no_word c = rw c.are_blank_bytes.ensures (words_of-nil-iff c.args.line.now)
