use Rattle.lab_model.proofs.Common.{◌≡◌, length}
use Rattle.lab_text.specs.Words.{words_of}
use Rattle.lab_script.proofs.message.from_word_to_word.Given as goal

-- only blanks were cut off, so the words are the same
abbrev pub invariant-loop-text : goal.invariant-loop-text
invariant-loop-text l = words_of l.text ≡ words_of l.line

abbrev pub decreases-loop-text : goal.decreases-loop-text
decreases-loop-text l = length l.text
