-- The blanks and the first word are taken off, and the words after it are left.
use Rattle.std.proofs.Common.{rules}
use Rattle.lab_text.specs.Words.{words_left}
use Rattle.lab_text.proofs.WordsLemmas.{word-within, words_of-next, words_of-none}
use Rattle.lab_text.proofs.words.WordsIterator.next.Goals as goal

-- the first word begins in the line
pub split_at-requires : goal.split_at-requires
split_at-requires c = search rules

-- the word ends in the line
pub split_at-requires-2 : goal.split_at-requires-2
split_at-requires-2 c = rw (c.word_len.ensures) (word-within c.split_at.result.1.now)

-- a line of blanks has no word
pub returns-in_err-start-clause-steps : goal.returns-in_err-start-clause-steps
unfolding words_left
returns-in_err-start-clause-steps c = search (rules, words_of-none)

-- the first word, and the words after it
pub returns-clause-steps : goal.returns-clause-steps
unfolding words_left
returns-clause-steps c = search (rules, words_of-next)

-- one word fewer is left
pub returns-clause-goes : goal.returns-clause-goes
unfolding words_left
returns-clause-goes c = search (rules, returns-clause-steps)
