use Rattle.lab_model.proofs.Common.{rules}
use Rattle.lab_text.proofs.WordsLemmas.{word-within}
use Rattle.lab_script.proofs.MessageLemmas.{words_of-after_word}
use Rattle.lab_script.proofs.message.after_word.Goals as goal

-- the word ends in the line
pub split_at-requires : goal.split_at-requires
split_at-requires c = rw c.word_len.ensures (word-within c.from_word-line.result.now)

-- behind the first word stand the words but for the first
pub returns : goal.returns
returns c = search (rules, words_of-after_word)
