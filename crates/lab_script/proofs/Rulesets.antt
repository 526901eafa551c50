-- What the answers of functions are searched with, each ruleset by its function's name.
use Rattle.lab_model.proofs.Common.{words_of-word, words_of-nil}
use Rattle.lab_script.proofs.MessageLemmas.{word-begins, words_of-but_last}
use Rattle.lab_script.proofs.SpacedLemmas.{joined-spaced}
use Rattle.lab_script.proofs.WalkLemmas.{write-seen}
use Rattle.lab_text.proofs.WordsLemmas.{words_of-next, words_of-none, position-unwrap_or}

-- the blanks before the first word are no part of a word
pub ruleset from_word = (words_of-word, word-begins, words_of-next, words_of-nil, words_of-none)

-- the byte that was cut off is a blank
pub ruleset from_word_to_word = words_of-but_last

-- where no blank is found, all bytes stand before the end
pub ruleset word_len = position-unwrap_or

-- the first word, and the others with a space before each
pub ruleset joined = joined-spaced

-- an entry is changed at the device's place
pub ruleset change_slot = write-seen
