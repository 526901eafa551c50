-- What the answers of functions are searched with, each ruleset by its function's name.
use Rattle.lab_text.proofs.BundleLemmas.{is_seen-update}
use Rattle.lab_text.proofs.LinesLemmas.{lines_of-nil}
use Rattle.lab_text.proofs.NumbersLemmas.{digits_value_after-le, number_of-within}
use Rattle.lab_text.proofs.ReadingLemmas.{PassesBody-line}
use Rattle.lab_text.proofs.TextBytes.{body_faults-text, lines_of-text}
use Rattle.lab_text.proofs.WordsLemmas.{position-unwrap_or}
use Rattle.std.proofs.Common.{drop-cons}

-- after the insertion one more heading is seen
pub ruleset note = is_seen-update

-- a number that a word spells is at most the bound
pub ruleset number_to = number_of-within

-- a number that doesn't fit 64 bits only grows with the digits after it
pub ruleset digits_value = (drop-cons, digits_value_after-le)

-- at the end no line is left
pub ruleset plain_line = lines_of-nil

-- where all bytes up to the next heading may stand in lines, no line of the part has a fault
pub ruleset body_end = (body_faults-text, lines_of-text)

-- one more line is passed
pub ruleset plain_end = (lines_of-nil, PassesBody-line)

-- where no blank is found, all bytes stand before the end
pub ruleset word_len = position-unwrap_or
