-- Each way out knows the line's words as far as they decide what it opens.
use Rattle.std.proofs.Common.{rules}
use Rattle.lab_text.specs.Bundle.{title_of}
use Rattle.lab_text.proofs.heading.heading_of.Goals as goal

-- no word
pub returns-in_err-mark : goal.returns-in_err-mark
unfolding title_of
returns-in_err-mark c = search rules

-- one word
pub returns-in_err-part : goal.returns-in_err-part
unfolding title_of
returns-in_err-part c = search rules

-- the first word isn't the mark
pub returns-then-not-is_mark : goal.returns-then-not-is_mark
unfolding title_of
returns-then-not-is_mark c = search rules

-- two words
pub returns-in_default : goal.returns-in_default
unfolding title_of
returns-in_default c = search rules

-- three words
pub returns-in-None : goal.returns-in-None
unfolding title_of
returns-in-None c = search rules

-- more words
pub returns-in-Some-next : goal.returns-in-Some-next
unfolding title_of
returns-in-Some-next c = search rules
