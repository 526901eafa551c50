-- The upper digits are those of a smaller number.
use Rattle.lab_text.proofs.packed.+push_digits.Given as goal

abbrev pub decreases-push_digits : goal.decreases-push_digits
decreases-push_digits l = l.number
