-- The file that is added is text.
use denote.Text.{Utf8}
use denote.Shadow.{shadow}
use Rattle.lab_rule_remedies.proofs.doubled.doubled_add.Given as goal

-- the word is text
abbrev pub invariant-loop-bare : goal.invariant-loop-bare
invariant-loop-bare l =
    (goal.iterator-loop-bare).can_next l.bare-iterator ×
    (goal.iterator-loop-bare).is_finite l.bare-iterator ×
    shadow (Utf8 l.added)
