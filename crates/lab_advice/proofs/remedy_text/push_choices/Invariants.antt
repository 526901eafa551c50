-- What is written and the lines that are left make the whole text.
use Rattle.std.proofs.Common.{◌≡◌, ◌++◌, drop, flat_map}
use Rattle.std.specs.String.{string_bytes}
use Rattle.lab_advice.specs.RemedyText.{choice_text}
use Rattle.lab_advice.proofs.remedy_text.push_choices.Given as goal

abbrev pub invariant-loop-mend : goal.invariant-loop-mend
invariant-loop-mend l =
    string_bytes l.text ++ flat_map choice_text (drop l.mend-index l.mends)
    ≡ string_bytes l.fn.text ++ flat_map choice_text l.fn.mends
