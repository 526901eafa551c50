-- What is written and the numbers that are left make the whole text.
use Rattle.lab_model.proofs.Common.{◌≡◌, ◌++◌, drop}
use Rattle.lab_text.specs.Numbers.{spaced_numbers}
use Rattle.dmlab_run.proofs.threads.push_spaced.Given as goal

abbrev pub invariant-loop-number : goal.invariant-loop-number
invariant-loop-number l =
    l.text.items ++ spaced_numbers (drop l.number-index l.numbers)
    ≡ l.fn.text.items ++ spaced_numbers l.fn.numbers
