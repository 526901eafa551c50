-- What is written and the blocks that are left make the list's text.
use Rattle.std.proofs.Common.{◌≡◌, ◌++◌}
use Rattle.lab_text.specs.Numbers.{spaced_numbers}
use Rattle.lab_dust.specs.Dust.{list_text}
use Rattle.lab_dust.proofs.blocks.Blocks.print.Given as goal

abbrev pub invariant-loop-block : goal.invariant-loop-block
invariant-loop-block l = l.text.items ++ spaced_numbers l.block-iterator ≡ list_text l.self
