-- The bytes that are written and those that are left make the whole.
use Rattle.std.proofs.Common.{◌≡◌, ◌++◌, ◌∷◌, drop}
use Rattle.lab_image.specs.Text.{changed_byte_text, changed_bytes_text}
use Rattle.lab_image.proofs.columns.push_bytes.Given as goal

abbrev pub invariant-loop-mark : goal.invariant-loop-mark
invariant-loop-mark l = l.text.items ++ changed_bytes_text (drop l.mark-index l.more)
    ≡ l.fn.text.items ++ 9 ∷ changed_byte_text l.fn.first ++ changed_bytes_text l.fn.more
