-- What is written and the bytes that are left make the whole word.
use Rattle.lab_model.proofs.Common.{◌≡◌, ◌∷◌, ◌++◌, drop}
use Rattle.lab_sweep.specs.FoundRow.{type_text}
use Rattle.lab_sweep.proofs.columns.push_type.Given as goal

abbrev pub invariant-loop-byte : goal.invariant-loop-byte
invariant-loop-byte l =
    l.text.items ++ type_text (drop l.byte-index l.bytes)
    ≡ l.fn.text.items ++ 9 ∷ type_text l.fn.bytes
