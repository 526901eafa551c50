-- The upper digits are written, and then the last one.
use Rattle.std.specs.Prelude.{decimal}
use Rattle.std.proofs.Common.{◌≤◌, length, rules, ◌≡◌, ◌+◌, ◌/◌, ◌%◌, ◌∷◌, ◌++◌, [], None, Some, arith, ap, ◌∙◌}
use Rattle.lab_text.specs.Packed.{begun_after, unpacked, run_of}
use Rattle.lab_text.proofs.PackedLemmas.{digit-begun, digit-unpacked}
use Rattle.std.proofs.lemmas.Fmt.{decimal_nonempty}
use Rattle.lab_text.proofs.FewBytes.{length-behind, upper-shorter}
use Rattle.lab_text.proofs.packed.+push_digits.Goals.{then-number-ge128+in_ok-push_digits, else-number-ge128}
use Rattle.lab_text.proofs.packed.+push_digits.Goals as goal

-- what is written before the last digit are the upper digits, if there are any
pub returns-clause-begun : goal.returns-clause-begun
returns-clause-begun t c = λ value is.
    let bytes = c.if-number-ge128.packed.items in
    let before : begun_after None bytes ≡ Some (run_of (c.args.number / 128) value) =
    elim c.if-number-ge128.branch [
      | then-number-ge128+in_ok-push_digits w ↦
          search (rules, w.in_ok-push_digits.ensures.begun value is)
      | else-number-ge128 w ↦
          let none : 0 ≡ c.args.number / 128 = omega (arith, w.if-number-ge128.false) in
          search (rules, is ∙ ap (λ count. Some (run_of count value)) none)
    ] in
    let pushed : c.push.new.self.items ≡ bytes ++ (c.args.number % 128 + 128) ∷ [] = search rules in
    ap (begun_after None) pushed ∙ digit-begun bytes c.args.number value (omega arith) before

-- no run ends there
pub returns-clause-runs : goal.returns-clause-runs
returns-clause-runs t c = λ value is.
    let bytes = c.if-number-ge128.packed.items in
    let run = run_of (c.args.number / 128) value in
    let before : (begun_after None bytes ≡ Some run)
    × (unpacked None bytes ≡ unpacked None c.args.packed.now.items) =
    elim c.if-number-ge128.branch [
      | then-number-ge128+in_ok-push_digits w ↦
          search (
            rules,
            w.in_ok-push_digits.ensures.begun value is,
            w.in_ok-push_digits.ensures.runs value is,
          )
      | else-number-ge128 w ↦
          let none : 0 ≡ c.args.number / 128 = omega (arith, w.if-number-ge128.false) in
          search (rules, is ∙ ap (λ count. Some (run_of count value)) none)
    ] in
    let pushed : c.push.new.self.items ≡ bytes ++ (c.args.number % 128 + 128) ∷ [] = search rules in
    ap (unpacked None) pushed
    ∙ digit-unpacked bytes c.args.number value (omega arith) before.0 ∙ before.1

-- each digit of 7 bits has a decimal one
pub returns-clause-few : goal.returns-clause-few
returns-clause-few t c =
    let number = c.args.number in
    let bytes = c.if-number-ge128.packed.items in
    let old = c.args.packed.now.items in
    let upper : length bytes + 1 ≤ length old + length (decimal number) =
    elim c.if-number-ge128.branch [
      | then-number-ge128+in_ok-push_digits w ↦
          let same : bytes ≡ w.push_digits.new.packed.items = search rules in
          omega (
            arith,
            ap length same,
            w.in_ok-push_digits.ensures.few,
            upper-shorter number w.if-number-ge128.true (omega arith),
          )
      | else-number-ge128 w ↦
          let same : bytes ≡ old = search rules in
          omega (arith, ap length same, decimal_nonempty number (omega arith))
    ] in
    let pushed : c.push.new.self.items ≡ bytes ++ (number % 128 + 128) ∷ [] = search rules in
    omega (arith, upper, length-behind bytes c.push.new.self.items (number % 128 + 128) pushed)
