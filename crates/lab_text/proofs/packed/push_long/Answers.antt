-- The value begins the run, the upper digits belong to it, and the last ends it.
use Rattle.std.proofs.Common.{rules, ◌≡◌, ◌%◌, ◌∷◌, ◌++◌, [], None, arith, ap, ◌∙◌}
use Rattle.lab_text.specs.Packed.{begun_after, unpacked}
use Rattle.lab_text.proofs.PackedLemmas.{value-begun, value-unpacked, count-begun, count-unpacked}
use Rattle.lab_text.proofs.FewBytes.{length-behind, upper-shorter}
use Rattle.lab_text.proofs.packed.push_long.Goals as goal

-- the run is whole
pub returns-clause-whole : goal.returns-clause-whole
returns-clause-whole c = λ whole.
    let old = c.args.packed.now.items in
    let run = c.args.run in
    let valued : c.push.new.self.items ≡ old ++ run.value ∷ [] = search rules in
    let begun = c.in_ok-push_digits.ensures.begun run.value
    (ap (begun_after None) valued ∙ value-begun old run.value whole) in
    let bytes = c.push_digits.new.packed.items in
    let pushed : c.push-2.new.self.items ≡ bytes ++ run.count % 128 ∷ [] = search rules in
    ap (begun_after None) pushed ∙ count-begun bytes run.count run.value (omega arith) begun

-- and follows the others
pub returns-clause-runs : goal.returns-clause-runs
returns-clause-runs c = λ whole.
    let old = c.args.packed.now.items in
    let run = c.args.run in
    let valued : c.push.new.self.items ≡ old ++ run.value ∷ [] = search rules in
    let is = ap (begun_after None) valued ∙ value-begun old run.value whole in
    let begun = c.in_ok-push_digits.ensures.begun run.value is in
    let bytes = c.push_digits.new.packed.items in
    let pushed : c.push-2.new.self.items ≡ bytes ++ run.count % 128 ∷ [] = search rules in
    ap (unpacked None) pushed
    ∙ count-unpacked bytes run.count run.value (omega arith) begun
    ∙ ap (λ runs. runs ++ run ∷ []) (c.in_ok-push_digits.ensures.runs run.value is
    ∙ ap (unpacked None) valued ∙ value-unpacked old run.value whole)

-- the value, the upper digits and the last are no more than the decimal digits and one
pub returns-clause-few : goal.returns-clause-few
returns-clause-few c =
    let old = c.args.packed.now.items in
    let run = c.args.run in
    let bytes = c.push_digits.new.packed.items in
    let valued : c.push.new.self.items ≡ old ++ run.value ∷ [] = search rules in
    let pushed : c.push-2.new.self.items ≡ bytes ++ run.count % 128 ∷ [] = search rules in
    omega (
      arith,
      length-behind old c.push.new.self.items run.value valued,
      c.in_ok-push_digits.ensures.few,
      length-behind bytes c.push-2.new.self.items (run.count % 128) pushed,
      upper-shorter run.count c.requires (omega arith),
    )
