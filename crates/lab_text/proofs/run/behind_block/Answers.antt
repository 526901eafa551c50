-- The bytes are the block, whose bytes are the value's, and those after it.
use Rattle.std.proofs.Common.{◌≡◌, ◌++◌, replicate, drop, sym, ap, ◌∙◌}
use Rattle.std.proofs.lemmas.List.{take-append-drop}
use Rattle.std.proofs.lemmas.Slice.Eq.{slice_eq-Decides}
use Rattle.std.specs.Cmp.{unsigned_Decides}
use Rattle.lab_text.proofs.run.behind_block.Goals as goal

pub returns-then-eq : goal.returns-then-eq
returns-then-eq c =
    let filled : c.in_ok-block.block.now ≡ replicate 64 c.args.value =
    (slice_eq-Decides unsigned_Decides _ _ _ c.eq.ensures).0 c.if-eq.true in
    sym (take-append-drop 64 c.args.bytes.now) ∙ ap (λ front. front ++ drop 64 c.args.bytes.now)
    (sym c.in_ok-block.ensures.cases.0 ∙ filled)
    ∙ ap (λ back. replicate 64 c.args.value ++ back) (sym c.in_ok-block.ensures.cases.1)
