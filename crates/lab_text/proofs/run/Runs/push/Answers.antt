-- Bytes of the last run's value make it longer, and others are a run of their own.
use Rattle.std.proofs.Common.{rules, ◌≡◌, ◌+◌, ◌<◌, ◌∷◌, ◌++◌, [], None, sym, ap, ◌∙◌, arith}
use Rattle.lab_text.specs.Packed.{run_of, unpacked}
use Rattle.lab_text.proofs.RunsLemmas.{first-run, longer-run, next-run}
use Rattle.lab_text.proofs.PackedLemmas.{unpacked-nil, unpacked-none, unpacked-last}
use Rattle.lab_text.proofs.run.Runs.push.Goals as goal

-- there is no run yet
pub returns-then-self-eq0-clause-ok : goal.returns-then-self-eq0-clause-ok
returns-then-self-eq0-clause-ok c = λ bytes is.
    let packed = c.self.inside.packed.items in
    let last = c.self.inside.last in
    let run = run_of c.args.count c.args.value in
    let some : 0 < c.args.count = omega arith in
    let empty = c.self.invariant.none c.if-self-eq0.true in
    let none = unpacked-none packed last empty c.if-self-eq0.true in
    unpacked-last packed run some
    ∙ ap (λ runs. runs ++ run ∷ []) (ap (unpacked None) empty ∙ unpacked-nil None)
    ∙ sym (first-run bytes c.args.count c.args.value some (sym is ∙ sym c.self.view_is ∙ none))

-- the last run has the value
pub returns-then-self-value-clause-ok : goal.returns-then-self-value-clause-ok
returns-then-self-value-clause-ok c = λ bytes is.
    let packed = c.self.inside.packed.items in
    let last = c.self.inside.last in
    let some : 0 < c.args.count = omega arith in
    let old = sym is ∙ sym c.self.view_is ∙ unpacked-last packed last (omega arith) in
    let longer : c.in_ok-self-inside.field-0 ≡ last.count + c.args.count = search rules in
    let same : last.value ≡ c.args.value = search rules in
    unpacked-last packed (run_of c.in_ok-self-inside.field-0 last.value) (omega (arith, longer))
    ∙ ap (λ count. unpacked None packed ++ run_of count last.value ∷ []) longer
    ∙ ap (λ value. unpacked None packed ++ run_of (last.count + c.args.count) value ∷ []) same
    ∙ sym (longer-run bytes c.args.count c.args.value some (unpacked None packed) last old same)

-- it has another
pub returns-clause-ok : goal.returns-clause-ok
returns-clause-ok c = λ bytes is.
    let packed = c.self.inside.packed.items in
    let last = c.self.inside.last in
    let run = run_of c.args.count c.args.value in
    let some : 0 < c.args.count = omega arith in
    let old = sym is ∙ sym c.self.view_is ∙ unpacked-last packed last (omega arith) in
    unpacked-last c.push_packed.new.packed.items run some
    ∙ ap (λ runs. runs ++ run ∷ []) (c.in_ok-push_packed.ensures.runs c.self.invariant.whole)
    ∙ sym (next-run bytes c.args.count c.args.value some (unpacked None packed) last old
    c.if-self-value.false)
