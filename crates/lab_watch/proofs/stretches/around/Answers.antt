-- What the map has from the place on begins with what reaches over it, or with what ends there.
use Rattle.std.proofs.Common.{◌≡◌, ◌∙◌, ◌∷◌, Some, arith, sym, ap}
use Rattle.lab_watch.specs.Stretches.{first_from, in_front}
use Rattle.lab_watch.proofs.Firsts.{first-from, first-more, first-none, first-of, front-at}
use Rattle.lab_watch.proofs.Firsts.{front-behind, none-more, second-none, second-of}
use Rattle.lab_watch.proofs.Rising.{Rises-from_sorted}
use Rattle.lab_watch.proofs.stretches.around.Goals as goal

pub returns-in_default-clause-front : goal.returns-in_default-clause-front
returns-in_default-clause-front c = ap (λ first. in_front first c.args.place)
    (first-none c.args.place c.args.stretches.now.entries
    (sym (c.range-from.ensures.between tt) ∙ c.in_default.ensures.steps.0))

pub returns-in_default-clause-first : goal.returns-in_default-clause-first
returns-in_default-clause-first c = none-more c.args.place c.args.stretches.now.entries
    (first-none c.args.place c.args.stretches.now.entries
    (sym (c.range-from.ensures.between tt) ∙ c.in_default.ensures.steps.0))

pub returns-then-end-place-clause-front : goal.returns-then-end-place-clause-front
returns-then-end-place-clause-front c = c.without_last.ensures
    ∙ front-behind c.args.place (c.in-Some.end.now, c.in-Some.stretch.now) c.if-end-place.true
    ∙ ap (λ first. in_front first c.args.place)
    (first-of c.args.place c.args.stretches.now.entries _ _
    (sym (c.range-from.ensures.between tt) ∙ c.in-Some.ensures.steps))

pub returns-then-end-place-clause-first : goal.returns-then-end-place-clause-first
returns-then-end-place-clause-first c =
    first-more c.args.place c.args.stretches.now.entries _
    (first-of c.args.place c.args.stretches.now.entries _ _
    (sym (c.range-from.ensures.between tt) ∙ c.in-Some.ensures.steps)) c.if-end-place.true

pub returns-in-Some-next-clause-front : goal.returns-in-Some-next-clause-front
returns-in-Some-next-clause-front c =
    let first : Some (c.in-Some.end.now, c.in-Some.stretch.now)
    ≡ first_from c.args.stretches.now.entries c.args.place =
    first-of c.args.place c.args.stretches.now.entries _ _
    (sym (c.range-from.ensures.between tt) ∙ c.in-Some.ensures.steps) in
    let from = first-from c.args.stretches.now.entries c.args.place _ (sym first) in
    front-at c.args.place (c.in-Some.end.now, c.in-Some.stretch.now) (omega arith)
    ∙ ap (λ first. in_front first c.args.place) first

pub returns-in-Some-next-clause-first : goal.returns-in-Some-next-clause-first
returns-in-Some-next-clause-first c =
    second-of c.args.place 0 c.args.stretches.now.entries _ _ _
    (Rises-from_sorted c.args.stretches.now.entries c.range-from.ensures.ordered)
    (sym (c.range-from.ensures.between tt) ∙ c.in-Some.ensures.steps
    ∙ ap (λ rest. (c.in-Some.end.now, c.in-Some.stretch.now) ∷ rest)
    c.in-Some-next.ensures.steps) c.if-end-place.false

pub returns-in-None-clause-front : goal.returns-in-None-clause-front
returns-in-None-clause-front c =
    let first : Some (c.in-Some.end.now, c.in-Some.stretch.now)
    ≡ first_from c.args.stretches.now.entries c.args.place =
    first-of c.args.place c.args.stretches.now.entries _ _
    (sym (c.range-from.ensures.between tt) ∙ c.in-Some.ensures.steps) in
    let from = first-from c.args.stretches.now.entries c.args.place _ (sym first) in
    front-at c.args.place (c.in-Some.end.now, c.in-Some.stretch.now) (omega arith)
    ∙ ap (λ first. in_front first c.args.place) first

pub returns-in-None-clause-first : goal.returns-in-None-clause-first
returns-in-None-clause-first c =
    second-none c.args.place 0 c.args.stretches.now.entries _
    (Rises-from_sorted c.args.stretches.now.entries c.range-from.ensures.ordered)
    (sym (c.range-from.ensures.between tt) ∙ c.in-Some.ensures.steps
    ∙ ap (λ rest. (c.in-Some.end.now, c.in-Some.stretch.now) ∷ rest) c.in-None.ensures.steps.0)
    c.if-end-place.false
