-- The library's range over the set of the group, from the number on.
use Rattle.std.proofs.lemmas.List.{get_or-map}
use Rattle.std.proofs.Common.{rules, ◌≡◌, ◌≤◌, ℕ, false, sym, subst}
use Rattle.std.specs.Prelude.{IfNone, IfSome}
use Rattle.lab_index.specs.Groups.{IsNext, is_in}
use Rattle.lab_index.proofs.Ranges.{next-none, next-some}
use Rattle.lab_index.proofs.groups.Groups.next.Goals as goal

-- what the range gives first is the next number
pub returns-clause-some : goal.returns-clause-some
returns-clause-some c =
    subst (λ result. IfSome result (IsNext c.args.self.now c.args.group c.args.from))
    (sym c.copied.ensures)
    (next-some c.args.self.now c.args.group c.args.from c.in_ok-set.set.now c.range.result
    c.next.new.self c.next.result (search (rules, get_or-map)) (c.range.ensures.in_range tt)
    c.next.ensures.steps)

-- where the range gives none, there is none
pub returns-clause-none : goal.returns-clause-none
returns-clause-none c = subst (λ result. IfNone result ((number : ℕ) → c.args.from ≤ number
    → is_in c.args.self.now c.args.group number ≡ false)) (sym c.copied.ensures)
    (next-none c.args.self.now c.args.group c.args.from c.in_ok-set.set.now c.range.result
    c.next.new.self c.next.result (search (rules, get_or-map)) (c.range.ensures.in_range tt)
    c.next.ensures.steps)
