-- A mark outside the span changes nothing of it, and one inside changes the same byte.
use Rattle.lab_model.proofs.Common.{rules}
use Rattle.lab_model.proofs.Common.{◌≡◌, ◌-◌, ◌*◌, ◌/◌, ◌%◌, ℕ, List, ap, arith, drop, length-take}
use Rattle.lab_model.proofs.Common.{slice_set, take, ◌∙◌, change-past}
use Rattle.lab_bios.proofs.WrittenLemmas.{drop-change, drop-change-before, take-change}
use Rattle.lab_bios.proofs.written.mark_within.Goals.{then-sector-span-via-then-sector-span}
use Rattle.lab_bios.proofs.written.mark_within.Goals.{then-sector-span-via-else-sector-span+then-sector-span-2}
use Rattle.lab_bios.proofs.written.mark_within.Goals as goal

-- it is before the span or behind it
pub returns-then-sector-span : goal.returns-then-sector-span
returns-then-sector-span c = λ sectors.
    let span = c.args.span in
    let mark = c.in_ok-mark.mark in
    let at = mark.place / 512 in
    let f = λ (sector : List ℕ). slice_set sector (mark.place % 512) mark.value in
    let behind = drop span.first sectors in
    rw c.in_ok-mark.was
    (elim c.then-sector-span.branch [
      | then-sector-span-via-then-sector-span w ↦
          ap (take span.len) (drop-change-before sectors span.first at f w.if-sector-span.true)
      | then-sector-span-via-else-sector-span+then-sector-span-2 w ↦
          change-past (take span.len behind) (at - span.first) f
          (omega (arith, length-take span.len behind, w.if-sector-span-2.true))
          ∙ take-change behind span.len (at - span.first) f
          ∙ ap (take span.len) (drop-change sectors span.first at f w.if-sector-span.false)
    ])

-- it is inside, and stands there as many sectors further to the front
pub returns : goal.returns
returns c = λ sectors.
    let span = c.args.span in
    let mark = c.in_ok-mark.mark in
    let at = mark.place / 512 in
    let f = λ (sector : List ℕ). slice_set sector (mark.place % 512) mark.value in
    let sector : (mark.place - span.first * 512) / 512 ≡ at - span.first = omega arith in
    search (rules, take-change, drop-change)
