-- A row of logs in the order of their moments, but for one that goes to its place.
use Rattle.lab_model.proofs.Common.{◌≡◌, ◌∙◌, ◌+◌, ◌<◌, ◌≤◌, ℕ, List, length, get_or, refl, ap, sym}
use Rattle.lab_model.proofs.Common.{arith, map, ◌-◌, ◌↔◌, Contains, drop, min, take, swap}
use Rattle.lab_model.proofs.Common.{IsPartitionPoint, get_or_default, All-map, length-swap}
use Rattle.lab_model.proofs.Common.{swapped_from_swap}
use Rattle.std.proofs.lemmas.List.{get_or-drop, get_or-take, length-drop, length-take}
use Rattle.lab_logs.specs.Agenda.{IsInOrder, IsInOrderBut, due_at}
use Rattle.lab_logs.specs.declared.agenda.Due.{Due}

-- where the next is due no earlier, it is at its place
pub settled : (row : List Due) (place after : ℕ) (e : Due) → after ≡ place + 1 → after < length row
    → IsInOrderBut row place → (get_or row place e).moment ≤ (get_or row after e).moment
    → IsInOrder row
settled row place after e after_is inside others next i j d before within =
    let here = ap (λ (due : Due). due.moment) (get_or_default row place e d (omega arith)) in
    let there = ap (λ (due : Due). due.moment) (get_or_default row after e d inside) in
    grind (arith, others after j d, others i j d)

-- where it is due later, the two change places
pub moved : (row : List Due) (place after : ℕ) (e : Due) → after ≡ place + 1 → after < length row
    → IsInOrderBut row place → (get_or row after e).moment < (get_or row place e).moment
    → IsInOrderBut (swap row place after) after
moved row place after e after_is inside others later i j d before within apart =
    let step = swapped_from_swap row (swap row place after) place after d (omega arith) inside refl in
    let long = length-swap row place after in
    let here = get_or_default row place e d (omega arith) in
    let there = get_or_default row after e d inside in
    grind (arith, others, step)

-- those that are due at one moment are in order
pub together : (row : List Due) (now : ℕ) → IsInOrder (map (due_at now) row)
together row now i j d before within =
    let all = All-map (λ due. due.moment ≡ now) (due_at now) row (λ k d within. refl) in
    omega (arith, all i d (omega arith), all j d within)

-- those between two moments stand between the places where these have come
pub between-cuts : (row : List Due) (since now first end start : ℕ)
    → IsPartitionPoint (λ due. due.moment ≤ since) (λ due. since < due.moment) row first
    → IsPartitionPoint (λ due. due.moment ≤ now) (λ due. now < due.moment) row end
    → end ≤ length row → start ≡ min first end → (due : Due)
    → Contains (take (end - start) (drop start row)) due
    ↔ (Contains row due × (since < due.moment) × (due.moment ≤ now))
between-cuts row since now first end start before until inside start_is due = (
  λ held.
      let place = start + held.0 in
      let within : held.0 < end - start =
      omega (arith, held.1, length-take (end - start) (drop start row)) in
      let is : get_or row place due ≡ due =
      sym (get_or-take (end - start) (drop start row) held.0 due within
      ∙ get_or-drop start row held.0 due) ∙ held.2 in
      let moment = ap (λ (d : Due). d.moment) is in (
        (place, omega arith, is),
        omega (arith, moment, before.1 place due (omega arith) (omega arith)),
        omega (arith, moment, until.0 place due (omega arith) (omega arith)),
      ),
  λ there.
      let place = there.0.0 in
      let moment = ap (λ (d : Due). d.moment) there.0.2 in
      let from : first ≤ place = grind (arith, moment, before.0 place due) in
      let to : place < end = grind (arith, moment, until.1 place due) in
      let back : start + (place - start) ≡ place = omega arith in (
        place - start,
        omega (arith, length-take (end - start) (drop start row), length-drop start row),
        get_or-take (end - start) (drop start row) (place - start) due (omega arith)
            ∙ get_or-drop start row (place - start) due ∙ ap (λ n. get_or row n due) back
            ∙ there.0.2,
      ),
)
