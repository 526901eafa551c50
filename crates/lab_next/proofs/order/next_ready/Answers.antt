-- The bios whose events belong are asked one after another; those between them have others' events.
use Rattle.lab_model.proofs.Common.{rules, ◌≡◌, false, ap, arith, length, subst, sym, ◌∙◌, inl, inr}
use Rattle.lab_model.proofs.Common.{cases_lt, None-not-Some, Some-holds}
use Rattle.lab_state.proofs.OwnBios.{IsOthers, belongs, found-first, found-none, passed-more}
use Rattle.lab_state.proofs.Ready.{event_of}
use Rattle.lab_next.proofs.order.next_ready.Goals.{in-Some-event_at+else-is_same}
use Rattle.lab_next.proofs.order.next_ready.Goals.{in_default-event_at}
use Rattle.lab_next.proofs.order.next_ready.Goals as goal

-- there is no number below the first
pub loop-number-init : goal.loop-number-init
loop-number-init g c = search rules

-- the first that belongs
pub returns-then-is_same : goal.returns-then-is_same
returns-then-is_same g c =
    let s = c.args.state.now in
    let who = c.args.who in
    found-first s who c.in-Some.number c.in-Some-event_at.event
    (omega (arith, c.in-Some.ensures.made, ap (λ v. length v.bios) c.state.view_is))
    (λ other below. elim (cases_lt other c.loop-number.from) as (λ _. IsOthers s who other) [
      | inl before ↦ c.loop-number.invariant other before
      | inr later ↦ subst (λ v. IsOthers v who other) c.state.view_is
          (c.in-Some.ensures.skips other later below)
    ]) (sym (c.event_at.ensures ∙ ap (λ v. event_of v c.in-Some.number) c.state.view_is)
    ∙ c.in-Some-event_at.is) (cc)

-- an event that doesn't belong is passed, and a bio without one
pub loop-number-preserved : goal.loop-number-preserved
loop-number-preserved g c =
    let s = c.args.state.now in
    let who = c.args.who in
    let event_is = c.event_at.ensures ∙ ap (λ v. event_of v c.in-Some.number) c.state.view_is in
    passed-more (IsOthers s who) c.loop-number.from c.in-Some.number c.loop-number.invariant
    (λ other later below. subst (λ v. IsOthers v who other) c.state.view_is
    (c.in-Some.ensures.skips other later below))
    (λ event found. elim c.match-event_at.branch as (λ _. belongs s who event ≡ false) [
      | in-Some-event_at+else-is_same w ↦
          let same : w.in-Some-event_at.event ≡ event =
          Some-holds (sym w.in-Some-event_at.is ∙ event_is ∙ found) in
          rw (← same) (cc)
      | in_default-event_at w ↦
          absurd (None-not-Some (sym w.in_default-event_at.is ∙ event_is ∙ found))
    ])

-- at last none is left
pub returns : goal.returns
returns g c =
    let s = c.args.state.now in
    found-none s c.args.who (λ other.
    elim (cases_lt other c.loop-number.from) as (λ _. IsOthers s c.args.who other) [
      | inl before ↦ c.loop-number.invariant other before
      | inr later ↦ subst (λ v. IsOthers v c.args.who other) c.state.view_is
          (c.in_default.ensures.none other later)
    ])
