-- The map has it there, with the same bio, or it has it not and is as it was.
use Rattle.lab_model.proofs.Common.{◌∙◌, Some, ap, sym, subst}
use Rattle.std.specs.Option.{option_copied_mut}
use Rattle.lab_findings.specs.Deeds.{NoneBehind, deed_of, deeds_in}
use Rattle.lab_findings.specs.Settled.{closed_deed}
use Rattle.lab_findings.proofs.Closings.{closed-behind, is-closed}
use Rattle.lab_findings.proofs.Held.{found-at}
use Rattle.lab_findings.proofs.deed.Deeds.close.Goals as goal
use Rattle.lab_findings.proofs.deed.Deeds.close.Goals.{in-Some, in_default}

pub invariant_of-self : goal.invariant_of-self
invariant_of-self c = elim c.match-get_mut.branch [
  | in-Some w ↦
      let known = record w.in-Some.deed.now { made = Some c.args.made; lost = c.args.lost } in
      subst (λ inside. NoneBehind (deeds_in inside.entries) inside.latest) (sym w.self-inside-is)
      (closed-behind c.self.inside.entries (c.get_mut.follows.lender known) c.args.origin w.in-Some.deed.now c.args.made c.args.lost
      (sym c.get_mut.ensures.value ∙ ap option_copied_mut w.in-Some.is) (c.get_mut.follows.holds known).3
      c.self.inside.latest c.self.invariant)
  | in_default w ↦
      subst (λ inside. NoneBehind (deeds_in inside.entries) inside.latest) (sym w.self-inside-is)
      (subst (λ entries. NoneBehind (deeds_in entries) c.self.inside.latest)
      (sym c.get_mut.follows.holds-at-none) c.self.invariant)
]

pub returns : goal.returns
returns c = elim c.match-get_mut.branch [
  | in-Some w ↦
      let known = record w.in-Some.deed.now { made = Some c.args.made; lost = c.args.lost } in
      ap (λ inside. deeds_in inside.entries) w.self-inside-is
      ∙ is-closed c.self.inside.entries (c.get_mut.follows.lender known) c.args.origin w.in-Some.deed.now c.args.made c.args.lost
      (sym c.get_mut.ensures.value ∙ ap option_copied_mut w.in-Some.is) (c.get_mut.follows.holds known).3
      ∙ ap (λ deeds. closed_deed deeds c.args.origin c.args.made c.args.lost
      (deed_of deeds c.args.origin)) c.self.view_is
  | in_default w ↦
      ap (λ inside. deeds_in inside.entries) w.self-inside-is
      ∙ ap deeds_in c.get_mut.follows.holds-at-none
      ∙ ap (closed_deed (deeds_in c.self.inside.entries) c.args.origin c.args.made c.args.lost)
      (sym (found-at c.self.inside.entries (c.args.origin.log, c.args.origin.line)
      ∙ sym c.get_mut.ensures.value ∙ ap option_copied_mut w.in_default.is))
      ∙ ap (λ deeds. closed_deed deeds c.args.origin c.args.made c.args.lost
      (deed_of deeds c.args.origin)) c.self.view_is
]
