-- One disk is added, and then the others are; and the rows give each sector what stands there.
use Rattle.lab_model.proofs.Common.{◌≡◌, ◌∙◌, ◌+◌, ◌-◌, ap, arith, subst, sym, ℕ, ◌<◌}
use Rattle.lab_image.specs.Given.{GiveAll}
use Rattle.lab_image.specs.Rows.{behind_disks, image_rows, with_disk_rows, with_disks}
use Rattle.lab_image.proofs.Standing.{give-all}
use Rattle.lab_image.proofs.Steps.{disks-more}
use Rattle.lab_image.proofs.store.Store.rows.Goals as goal

pub loop-number-preserved : goal.loop-number-preserved
loop-number-preserved c =
    let store = c.args.self.now in
    let disks = c.args.disks.now in
    let number = c.loop-number.number in
    let rows = c.loop-number.rows.items in
    ap (λ more. with_disks store disks more (number + 1) (behind_disks disks - (number + 1)))
    (c.in_ok-add_disk.ensures ∙ ap (with_disk_rows store rows number) c.disk_in.ensures)
    ∙ sym (disks-more store disks rows number (behind_disks disks)
    (subst (λ (n : ℕ). number < n) c.behind_disks-number-end.ensures c.loop-number-test.true))
    ∙ c.loop-number.invariant

pub returns-clause-given : goal.returns-clause-given
returns-clause-given c =
    let store = c.args.self.now in
    let disks = c.args.disks.now in
    let number = c.loop-number.number in
    let rows = c.loop-number.rows.items in
    let none : behind_disks disks - number ≡ 0 =
    omega (arith, c.loop-number-test.false, c.behind_disks-number-end.ensures) in
    let all : rows ≡ image_rows store disks =
    sym (ap (with_disks store disks rows number) none) ∙ c.loop-number.invariant in
    subst (GiveAll store disks) (sym all) (give-all store disks)
