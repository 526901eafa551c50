-- What is known so far, with the bios that are left, is what is known in the end.
use Rattle.lab_model.proofs.Common.{◌≡◌, ◌-◌, length}
use Rattle.lab_image.specs.Images.{all_begun, image_seen}
use Rattle.lab_image.proofs.image.Image.see.Given as goal

abbrev pub invariant-loop-place : goal.invariant-loop-place
invariant-loop-place g l =
    all_begun l.state l.place (length l.state.bios - l.place) l.self
    ≡ image_seen l.fn.made l.fn.state l.fn.self
