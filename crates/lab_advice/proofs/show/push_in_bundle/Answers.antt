use Rattle.std.specs.Prelude.{codes, decimal}
use Rattle.std.specs.String.{string_bytes}
use Rattle.lab_advice.proofs.PlaceLemmas.{appended-three}
use Rattle.lab_advice.proofs.show.push_in_bundle.Goals as goal

-- the three texts are appended one behind the other
pub returns : goal.returns
returns c =
    appended-three (string_bytes c.args.text.now) (codes "dmlab: line ") (decimal c.args.number)
    (codes " of the bundle") (string_bytes c.push_str.new.self)
    (string_bytes c.push_number.new.text) (string_bytes c.push_str-2.new.self)
    c.in_ok-push_str.ensures.bytes c.in_ok-push_number.ensures.number c.in_ok-push_str-2.ensures.bytes
