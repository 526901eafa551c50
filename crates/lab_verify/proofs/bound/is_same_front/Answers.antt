use Rattle.lab_model.proofs.Common.{◌≡◌, rules, Decides-eqb}
use Rattle.std.specs.Int.{to_le_bytes, w64}
use Rattle.std.proofs.lemmas.Nat.{le_bytes_8}
use Rattle.lab_verify.proofs.bound.is_same_front.Goals as goal

-- eight bytes and the number that they spell tell each other
pub returns : goal.returns
returns c =
    let here = c.from_le_bytes.result in
    let other = c.from_le_bytes-2.result in
    let front : to_le_bytes w64 here ≡ c.args.front =
    le_bytes_8 c.args.front here (search rules) (search rules) c.from_le_bytes.ensures in
    let there : to_le_bytes w64 other ≡ c.args.there =
    le_bytes_8 c.args.there other (search rules) (search rules) c.from_le_bytes-2.ensures in
    let test = Decides-eqb here other in
    search rules
