use Rattle.std.proofs.Common.{◌≡◌, ◌∙◌, ◌+◌, ◌-◌, ap, arith, drop, length, replicate, take}
use Rattle.std.proofs.lemmas.List.{length-drop, length-replicate, length-take-le}
use Rattle.lab_disk.proofs.Puts.{written-part}
use Rattle.lab_disk.proofs.page.fill_in.Goals as goal

-- as many are written as lie in the part
pub returns : goal.returns
returns c =
    let many = c.args.from + c.args.len - c.args.from in
    let lent = c.deref_mut.result.now in
    let part : length (take many (drop c.args.from lent)) ≡ c.args.len =
    length-take-le many (drop c.args.from lent)
    (omega (arith, length-drop c.args.from lent, ap length c.deref_mut.ensures.value))
    ∙ omega arith in
    let count = length-replicate c.args.len (replicate 512 c.args.byte) in
    written-part c.args.page.now.items lent c.fill_all.new.sectors
    (replicate c.args.len (replicate 512 c.args.byte)) c.args.from many c.args.page.now.len
    c.deref_mut.ensures.value
    (c.fill_all.ensures ∙ ap (λ k. replicate k (replicate 512 c.args.byte)) part)
    (omega (arith, count)) (omega arith) (omega (arith, count))
