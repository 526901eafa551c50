-- The word that another one was counted for is counted.
use Rattle.std.proofs.Common.{◌<◌, ◌^◌, get_or, arith}
use Rattle.lab_index.proofs.Changing.{recounted}
use Rattle.lab_index.proofs.counts.recount.Goals as goal

-- its leaf has its count, and the rest stays
pub returns : goal.returns
returns c =
    let words = c.args.words.now in
    let counts = c.args.counts.now in
    let fits : get_or words c.args.at 0 < 2 ^ 64 = omega (arith, c.type_inv.words c.args.at) in
    recounted words counts.items c.deref_mut.result.now c.put_count.new.counts counts.len c.args.at
    c.ones.result c.requires.bits c.deref_mut.ensures.value
    (omega (arith, c.put_count.auto.counts, c.deref_mut.ensures.len, counts.ok.0))
    c.requires.inside c.ones.ensures.ones fits c.put_count.ensures.tree c.put_count.ensures.leaves
