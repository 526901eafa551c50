use Rattle.std.proofs.Common.{rules, ◌≡◌, ◌+◌, ◌-◌, ◌∙◌, arith, drop, length, take}
use Rattle.std.proofs.lemmas.List.{length-drop, length-take-le}
use Rattle.std.proofs.lemmas.Slice.{drop-put_mid}
use Rattle.lab_disk.proofs.Puts.{length-put}
use Rattle.lab_disk.proofs.Spans.{drop_further, given_next, inside_end}
use Rattle.lab_disk.proofs.disk.put_sectors.Goals as goal

-- the part lies within the disk, whose size stays
pub put-requires-clause-part : goal.put-requires-clause-part
put-requires-clause-part c = search (rules, inside_end, length-take-le, length-put)

-- one more part
pub loop-at-preserved : goal.loop-at-preserved
loop-at-preserved c =
    let inside = inside_end c.args.span (length c.args.pages.now.sectors) c.requires.inside
    (omega arith) in
    let n = c.loop-at.at - c.args.span.first in
    let m = c.part_at-part.result.len in
    let j = n + m - n in
    let k = c.loop-at.at + m - c.args.span.first in
    let left = c.loop-at.sectors in
    let part : length (take j (drop n left)) ≡ j =
    length-take-le j (drop n left) (omega (arith, length-drop n left, c.requires.fills)) in
    record {
      from = omega arith;
      within = omega arith;
      put = given_next _ _ _ c.args.span.first _ n m j k c.args.sectors.now left
          c.loop-at.invariant.put c.put.ensures.put c.loop-at.invariant.others
          (omega arith) (omega arith) (omega arith)
          (omega (arith, c.requires.fills)) (omega (arith, inside));
      made = c.put.ensures.same_pages ∙ c.loop-at.invariant.made;
      others = drop-put_mid n j left c.put.new.sectors k (omega arith)
          (omega (arith, c.requires.fills)) (omega (arith, part))
          ∙ drop_further left c.args.sectors.now n m k c.loop-at.invariant.others (omega arith);
    }
