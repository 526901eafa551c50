use Rattle.std.proofs.Common.{◌-◌, ◌∙◌, arith, length}
use Rattle.lab_disk.proofs.Spans.{filled_next, inside_end}
use Rattle.lab_disk.proofs.disk.clear_sectors.Goals as goal

-- one more part
pub loop-at-preserved : goal.loop-at-preserved
loop-at-preserved c =
    let inside = inside_end c.args.span (length c.args.pages.now.sectors) c.requires
    (omega arith) in
    record {
      from = omega arith;
      within = omega arith;
      zero = filled_next _ _ _ c.args.span.first _ (c.loop-at.at - c.args.span.first)
          c.part_at-part.result.len _ _ c.loop-at.invariant.zero c.clear.ensures.zero
          (omega arith) (omega arith) (omega (arith, inside));
      same_pages = c.clear.ensures.same_pages ∙ c.loop-at.invariant.same_pages;
    }
