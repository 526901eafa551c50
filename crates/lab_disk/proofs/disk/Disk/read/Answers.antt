use Rattle.std.proofs.Common.{◌≡◌, ◌+◌, ◌-◌, ap, arith, drop, take}
use Rattle.std.specs.List.{concat}
use Rattle.std.proofs.lemmas.List.Folds.{concat-append}
use Rattle.lab_disk.proofs.Spans.{length-bytes_in, part_more}
use Rattle.lab_disk.proofs.disk.Disk.read.Goals as goal

-- one more part's bytes
pub loop-at-preserved : goal.loop-at-preserved
loop-at-preserved c =
    let first = c.args.span.first in
    let part = c.part_at-part.result in
    let sectors = c.self.inside.pages.sectors in
    record {
      from = omega arith;
      within = omega arith;
      bytes = rw (c.in_ok-push_all.ensures, c.loop-at.invariant.bytes)
          (rw (← concat-append (take (c.loop-at.at - first) (drop first sectors)))
          (ap concat (part_more sectors first part.first (c.loop-at.at - first) part.len
          (c.loop-at.at + part.len - first) c.part.result.now c.part.ensures
          (omega arith) (omega arith))));
    }

-- 512 bytes for each sector
pub returns-clause-length : goal.returns-clause-length
returns-clause-length c =
    let all : c.loop-at.at - c.args.span.first ≡ c.args.span.len = omega arith in
    rw (c.loop-at.invariant.bytes, all, c.self.view_is)
    (length-bytes_in c.args.self.now c.args.span c.requires (rw c.self.view_is at c.self.invariant))
