use Rattle.lab_model.proofs.Common.{◌<◌, ◌∙◌, leb, rules, ap, sym, IsPartitionPoint-from_clause}
use Rattle.lab_model.proofs.Common.{IsPartitionedBy-leb, HasNoGap, line_at, size_of}
use Rattle.lab_table.proofs.Lines.{line_at-point, starts-rise}
use Rattle.lab_table.proofs.table.Table.line_at.Goals as goal

-- the first line begins at or before each sector
pub overflow_sub-result : goal.overflow_sub-result
overflow_sub-result g c =
    let lines = c.deref.result.now in
    let gap : HasNoGap 0 lines = rw c.deref.ensures.value c.self.invariant.are_lines.no_gap in
    let is = c.deref.ensures.value ∙ c.self.view_is in
    let within : c.args.sector < size_of lines = rw is c.requires in
    let parted = IsPartitionedBy-leb (λ line. line.start) lines c.args.sector
    (starts-rise 0 lines gap) in
    let point = IsPartitionPoint-from_clause (λ line. leb line.start c.args.sector) lines
    c.partition_point-after.result c.partition_point-after.ensures.partitioned parted
    (λ a r q k. search rules) in
    (line_at-point lines c.args.sector c.partition_point-after.result gap within
    c.partition_point-after.ensures.bound point).0

-- of the lines that begin at or before the sector the last has it
pub returns : goal.returns
returns g c =
    let lines = c.deref.result.now in
    let gap : HasNoGap 0 lines = rw c.deref.ensures.value c.self.invariant.are_lines.no_gap in
    let is = c.deref.ensures.value ∙ c.self.view_is in
    let within : c.args.sector < size_of lines = rw is c.requires in
    let parted = IsPartitionedBy-leb (λ line. line.start) lines c.args.sector
    (starts-rise 0 lines gap) in
    let point = IsPartitionPoint-from_clause (λ line. leb line.start c.args.sector) lines
    c.partition_point-after.result c.partition_point-after.ensures.partitioned parted
    (λ a r q k. search rules) in
    ap (λ ls. line_at ls c.args.sector) (sym is)
    ∙ (line_at-point lines c.args.sector c.partition_point-after.result gap within
    c.partition_point-after.ensures.bound point).1
