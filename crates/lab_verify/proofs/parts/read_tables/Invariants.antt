use Rattle.lab_model.proofs.Common.{◌≡◌, All, map, take, IsOk, part_of}
use Rattle.lab_table.specs.TableText.{each_known}
use Rattle.lab_rulebook.specs.PartsOf.{table_of_lines}
use Rattle.lab_standing.specs.Image.{text_of}
use Rattle.lab_verify.proofs.parts.read_tables.Given as goal

-- the tables gone over can be read, and are those of their texts
abbrev pub invariant-loop-part : goal.invariant-loop-part
invariant-loop-part g l = record {
  read : map part_of (take l.part-index l.bundle.tables.items) ≡ map text_of l.tables.items;
  readable : All (λ part. IsOk (table_of_lines g.T.Target.meaning each_known (part_of part).1))
      (take l.part-index l.bundle.tables.items);
}
