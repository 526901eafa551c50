use Rattle.lab_model.proofs.Common.{◌≡◌, All, map, take, IsOk, part_of}
use Rattle.lab_iolog.specs.Log.{log_of_lines}
use Rattle.lab_rulebook.specs.PartsOf.{log_part as text_log}
use Rattle.lab_verify.specs.NamedLogs.{named_log_part}
use Rattle.lab_verify.proofs.parts.read_logs.Given as goal

-- the logs gone over can be read, and are those of their texts
abbrev pub invariant-loop-part : goal.invariant-loop-part
invariant-loop-part l = record {
  read : map (λ part. text_log (part_of part)) (take l.part-index l.bundle.logs.items)
      ≡ map named_log_part l.logs.items;
  readable : All (λ part. IsOk (log_of_lines (part_of part).1))
      (take l.part-index l.bundle.logs.items);
}
