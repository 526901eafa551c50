-- The packed runs' text, with a space behind each, and the last one's.
use Rattle.std.proofs.Common.{rules, ◌≡◌, ◌<◌, ◌+◌, ◌++◌, ℕ, List, None, length, arith, sym, ap, ◌∙◌}
use Rattle.std.proofs.Common.{append_assoc, length-append}
use Rattle.lab_text.specs.declared.run.Run.{Run}
use Rattle.lab_text.specs.Packed.{unpacked, before_others, if_filled}
use Rattle.lab_text.specs.Runs.{run_text, runs_text}
use Rattle.lab_text.proofs.RunsLemmas.{runs_text-last, runs_text-nil}
use Rattle.lab_text.proofs.PackedLemmas.{unpacked-none, unpacked-last}
use Rattle.lab_text.proofs.run.push_each_run.Goals as goal

-- the text of runs with a last one that has a byte
module _ (runs : List Run) (packed : List ℕ) (last : Run) (some : 0 < last.count)
    (kept : unpacked None packed ++ if_filled last ≡ runs) where
  text-kept : runs_text runs ≡ before_others (unpacked None packed) ++ run_text last
  text-kept =
      ap runs_text (sym kept ∙ unpacked-last packed last some)
      ∙ runs_text-last (unpacked None packed) last

  -- and its length
  size-kept : length (runs_text runs)
      ≡ length (before_others (unpacked None packed)) + length (run_text last)
  size-kept =
      ap length text-kept ∙ length-append (before_others (unpacked None packed)) (run_text last)

-- no run has no text
pub returns-then-runs-eq0-clause-ok : goal.returns-then-runs-eq0-clause-ok
returns-then-runs-eq0-clause-ok c =
    let packed = c.runs.inside.packed.items in
    let nothing = c.runs.invariant.none c.if-runs-eq0.true in
    let none = unpacked-none packed c.runs.inside.last nothing c.if-runs-eq0.true in
    let empty = ap runs_text (sym c.runs.view_is ∙ none) ∙ runs_text-nil in
    search (rules, empty)

-- there was no room for the packed runs' text
pub returns-in_err-push_packed_runs-clause-full : goal.returns-in_err-push_packed_runs-clause-full
returns-in_err-push_packed_runs-clause-full c =
    let kept = c.runs.inside in
    search (
      rules,
      arith,
      size-kept c.args.runs.now kept.packed.items kept.last (omega arith) c.runs.view_is,
    )

-- the last one's text follows theirs
pub returns-clause-ok : goal.returns-clause-ok
returns-clause-ok c =
    let kept = c.runs.inside in
    search (
      rules,
      append_assoc,
      text-kept c.args.runs.now kept.packed.items kept.last (omega arith) c.runs.view_is,
    )

-- or there was no room for it
pub returns-clause-full : goal.returns-clause-full
returns-clause-full c =
    let kept = c.runs.inside in
    search (
      rules,
      arith,
      size-kept c.args.runs.now kept.packed.items kept.last (omega arith) c.runs.view_is,
    )
