-- How an answer ends: the bundle is refused, or the job is done (this project's own).
use Rattle.std.specs.Prelude.{List, [], ℕ, Bool, true, false, ◌++◌, codes}
use Rattle.std.specs.List.{flat_map}
use Rattle.lab_model.specs.Report.{text_line}
use Rattle.lab_model.specs.Rules.{FaultSeen}
use Rattle.lab_refusal.specs.FaultText.{fault_text}

-- what is told of a bundle: whether it is refused, whether something was found that is to be a
-- failure, the whole text, what standard error is told besides, and the faults that the text tells
-- below its first line; the advice on a refusal, which `Running` speaks of, is no part of it
pub record Output : Type 0 where
  pub refused : Bool
  pub found : Bool
  pub text : List ℕ
  pub besides : List ℕ
  pub others : List FaultSeen

-- the job is done, and this is all that it tells
abbrev pub done_with : List ℕ → Output
done_with text =
    record { refused = false; found = false; text = text; besides = []; others = [] }

-- the bundle is refused, and this one line tells why
abbrev pub refused_with : List ℕ → Output
refused_with line =
    record { refused = true; found = false; text = text_line line; besides = []; others = [] }

-- the bundle is refused for this fault: `refused PART LINE RULE`
abbrev pub refused_for : FaultSeen → Output
refused_for seen = refused_with (codes "refused " ++ fault_text seen)

-- the lines that tell these faults, in order
abbrev pub refused_lines : List FaultSeen → List ℕ
refused_lines faults = flat_map (λ seen. (refused_for seen).text) faults
