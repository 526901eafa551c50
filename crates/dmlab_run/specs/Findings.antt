-- What is told of findings (this project's own).
use Rattle.std.specs.Prelude.{ℕ, List, [], ◌&&◌, false, nat_lt}
use Rattle.lab_findings.specs.declared.sought.Sought.{Sought}
use Rattle.lab_sweep.specs.Totals.{totals_text}
use Rattle.lab_sweep.specs.declared.totals.Totals.{Totals}
use Rattle.dmlab_words.specs.declared.asked.Asked.{Asked}
use Rattle.dmlab_run.specs.Lines.{Output}

-- the findings that the words ask for
abbrev pub sought_by : Asked → Sought
sought_by asked = record {
  eio = asked.eio;
  lost = asked.lost;
  corrupt = asked.corrupt;
  stale = asked.stale;
  misplaced = asked.misplaced;
  broken_sync = asked.broken_sync;
}

-- the job is done, and this is its text; the totals are told besides, and where a finding is to be a
-- failure it is one if a run has some
abbrev pub found_with : Asked → List ℕ → Totals → Output
found_with asked text totals = record {
  refused = false;
  found = asked.fail && nat_lt 0 totals.found;
  text = text;
  besides = totals_text (sought_by asked) totals;
  others = [];
}
