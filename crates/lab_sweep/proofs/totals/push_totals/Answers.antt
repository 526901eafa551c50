-- Each part is written after the others.
use Rattle.lab_core.proofs.TextLemmas.{and-then}
use Rattle.lab_sweep.proofs.totals.push_totals.Goals as goal

pub returns : goal.returns
returns c =
    let start = c.args.text.now.items in
    let eio = and-then start _ _ _ _ c.in_ok-push_runs.ensures c.in_ok-push_sought.ensures in
    let lost = and-then start _ _ _ _ eio c.in_ok-push_sought-2.ensures in
    let corrupt = and-then start _ _ _ _ lost c.in_ok-push_sought-3.ensures in
    let stale = and-then start _ _ _ _ corrupt c.in_ok-push_sought-4.ensures in
    let misplaced = and-then start _ _ _ _ stale c.in_ok-push_sought-5.ensures in
    let broken = and-then start _ _ _ _ misplaced c.in_ok-push_sought-6.ensures in
    and-then start _ _ _ _ broken c.in_ok-push.ensures.items
