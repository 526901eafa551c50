-- A worker's count is at most the number of the events, of which there are few.
use Rattle.lab_model.proofs.Common.{◌≡◌, [], ◌∷◌, length, ap, arith, ◌∙◌, length-append}
use Rattle.lab_any.specs.Any.{any_meaning}
use Rattle.lab_runner.specs.Counts.{place_of}
use Rattle.lab_runner.proofs.Owned.{count-most}
use Rattle.lab_runner.proofs.shared.fire_counted.Goals as goal

-- so it can be one more
pub overflow_add-counts : goal.overflow_add-counts
overflow_add-counts c =
    let lab = c.args.lab.now in
    let few = count-most any_meaning lab.scenario lab.history c.args.counts.now c.args.who
    c.requires.counted c.requires.worker in
    let place : c.place_of.result ≡ place_of (length lab.scenario.logs) c.args.who =
    c.place_of.ensures ∙ ap (λ n. place_of n c.args.who)
    (c.count_logs.ensures.count ∙ ap (λ d. length d.logs) c.fire.ensures.scenario) in
    rw place (omega (
      arith,
      few,
      c.count_logs.ensures.events,
      ap length c.in_ok-fire.ensures.history,
      length-append lab.history (c.args.event ∷ []),
    ))
