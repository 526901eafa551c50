use Rattle.lab_model.proofs.Common.{◌∙◌, ◌++◌, ap, err_from_is_err_and}
use Rattle.lab_rulebook.specs.Walked.{scenario_of}
use Rattle.lab_rulebook.specs.PartsOf.{parts_of_texts, texts_of}
use Rattle.lab_verify.proofs.ReadTexts.{are-judged}
use Rattle.lab_verify.proofs.Verdicts.{awaits, budget-verdict, end-verdict, log-verdict}
use Rattle.lab_verify.proofs.Verdicts.{walk-verdict}
use Rattle.lab_verify.proofs.verifier.judge.Goals as goal

-- a command breaks a rule
pub returns-in_err-standing : goal.returns-in_err-standing
returns-in_err-standing g c =
    let m = g.T.Target.meaning in
    let texts = texts_of c.args.bundle.now in
    let read = are-judged m c.args.bundle.now c.args.script.now c.args.logs.now.items
    c.requires.tables_readable c.requires.script c.requires.logs c.requires.readable
    c.requires.limits c.args.tables.now c.requires.tables in
    let p = err_from_is_err_and c.from_residual.result c.from_residual.ensures.1 in
    rw (p.1, p.2) (walk-verdict m texts read.readable read.within _
    (c.in_err-standing.ensures.told _ read.parts read.rows))

-- the script's end does
pub returns-in-Err : goal.returns-in-Err
returns-in-Err g c =
    let m = g.T.Target.meaning in
    let texts = texts_of c.args.bundle.now in
    let read = are-judged m c.args.bundle.now c.args.script.now c.args.logs.now.items
    c.requires.tables_readable c.requires.script c.requires.logs c.requires.readable
    c.requires.limits c.args.tables.now c.requires.tables in
    end-verdict m texts read.readable read.within c.in_ok-standing.standing
    (c.in_ok-standing.ensures.told _ read.parts read.rows) c.in-Err.refusal
    (c.in-Err.ensures (parts_of_texts m texts))

-- a log line does
pub returns-in-Some : goal.returns-in-Some
returns-in-Some g c =
    let m = g.T.Target.meaning in
    let texts = texts_of c.args.bundle.now in
    let read = are-judged m c.args.bundle.now c.args.script.now c.args.logs.now.items
    c.requires.tables_readable c.requires.script c.requires.logs c.requires.readable
    c.requires.limits c.args.tables.now c.requires.tables in
    let parts = parts_of_texts m texts in
    log-verdict m texts read.readable read.within c.in_ok-standing.standing
    (c.in_ok-standing.ensures.told _ read.parts read.rows) (c.in_default.ensures parts)
    c.in-Some.fault c.in-Some.is

-- only the budget is still to be looked at
pub accept-requires : goal.accept-requires
accept-requires g c =
    let m = g.T.Target.meaning in
    let texts = texts_of c.args.bundle.now in
    let read = are-judged m c.args.bundle.now c.args.script.now c.args.logs.now.items
    c.requires.tables_readable c.requires.script c.requires.logs c.requires.readable
    c.requires.limits c.args.tables.now c.requires.tables in
    let parts = parts_of_texts m texts in
    awaits m texts read.readable read.within c.in_ok-standing.standing
    (c.in_ok-standing.ensures.told _ read.parts read.rows) (c.in_default.ensures parts)
    c.in_default-fault.is c.walk.new.micros.items
    (c.in_ok-standing.ensures.micros _ read.parts read.rows
    ∙ ap (λ front. front ++ (scenario_of m parts).micros) c.new-micros.ensures.items)

-- its answer is the verdict
pub returns : goal.returns
returns g c =
    let m = g.T.Target.meaning in
    let texts = texts_of c.args.bundle.now in
    let read = are-judged m c.args.bundle.now c.args.script.now c.args.logs.now.items
    c.requires.tables_readable c.requires.script c.requires.logs c.requires.readable
    c.requires.limits c.args.tables.now c.requires.tables in
    let parts = parts_of_texts m texts in
    budget-verdict m texts read.readable read.within c.in_ok-standing.standing
    (c.in_ok-standing.ensures.told _ read.parts read.rows) (c.in_default.ensures parts)
    c.in_default-fault.is c.walk.new.micros.items
    (c.in_ok-standing.ensures.micros _ read.parts read.rows
    ∙ ap (λ front. front ++ (scenario_of m parts).micros) c.new-micros.ensures.items)
    c.accept.result c.accept.ensures
