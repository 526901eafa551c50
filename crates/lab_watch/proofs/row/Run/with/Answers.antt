-- Either nobody wrote either, or the operation's sectors go on.
use Rattle.std.proofs.Common.{refl}
use Rattle.lab_watch.proofs.Runs.{nobody-joins, writer-joins}
use Rattle.lab_watch.proofs.row.Run.with.Goals as goal

pub returns-in-None-None : goal.returns-in-None-None
returns-in-None-None c = nobody-joins c.args.self c.args.other _ c.in-None-None.is-0
    c.in-None-None.is-1 c.in_ok-count.ensures.1 refl

pub returns-in-Some-Some : goal.returns-in-Some-Some
returns-in-Some-Some c = writer-joins c.args.self c.args.other _ c.in-Some-Some.first
    c.in-Some-Some.writer c.in-Some-Some.is-0 c.in-Some-Some.is-1
    (c.is_behind.ensures c.if-is_behind.true) c.in_ok-count.ensures.1 refl
