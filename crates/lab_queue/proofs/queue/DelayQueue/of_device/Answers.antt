use Rattle.std.proofs.lemmas.Result.{IfOk-weaker}
use Rattle.lab_queue.proofs.Ranks.{entry}
use Rattle.lab_queue.proofs.queue.DelayQueue.of_device.Goals as goal

-- the numbers with the device as rank are those that it holds
pub returns-clause-holder : goal.returns-clause-holder
returns-clause-holder c =
    let index = c.self.invariant.devices in
    rw (← c.self.view_is) (IfOk-weaker c.with_rank.result _ _ (λ ids contains id.
    let has = rw c.from.ensures at contains id in (
      λ held. (index (entry c.args.holder id)).0 (has.0 held),
      λ is. has.1 ((index (entry c.args.holder id)).1 is),
    )) c.with_rank.ensures.contains)
