use Rattle.lab_model.proofs.Common.{◌≡◌, ◌∙◌, [], ap, arith, nil_from_length}
use Rattle.lab_standing.specs.Image.{own_of}
use Rattle.lab_standing.specs.Linked.{link_rows}
use Rattle.lab_rule_checks.specs.Search.{front, nothing_reached}
use Rattle.lab_rule_checks.proofs.Reaching.{reach_all-less}
use Rattle.lab_rule_checks.proofs.Searching.{searching-first, searching-last, searching-next}
use Rattle.lab_rule_checks.proofs.search.reached.Goals as goal

-- the first devices are reached
pub loop-device-init : goal.loop-device-init
loop-device-init c =
    searching-first (link_rows c.args.links.now) c.args.first.now (front c.in_ok-search.search)
    (front c.reach_all.new.self) (c.in_ok-search.ensures ∙ ap nothing_reached c.count.ensures)
    c.in_ok-reach_all.ensures

-- less is left to do
pub loop-device-smaller : goal.loop-device-smaller
loop-device-smaller c = reach_all-less (own_of (link_rows c.args.links.now) c.in-Some.device)
    (front c.loop-device.search) (front c.reach_all-in-Some.new.self) c.in-Some.device
    c.pop.new.self.items c.in-Some.ensures.items (rw (← c.row.ensures) c.in_ok-reach_all-2.ensures)

-- one device more is followed
pub loop-device-preserved : goal.loop-device-preserved
loop-device-preserved c =
    searching-next (link_rows c.args.links.now) c.args.first.now (front c.loop-device.search)
    (front c.reach_all-in-Some.new.self) c.in-Some.device c.pop.new.self.items
    c.in-Some.ensures.items (rw (← c.row.ensures) c.in_ok-reach_all-2.ensures)
    c.loop-device.invariant

-- none waits
pub returns : goal.returns
returns c =
    let idle : c.loop-device.search.waiting.items ≡ []
    = nil_from_length c.loop-device.search.waiting.items (grind arith) in
    searching-last (link_rows c.args.links.now) c.args.first.now (front c.loop-device.search) idle
    c.loop-device.invariant
