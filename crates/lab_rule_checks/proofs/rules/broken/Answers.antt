use Rattle.lab_model.proofs.Common.{refl, drop}
use Rattle.lab_rule_checks.specs.Least.{script_rules}
use Rattle.lab_rule_checks.proofs.LeastRules.{BreaksHere, behind, first-told, here, past-tables}
use Rattle.lab_rule_checks.proofs.LeastRules.{then-told}
use Rattle.lab_rule_checks.proofs.rules.broken.Goals as goal

-- a rule on names is broken
pub returns-in-Some : goal.returns-in-Some
returns-in-Some g c = λ parts is linked.
    let broken = BreaksHere g.T.Target.meaning parts c.args.standing.now c.args.command in
    first-told broken 3 script_rules c.in-Some.is (c.broken_name.ensures parts is)

-- a rule on tables is, and none on names
pub returns-in-Some-broken_table : goal.returns-in-Some-broken_table
returns-in-Some-broken_table g c = λ parts is linked.
    let broken = BreaksHere g.T.Target.meaning parts c.args.standing.now c.args.command in
    then-told broken 3 script_rules _ c.in_default.is (c.broken_name.ensures parts is)
    (first-told broken 2 (drop 3 script_rules) c.in-Some-broken_table.is
    (c.broken_table.ensures parts is))

-- the rule on suspends is, and none before it
pub returns-then-branch : goal.returns-then-branch
returns-then-branch g c = λ parts is linked.
    let broken = BreaksHere g.T.Target.meaning parts c.args.standing.now c.args.command in
    past-tables broken c.in_default.is (c.broken_name.ensures parts is)
    c.in_default-broken_table.is (c.broken_table.ensures parts is)
    (here (c.in_ok-breaks_v6.ensures parts) c.if-branch.true)

-- a rule between those on suspends and on cycles is, and none before them
pub returns-in-Some-broken_step : goal.returns-in-Some-broken_step
returns-in-Some-broken_step g c = λ parts is linked.
    let broken = BreaksHere g.T.Target.meaning parts c.args.standing.now c.args.command in
    past-tables broken c.in_default.is (c.broken_name.ensures parts is)
    c.in_default-broken_table.is (c.broken_table.ensures parts is)
    (behind (c.in_ok-breaks_v6.ensures parts) c.if-branch.false
    (first-told broken 4 (drop 6 script_rules) c.in-Some-broken_step.is
    (c.broken_step.ensures parts)))

-- the rule on cycles is, and none before it
pub returns-then-branch-2 : goal.returns-then-branch-2
returns-then-branch-2 g c = λ parts is linked.
    let broken = BreaksHere g.T.Target.meaning parts c.args.standing.now c.args.command in
    past-tables broken c.in_default.is (c.broken_name.ensures parts is)
    c.in_default-broken_table.is (c.broken_table.ensures parts is)
    (behind (c.in_ok-breaks_v6.ensures parts) c.if-branch.false
    (then-told broken 4 (drop 6 script_rules) _ c.in_default-broken_step.is
    (c.broken_step.ensures parts)
    (here (c.in_ok-breaks_v11.ensures parts is linked) c.if-branch-2.true)))

-- none is broken
pub returns : goal.returns
returns g c = λ parts is linked.
    let broken = BreaksHere g.T.Target.meaning parts c.args.standing.now c.args.command in
    past-tables broken c.in_default.is (c.broken_name.ensures parts is)
    c.in_default-broken_table.is (c.broken_table.ensures parts is)
    (behind (c.in_ok-breaks_v6.ensures parts) c.if-branch.false
    (then-told broken 4 (drop 6 script_rules) _ c.in_default-broken_step.is
    (c.broken_step.ensures parts)
    (behind (c.in_ok-breaks_v11.ensures parts is linked) c.if-branch-2.false refl)))
