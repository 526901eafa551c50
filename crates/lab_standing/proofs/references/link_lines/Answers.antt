use Rattle.lab_model.proofs.Common.{rules, ◌≡◌, ◌∙◌, ap, arith, sym, take, flat_map, take_all}
use Rattle.lab_standing.specs.Linked.{devices_of_line, grown}
use Rattle.lab_rulebook.proofs.ReferenceLemmas.{under-image}
use Rattle.lab_standing.proofs.LinkRows.{lines-more}
use Rattle.lab_standing.proofs.references.link_lines.Goals as goal

-- one line more
pub loop-line-preserved : goal.loop-line-preserved
loop-line-preserved g c = search (rules, lines-more)

-- all lines
pub returns : goal.returns
returns g c =
    let m = g.T.Target.meaning in
    let all : take c.loop-line.line-index c.args.lines.now ≡ c.args.lines.now
    = take_all c.loop-line.line-index c.args.lines.now (omega arith) in
    c.loop-line.invariant
    ∙ ap (λ lines. grown (flat_map (devices_of_line m) lines) c.args.row.now.items) all
    ∙ ap (λ devices. grown devices c.args.row.now.items) (sym (under-image m c.args.lines.now))
