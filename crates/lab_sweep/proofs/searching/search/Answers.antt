-- The search ends once all seeds are gone through.
use Rattle.lab_model.proofs.Common.{◌∙◌}
use Rattle.lab_sweep.proofs.Searches.{search-ends}
use Rattle.lab_sweep.proofs.searching.search.Goals as goal

pub returns : goal.returns
returns g c =
    let all = c.in_ok-accepted.ensures in
    let searched = c.in_ok-searched.searched in
    search-ends g.T.Target.meaning c.args.accepted.scenario c.args.seeds.prompt c.args.sought
    c.scenario.result.now c.args.by_line c.args.seeds.first c.args.seeds.last
    c.seek_all-back.new.searcher searched.text.items searched.totals all.all
    (c.scenario.ensures.value ∙ all.back) c.in_ok-searched.ensures.text
    c.in_ok-searched.ensures.totals
