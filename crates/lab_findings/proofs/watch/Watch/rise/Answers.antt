-- Where no sector is void and none was issued after it, it is the newest at all of its sectors.
use Rattle.lab_model.proofs.Common.{◌∙◌, ap}
use Rattle.std.proofs.lemmas.Result.{on_ok_weaker}
use Rattle.lab_next.specs.declared.writer.Writer.{Writer}
use Rattle.lab_findings.proofs.Latest.{rises}
use Rattle.lab_findings.specs.Settled.{raised_on}
use Rattle.lab_findings.specs.Watched.{Watched}
use Rattle.lab_findings.proofs.watch.Watch.rise.Goals as goal

pub returns-then-is_latest : goal.returns-then-is_latest
returns-then-is_latest c =
    let own = c.self.inside in
    let span = c.args.span in
    let first : Writer = record { origin = c.args.origin; sector = 0 } in
    let here : Watched = record {
      sought = own.sought;
      writers = own.writers;
      deeds = own.deeds;
      culprits = own.culprits;
      newest = own.newest;
      claims = own.claims;
      voids = own.voids;
      lapses = own.lapses;
      spoiled = own.spoiled;
    } in
    on_ok_weaker c.spread.result (λ is. ap (λ grid. record here { newest = grid }) (is
    ∙ rises own.deeds c.args.number (c.is_latest.ensures c.if-is_latest.true) own.newest own.voids
    c.args.device span.first span.len first (c.is_empty.ensures.nobody c.if-is_empty.true))
    ∙ ap (λ watched. raised_on watched c.args.number c.args.origin c.args.device span) c.self.view_is)
    c.spread.ensures.spread
