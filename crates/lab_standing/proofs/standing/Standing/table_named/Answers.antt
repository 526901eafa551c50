use Rattle.lab_model.proofs.Common.{◌≡◌, ◌∙◌, map, ap, option_copied, result_ok, IfOk-weaker}
use Rattle.lab_rulebook.specs.PartsOf.{table_part}
use Rattle.lab_rulebook.specs.Parts.{Parts}
use Rattle.lab_rulebook.specs.BoundWords.{word_device}
use Rattle.lab_rulebook.specs.Standing.{table_named}
use Rattle.lab_standing.specs.Image.{text_of}
use Rattle.lab_standing.specs.Stands.{standing_of}
use Rattle.lab_standing.proofs.TablesNamed.{none-named, text-named}
use Rattle.lab_table.specs.TableText as texts
use Rattle.lab_standing.proofs.standing.Standing.table_named.Goals as goal

-- the name's table is bound
pub returns-in-Some : goal.returns-in-Some
returns-in-Some g c =
    let m = g.T.Target.meaning in
    let s = standing_of m c.args.self.now in
    IfOk-weaker c.bound.result
    (λ table. table ≡ result_ok (texts.table_of m (word_device s) c.in-Some.named.now.table))
    (λ table. (parts : Parts g.row.T.Denot)
    → parts.tables ≡ map (λ named. table_part m (text_of named)) c.args.tables.now
    → table ≡ table_named parts s c.args.name.now)
    (λ table is parts are. is ∙ text-named m s c.args.name.now c.args.tables.now parts are
    (option_copied c.named_so.result) c.in-Some.named.now c.named_so.ensures
    (ap option_copied c.in-Some.is)) c.bound.ensures

-- no table has the name
pub returns-in-None : goal.returns-in-None
returns-in-None g c = λ parts are.
    none-named g.T.Target.meaning (standing_of g.T.Target.meaning c.args.self.now)
    c.args.name.now c.args.tables.now parts are (option_copied c.named_so.result)
    c.named_so.ensures (ap option_copied c.in-None.is)
