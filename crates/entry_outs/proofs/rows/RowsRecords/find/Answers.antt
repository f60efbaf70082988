use Rattle.std.proofs.Common.{sym, ap, ◌∙◌, Some}
use Rattle.std.specs.Prelude.{option_map}
use Rattle.std.specs.Option.{option_copied}
use Rattle.task_table.specs.Seen.{Seen}
use Rattle.entry_outs.proofs.Telling.{row_found}
use Rattle.entry_outs.proofs.rows.RowsRecords.find.Goals as goal

pub returns-in-Some : goal.returns-in-Some
returns-in-Some c =
    ap Some c.row.ensures
    ∙ sym (row_found c.args.self.now.tasks.now c.args.id.now ∙ ap (option_map (λ (t : Seen). t.row)) (sym c.find.ensures ∙ ap option_copied c.in-Some.is))

pub returns-in-None : goal.returns-in-None
returns-in-None c =
    sym (row_found c.args.self.now.tasks.now c.args.id.now ∙ ap (option_map (λ (t : Seen). t.row)) (sym c.find.ensures ∙ ap option_copied c.in-None.is))
