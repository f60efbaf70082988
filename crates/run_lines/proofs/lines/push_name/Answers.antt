use Rattle.std.proofs.Common.{◌++◌, sym, ap, ◌∙◌}
use Rattle.std.specs.Option.{option_copied}
use Rattle.run_lines.proofs.Fronts.{nothing_behind, name_none}
use Rattle.run_lines.proofs.lines.push_name.Goals as goal

pub returns-in-None : goal.returns-in-None
returns-in-None c =
    sym (ap (λ t. c.args.text.now.items ++ t) (name_none c.args.names.now c.args.place (sym c.get.ensures ∙ ap option_copied c.in-None.is)) ∙ nothing_behind c.args.text.now.items)
