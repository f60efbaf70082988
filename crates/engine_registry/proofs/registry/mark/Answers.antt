use Rattle.std.proofs.Common.{◌≡◌, ap, sym, ◌∙◌, None}
use Rattle.cluster_defs.specs.Engines.{engine_on}
use Rattle.engine_registry.specs.Places.{on, engine_at}
use Rattle.engine_registry.proofs.Apart.{none_marked}
use Rattle.engine_registry.proofs.registry.mark.Goals as goal

pub returns-in-None : goal.returns-in-None
returns-in-None c =
    let live = c.args.live.now in
    let conn = c.args.conn in
    let none : engine_on live conn ≡ None = sym (c.requires.conns conn) ∙ ap (engine_at live (on conn)) (sym c.place_of.ensures ∙ c.in-None.is) in
    sym (none_marked conn c.args.beat live none)
