use Rattle.std.proofs.Common.{◌≡◌, ap, sym, ◌∙◌, Some, None}
use Rattle.std.specs.Option.{option_copied}
use Rattle.cluster_defs.specs.Engines.{engine_on}
use Rattle.engine_registry.proofs.Apart.{one_raised, none_on}
use Rattle.engine_registry.proofs.beats.one_raises.Goals as goal

pub returns-in-Some : goal.returns-in-Some
returns-in-Some c =
    let is : engine_on c.args.live.now c.args.conn ≡ Some c.in-Some.engine.now = sym c.requires.engine ∙ ap option_copied c.in-Some.is in
    sym (one_raised c.args.conn c.args.beat c.args.live.now c.in-Some.engine.now c.requires.apart is)

pub returns-in-None : goal.returns-in-None
returns-in-None c =
    let none : engine_on c.args.live.now c.args.conn ≡ None = sym c.requires.engine ∙ ap option_copied c.in-None.is in
    sym (none_on c.args.conn c.args.beat c.args.live.now none)
