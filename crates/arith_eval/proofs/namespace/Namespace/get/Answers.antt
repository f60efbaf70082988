use Rattle.std.proofs.Common.{◌∙◌, ap}
use Rattle.arith_eval.specs.Names.{value_in, assignments}
use Rattle.arith_eval.proofs.Naming.{named_value}
use Rattle.arith_eval.proofs.namespace.Namespace.get.Goals as goal

pub returns : goal.returns
returns c =
    c.copied.ensures ∙ c.get.ensures.value ∙ named_value c.self.inside.values.entries c.as_str.result.now
    ∙ ap (value_in (assignments c.self.inside.values.entries)) c.as_str.ensures
    ∙ ap (λ m. value_in m c.args.name.now) c.self.view_is
