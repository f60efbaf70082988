use Rattle.std.proofs.Common.{◌≡◌, ◌∙◌, ap, List, ℕ, to_z, of_z}
use Rattle.std.specs.Prelude.{string_bytes}
use Rattle.std.specs.Int.{w64}
use Rattle.std.proofs.lemmas.Int.{to_z-of_z}
use Rattle.arith_eval.specs.Names.{value_in, assignments, assign}
use Rattle.arith_eval.proofs.Naming.{named_assigned}
use Rattle.arith_eval.proofs.namespace.Namespace.set.Goals as goal

pub returns-clause-ok : goal.returns-clause-ok
returns-clause-ok c =
    let old = c.self.inside.values in
    let name = string_bytes c.in_ok-key.key in
    let value = to_z w64 (of_z w64 c.args.value) in
    let name_is : name ≡ c.args.name.now = c.in_ok-key.ensures.ok ∙ c.as_str.ensures in
    let at : (y : List ℕ) → value_in (assignments c.insert.new.self.entries) y ≡ assign (value_in c.args.self.now) c.args.name.now c.args.value y = λ y.
    named_assigned old c.insert.new.self name value c.in_ok-insert.ensures.updates y
    ∙ ap (λ x. assign (value_in (assignments old.entries)) x value y) name_is
    ∙ ap (λ v. assign (value_in (assignments old.entries)) c.args.name.now v y) (to_z-of_z w64 c.args.value c.ranges.value)
    ∙ ap (λ m. assign (value_in m) c.args.name.now c.args.value y) c.self.view_is in
    λ i y. at y i
