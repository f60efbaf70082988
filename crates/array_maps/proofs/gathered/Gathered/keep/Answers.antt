use Rattle.std.proofs.Common.{◌≡◌, ◌<◌, List, Option, length, arith, refl, ap, subst, ◌∙◌}
use Rattle.client_core.specs.declared.answered.Answered.{Answered}
use Rattle.array_maps.specs.Gathering.{Gathering, with_answer}
use Rattle.array_maps.proofs.Placing.{one_kept, none_kept}
use Rattle.array_maps.proofs.gathered.Gathered.keep.Goals as goal

pub returns-in-Some : goal.returns-in-Some
returns-in-Some c =
    let seen : Gathering = record { first = c.self.inside.first; answers = c.self.inside.answers.items } in
    let is : seen ≡ c.args.self.now = c.self.view_is in
    let lt : c.in-Some.place < length c.self.inside.answers.items = omega (arith, c.in-Some.ensures.some.0, c.len.ensures, c.self.inside.answers.ok.0) in
    subst (λ (g : Gathering). record seen { answers = c.put.new.answers.items } ≡ with_answer g c.args.id.now c.args.answered) is
    (ap (λ (l : List (Option Answered)). record seen { answers = l }) c.put.ensures ∙ one_kept seen c.in-Some.place c.args.id.now c.args.answered lt c.self.invariant c.in-Some.ensures.some.1)

pub returns-in_default : goal.returns-in_default
returns-in_default c =
    let seen : Gathering = record { first = c.self.inside.first; answers = c.self.inside.answers.items } in
    let is : seen ≡ c.args.self.now = c.self.view_is in
    let long : c.len.result ≡ length c.self.inside.answers.items = omega (arith, c.len.ensures, c.self.inside.answers.ok.0) in
    subst (λ (g : Gathering). g ≡ with_answer g c.args.id.now c.args.answered) is (none_kept seen c.len.result c.args.id.now c.args.answered long (c.in_default.ensures.none refl))
