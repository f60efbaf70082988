use Rattle.std.proofs.Common.{◌≡◌, subst, sym, ◌∙◌, Bool, true, not, nat_eq}
use Rattle.std.specs.Prelude.{slice_get, ◌==◌}
use Rattle.std.specs.HashMap.{get, get_by_text}
use Rattle.cluster_defs.specs.declared.engine.Engine.{Engine}
use Rattle.engine_registry.specs.Places.{on, named, numbered, Tells, HasEach}
use Rattle.engine_registry.specs.Indexed.{Indexed, is_least}
use Rattle.engine_registry.proofs.Telling.{each_kept}
use Rattle.engine_registry.proofs.Keeping.{less}
use Rattle.engine_registry.proofs.registry.Registry.end.Goals as goal

pub point_all-requires : goal.point_all-requires
point_all-requires c =
    let live = c.self.inside.live.items in
    let f = get nat_eq c.self.inside.conns in
    let q : Engine → Bool = λ e. not (e.number == c.args.number) in
    subst (λ es. HasEach on es f) (sym (c.deref-3.ensures.value ∙ c.drop_number.ensures)) (each_kept on q live f c.self.invariant.conns)

pub point_all-requires-2 : goal.point_all-requires-2
point_all-requires-2 c =
    let live = c.self.inside.live.items in
    let f = get_by_text c.self.inside.uuids in
    let q : Engine → Bool = λ e. not (e.number == c.args.number) in
    subst (λ es. HasEach named es f) (sym (c.deref-4.ensures.value ∙ c.drop_number.ensures)) (each_kept named q live f c.self.invariant.uuids)

pub point_all-requires-3 : goal.point_all-requires-3
point_all-requires-3 c =
    let live = c.self.inside.live.items in
    let f = slice_get c.self.inside.numbers.items in
    let q : Engine → Bool = λ e. not (e.number == c.args.number) in
    subst (λ es. HasEach numbered es f) (sym (c.deref-5.ensures.value ∙ c.drop_number.ensures)) (each_kept numbered q live f c.self.invariant.numbers)

pub invariant_of-self : goal.invariant_of-self
invariant_of-self c =
    let s = c.self.inside in
    let live = s.live.items in
    let q : Engine → Bool = λ e. not (e.number == c.args.number) in
    let c2 = get nat_eq c.forget.new.conns in
    let u2 = get_by_text c.forget.new.uuids in
    let n2 = slice_get c.point_all-3.new.places.items in
    let least = c.least_mark-self-inside.result in
    subst (λ es. Indexed es c2 u2 n2 s.apart least) (sym c.drop_number.ensures)
    (less live (get nat_eq s.conns) c2 (get_by_text s.uuids) u2 (slice_get s.numbers.items) n2 s.apart s.apart s.least least q c.self.invariant
    (subst (λ es. Tells on es c2) (c.deref-6.ensures.value ∙ c.drop_number.ensures) c.forget.ensures.conns)
    (subst (λ es. Tells named es u2) (c.deref-6.ensures.value ∙ c.drop_number.ensures) c.forget.ensures.uuids)
    (subst (λ es. Tells numbered es n2) (c.deref-5.ensures.value ∙ c.drop_number.ensures) c.point_all-3.ensures)
    (subst (λ es. is_least es least ≡ true) (c.deref-7.ensures.value ∙ c.drop_number.ensures) c.least_mark-self-inside.ensures))
