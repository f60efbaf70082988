use Rattle.std.proofs.Common.{◌≡◌, ◌∙◌, ap, sym, subst, get_or, refl, Some, None, true, length, take}
use Rattle.std.specs.Prelude.{find, slice_get}
use Rattle.std.specs.Option.{is_some}
use Rattle.std.proofs.lemmas.Bool.{eqb-true, eq-eqb}
use Rattle.cluster_defs.specs.declared.engine.Engine.{Engine}
use Rattle.engine_registry.specs.Places.{numbered}
use Rattle.engine_registry.proofs.Telling.{tells_next, has_item}
use Rattle.engine_registry.proofs.by_number.point_all.Goals as goal

pub loop-place-preserved : goal.loop-place-preserved
loop-place-preserved c =
    let live = c.args.live.now in
    let i = c.loop-place.place in
    let e = c.index-live-place.result in
    let old = slice_get c.loop-place.places.items in
    let new = slice_get c.point_behind.new.places.items in
    let key = (get_or live i e).number in
    let same : e.number ≡ key = ap (λ (x : Engine). x.number) c.index-live-place.is in
    let there : is_some (old key) ≡ true = c.loop-place.invariant.same key ∙ c.requires key (has_item (numbered key) live i e c.loop-place-test.true (eq-eqb key key refl)) in
    record {
      tells = tells_next numbered live i e old new c.loop-place-test.true c.index-live-place.is c.loop-place.invariant.tells c.point_behind.ensures.kept
          (λ k yes none.
          let is : key ≡ k = sym same ∙ eqb-true e.number k yes in
          subst (λ j. new j ≡ Some (length (take i live))) is (c.point_behind.ensures.there there (subst (λ j. find (numbered j) (take i live) ≡ None) (sym is) none)));
      same = λ k. c.point_behind.ensures.same k ∙ c.loop-place.invariant.same k;
    }
