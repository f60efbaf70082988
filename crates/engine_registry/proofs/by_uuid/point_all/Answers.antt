use Rattle.std.proofs.Common.{◌≡◌, ◌∙◌, ap, sym, subst, get_or, Some, None, true, length, take}
use Rattle.std.specs.Prelude.{find}
use Rattle.std.specs.HashMap.{get_by_text}
use Rattle.std.specs.Option.{is_some}
use Rattle.cluster_defs.proofs.Options.{same_id, id_self}
use Rattle.cluster_defs.specs.declared.engine.Engine.{Engine}
use Rattle.engine_registry.specs.Places.{named}
use Rattle.engine_registry.proofs.Telling.{tells_next, has_item}
use Rattle.engine_registry.proofs.by_uuid.point_all.Goals as goal

pub loop-place-preserved : goal.loop-place-preserved
loop-place-preserved c =
    let live = c.args.live.now in
    let i = c.loop-place.place in
    let e = c.index-live-place.result in
    let old = get_by_text c.loop-place.places in
    let new = get_by_text c.point_behind.new.places in
    let key = (get_or live i e).uuid in
    let same : e.uuid ≡ key = ap (λ (x : Engine). x.uuid) c.index-live-place.is in
    let there : is_some (old key) ≡ true = c.loop-place.invariant.same key ∙ c.requires key (has_item (named key) live i e c.loop-place-test.true (id_self key)) in
    record {
      tells = tells_next named live i e old new c.loop-place-test.true c.index-live-place.is c.loop-place.invariant.tells c.point_behind.ensures.kept
          (λ k yes none.
          let is : key ≡ k = sym same ∙ same_id e.uuid k yes in
          subst (λ j. new j ≡ Some (length (take i live))) is (c.point_behind.ensures.there there (subst (λ j. find (named j) (take i live) ≡ None) (sym is) none)));
      same = λ k. c.point_behind.ensures.same k ∙ c.loop-place.invariant.same k;
    }
