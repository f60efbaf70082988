use Rattle.std.proofs.Common.{◌≡◌, ◌∙◌, ap, sym, subst, get_or, refl, Some, None, true, length, take, nat_eq}
use Rattle.std.specs.Prelude.{find}
use Rattle.std.specs.HashMap.{get}
use Rattle.std.specs.Option.{is_some}
use Rattle.std.proofs.lemmas.Bool.{eqb-true, eq-eqb}
use Rattle.cluster_defs.specs.declared.engine.Engine.{Engine}
use Rattle.engine_registry.specs.Places.{on}
use Rattle.engine_registry.proofs.Telling.{tells_next, has_item}
use Rattle.engine_registry.proofs.by_conn.point_all.Goals as goal

pub loop-place-preserved : goal.loop-place-preserved
loop-place-preserved c =
    let live = c.args.live.now in
    let i = c.loop-place.place in
    let e = c.index-live-place.result in
    let old = get nat_eq c.loop-place.places in
    let new = get nat_eq c.point_behind.new.places in
    let key = (get_or live i e).conn in
    let same : e.conn ≡ key = ap (λ (x : Engine). x.conn) c.index-live-place.is in
    let there : is_some (old key) ≡ true = c.loop-place.invariant.same key ∙ c.requires key (has_item (on key) live i e c.loop-place-test.true (eq-eqb key key refl)) in
    record {
      tells = tells_next on live i e old new c.loop-place-test.true c.index-live-place.is c.loop-place.invariant.tells c.point_behind.ensures.kept
          (λ k yes none.
          let is : key ≡ k = sym same ∙ eqb-true e.conn k yes in
          subst (λ j. new j ≡ Some (length (take i live))) is (c.point_behind.ensures.there there (subst (λ j. find (on j) (take i live) ≡ None) (sym is) none)));
      same = λ k. c.point_behind.ensures.same k ∙ c.loop-place.invariant.same k;
    }
