use Rattle.std.proofs.Common.{◌≡◌, ◌++◌, length, take, drop, map, subst, sym, ap, ◌∙◌, nat_eq, arith}
use Rattle.std.specs.Prelude.{slice_get}
use Rattle.std.specs.HashMap.{get, get_by_text}
use Rattle.std.proofs.lemmas.List.{with_items_is}
use Rattle.cluster_defs.specs.Engines.{marked}
use Rattle.engine_registry.specs.Indexed.{Indexed}
use Rattle.engine_registry.proofs.Keeping.{echoed}
use Rattle.engine_registry.proofs.registry.Registry.mark.Goals as goal

pub invariant_of-self : goal.invariant_of-self
invariant_of-self c =
    let s = c.self.inside in
    let live = s.live.items in
    let new = c.mark.new.live in
    let whole : take s.live.len (new ++ drop (length new) live) ≡ new = with_items_is s.live new (omega (arith, c.mark.auto.live, c.deref_mut.ensures.len)) in
    let made : new ≡ map (marked c.args.conn c.args.beat) live = c.mark.ensures ∙ ap (map (marked c.args.conn c.args.beat)) c.deref_mut.ensures.value in
    subst (λ es. Indexed es (get nat_eq s.conns) (get_by_text s.uuids) (slice_get s.numbers.items) s.apart s.least) (sym (whole ∙ made))
    (echoed live (get nat_eq s.conns) (get nat_eq s.conns) (get_by_text s.uuids) (get_by_text s.uuids) (slice_get s.numbers.items) (slice_get s.numbers.items) s.apart s.apart s.least s.least c.args.conn c.args.beat c.self.invariant)
