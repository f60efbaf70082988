-- The live engines of a cluster ascend by number.
use Rattle.std.proofs.Common.{◌≡◌, ◌<◌, ℕ, List, [], ◌∷◌, map, Bool, true, false, true≢false, ◌&&◌, not, bytes_eq, nat_lt, ◌==◌, sym, refl, arith}
use Rattle.std.specs.List.{list_all}
use Rattle.std.proofs.lemmas.Bool.Decides.{nat_tests}
use Rattle.cluster_defs.specs.declared.engine.Engine.{Engine}
use Rattle.cluster_defs.specs.Laws.{EnginesAscend}
use Rattle.hub_queries.specs.Ascending.{Below, Ascends}

first_and_rest : (a b c d : Bool) → (((a && b) && c) && d) ≡ true → (a ≡ true) × (d ≡ true)
first_and_rest true true true d h = (refl, h)
first_and_rest true true false d h = absurd (true≢false (sym h))
first_and_rest true false c d h = absurd (true≢false (sym h))
first_and_rest false b c d h = absurd (true≢false (sym h))

below_live : (e : Engine) (live : List Engine) → list_all (λ d. nat_lt e.number d.number && not (d.conn == e.conn) && not (bytes_eq d.uuid e.uuid)) live ≡ true
    → Below e.number (map (λ (p : ℕ × List ℕ). p.0) (map (λ (d : Engine). (d.number, d.uuid)) live))
below_live e [] h = tt
below_live e (d ∷ live) h =
    let both = first_and_rest (nat_lt e.number d.number) (not (d.conn == e.conn)) (not (bytes_eq d.uuid e.uuid)) (list_all (λ d. nat_lt e.number d.number && not (d.conn == e.conn) && not (bytes_eq d.uuid e.uuid)) live) h in
    let less : e.number < d.number = grind (arith, nat_tests, both.0) in
    (less, below_live e live both.1)

-- what the laws say of the live engines is what an answer asks of them
pub numbers_ascend : (live : List Engine) → EnginesAscend live → Ascends (map (λ (p : ℕ × List ℕ). p.0) (map (λ (e : Engine). (e.number, e.uuid)) live))
numbers_ascend [] h = tt
numbers_ascend (e ∷ live) h = (below_live e live h.0, numbers_ascend live h.1)
