-- What is kept beside the engines, after a change of them.
use Rattle.std.proofs.Common.{◌≡◌, ap, sym, ◌∙◌, ℕ, ◌≤◌, List, [], ◌∷◌, ◌++◌, length, map, Bool, true, subst, Option, Some, None, bytes_eq}
use Rattle.std.specs.Prelude.{filter, ◌==◌}
use Rattle.std.proofs.lemmas.Bool.{eqb-true}
use Rattle.cluster_defs.specs.declared.engine.Engine.{Engine}
use Rattle.cluster_defs.specs.Engines.{engine_on, engine_named, engine_numbered, marked}
use Rattle.cluster_defs.proofs.Options.{same_id}
use Rattle.engine_registry.specs.Places.{on, named, numbered, Tells, Keeps}
use Rattle.engine_registry.specs.Indexed.{Indexed, is_least}
use Rattle.engine_registry.proofs.Telling.{tells_kept, tells_more, tells_mapped}
use Rattle.engine_registry.proofs.Apart.{apart_more, apart_less, apart_marked, conn_marked, uuid_marked, number_marked}
use Rattle.engine_registry.proofs.Least.{least_more, least_lower, least_marked}

module _ (live : List Engine) (c1 c2 : ℕ → Option ℕ) (u1 u2 : List ℕ → Option ℕ) (n1 n2 : ℕ → Option ℕ) (apart apart2 : Bool) (bound bound2 : ℕ) where
  -- some places more
  pub still : Indexed live c1 u1 n1 apart bound → Keeps on live c1 c2 → Keeps named live u1 u2 → Keeps numbered live n1 n2 → Indexed live c2 u2 n2 apart bound
  still is conns uuids numbers = record {
    conns = tells_kept on live c1 c2 is.conns conns;
    uuids = tells_kept named live u1 u2 is.uuids uuids;
    numbers = tells_kept numbered live n1 n2 is.numbers numbers;
    lone = is.lone;
    least = is.least;
  }

  -- an engine more
  pub one_more : (e : Engine) → Indexed live c1 u1 n1 apart bound → Keeps on live c1 c2 → Keeps named live u1 u2 → Keeps numbered live n1 n2 →
      (engine_on live e.conn ≡ None → c2 e.conn ≡ Some (length live)) → (engine_named live e.uuid ≡ None → u2 e.uuid ≡ Some (length live)) → (engine_numbered live e.number ≡ None → n2 e.number ≡ Some (length live)) →
      (apart2 ≡ true → apart ≡ true) → (apart2 ≡ true → engine_on live e.conn ≡ None) → bound2 ≤ bound → bound2 ≤ e.mark → Indexed (live ++ e ∷ []) c2 u2 n2 apart2 bound2
  one_more e is conns uuids numbers conn uuid number yet alone below le = record {
    conns = tells_more on live e c1 c2 is.conns conns (λ k yes none. let same : e.conn ≡ k = eqb-true e.conn k yes in subst (λ j. c2 j ≡ Some (length live)) same (conn (subst (λ j. engine_on live j ≡ None) (sym same) none)));
    uuids = tells_more named live e u1 u2 is.uuids uuids (λ k yes none. let same : e.uuid ≡ k = same_id e.uuid k yes in subst (λ j. u2 j ≡ Some (length live)) same (uuid (subst (λ j. engine_named live j ≡ None) (sym same) none)));
    numbers = tells_more numbered live e n1 n2 is.numbers numbers (λ k yes none. let same : e.number ≡ k = eqb-true e.number k yes in subst (λ j. n2 j ≡ Some (length live)) same (number (subst (λ j. engine_numbered live j ≡ None) (sym same) none)));
    lone = λ yes. apart_more live e (is.lone (yet yes)) (alone yes);
    least = least_more live e bound2 (least_lower live bound2 bound below is.least) le;
  }

  -- some engines less
  pub less : (q : Engine → Bool) → Indexed live c1 u1 n1 apart bound → Tells on (filter q live) c2 → Tells named (filter q live) u2 → Tells numbered (filter q live) n2 → is_least (filter q live) bound2 ≡ true → Indexed (filter q live) c2 u2 n2 apart bound2
  less q is conns uuids numbers least = record {
    conns = conns;
    uuids = uuids;
    numbers = numbers;
    lone = λ yes. apart_less q live (is.lone yes);
    least = least;
  }

  -- an echo
  pub echoed : (conn beat : ℕ) → Indexed live c1 u1 n1 apart bound → Indexed (map (marked conn beat) live) c1 u1 n1 apart bound
  echoed conn beat is = record {
    conns = tells_mapped on (marked conn beat) live c1 (λ k e. ap (λ i. i == k) (conn_marked conn beat e)) is.conns;
    uuids = tells_mapped named (marked conn beat) live u1 (λ k e. ap (λ i. bytes_eq i k) (uuid_marked conn beat e)) is.uuids;
    numbers = tells_mapped numbered (marked conn beat) live n1 (λ k e. ap (λ i. i == k) (number_marked conn beat e)) is.numbers;
    lone = λ yes. apart_marked conn beat live ∙ is.lone yes;
    least = least_marked conn beat live bound is.least;
  }
