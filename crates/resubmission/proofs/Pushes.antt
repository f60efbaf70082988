-- One more record of a list.
use Rattle.std.proofs.Common.{◌≡◌, ◌⊎◌, ◌+◌, ◌==◌, ℕ, suc, zero, List, [], ◌∷◌, ◌++◌, length, Option, Some, is_some, is_none, Bool, true, false, true≢false, not, ◌&&◌, ◌||◌, if◌then◌else◌, find, bytes_eq, slice_get, refl, sym, ap, ◌∙◌, subst, inl, inr, ⊎_elim, arith}
use Rattle.std.proofs.lemmas.Bool.Decides.{nat_tests}
use Rattle.std.proofs.lemmas.Option.{none-some}
use Rattle.cluster_defs.proofs.Options.{some_inj, id_self}
use Rattle.cluster_types.specs.Records.{AreRecords}
use Rattle.cluster_types.specs.declared.record.Record.{Record}
use Rattle.cluster_defs.specs.RecordAnswers.{record_in}
use Rattle.resubmission.specs.Lists.{is_next, has_outcome}

-- an item of a list and one more
last_or_before : {X : Type 0} (xs : List X) (x y : X) (k : ℕ) → slice_get (xs ++ x ∷ []) k ≡ Some y → (slice_get xs k ≡ Some y) ⊎ ((k ≡ length xs) × (x ≡ y))
last_or_before [] x y zero h = inr (refl, some_inj h)
last_or_before [] x y (suc k) h = inl h
last_or_before (z ∷ xs) x y zero h = inl h
last_or_before (z ∷ xs) x y (suc k) h = ⊎_elim inl (λ last. inr (ap suc last.0, last.1)) (last_or_before xs x y k h)

-- what none of a list passes, no item passes
first_fails : {X : Type 0} (b : Bool) (y : X) (rest : Option X) → is_none (if b then Some y else rest) ≡ true → (b ≡ false) × (is_none rest ≡ true)
first_fails true y rest h = absurd (true≢false (sym h))
first_fails false y rest h = (refl, h)

none_passes : {X : Type 0} (p : X → Bool) (xs : List X) (x : X) (k : ℕ) → is_none (find p xs) ≡ true → slice_get xs k ≡ Some x → p x ≡ false
none_passes p [] x k none at = absurd (none-some x at)
none_passes p (y ∷ xs) x zero none at = subst (λ z. p z ≡ false) (some_inj at) (first_fails (p y) y (find p xs) none).0
none_passes p (y ∷ xs) x (suc k) none at = none_passes p xs x k (first_fails (p y) y (find p xs) none).1 at

both : (a b c : Bool) → ((a && b) && c) ≡ true → (a ≡ true) × (b ≡ true) × (c ≡ true)
both true true c h = (refl, refl, h)
both true false c h = absurd (true≢false (sym h))
both false b c h = absurd (true≢false (sym h))

outcome_there : (settled purged outcome : Bool) → (not settled || (purged || outcome)) ≡ true → settled ≡ true → purged ≡ false → outcome ≡ true
outcome_there true true outcome h is unpurged = absurd (true≢false unpurged)
outcome_there true false outcome h is unpurged = h
outcome_there false purged outcome h is unpurged = absurd (true≢false (sym is))

pub pushed : (rs : List Record) (r : Record) → AreRecords rs → is_next rs r ≡ true → AreRecords (rs ++ r ∷ [])
pushed rs r are next =
    let told = both (r.number == length rs + 1) (is_none (record_in rs r.id)) (has_outcome r) next in
    let number : r.number ≡ length rs + 1 = grind (arith, nat_tests, told.0) in
    let fresh : (j : ℕ) (s : Record) → slice_get rs j ≡ Some s → s.id ≡ r.id → ⊥ = λ j s at same.
    true≢false (sym (subst (λ i. bytes_eq i r.id ≡ true) (sym same) (id_self r.id)) ∙ none_passes (λ (z : Record). bytes_eq z.id r.id) rs s j told.1 at) in
    record {
      numbers = λ k s at. ⊎_elim (are.numbers k s) (λ last. ap (λ (z : Record). z.number) (sym last.1) ∙ number ∙ ap (λ n. n + 1) (sym last.0)) (last_or_before rs r s k at);
      ids = λ j k s t at to same.
          ⊎_elim
          (λ before. ⊎_elim (λ second. are.ids j k s t before second same) (λ last. absurd (fresh j s before (same ∙ ap (λ (z : Record). z.id) (sym last.1)))) (last_or_before rs r t k to))
          (λ last. ⊎_elim (λ second. absurd (fresh k t second (sym same ∙ ap (λ (z : Record). z.id) (sym last.1)))) (λ other. last.0 ∙ sym other.0) (last_or_before rs r t k to))
          (last_or_before rs r s j at);
      outcomes = λ k s at settled unpurged.
          ⊎_elim (λ before. are.outcomes k s before settled unpurged)
          (λ last. subst (λ (z : Record). is_some z.settled ≡ true → z.purged ≡ false → is_some z.outcome ≡ true) last.1
          (outcome_there (is_some r.settled) r.purged (is_some r.outcome) told.2) settled unpurged)
          (last_or_before rs r s k at);
    }

pub kept_or_pushed : (b : Bool) (rs : List Record) (r : Record) → AreRecords rs → is_next rs r ≡ true → AreRecords (if b then rs ++ r ∷ [] else rs)
kept_or_pushed true rs r are next = pushed rs r are next
kept_or_pushed false rs r are next = are
