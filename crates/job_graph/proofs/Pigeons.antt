-- Names that differ and belong to earlier tasks are no more than these.
use Rattle.std.proofs.Common.{◌≡◌, ℕ, suc, ◌≤◌, Bool, true, false, cond, List, [], ◌∷◌, length, filter, bytes_eq, arith, refl, sym, ap, ◌∙◌}
use Rattle.std.specs.Prelude.{not, ◌||◌}
use Rattle.std.proofs.lemmas.Bool.{and_parts, and_from}
use Rattle.std.proofs.lemmas.Slice.Eq.{bytes_eq-Decides}
use Rattle.cluster_defs.specs.Words.{is_listed}
use Rattle.job_graph.specs.declared.task.JobTask.{JobTask}
use Rattle.job_graph.specs.Lines.{are_apart}
use Rattle.job_graph.specs.Jobs.{is_taken, are_known}

-- the names other than one
abbrev without : List ℕ → List (List ℕ) → List (List ℕ)
without x names = filter (λ n. not (bytes_eq x n)) names

turned : (x n : List ℕ) → bytes_eq x n ≡ true → bytes_eq n x ≡ true
turned x n h = (bytes_eq-Decides n x).1 (sym ((bytes_eq-Decides x n).0 h))

first_kept : (b d rest : Bool) (n : List ℕ) (names left : List (List ℕ)) → (b ≡ true → d ≡ true) → (d || rest) ≡ false → (rest ≡ false → left ≡ names) → cond (not b) (n ∷ left) left ≡ n ∷ names
first_kept b true rest n names left turn h below = absurd (cc)
first_kept false false rest n names left turn h below = ap (λ l. n ∷ l) (below h)
first_kept true false rest n names left turn h below = let clash : false ≡ true = turn refl in absurd (cc)

-- a name that isn't listed leaves all
without_unlisted : (x : List ℕ) (names : List (List ℕ)) → is_listed x names ≡ false → without x names ≡ names
without_unlisted x [] h = refl
without_unlisted x (n ∷ names) h = first_kept (bytes_eq x n) (bytes_eq n x) (is_listed x names) n names (without x names) (turned x n) h (λ k. without_unlisted x names k)

unlisted_by : (b d rest : Bool) (y n : List ℕ) (left : List (List ℕ)) → bytes_eq n y ≡ d → (d || rest) ≡ false → (rest ≡ false → is_listed y left ≡ false) → is_listed y (cond (not b) (n ∷ left) left) ≡ false
unlisted_by b true rest y n left is h below = absurd (cc)
unlisted_by true false rest y n left is h below = below h
unlisted_by false false rest y n left is h below = ap (λ d. d || is_listed y left) is ∙ below h

unlisted_kept : (x y : List ℕ) (names : List (List ℕ)) → is_listed y names ≡ false → is_listed y (without x names) ≡ false
unlisted_kept x y [] h = refl
unlisted_kept x y (n ∷ names) h = unlisted_by (bytes_eq x n) (bytes_eq n y) (is_listed y names) y n (without x names) refl h (λ k. unlisted_kept x y names k)

off : (b : Bool) → not b ≡ true → b ≡ false
off true h = absurd (cc)
off false h = refl

on : (b : Bool) → b ≡ false → not b ≡ true
on true h = absurd (cc)
on false h = refl

apart_by : (b : Bool) (n : List ℕ) (left : List (List ℕ)) → not (is_listed n left) ≡ true → are_apart left ≡ true → are_apart (cond (not b) (n ∷ left) left) ≡ true
apart_by true n left new distinct = distinct
apart_by false n left new distinct = and_from (not (is_listed n left)) (are_apart left) new distinct

apart_kept : (x : List ℕ) (names : List (List ℕ)) → are_apart names ≡ true → are_apart (without x names) ≡ true
apart_kept x [] h = refl
apart_kept x (n ∷ names) h =
    let parts = and_parts (not (is_listed n names)) (are_apart names) h in
    apart_by (bytes_eq x n) n (without x names) (on (is_listed n (without x names)) (unlisted_kept x n names (off (is_listed n names) parts.0))) (apart_kept x names parts.1)

-- of names that differ one at most is left out
one_less : (x : List ℕ) (names : List (List ℕ)) → are_apart names ≡ true → length names ≤ suc (length (without x names))
one_less x [] h = omega arith
one_less x (n ∷ names) h = by_test (bytes_eq x n) refl (one_less x names parts.1)
  where
    parts : (not (is_listed n names) ≡ true) × (are_apart names ≡ true)
    parts = and_parts (not (is_listed n names)) (are_apart names) h

    by_test : (b : Bool) → bytes_eq x n ≡ b → length names ≤ suc (length (without x names)) → suc (length names) ≤ suc (length (cond (not b) (n ∷ without x names) (without x names)))
    by_test false is more = omega (arith, more)
    by_test true is more =
        let same : x ≡ n = (bytes_eq-Decides x n).0 is in
        let all : without x names ≡ names = ap (λ y. without y names) same ∙ without_unlisted n names (off (is_listed n names) parts.0) in
        let long = ap length all in
        omega (arith, long)

known_by : (b : Bool) (n : List ℕ) (left : List (List ℕ)) (earlier : List JobTask) → (b || is_taken n earlier) ≡ true → are_known left earlier ≡ true → are_known (cond (not b) (n ∷ left) left) earlier ≡ true
known_by true n left earlier k more = more
known_by false n left earlier k more = and_from (is_taken n earlier) (are_known left earlier) k more

-- what earlier tasks have, other than the first one's name, those behind it have
known_kept : (task : JobTask) (earlier : List JobTask) (names : List (List ℕ)) → are_known names (task ∷ earlier) ≡ true → are_known (without task.name names) earlier ≡ true
known_kept task earlier [] h = refl
known_kept task earlier (n ∷ names) h =
    let parts = and_parts (is_taken n (task ∷ earlier)) (are_known names (task ∷ earlier)) h in
    known_by (bytes_eq task.name n) n (without task.name names) earlier parts.0 (known_kept task earlier names parts.1)

pub no_more : (earlier : List JobTask) (names : List (List ℕ)) → are_apart names ≡ true → are_known names earlier ≡ true → length names ≤ length earlier
no_more [] [] distinct known = omega arith
no_more [] (n ∷ names) distinct known = absurd (cc)
no_more (task ∷ earlier) names distinct known =
    let fewer = no_more earlier (without task.name names) (apart_kept task.name names distinct) (known_kept task earlier names known) in
    let one = one_less task.name names distinct in
    omega (arith, fewer, one)
