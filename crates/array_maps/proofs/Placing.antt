-- Answers at the codes that have ids.
use Rattle.std.proofs.Common.{◌≡◌, ◌<◌, ◌≤◌, ◌+◌, ◌^◌, ℕ, zero, suc, Bool, true, false, List, [], ◌∷◌, length, Option, Some, None, unwrap_or, ◌↔◌, bytes_eq, if◌then◌else◌, arith, refl, sym, ap, subst, ◌∙◌}
use Rattle.std.specs.Prelude.{slice_set}
use Rattle.std.proofs.lemmas.Slice.Eq.{bytes_eq-Decides}
use Rattle.client_core.specs.declared.answered.Answered.{Answered}
use Rattle.client_core.specs.Numbers.{numbered_id}
use Rattle.client_core.specs.Submissions.{are_within}
use Rattle.client_core.proofs.Numbers.{numbered_apart}
use Rattle.client_core.proofs.Once.{apart}
use Rattle.array_maps.specs.Gathering.{Gathering, answers_with, with_answer, plain_submissions, IsNoneOf}

-- what codes ask for is within the limits
pub plain_within : (codes : List (List ℕ)) → are_within (plain_submissions codes) ≡ true
plain_within [] = refl
plain_within (code ∷ codes) = plain_within codes

kept : (b : Bool) (old : Option Answered) (answer : Answered) (answers more : List (Option Answered)) → b ≡ false → more ≡ answers
    → (if b then Some answer ∷ answers else old ∷ more) ≡ old ∷ answers
kept true old answer answers more h same = absurd (cc)
kept false old answer answers more h same = ap (λ l. old ∷ l) same

-- the id of no code changes no answer
pub none_changed : (answers : List (Option Answered)) (first : ℕ) (id : List ℕ) (answer : Answered) → IsNoneOf first (length answers) id → answers_with first answers id answer ≡ answers
none_changed [] first id answer none = refl
none_changed (old ∷ answers) first id answer none =
    kept (bytes_eq id (numbered_id first)) old answer answers (answers_with (first + 1) answers id answer)
    (apart id (numbered_id first) (λ same. none first (omega arith) (omega arith) same))
    (none_changed answers (first + 1) id answer (λ n from below same. none n (omega (arith, from)) (omega (arith, below)) same))

here : (b : Bool) (old : Option Answered) (answer : Answered) (answers more : List (Option Answered)) → b ≡ true
    → (if b then Some answer ∷ answers else old ∷ more) ≡ Some answer ∷ answers
here true old answer answers more h = refl
here false old answer answers more h = absurd (cc)

behind : (b : Bool) (old : Option Answered) (answer : Answered) (answers more set : List (Option Answered)) → b ≡ false → more ≡ set
    → (if b then Some answer ∷ answers else old ∷ more) ≡ old ∷ set
behind true old answer answers more set h same = absurd (cc)
behind false old answer answers more set h same = ap (λ l. old ∷ l) same

-- the id of a code changes the answer at its place
pub one_changed : (answers : List (Option Answered)) (first place : ℕ) (id : List ℕ) (answer : Answered) → place < length answers → first + length answers ≤ 2 ^ 32 → id ≡ numbered_id (first + place)
    → answers_with first answers id answer ≡ slice_set answers place (Some answer)
one_changed [] first place id answer lt small is = absurd (omega (arith, lt))
one_changed (old ∷ answers) first zero id answer lt small is =
    let at : id ≡ numbered_id first = is ∙ ap numbered_id (omega arith) in
    here (bytes_eq id (numbered_id first)) old answer answers (answers_with (first + 1) answers id answer) ((bytes_eq-Decides id (numbered_id first)).1 at)
one_changed (old ∷ answers) first (suc place) id answer lt small is =
    let at : id ≡ numbered_id ((first + 1) + place) = is ∙ ap numbered_id (omega arith) in
    let differs : id ≡ numbered_id first → ⊥ = λ same.
    let it : first + suc place ≡ first = numbered_apart (first + suc place) first (omega (arith, lt, small)) (omega (arith, small)) (sym is ∙ same) in omega (arith, it) in
    behind (bytes_eq id (numbered_id first)) old answer answers (answers_with (first + 1) answers id answer) (slice_set answers place (Some answer))
    (apart id (numbered_id first) differs)
    (one_changed answers (first + 1) place id answer (omega (arith, lt)) (omega (arith, small)) at)

-- GATHERINGS

-- the id of a code keeps the answer at its place
pub one_kept : (g : Gathering) (place : ℕ) (id : List ℕ) (answer : Answered) → place < length g.answers → g.first + length g.answers ≤ 2 ^ 32 → id ≡ numbered_id (g.first + place)
    → record g { answers = slice_set g.answers place (Some answer) } ≡ with_answer g id answer
one_kept g place id answer lt small is = ap (λ (l : List (Option Answered)). record g { answers = l }) (sym (one_changed g.answers g.first place id answer lt small is))

-- the id of no code keeps nothing
pub none_kept : (g : Gathering) (count : ℕ) (id : List ℕ) (answer : Answered) → count ≡ length g.answers → IsNoneOf g.first count id → g ≡ with_answer g id answer
none_kept g count id answer long none =
    ap (λ (l : List (Option Answered)). record g { answers = l }) (sym (none_changed g.answers g.first id answer (subst (λ n. IsNoneOf g.first n id) long none)))

-- PLACES

-- a text that has no number is the id of none
pub no_number : (read : Option ℕ) (id : List ℕ) (first count : ℕ) → first + count ≤ 2 ^ 32 → ((n : ℕ) → n < 2 ^ 32 → (read ≡ Some n) ↔ (id ≡ numbered_id n)) → read ≡ None → IsNoneOf first count id
no_number read id first count small each none number from below same =
    let clash : None ≡ Some number = sym none ∙ (each number (omega (arith, below, small))).1 same in absurd (cc)

some_same : (m n : ℕ) → Some m ≡ Some n → m ≡ n
some_same m n h = ap (λ (o : Option ℕ). unwrap_or o 0) h

-- a text with a number outside of some is the id of none of these
pub number_outside : (read : Option ℕ) (n : ℕ) (id : List ℕ) (first count : ℕ) → first + count ≤ 2 ^ 32 → ((m : ℕ) → m < 2 ^ 32 → (read ≡ Some m) ↔ (id ≡ numbered_id m)) → read ≡ Some n
    → (first ≤ n → n < first + count → ⊥) → IsNoneOf first count id
number_outside read n id first count small each some outside number from below same =
    let it : n ≡ number = some_same n number (sym some ∙ (each number (omega (arith, below, small))).1 same) in
    outside (omega (arith, it, from)) (omega (arith, it, below))

-- a text with a number is its id
pub number_here : (read : Option ℕ) (n : ℕ) (id : List ℕ) → n < 2 ^ 32 → ((m : ℕ) → m < 2 ^ 32 → (read ≡ Some m) ↔ (id ≡ numbered_id m)) → read ≡ Some n → id ≡ numbered_id n
number_here read n id small each some = (each n small).0 some
