-- The lines of what is known, from one place on.
use Rattle.std.proofs.Common.{◌≡◌, ℕ, zero, suc, ◌+◌, List, [], ◌∷◌, ◌++◌, length, drop, Option, Some, None, refl, sym, ap, ◌∙◌, arith, append_assoc}
use Rattle.std.specs.Prelude.{slice_get, get_or, option_and_then}
use Rattle.client_core.specs.declared.answered.Answered.{Answered}
use Rattle.run_lines.specs.declared.labels.Labels.{Labels}
use Rattle.run_lines.specs.Lines.{line_at, lines_from, known_front}

pub nothing_behind : (xs : List ℕ) → xs ++ [] ≡ xs
nothing_behind [] = refl
nothing_behind (x ∷ xs) = ap (λ t. x ∷ t) (nothing_behind xs)

-- a place at which no list has an item
pub name_none : (xs : List (List ℕ)) (k : ℕ) → slice_get xs k ≡ None → get_or xs k [] ≡ []
name_none [] zero is = refl
name_none [] (suc k) is = refl
name_none (x ∷ xs) zero is = cc
name_none (x ∷ xs) (suc k) is = name_none xs k is

abbrev pub flat : Option (Option Answered) → Option Answered
flat o = option_and_then (λ a. a) o

-- the answers from a place on, where there is one there
pub front_here : (xs : List (Option Answered)) (k : ℕ) (a : Answered) → flat (slice_get xs k) ≡ Some a → known_front (drop k xs) ≡ a ∷ known_front (drop (suc k) xs)
front_here [] k a is = cc
front_here (None ∷ xs) zero a is = cc
front_here (Some x ∷ xs) zero a is = cc
front_here (x ∷ xs) (suc k) a is = front_here xs k a is

-- and where there is none
pub front_none : (xs : List (Option Answered)) (k : ℕ) → flat (slice_get xs k) ≡ None → known_front (drop k xs) ≡ []
front_none [] zero is = refl
front_none [] (suc k) is = refl
front_none (None ∷ xs) zero is = refl
front_none (Some x ∷ xs) zero is = cc
front_none (x ∷ xs) (suc k) is = front_none xs k is

pub front_end : (xs : List (Option Answered)) → known_front (drop (length xs) xs) ≡ []
front_end [] = refl
front_end (x ∷ xs) = front_end xs

-- what was put ahead of the lines from a place on is all ahead of those behind it
pub record IsAhead (labels : Labels) (answers : List (Option Answered)) (from place : ℕ) (text : List ℕ) : Type 0 where
  pub lines : text ++ lines_from labels place (known_front (drop place answers)) ≡ lines_from labels from (known_front (drop from answers))
  pub count : place + length (known_front (drop place answers)) ≡ from + length (known_front (drop from answers))

pub one_line : (labels : Labels) (answers : List (Option Answered)) (from place : ℕ) (text more : List ℕ) (a : Answered) → flat (slice_get answers place) ≡ Some a → more ≡ text ++ line_at labels place a →
    IsAhead labels answers from place text → IsAhead labels answers from (place + 1) more
one_line labels answers from place text more a is put ahead =
    let next : place + 1 ≡ suc place = omega arith in
    let front = front_here answers place a is in record {
      lines = ap (λ n. more ++ lines_from labels n (known_front (drop n answers))) next
          ∙ ap (λ t. t ++ lines_from labels (suc place) (known_front (drop (suc place) answers))) put
          ∙ append_assoc text (line_at labels place a) (lines_from labels (suc place) (known_front (drop (suc place) answers)))
          ∙ ap (λ f. text ++ lines_from labels place f) (sym front)
          ∙ ahead.lines;
      count =
          let step : suc place + length (known_front (drop (suc place) answers)) ≡ place + suc (length (known_front (drop (suc place) answers))) = omega arith in
          ap (λ n. n + length (known_front (drop n answers))) next ∙ step ∙ ap (λ f. place + length f) (sym front) ∙ ahead.count;
    }

pub all_ahead : (labels : Labels) (answers : List (Option Answered)) (from place : ℕ) (text : List ℕ) → known_front (drop place answers) ≡ [] → IsAhead labels answers from place text →
    (text ≡ lines_from labels from (known_front (drop from answers))) × (place ≡ from + length (known_front (drop from answers)))
all_ahead labels answers from place text none ahead = (
  sym (ap (λ f. text ++ lines_from labels place f) none ∙ nothing_behind text) ∙ ahead.lines,
  let zero_more : place ≡ place + 0 = omega arith in zero_more ∙ sym (ap (λ f. place + length f) none) ∙ ahead.count,
)
