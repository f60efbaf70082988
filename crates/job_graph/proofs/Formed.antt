-- What the lines of a job say of its tasks: lists without repeats, and few retries.
use Rattle.std.proofs.Common.{◌≡◌, ℕ, Bool, true, false, List, [], ◌∷◌, length, Option, Some, None, if◌then◌else◌, refl}
use Rattle.std.specs.Prelude.{nat_le, ◌==◌, ◌&&◌}
use Rattle.std.specs.List.{list_all, slice_split}
use Rattle.std.specs.Option.{option_and_then}
use Rattle.std.specs.Str.Parse.{digits_value}
use Rattle.std.proofs.lemmas.Bool.{and_parts}
use Rattle.job_graph.specs.declared.task.JobTask.{JobTask}
use Rattle.job_graph.specs.Lines.{is_name, are_apart, apart_names, is_number, at_most_1000, names_said, retries_said, is_end, task_with, after_part, follow_part, retries_part, task_of, cut, task_in, line_task}

pub record IsFormed (task : JobTask) : Type 0 where
  pub waits : are_apart task.after ≡ true
  pub follows : are_apart task.follow ≡ true
  pub retries : nat_le task.retries 1000 ≡ true

-- where there is a task, it is formed so
abbrev pub Formed : Option JobTask → Type 0
Formed None = Unit {0}
Formed (Some task) = IsFormed task

abbrev ApartIn : Option (List (List ℕ)) → Type 0
ApartIn None = Unit {0}
ApartIn (Some names) = are_apart names ≡ true

abbrev FewIn : Option ℕ → Type 0
FewIn None = Unit {0}
FewIn (Some number) = nat_le number 1000 ≡ true

apart_of : (names : List (List ℕ)) → ApartIn (apart_names names)
apart_of names = by_test (list_all is_name names && are_apart names) refl
  where
    by_test : (b : Bool) → (list_all is_name names && are_apart names) ≡ b → ApartIn (if b then Some names else None)
    by_test true h = (and_parts (list_all is_name names) (are_apart names) h).1
    by_test false h = tt

apart_said : (o : Option (List ℕ)) → ApartIn (names_said o)
apart_said None = refl
apart_said (Some word) = apart_of (slice_split (λ c. c == 44) word)

few_of : (number : ℕ) → FewIn (at_most_1000 number)
few_of number = by_test (nat_le number 1000) refl
  where
    by_test : (b : Bool) → nat_le number 1000 ≡ b → FewIn (if b then Some number else None)
    by_test true h = h
    by_test false h = tt

few_if : (b : Bool) (o : Option ℕ) → FewIn o → FewIn (if b then o else None)
few_if true o h = h
few_if false o h = tt

few_said : (o : Option (List ℕ)) → FewIn (retries_said o)
few_said None = refl
few_said (Some word) = few_if (is_number word) (at_most_1000 (digits_value 10 word)) (few_of (digits_value 10 word))

formed_with : (name code : List ℕ) (waits follows : Option (List (List ℕ))) (retries : Option ℕ) → ApartIn waits → ApartIn follows → FewIn retries → Formed (task_with name code waits follows retries)
formed_with name code (Some waits) (Some follows) (Some retries) w f r = record { waits = w; follows = f; retries = r }
formed_with name code (Some waits) (Some follows) None w f r = tt
formed_with name code (Some waits) None retries w f r = tt
formed_with name code None follows retries w f r = tt

formed_if : (b : Bool) (o : Option JobTask) → Formed o → Formed (if b then o else None)
formed_if true o h = h
formed_if false o h = tt

formed_of : (words : List (List ℕ)) (code : List ℕ) → Formed (task_of words code)
formed_of [] code = tt
formed_of (name ∷ words) code =
    formed_if (is_name name && is_end (retries_part words).1) (task_with name code (names_said (after_part words).0) (names_said (follow_part words).0) (retries_said (retries_part words).0))
    (formed_with name code (names_said (after_part words).0) (names_said (follow_part words).0) (retries_said (retries_part words).0)
    (apart_said (after_part words).0) (apart_said (follow_part words).0) (few_said (retries_part words).0))

formed_in : (o : Option (List ℕ × List ℕ)) → Formed (option_and_then task_in o)
formed_in None = tt
formed_in (Some p) = formed_if (nat_le (length p.1) 65536) (task_of (slice_split (λ c. c == 32) p.0) p.1) (formed_of (slice_split (λ c. c == 32) p.0) p.1)

pub line_formed : (line : List ℕ) → Formed (line_task line)
line_formed line = formed_in (cut line)
