-- Where an input differs from the text of entries, by what came of it and the lines that were printed meanwhile.
use Rattle.std.proofs.Common.{◌≡◌, ℕ, ◌+◌, ◌*◌, ◌^◌, ◌<◌, List, [], ◌∷◌, ◌++◌, length, refl, sym, ap, subst, ◌∙◌, arith, length-append}
use Rattle.std.specs.Prelude.{Option, Some, None, option_map}
use Rattle.std.proofs.lemmas.List.{append-nil}
use Rattle.std.proofs.lemmas.Grind.{flat_map-append}
use Rattle.cluster_types.specs.declared.entry.Entry.{Entry}
use Rattle.edges.specs.Streams.{Took, IsAtEnd}
use Rattle.database_text.specs.Comparison.{Texts, first_difference, end_difference, counted}
use Rattle.database_text.specs.Lines.{line, text}
use Rattle.database_text.proofs.Differences.{first_turned, first_more, end_first}
use Rattle.task_journal.specs.Cursor.{Standing, IsOn, to_come}
use Rattle.database_text.specs.Texts.{DiffersAt}
use Rattle.database_text.specs.Given.{Gave, HasEnded, OfText}
use Rattle.database_text.specs.Compared.{IsAhead}
use Rattle.database_text.proofs.Giving.{gave_none, gave_on, of_part, of_whole}

-- of an input that told what it had, these octets came first
pub began : (octets came : List ℕ) (first last : Option (List ℕ)) → first ≡ Some octets → Took came first last → (rest : List ℕ) × (octets ≡ came ++ rest)
began octets came first None told took = absurd (let e : Some octets ≡ None = sym told ∙ took in cc)
began octets came first (Some rest) told took =
    let both : Some octets ≡ Some (came ++ rest) = sym told ∙ took in
    (rest, cc)

-- and nothing behind them, where it ended
pub all_came : (octets came : List ℕ) (first last : Option (List ℕ)) → first ≡ Some octets → Took came first last → IsAtEnd last → octets ≡ came
all_came octets came first None told took end = absurd (let e : Some octets ≡ None = sym told ∙ took in cc)
all_came octets came first (Some rest) told took end =
    let both : Some octets ≡ Some (came ++ rest) = sym told ∙ took in
    let is : octets ≡ came ++ rest = cc in
    is ∙ ap (λ (xs : List ℕ). came ++ xs) (end rest refl) ∙ append-nil came

pub took_none : (xs : List ℕ) (left : Option (List ℕ)) → xs ≡ [] → Took xs left left
took_none xs None e = refl
took_none xs (Some octets) e = rw e refl

-- ---- more of the texts doesn't change where they differ

-- the first text is the longer one
pub end_longer : (at : ℕ) (xs ys more : List ℕ) → length ys < length xs → end_difference at (xs ++ more) ys ≡ end_difference at xs ys
end_longer at [] ys more lt = absurd (omega arith)
end_longer at (x ∷ xs) [] more lt = refl
end_longer at (x ∷ xs) (y ∷ ys) more lt = rw (end_longer (at + 1) xs ys more (omega arith)) refl

-- the second text is the longer one
pub end_shorter : (at : ℕ) (xs ys more : List ℕ) → length xs < length ys → end_difference at xs (ys ++ more) ≡ end_difference at xs ys
end_shorter at xs [] more lt = absurd (omega arith)
end_shorter at [] (y ∷ ys) more lt = refl
end_shorter at (x ∷ xs) (y ∷ ys) more lt = rw (end_shorter (at + 1) xs ys more (omega arith)) refl

-- they differ within both
pub end_stays : (at : ℕ) (xs ys more rest : List ℕ) (place : ℕ) → first_difference at xs ys ≡ Some place → end_difference at (xs ++ more) (ys ++ rest) ≡ Some place
end_stays at xs ys more rest place e =
    let first : first_difference at ys (xs ++ more) ≡ Some place = first_turned at ys (xs ++ more) ∙ first_more at xs ys more place e in
    let both : first_difference at (ys ++ rest) (xs ++ more) ≡ Some place = first_more at ys (xs ++ more) rest place first in
    end_first at (xs ++ more) (ys ++ rest) place (first_turned at (xs ++ more) (ys ++ rest) ∙ both)

mapped : {A B : Type 0} (f : A → B) (o p : Option A) (y : B) → ((x : A) → o ≡ Some x → p ≡ Some x) → option_map f o ≡ Some y → option_map f p ≡ Some y
mapped f None p y h e = absurd cc
mapped f (Some x) p y h e = rw (h x refl) e

-- they differ within what came and what was printed
pub differs_within : (input printed more rest : List ℕ) (place : ℕ) → option_map counted (first_difference 0 input printed) ≡ Some place → DiffersAt (input ++ more) (printed ++ rest) place
differs_within input printed more rest place e = mapped counted (first_difference 0 input printed) (end_difference 0 (input ++ more) (printed ++ rest)) place (λ x. end_stays 0 input printed more rest x) e

-- more came than was printed, which is all
pub differs_behind : (input printed more : List ℕ) (place : ℕ) → length printed < length input → option_map counted (end_difference 0 input printed) ≡ Some place → DiffersAt (input ++ more) printed place
differs_behind input printed more place lt e = ap (option_map counted) (end_longer 0 input printed more lt) ∙ e

-- more was printed than came, which is all
pub differs_before : (input printed rest : List ℕ) (place : ℕ) → length input < length printed → option_map counted (end_difference 0 input printed) ≡ Some place → DiffersAt input (printed ++ rest) place
differs_before input printed rest place lt e = ap (option_map counted) (end_shorter 0 input printed rest lt) ∙ e

-- ---- the lines of a disk that are printed while the input comes

-- the lines of further entries were printed
pub ahead_printed : {tells : Type 0} {content : List ℕ} {old : Texts} {at : Standing} {ahead : ℕ} → (a : IsAhead tells content old at ahead) → (more : List Entry) (printed : List ℕ) → printed ≡ old.printed ++ text more → printed ≡ text (a.list ++ more)
ahead_printed a more printed is = is ∙ ap (λ (xs : List ℕ). xs ++ text more) a.printed ∙ sym (flat_map-append line a.list more)

pub ahead_more : {tells : Type 0} {content : List ℕ} {old : Texts} {at : Standing} {ahead : ℕ} → (a : IsAhead tells content old at ahead) → (later : Standing) (more : List Entry) (new : Texts) (piece : List ℕ) (left : ℕ)
    → Gave tells content (to_come at content) later more → new.printed ≡ old.printed ++ text more → new.input ≡ old.input ++ piece → length new.printed + ahead ≡ length old.printed + length piece + left → IsAhead tells content new later left
ahead_more {old = old} a later more new piece left gave printed input enough = record {
  list = a.list ++ more;
  gave = gave_on a.gave gave;
  printed = ahead_printed a more new.printed printed;
  longer = let long : length new.input ≡ length old.input + length piece = ap length input ∙ length-append old.input piece in omega (arith, long, enough, a.longer);
}

-- they differ for certain, whatever comes of either
pub of_within : {tells : Type 0} {content : List ℕ} {old : Texts} {at : Standing} {ahead : ℕ} → (a : IsAhead tells content old at ahead) → (later : Standing) (more : List Entry) (new : Texts) (place : ℕ) → Gave tells content (to_come at content) later more
    → new.printed ≡ old.printed ++ text more → option_map counted (first_difference 0 new.input new.printed) ≡ Some place → OfText tells content (λ (lines : List ℕ). (m : List ℕ) → DiffersAt (new.input ++ m) lines place)
of_within a later more new place gave printed e =
    of_part (gave_on a.gave gave) (λ (lines : List ℕ). (m : List ℕ) → DiffersAt (new.input ++ m) lines place)
    (λ rest m. subst (λ (xs : List ℕ). DiffersAt (new.input ++ m) (xs ++ rest) place) (ahead_printed a more new.printed printed) (differs_within new.input new.printed m rest place e))

-- all lines were printed, and the input is longer
pub of_behind : {tells : Type 0} {content : List ℕ} {old : Texts} {at : Standing} {ahead : ℕ} → (a : IsAhead tells content old at ahead) → (later : Standing) (more : List Entry) (new : Texts) (place : ℕ) → Gave tells content (to_come at content) later more
    → new.printed ≡ old.printed ++ text more → (tells → HasEnded content later) → length new.printed < length new.input → option_map counted (end_difference 0 new.input new.printed) ≡ Some place
    → OfText tells content (λ (lines : List ℕ). (m : List ℕ) → DiffersAt (new.input ++ m) lines place)
of_behind a later more new place gave printed ended lt e =
    of_whole (gave_on a.gave gave) ended (λ (lines : List ℕ). (m : List ℕ) → DiffersAt (new.input ++ m) lines place)
    (subst (λ (xs : List ℕ). (m : List ℕ) → DiffersAt (new.input ++ m) xs place) (ahead_printed a more new.printed printed) (λ m. differs_behind new.input new.printed m place lt e))

-- the input ended, and more was printed
pub of_before : {tells : Type 0} {content : List ℕ} {old : Texts} {at : Standing} {ahead : ℕ} → (a : IsAhead tells content old at ahead) → (later : Standing) (more : List Entry) (new : Texts) (place : ℕ) → Gave tells content (to_come at content) later more
    → new.printed ≡ old.printed ++ text more → new.input ≡ old.input → length new.input < length new.printed → option_map counted (end_difference 0 new.input new.printed) ≡ Some place → OfText tells content (λ (lines : List ℕ). DiffersAt old.input lines place)
of_before {old = old} a later more new place gave printed input lt e =
    of_part (gave_on a.gave gave) (λ (lines : List ℕ). DiffersAt old.input lines place)
    (λ rest. subst (λ (xs : List ℕ). DiffersAt xs (text (a.list ++ more) ++ rest) place) input (subst (λ (xs : List ℕ). DiffersAt new.input (xs ++ rest) place) (ahead_printed a more new.printed printed) (differs_before new.input new.printed rest place lt e)))

-- the input ended, and all lines were printed
pub of_end : {tells : Type 0} {content : List ℕ} {old : Texts} {at : Standing} {ahead : ℕ} → (a : IsAhead tells content old at ahead) → (later : Standing) (more : List Entry) (new : Texts) (place : ℕ) → Gave tells content (to_come at content) later more
    → new.printed ≡ old.printed ++ text more → new.input ≡ old.input → (tells → HasEnded content later) → option_map counted (end_difference 0 new.input new.printed) ≡ Some place → OfText tells content (λ (lines : List ℕ). DiffersAt old.input lines place)
of_end {old = old} a later more new place gave printed input ended e =
    of_whole (gave_on a.gave gave) ended (λ (lines : List ℕ). DiffersAt old.input lines place)
    (subst (λ (xs : List ℕ). DiffersAt xs (text (a.list ++ more)) place) input (subst (λ (xs : List ℕ). DiffersAt new.input xs place) (ahead_printed a more new.printed printed) e))

-- a turn is taken where an entry is
pub turns_fall : (new old ahead before : ℕ) → new < old → ahead < 2 ^ 64 → new * 2 ^ 64 + ahead < old * 2 ^ 64 + before
turns_fall new old ahead before lt small = omega (arith, lt, small)

-- no line was printed
pub kept_none : (tells : Type 0) (content : List ℕ) (at : Standing) (printed : List ℕ) → (tells → IsOn at content) → (list : List Entry) × Gave tells content (to_come at content) at list × (printed ≡ printed ++ text list)
kept_none tells content at printed on = ([], gave_none tells content (to_come at content) at on (λ told. refl), sym (append-nil printed))
