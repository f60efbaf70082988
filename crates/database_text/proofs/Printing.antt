-- Lines of entries that are printed until they have so many octets.
use Rattle.std.proofs.Common.{◌≡◌, ℕ, ◌+◌, List, [], ◌∷◌, ◌++◌, length, Result, Ok, Some, refl, sym, ap, ◌∙◌, arith, append_assoc, length-append}
use Rattle.std.proofs.lemmas.List.{append-nil}
use Rattle.std.proofs.lemmas.Grind.{flat_map-append}
use Rattle.cluster_types.specs.declared.entry.Entry.{Entry}
use Rattle.database_text.specs.Comparison.{Texts}
use Rattle.database_text.specs.Lines.{line, text}
use Rattle.task_journal.specs.declared.fault.OpenFault.{OpenFault}
use Rattle.task_journal.specs.declared.found.Found.{Found}
use Rattle.task_journal.specs.declared.cursor.Placed.{Placed}
use Rattle.task_journal.specs.Cursor.{Standing, IsOn, Advances, to_come}
use Rattle.database_text.specs.Given.{Gave}
use Rattle.database_text.proofs.Giving.{gave_none, gave_more}

-- of what was to come these entries came and their lines were printed: of the octets that are wanted so many are missing, or too many
pub record Printing (tells : Type 0) (content : List ℕ) (total : Result Found OpenFault) (at : Standing) (before now : Texts) (wanted missing ahead : ℕ) : Type 0 where
  pub list : List Entry
  pub gave : Gave tells content total at list
  pub printed : now ≡ record before { printed = before.printed ++ text list }
  pub octets : length (text list) + missing ≡ wanted + ahead

text_push : (list : List Entry) (e : Entry) → text (list ++ e ∷ []) ≡ text list ++ line e
text_push list e = flat_map-append line list (e ∷ []) ∙ ap (λ (xs : List ℕ). text list ++ xs) (append-nil (line e))

pub printing_begins : (tells : Type 0) (content : List ℕ) (at : Standing) (texts : Texts) (wanted : ℕ) → (tells → IsOn at content) → Printing tells content (to_come at content) at texts texts wanted wanted 0
printing_begins tells content at texts wanted on = record {
  list = [];
  gave = gave_none tells content (to_come at content) at on (λ told. refl);
  printed = ap (λ (xs : List ℕ). record texts { printed = xs }) (sym (append-nil texts.printed));
  octets = omega arith;
}

pub printing_next : {tells : Type 0} {content : List ℕ} {total : Result Found OpenFault} {old : Standing} {before now : Texts} {wanted missing : ℕ} → Printing tells content total old before now wanted missing 0
    → (new : Standing) (placed : Placed) → (tells → IsOn new content) → (tells → Advances content old new (Ok (Some placed))) → (later : Texts) (left ahead : ℕ) → later ≡ record now { printed = now.printed ++ line placed.entry }
    → length (line placed.entry) + left ≡ missing + ahead → Printing tells content total new before later wanted left ahead
printing_next {before = before} {wanted = wanted} {missing = missing} p new placed on next later left ahead is octets = record {
  list = p.list ++ placed.entry ∷ [];
  gave = gave_more p.gave new placed on next;
  printed = is ∙ ap (λ (t : Texts). record t { printed = t.printed ++ line placed.entry }) p.printed
      ∙ ap (λ (xs : List ℕ). record before { printed = xs }) (append_assoc before.printed (text p.list) (line placed.entry) ∙ ap (λ (xs : List ℕ). before.printed ++ xs) (sym (text_push p.list placed.entry)));
  octets = let long : length (text (p.list ++ placed.entry ∷ [])) ≡ length (text p.list) + length (line placed.entry) = ap length (text_push p.list placed.entry) ∙ length-append (text p.list) (line placed.entry) in
      omega (arith, long, p.octets, octets);
}
