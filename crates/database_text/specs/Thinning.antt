-- Entries without what is let go, by what they do.
use Rattle.std.specs.Prelude.{List, [], ◌∷◌, Bool, if◌then◌else◌}
use Rattle.cluster_types.specs.declared.message.Message.{Message}
use Rattle.cluster_types.specs.declared.entry.Input.TheVariants.{In}
use Rattle.cluster_types.specs.declared.entry.Entry.{Entry}
use Rattle.cluster_types.specs.declared.entry.Entry.TheVariants.{Input}
use Rattle.cluster_defs.specs.Words.{Id}
use Rattle.cluster_defs.specs.Purges.{Copy}
use Rattle.cluster_defs.specs.Thin.{no_content, short_reply, with_content, narrowed}
use Rattle.database_text.specs.declared.notes.Note.{Note}
use Rattle.database_text.specs.declared.notes.Note.TheVariants.{Nothing, Accepts, Answers, Makes}

-- the requests by one test, the replies by another
abbrev pub thin_message : (Id → Bool) → (Id → Bool) → Note → Message → Message
thin_message gone purged Nothing m = m
thin_message gone purged (Accepts id) m = if gone id then with_content no_content m else m
thin_message gone purged (Answers id ok) m = if purged id then with_content (short_reply ok) m else m
thin_message gone purged (Makes copies) m = m

abbrev pub thin_as : (Id → Bool) → (Id → Bool) → Note → Entry → Entry
thin_as gone purged note (Input (In conn moment word m)) = Input (In conn moment word (thin_message gone purged note m))
thin_as gone purged note e = e

-- of entries with what each of them does
abbrev pub thin_noted : (Id → Bool) → (Id → Bool) → List Note → List Entry → List Entry
thin_noted gone purged (note ∷ notes) (e ∷ es) = thin_as gone purged note e ∷ thin_noted gone purged notes es
thin_noted gone purged _ _ = []

abbrev pub copies_in : Note → List Copy
copies_in (Makes copies) = copies
copies_in _ = []

-- what may go after all copies that were made, the newest first
abbrev pub gone_through : (Id → Bool) → List Note → Id → Bool
gone_through gone [] = gone
gone_through gone (note ∷ notes) = gone_through (narrowed gone (copies_in note)) notes
