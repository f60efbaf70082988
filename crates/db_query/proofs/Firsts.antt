-- One more field of a list without repeats, and of a record that is written.
use Rattle.std.proofs.Common.{◌≡◌, ◌<◌, ◌+◌, ℕ, List, [], ◌∷◌, ◌++◌, length, take, map, get_or, sym, ap, ◌∙◌}
use Rattle.std.proofs.lemmas.List.{take_more, get_or_default}
use Rattle.std.proofs.lemmas.List.Sums.{fold-append}
use Rattle.cluster_types.specs.declared.record.Record.{Record}
use Rattle.cluster_defs.specs.Texts.{parted}
use Rattle.jupyter_header.specs.Comma.{comma}
use Rattle.jupyter_header.proofs.CommasMore.{members_more}
use Rattle.cluster_defs.specs.FilterWords.{with_new, once}
use Rattle.cluster_defs.specs.FilterContents.{field_member}
use Rattle.cluster_defs.specs.declared.filter.Field.{Field}

pub once_more : (fields : List Field) (i : ℕ) (d : Field) → i < length fields → with_new (once (take i fields)) (get_or fields i d) ≡ once (take (i + 1) fields)
once_more fields i d inside = sym (ap once (take_more fields i d inside) ∙ fold-append with_new [] (take i fields) (get_or fields i d ∷ []))

pub member_more : (r : Record) (keys : List Field) (place : ℕ) (d : Field) → place < length keys
    → parted (map (field_member r) (take place keys)) ++ (comma place ++ field_member r (get_or keys place d)) ≡ parted (map (field_member r) (take (place + 1) keys))
member_more r keys place d inside =
    sym (members_more (field_member r) keys place (get_or keys place d) inside (get_or_default keys place d (get_or keys place d) inside))
