use Rattle.std.proofs.Common.{◌≡◌, ◌∙◌}
use Rattle.std.proofs.lemmas.List.Elements.{All-same}
use Rattle.record_codec.specs.Spelling.{HasRecord}
use Rattle.database_text.specs.Compacted.{thin_list}
use Rattle.database_text.proofs.Thinned.{thin_has}
use Rattle.database_text.proofs.compact.write_thin.Goals as goal

pub write-requires : goal.write-requires
write-requires g c =
    let is : c.as_slice.result.now ≡ thin_list c.args.entries.now = c.as_slice.ensures ∙ c.in-Ok.ensures.thin in
    All-same HasRecord c.as_slice.result.now (thin_list c.args.entries.now) is (thin_has c.args.entries.now c.requires.has)
