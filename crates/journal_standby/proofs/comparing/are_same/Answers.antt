use Rattle.std.proofs.Common.{◌≡◌, ap, sym, ◌∙◌, refl}
use Rattle.std.proofs.lemmas.Slice.Eq.{bytes_eq-Decides}
use Rattle.record_codec.specs.Spelling.{spelling}
use Rattle.journal_standby.proofs.Divergences.{same_record}
use Rattle.journal_standby.proofs.comparing.are_same.Goals as goal

pub returns : goal.returns
returns c =
    let a = c.as_slice.result.now in
    let b = c.as_slice-2.result.now in
    let x : a ≡ spelling c.args.entry.now = c.as_slice.ensures.value ∙ c.in_ok-record.ensures.record in
    let y : b ≡ spelling c.args.other.now = c.as_slice-2.ensures.value ∙ c.in_ok-other_record.ensures.record in (
      λ yes. same_record c.args.entry.now c.args.other.now (c.in_ok-record.ensures.has refl) (c.in_ok-other_record.ensures.has refl) (sym x ∙ (bytes_eq-Decides a b).0 (sym c.eq.ensures ∙ yes) ∙ y),
      λ same. c.eq.ensures ∙ (bytes_eq-Decides a b).1 (x ∙ ap spelling same ∙ sym y),
    )
