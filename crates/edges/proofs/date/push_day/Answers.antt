use Rattle.std.proofs.Common.{◌≡◌, ap, ◌∙◌, append_assoc, unsigned_abs, arith, to_z, of_z}
use Rattle.std.specs.Int.{w16}
use Rattle.jiff_core.proofs.SignedLemmas.{back_small, signed_arith}
use Rattle.edges.specs.Date.{civil_date, day_text}
use Rattle.edges.proofs.date.push_day.Goals as goal

pub returns : goal.returns
unfolding day_text
returns c =
    let date = c.date_after-date.ensures in
    let back : to_z w16 (of_z w16 c.date_after-date.result.year) ≡ c.date_after-date.result.year = back_small w16 _ (omega (arith, signed_arith, c.date_after-date.result.year_in)) in
    let year : c.from.result ≡ (civil_date c.args.days).year = c.from.ensures ∙ c.unsigned_abs.ensures.value ∙ ap unsigned_abs (back ∙ date.0) in
    let month : c.from-2.result ≡ (civil_date c.args.days).month = c.from-2.ensures ∙ date.1 in
    let day : c.from-3.result ≡ (civil_date c.args.days).day = c.from-3.ensures ∙ date.2 in
    rw (c.in_ok-push_number-3.ensures, c.in_ok-push_str-2.ensures.bytes, c.in_ok-push_number-2.ensures, c.in_ok-push_str.ensures.bytes, c.in_ok-push_number.ensures, year, month, day) (simp append_assoc)
