use Rattle.std.proofs.Common.{◌≡◌, ◌+◌, ◌-◌, ◌≤◌, ◌^◌, min, length, take, drop, ap, ◌∙◌, arith}
use Rattle.std.proofs.lemmas.Grind.{common_steps}
use Rattle.std.proofs.lemmas.List.{take_rest, length-drop}
use Rattle.record_codec.specs.Records.{spellings}
use Rattle.journal_standby.proofs.Takes.{batch_one, batch_more, short_step, short_behind, short_further, size_of_both}
use Rattle.journal_standby.proofs.batches.first_batch.Goals as goal

pub loop-taken-init : goal.loop-taken-init
loop-taken-init c =
    let list = c.args.entries.now in
    let n = c.first_step-taken.result in
    let is = c.first_step-taken.ensures.is in
    record {
      some = c.first_step-taken.ensures.some;
      within = c.first_step-taken.ensures.within;
      takes = batch_one list n is;
      size = grind (arith, common_steps);
      fits = short_step list n is c.requires.short;
      rest = short_behind list n is c.requires.short;
    }

pub loop-taken-preserved : goal.loop-taken-preserved
loop-taken-preserved c =
    let list = c.args.entries.now in
    let place = c.loop-taken.taken in
    let n = c.first_step.result in
    let is = rw (take_rest list place) at c.first_step.ensures.is in
    let within = rw (take_rest list place) at c.first_step.ensures.within in
    let long = length-drop place list in
    let both = size_of_both list place n is in
    let cut : (place + n) - place ≡ n = omega arith in
    let part : c.records_size.result ≡ min (length (spellings (take n (drop place list)))) (2 ^ 64 - 1) = c.records_size.ensures ∙ ap (λ m. min (length (spellings (take m (drop place list)))) (2 ^ 64 - 1)) cut in
    let size : c.saturating_add-size.result ≡ min (length (spellings (take (place + n) list))) (2 ^ 64 - 1) = omega (arith, both, part, c.loop-taken.invariant.size, c.saturating_add-size.ensures) in
    let small : length (spellings (take (place + n) list)) ≤ 1073741824 = omega (arith, size, c.if-size-gt-MOST_OCTETS.false) in
    record {
      some = omega arith;
      within = omega (arith, within, long, c.loop-taken.invariant.within);
      takes = batch_more list place n is c.loop-taken.invariant.takes small;
      size = size;
      fits = omega (arith, small);
      rest = short_further list place n is c.loop-taken.invariant.rest;
    }
