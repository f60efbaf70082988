use Rattle.std.proofs.Common.{◌≡◌, ◌+◌, ◌<◌, ◌^◌, ◌++◌, List, ℕ, length, drop, All, sym, ap, subst, ◌∙◌, arith, length-append}
use Rattle.cluster_types.specs.declared.entry.Entry.{Entry}
use Rattle.record_codec.specs.Records.{spellings}
use Rattle.task_journal.specs.Batch.{IsBatch, entries_in}
use Rattle.task_journal.proofs.Batches.{count_fits, view_is, extended, long_enough}
use Rattle.task_journal.proofs.batch.Batch.extend.Goals as goal

pub overflow_cast-self : goal.overflow_cast-self
overflow_cast-self c = omega (arith, count_fits c.args.entries.now, c.size_with-size.ensures, c.if-size.false)

pub overflow_add-self : goal.overflow_add-self
overflow_add-self c =
    let es = entries_in c.self.inside.count (drop 9 c.self.inside.octets.items) in
    let same : length (spellings es) ≡ length (spellings c.args.self.now) = ap (λ (xs : List Entry). length (spellings xs)) c.self.view_is in
    omega (arith, count_fits c.args.entries.now, count_fits es, c.self.invariant.1, same, c.size.ensures, c.size_with-size.ensures, c.if-size.false)

pub put_front-requires : goal.put_front-requires
put_front-requires c =
    long_enough c.self.inside.octets.items c.reserve.new.self.items c.put_records.new.octets.items c.write_entries.new.into.items (entries_in c.self.inside.count (drop 9 c.self.inside.octets.items)) c.self.invariant.0 c.in_ok-reserve.ensures.items c.put_records.ensures

pub invariant_of-self-2 : goal.invariant_of-self-2
invariant_of-self-2 c =
    let octets = c.self.inside.octets.items in
    let es = entries_in c.self.inside.count (drop 9 octets) in
    let more = c.args.entries.now in
    let count = c.self.inside.count + length c.args.entries.now in
    let same : length (spellings es) ≡ length (spellings c.args.self.now) = ap (λ (xs : List Entry). length (spellings xs)) c.self.view_is in
    let sized : c.size_with-size.result ≡ length (spellings es) + length (spellings more) = omega (arith, same, c.size.ensures, c.size_with-size.ensures, c.if-size.false) in
    let fits : c.size_with-size.result < 2 ^ 32 = omega (arith, c.if-size.false) in
    let counted : count ≡ length es + length more = omega (arith, c.self.invariant.1) in
    let written : c.write_entries.new.into.items ≡ spellings more = c.in_ok-write_entries.ensures.records ∙ ap (λ (z : List ℕ). z ++ spellings more) c.new-records.ensures.items in
    let batch : IsBatch c.put_front.new.octets.items (es ++ more) =
    extended octets c.reserve.new.self.items c.put_records.new.octets.items c.write_entries.new.into.items c.put_front.new.octets.items es more c.size_with-size.result count
    c.self.invariant.0 c.in_ok-reserve.ensures.items written c.in_ok-write_entries.ensures.has c.put_records.ensures c.put_front.ensures sized counted fits in
    let all : count ≡ length (es ++ more) = counted ∙ sym (length-append es more) in
    let view : entries_in count (drop 9 c.put_front.new.octets.items) ≡ es ++ more = view_is c.put_front.new.octets.items (es ++ more) count batch all in
    subst (λ (xs : List Entry). IsBatch c.put_front.new.octets.items xs × (count ≡ length xs)) (sym view) (batch, all)

pub returns-clause-added : goal.returns-clause-added
returns-clause-added c =
    let octets = c.self.inside.octets.items in
    let es = entries_in c.self.inside.count (drop 9 octets) in
    let more = c.args.entries.now in
    let count = c.self.inside.count + length c.args.entries.now in
    let same : length (spellings es) ≡ length (spellings c.args.self.now) = ap (λ (xs : List Entry). length (spellings xs)) c.self.view_is in
    let sized : c.size_with-size.result ≡ length (spellings es) + length (spellings more) = omega (arith, same, c.size.ensures, c.size_with-size.ensures, c.if-size.false) in
    let fits : c.size_with-size.result < 2 ^ 32 = omega (arith, c.if-size.false) in
    let counted : count ≡ length es + length more = omega (arith, c.self.invariant.1) in
    let written : c.write_entries.new.into.items ≡ spellings more = c.in_ok-write_entries.ensures.records ∙ ap (λ (z : List ℕ). z ++ spellings more) c.new-records.ensures.items in
    let batch : IsBatch c.put_front.new.octets.items (es ++ more) =
    extended octets c.reserve.new.self.items c.put_records.new.octets.items c.write_entries.new.into.items c.put_front.new.octets.items es more c.size_with-size.result count
    c.self.invariant.0 c.in_ok-reserve.ensures.items written c.in_ok-write_entries.ensures.has c.put_records.ensures c.put_front.ensures sized counted fits in
    let all : count ≡ length (es ++ more) = counted ∙ sym (length-append es more) in
    view_is c.put_front.new.octets.items (es ++ more) count batch all ∙ ap (λ (xs : List Entry). xs ++ more) c.self.view_is
