use Rattle.std.proofs.Common.{◌≡◌, ◌+◌, suc, length, string_bytes, string_cmp, String, Global, List, ℕ, None, arith, ap, ◌∙◌}
use Rattle.std.specs.BTreeMap.{insert_entry}
use Rattle.std.proofs.lemmas.List.{length-map}
use Rattle.client_core.specs.declared.task.Task.{Task}
use Rattle.client_core.specs.declared.task.Task.TheVariants.{Open as TaskOpen}
use Rattle.client_core.specs.Clients.{stand_in, stand_of, with_id, unsettled, used_in}
use Rattle.client_core.proofs.Entries.{insert_of}
use Rattle.client_core.proofs.Counts.{unsettled_with, unsettled_within}
use Rattle.client_core.proofs.used.note.Goals as goal

-- the entries with a new id, as contracts see them
with_key : {W : Type 0} (old new : List (String Global × Task W)) (key : String Global) (id : List ℕ) → new ≡ insert_entry string_cmp old key (TaskOpen None) → string_bytes key ≡ id → used_in new ≡ with_id (used_in old) id
with_key old new key id entries named = ap used_in entries ∙ insert_of old key ∙ ap (with_id (used_in old)) named

one_more : {W : Type 0} (old new : List (String Global × Task W)) (id : List ℕ) (count : ℕ) → used_in new ≡ with_id (used_in old) id → stand_in (used_in old) id ≡ None → count ≡ unsettled (used_in old) → count + 1 ≡ unsettled (used_in new)
one_more old new id count is absent counted =
    let more : unsettled (used_in new) ≡ suc (unsettled (used_in old)) = ap unsettled is ∙ unsettled_with (used_in old) id absent in
    omega (arith, more, counted)

pub prove-unreachable-requires : goal.prove-unreachable-requires
prove-unreachable-requires g c =
    let old = c.args.used.now.entries in
    let new = c.insert.new.self.entries in
    let is = with_key old new c.in_ok-key.key c.args.id.now c.in_ok-insert.ensures.entries c.in_ok-key.ensures.ok in
    let more = one_more old new c.args.id.now c.args.outstanding.now is c.requires.new c.requires.counted in
    let long : length (used_in new) ≡ length new = length-map new (λ e. (string_bytes e.0, stand_of e.1)) in
    let within = unsettled_within (used_in new) in
    omega (arith, more, long, within, c.len.ensures.len, c.if-prove.true)

pub returns-clause-ok : goal.returns-clause-ok
returns-clause-ok g c = with_key c.args.used.now.entries c.insert.new.self.entries c.in_ok-key.key c.args.id.now c.in_ok-insert.ensures.entries c.in_ok-key.ensures.ok

pub returns-clause-counted : goal.returns-clause-counted
returns-clause-counted g c =
    let is = with_key c.args.used.now.entries c.insert.new.self.entries c.in_ok-key.key c.args.id.now c.in_ok-insert.ensures.entries c.in_ok-key.ensures.ok in
    one_more c.args.used.now.entries c.insert.new.self.entries c.args.id.now c.args.outstanding.now is c.requires.new c.requires.counted
