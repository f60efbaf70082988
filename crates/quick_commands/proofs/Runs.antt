-- A replay is a run over its file.
use Rattle.std.proofs.Common.{◌≡◌, ℕ, List, [], ◌++◌, append-nil, Option, Some, None, reverse, refl, sym, ap, subst}
use Rattle.std.proofs.lemmas.List.{reverse-reverse}
use Rattle.cluster_defs.specs.Histories.{History}
use Rattle.cluster_store.specs.Openings.{HasOpen}
use Rattle.cluster_store.specs.Stores.{written}
use Rattle.command_words.specs.declared.command.ReplayOptions.{ReplayOptions}
use Rattle.edges.specs.Streams.{AddedFront, Added}
use Rattle.task_journal.specs.Journal.{StandsFor}
use Rattle.tape.specs.declared.record.TapeRecord.{TapeRecord}
use Rattle.tape.specs.Spelling.{all_spelled}
use Rattle.tape.specs.Tape.{blank, records}
use Rattle.tape_drive.specs.Drive.{Stand, start, stand_at, outputs, drive_stand, drive_output}
use Rattle.tape_drive.specs.Served.{Comes, HoldsSome}
use Rattle.quick_commands.specs.Replays.{IsOver, IsServed, limits_of, config_of}
use Rattle.quick_commands.specs.Runs.{IsRun}
use Rattle.quick_commands.proofs.Reached.{comes_here}
use Rattle.edges.proofs.Additions.{added_none}

-- the first records of a tape that begins behind a list
made : (content octets left : List ℕ) (options : ReplayOptions) (s : Stand) (before now : Option (List ℕ)) (front rest : List TapeRecord) (at : History) →
    IsOver (Unit {0}) content options s → records blank octets ≡ front ++ rest → AddedFront (all_spelled (outputs options.key s front)) before now → Comes options.key (stand_at options.key s front) rest at →
    StandsFor left (written at) → IsRun content options octets before now left
made content octets left options s before now front rest at over tape wrote comes leaves = record {
  old = reverse over.list;
  run = record { key = options.key; limits = limits_of options; scheme = options.scheme; hwm = options.hwm; misses = options.misses; front = front; rest = rest };
  at = at;
  held = subst (StandsFor content) (sym (reverse-reverse over.list)) (over.stands tt);
  key = refl;
  opened = refl;
  tape = tape;
  wrote = subst (λ (b : Stand). AddedFront (all_spelled (outputs options.key b front)) before now) over.is wrote;
  comes = subst (λ (b : Stand). Comes options.key (stand_at options.key b front) rest at) over.is comes;
  leaves = leaves;
}

pub replayed_is_run : (content octets left : List ℕ) (options : ReplayOptions) (s : Stand) (before now : Option (List ℕ)) →
    IsOver (Unit {0}) content options s → Added (drive_output options.key s octets) before now → StandsFor left (written (drive_stand options.key s octets).history) → IsRun content options octets before now left
replayed_is_run content octets left options s before now over added leaves =
    made content octets left options s before now (records blank octets) [] (drive_stand options.key s octets).history over
    (sym (append-nil (records blank octets)))
    (record { front = drive_output options.key s octets; rest = []; parts = sym (append-nil (drive_output options.key s octets)); added = added })
    refl leaves

pub cut_off_is_run : (content octets left : List ℕ) (options : ReplayOptions) (s : Stand) (before now : Option (List ℕ)) →
    IsOver (Unit {0}) content options s → HoldsSome (IsServed options.key s (records blank octets) before now) left → IsRun content options octets before now left
cut_off_is_run content octets left options s before now over holds =
    made content octets left options s before now holds.has.front holds.has.rest holds.history over holds.has.parts holds.has.wrote holds.has.comes holds.stands

pub moment_is_run : (content octets left : List ℕ) (options : ReplayOptions) (s : Stand) (before : Option (List ℕ)) →
    IsOver (Unit {0}) content options s → HoldsSome (Comes options.key s (records blank octets)) left → IsRun content options octets before before left
moment_is_run content octets left options s before over holds =
    made content octets left options s before before [] (records blank octets) holds.history over refl
    (record { front = []; rest = []; parts = refl; added = added_none before }) holds.has holds.stands

-- where a tape begins behind an Open that a crash left
abbrev begun_on : (content left : List ℕ) (options : ReplayOptions) → HasOpen content (config_of options) 0 left → Stand
begun_on content left options o = start (reverse o.from.list) (limits_of options) options.scheme options.hwm options.misses

pub opened_is_run : (content octets left : List ℕ) (options : ReplayOptions) (before : Option (List ℕ)) →
    HasOpen content (config_of options) 0 left → IsRun content options octets before before left
opened_is_run content octets left options before o =
    moment_is_run content octets left options (begun_on content left options o) before
    (record { list = o.from.list; stands = o.from.stands; fit = o.from.fit; is = refl })
    (record {
      history = o.history;
      has = subst (Comes options.key (begun_on content left options o) (records blank octets)) (sym o.from.is) (comes_here options.key (begun_on content left options o) (records blank octets));
      stands = o.stands;
    })
