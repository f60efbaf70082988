use Rattle.std.proofs.Common.{◌≡◌, ◌||◌, Some, None, map, filter, find, not, nat_eq, subst, sym, ap, ◌∙◌}
use Rattle.std.specs.List.{list_any}
use Rattle.cluster_defs.specs.Texts.{queue_content}
use Rattle.cluster_defs.specs.Words.{is_empty}
use Rattle.cluster_defs.specs.Queries.{plain}
use Rattle.cluster_defs.specs.RecordAnswers.{ids_where, queue_in, waits_in, queues_in, lives_in, asked_engines}
use Rattle.hub_queries.specs.Ascending.{Ascends}
use Rattle.hub_queries.proofs.Numbers.{ascends_filter}
use Rattle.hub_queries.proofs.Parts.{missing_same}
use Rattle.hub_queries.proofs.queues.queues_answer.Goals as goal

pub returns-in-Some : goal.returns-in-Some
returns-in-Some g c =
    let live = c.args.live.now in
    let targets = c.args.targets.now in
    let numbers : c.as_slice.result.now ≡ map (λ e. e.0) live = c.as_slice.ensures.value ∙ c.in_ok-numbers.ensures in
    let listed : c.as_slice-2.result.now ≡ targets = c.as_slice-2.ensures in
    let missing : Some c.in-Some.missing ≡ find (λ n. not (lives_in live n)) targets =
    sym c.in-Some.is ∙ c.first_missing.ensures ∙ ap (λ z. find (λ n. not (list_any (λ m. nat_eq m n) z)) c.as_slice-2.result.now) numbers
    ∙ ap (find (λ n. not (list_any (λ m. nat_eq m n) (map (λ e. e.0) live)))) listed ∙ missing_same live targets in
    c.in_ok-refused.ensures ∙ ap (queues_in (g.R.Records.records c.args.table.now) live targets c.args.verbose) missing

pub shown_rows-requires : goal.shown_rows-requires
shown_rows-requires g c =
    let live = c.args.live.now in
    let targets = c.args.targets.now in
    let numbers : c.as_slice-3.result.now ≡ map (λ e. e.0) live = c.as_slice-3.ensures.value ∙ c.in_ok-numbers.ensures in
    let listed : c.as_slice-4.result.now ≡ targets = c.as_slice-4.ensures in
    let asked : c.as_slice-5.result.now ≡ asked_engines live targets =
    c.as_slice-5.ensures.value ∙ c.in_ok-asked.ensures ∙ ap (filter (λ n. is_empty c.as_slice-4.result.now || list_any (λ m. nat_eq n m) c.as_slice-4.result.now)) numbers
    ∙ ap (λ z. filter (λ n. is_empty z || list_any (λ m. nat_eq n m) z) (map (λ e. e.0) live)) listed in
    subst Ascends (sym asked) (ascends_filter (λ n. is_empty targets || list_any (λ m. nat_eq n m) targets) (map (λ e. e.0) live) c.requires)

pub returns : goal.returns
returns g c =
    let records = g.R.Records.records c.args.table.now in
    let live = c.args.live.now in
    let targets = c.args.targets.now in
    let numbers : c.as_slice-3.result.now ≡ map (λ e. e.0) live = c.as_slice-3.ensures.value ∙ c.in_ok-numbers.ensures in
    let listed : c.as_slice-4.result.now ≡ targets = c.as_slice-4.ensures in
    let asked : c.as_slice-5.result.now ≡ asked_engines live targets =
    c.as_slice-5.ensures.value ∙ c.in_ok-asked.ensures ∙ ap (filter (λ n. is_empty c.as_slice-4.result.now || list_any (λ m. nat_eq n m) c.as_slice-4.result.now)) numbers
    ∙ ap (λ z. filter (λ n. is_empty z || list_any (λ m. nat_eq n m) z) (map (λ e. e.0) live)) listed in
    let missing : None ≡ find (λ n. not (lives_in live n)) targets =
    sym c.in_default.is ∙ c.first_missing.ensures ∙ ap (λ z. find (λ n. not (list_any (λ m. nat_eq m n) z)) c.as_slice-2.result.now) (c.as_slice.ensures.value ∙ c.in_ok-numbers.ensures)
    ∙ ap (find (λ n. not (list_any (λ m. nat_eq m n) (map (λ e. e.0) live)))) c.as_slice-2.ensures ∙ missing_same live targets in
    let rows = c.as_slice-6.ensures.value ∙ c.in_ok-rows.ensures in
    let text = c.in_ok-text.ensures c.args.verbose (ids_where waits_in records) records c.as_slice-5.result.now c.in_ok-unassigned.ensures rows in
    let content = c.in_ok-from_string.ensures ∙ text ∙ ap (λ z. queue_content c.args.verbose (ids_where waits_in records) (map (queue_in records) z)) asked in
    c.plain.ensures ∙ ap plain content ∙ ap (queues_in records live targets c.args.verbose) missing
