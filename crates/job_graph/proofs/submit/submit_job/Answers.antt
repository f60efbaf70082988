use Rattle.std.proofs.Common.{◌≡◌, length, ap, ap₂, subst, ◌∙◌}
use Rattle.std.proofs.lemmas.List.FromFn.{length-map-range_with_len}
use Rattle.client_core.specs.Numbers.{numbered_id, numbered_ids}
use Rattle.client_core.specs.Submissions.{are_within, AreReadBack}
use Rattle.job_graph.specs.Submitting.{job_submissions}
use Rattle.job_graph.proofs.Submitted.{job_within, submitted_held}
use Rattle.job_graph.proofs.submit.submit_job.Goals as goal

pub job_submissions-requires : goal.job_submissions-requires
job_submissions-requires g c = ap length (c.as_slice.ensures ∙ c.in_ok-ids.ensures) ∙ length-map-range_with_len numbered_id c.args.first (length c.as_slice-tasks.result.now)

pub submit_all-requires-clause-limits : goal.submit_all-requires-clause-limits
submit_all-requires-clause-limits g c =
    let tasks : c.as_slice-tasks.result.now ≡ c.args.job.now = c.as_slice-tasks.ensures ∙ c.tasks.ensures.tasks in
    let ids : c.as_slice.result.now ≡ numbered_ids c.args.first (length c.as_slice-tasks.result.now) = c.as_slice.ensures ∙ c.in_ok-ids.ensures in
    ap are_within (c.in_ok-submissions.ensures ∙ ap₂ job_submissions tasks ids) ∙ job_within c.args.job.now c.args.first (length c.as_slice-tasks.result.now) c.tasks.ensures.job

pub returns-clause-held : goal.returns-clause-held
returns-clause-held g c =
    let tasks : c.as_slice-tasks.result.now ≡ c.args.job.now = c.as_slice-tasks.ensures ∙ c.tasks.ensures.tasks in
    let sent : c.in_ok-submissions.submissions ≡ job_submissions c.args.job.now c.in_ok-ids.ids = c.in_ok-submissions.ensures ∙ ap₂ job_submissions tasks c.as_slice.ensures in
    submitted_held c.args.job.now c.in_ok-ids.ids c.in_ok-messages.messages (subst (AreReadBack c.in_ok-messages.messages) sent c.in_ok-messages.ensures.reads)
