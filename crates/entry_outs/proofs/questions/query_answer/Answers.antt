use Rattle.std.proofs.Common.{ℕ, List, map, sym, ap, ◌∙◌, subst}
use Rattle.cluster_defs.specs.declared.engine.Engine.{Engine}
use Rattle.cluster_defs.specs.RecordAnswers.{answer_in}
use Rattle.task_table.specs.Seen.{Seen}
use Rattle.cluster_state.specs.Stands.{plain}
use Rattle.hub_queries.specs.Ascending.{Ascends}
use Rattle.entry_outs.specs.Asked.{asked_live}
use Rattle.entry_outs.proofs.Telling.{asked_answer, asked_ascends}
use Rattle.entry_outs.proofs.questions.query_answer.Goals as goal

pub answer-requires : goal.answer-requires
answer-requires c =
    let is = c.in_ok-live.ensures ∙ ap (λ (es : List Engine). asked_live c.args.query.now (map (λ e. (e.number, e.uuid)) es)) c.as_slice.ensures in
    subst (λ (l : List (ℕ × List ℕ)). Ascends (map (λ e. e.0) l)) (sym is) (asked_ascends (plain c.args.state.now) c.args.query.now c.requires)

pub returns : goal.returns
returns c =
    let is = c.in_ok-live.ensures ∙ ap (λ (es : List Engine). asked_live c.args.query.now (map (λ e. (e.number, e.uuid)) es)) c.as_slice.ensures in
    let rows = map (λ (s : Seen). s.row) c.args.state.now.tasks in
    c.in_ok-answer.ensures
    ∙ ap (λ rs. answer_in rs c.in_ok-live.live c.args.channel c.args.query.now c.args.msg_type.now) c.new-rows.ensures
    ∙ ap (λ l. answer_in rows l c.args.channel c.args.query.now c.args.msg_type.now) is
    ∙ asked_answer (plain c.args.state.now) c.args.channel c.args.query.now c.args.msg_type.now c.requires
