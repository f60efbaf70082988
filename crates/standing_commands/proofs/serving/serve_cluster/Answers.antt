use Rattle.std.proofs.Common.{◌+◌, ◌<◌, ◌^◌, ap, inl, inr, reverse, subst, arith, ⊎_elim, refl}
use Rattle.controller_desk.specs.Contents.{content_of}
use Rattle.cluster_store.specs.Openings.{Exits, IsOpened}
use Rattle.cluster_types.specs.declared.config.Config.{Config}
use Rattle.command_words.specs.declared.ending.Ending.{Ending}
use Rattle.command_words.specs.declared.ending.StandingEnding.TheVariants.{Plain}
use Rattle.controller_desk.proofs.Taking.{set_opened}
use Rattle.standing_commands.specs.declared.shown.Shown.TheVariants.{Disk}
use Rattle.standing_commands.proofs.serving.serve_cluster.Goals as goal

pub serve_store-requires-clause-set : goal.serve_store-requires-clause-set
serve_store-requires-clause-set g c κs bounds =
    let le = c.requires in
    let entries : c.in-Ok-open.store.limits.entries + 1 < 2 ^ 32 = rw c.in-Ok-open.ensures.limits (rw c.config_of.ensures.config (omega (arith, le))) in
    let bytes : c.in-Ok-open.store.limits.bytes < 2 ^ 32 = rw c.in-Ok-open.ensures.limits c.config_of.ensures.short in
    (set_opened c.in-Ok-open.store (reverse c.in-Ok-open.ensures.history.list) c.now-moment.result.millis _ _ _ c.in-Ok-open.ensures.history.is c.in-Ok-open.ensures.mark entries bytes).0

pub serve_store-requires-clause-fresh : goal.serve_store-requires-clause-fresh
serve_store-requires-clause-fresh g c κs bounds =
    let le = c.requires in
    let entries : c.in-Ok-open.store.limits.entries + 1 < 2 ^ 32 = rw c.in-Ok-open.ensures.limits (rw c.config_of.ensures.config (omega (arith, le))) in
    let bytes : c.in-Ok-open.store.limits.bytes < 2 ^ 32 = rw c.in-Ok-open.ensures.limits c.config_of.ensures.short in
    (set_opened c.in-Ok-open.store (reverse c.in-Ok-open.ensures.history.list) c.now-moment.result.millis _ _ _ c.in-Ok-open.ensures.history.is c.in-Ok-open.ensures.mark entries bytes).1

pub returns-in-Err : goal.returns-in-Err
returns-in-Err g c =
    inr (inl (record {
      left = c.in-Err.field-0.disk;
      why = c.in-Err.field-0.why;
      moment = c.now-moment.result.millis;
      is = ap (λ (e : Ending). (Plain e, Disk c.in-Err.field-0.disk)) c.ending_of_refusal.ensures;
      refused = λ tells. c.in-Err.ensures.refused tells;
      spared = λ tells. c.in-Err.ensures.spared tells;
      exits = λ tells. subst (λ (config : Config). Exits (g.T.Disk.Disk.image c.args.site.disk) (g.T.Disk.Disk.content c.args.site.disk) config c.now-moment.result.millis (g.T.Disk.Disk.image c.in-Err.field-0.disk)) c.config_of.ensures.config (c.in-Err.ensures.exits tells);
      cause = λ fault. c.in-Err.ensures.cause fault;
    }))

pub returns-in-Ok-open : goal.returns-in-Ok-open
returns-in-Ok-open g c =
    ⊎_elim (λ none. inl none)
    (λ over. inr (inr (
      content_of g.T.Disk.Disk.faults c.in-Ok-open.store,
      record {
        moment = c.now-moment.result.millis;
        opened = subst (λ (config : Config). IsOpened g.T.Disk.Disk.tells (g.T.Disk.Disk.content c.args.site.disk) config c.now-moment.result.millis c.in-Ok-open.store.history) c.config_of.ensures.config c.in-Ok-open.ensures.history;
        limits = rw c.in-Ok-open.ensures.limits (rw c.config_of.ensures.config refl);
        fulls = c.in-Ok-open.ensures.fresh.2;
        later = c.in-Ok-open.ensures.later;
      },
      over,
    )))
    c.serve_store.ensures
