use Rattle.std.proofs.Common.{◌≡◌, ◌<◌, ◌++◌, ◌∷◌, [], length, sym, subst, ◌∙◌, ℕ, List}
use Rattle.disk_model.specs.Crashes.{Written, Only}
use Rattle.task_journal.specs.Journal.{StandsFor}
use Rattle.task_journal.proofs.Moments.{starts, goes, stays}
use Rattle.task_journal.proofs.Making.{made, short_stands, head_image, head_done, pad_image, pad_done, made_settled, made_empty}
use Rattle.task_journal.proofs.opening.make.Goals as goal

pub returns-in_err-write_at-clause-any_moment : goal.returns-in_err-write_at-clause-any_moment
returns-in_err-write_at-clause-any_moment g c = λ told.
    let P : List ℕ → Type 0 = λ f. StandsFor f [] in
    let disk = g.D.Disk.content c.args.disk.now in
    let begun = starts g.D.Disk.moment g.D.Disk.image g.D.Disk.image_since g.met.D.Disk.counts_now g.met.D.Disk.widens c.args.disk.now P (g.met.D.Disk.only_now c.args.disk.now) (λ f now. short_stands f (subst (λ (z : List ℕ). length z < 33) (sym (c.requires.durable told f now)) (c.requires.short told))) in
    let first = goes g.D.Disk.moment g.D.Disk.image g.D.Disk.image_since g.met.D.Disk.counts_now g.met.D.Disk.widens c.args.disk.now c.args.disk.now c.write_at.new.self P begun c.write_at.ensures.time (head_image disk (g.D.Disk.image c.args.disk.now) (g.D.Disk.image c.write_at.new.self) (c.requires.short told) (c.requires.durable told) c.write_at.ensures.images) in
    first.leaves

pub returns-in_err-sync-clause-any_moment : goal.returns-in_err-sync-clause-any_moment
returns-in_err-sync-clause-any_moment g c = λ told.
    let P : List ℕ → Type 0 = λ f. StandsFor f [] in
    let disk = g.D.Disk.content c.args.disk.now in
    let begun = starts g.D.Disk.moment g.D.Disk.image g.D.Disk.image_since g.met.D.Disk.counts_now g.met.D.Disk.widens c.args.disk.now P (g.met.D.Disk.only_now c.args.disk.now) (λ f now. short_stands f (subst (λ (z : List ℕ). length z < 33) (sym (c.requires.durable told f now)) (c.requires.short told))) in
    let first = goes g.D.Disk.moment g.D.Disk.image g.D.Disk.image_since g.met.D.Disk.counts_now g.met.D.Disk.widens c.args.disk.now c.args.disk.now c.write_at.new.self P begun c.write_at.ensures.time (head_image disk (g.D.Disk.image c.args.disk.now) (g.D.Disk.image c.write_at.new.self) (c.requires.short told) (c.requires.durable told) c.write_at.ensures.images) in
    let kept = stays g.D.Disk.moment g.D.Disk.image g.D.Disk.image_since g.met.D.Disk.counts_now g.met.D.Disk.widens c.args.disk.now c.write_at.new.self c.sync.new.self P first c.sync.ensures.time c.sync.ensures.images in
    kept.leaves

pub returns-in_err-write_at-2-clause-any_moment : goal.returns-in_err-write_at-2-clause-any_moment
returns-in_err-write_at-2-clause-any_moment g c = λ told.
    let P : List ℕ → Type 0 = λ f. StandsFor f [] in
    let disk = g.D.Disk.content c.args.disk.now in
    let begun = starts g.D.Disk.moment g.D.Disk.image g.D.Disk.image_since g.met.D.Disk.counts_now g.met.D.Disk.widens c.args.disk.now P (g.met.D.Disk.only_now c.args.disk.now) (λ f now. short_stands f (subst (λ (z : List ℕ). length z < 33) (sym (c.requires.durable told f now)) (c.requires.short told))) in
    let first = goes g.D.Disk.moment g.D.Disk.image g.D.Disk.image_since g.met.D.Disk.counts_now g.met.D.Disk.widens c.args.disk.now c.args.disk.now c.write_at.new.self P begun c.write_at.ensures.time (head_image disk (g.D.Disk.image c.args.disk.now) (g.D.Disk.image c.write_at.new.self) (c.requires.short told) (c.requires.durable told) c.write_at.ensures.images) in
    let kept = stays g.D.Disk.moment g.D.Disk.image g.D.Disk.image_since g.met.D.Disk.counts_now g.met.D.Disk.widens c.args.disk.now c.write_at.new.self c.sync.new.self P first c.sync.ensures.time c.sync.ensures.images in
    let staged : g.D.Disk.content c.write_at.new.self ≡ made = head_done disk (g.D.Disk.content c.write_at.new.self) (c.requires.short told) (c.in_ok-write_at.ensures.written told) in
    let second = goes g.D.Disk.moment g.D.Disk.image g.D.Disk.image_since g.met.D.Disk.counts_now g.met.D.Disk.widens c.args.disk.now c.sync.new.self c.write_at-2.new.self P kept c.write_at-2.ensures.time (pad_image (g.D.Disk.content c.write_at.new.self) (g.D.Disk.image c.sync.new.self) (g.D.Disk.image c.write_at-2.new.self) staged c.in_ok-sync.ensures.durable c.write_at-2.ensures.images) in
    second.leaves

pub returns-in_err-sync-2-clause-any_moment : goal.returns-in_err-sync-2-clause-any_moment
returns-in_err-sync-2-clause-any_moment g c = λ told.
    let P : List ℕ → Type 0 = λ f. StandsFor f [] in
    let disk = g.D.Disk.content c.args.disk.now in
    let begun = starts g.D.Disk.moment g.D.Disk.image g.D.Disk.image_since g.met.D.Disk.counts_now g.met.D.Disk.widens c.args.disk.now P (g.met.D.Disk.only_now c.args.disk.now) (λ f now. short_stands f (subst (λ (z : List ℕ). length z < 33) (sym (c.requires.durable told f now)) (c.requires.short told))) in
    let first = goes g.D.Disk.moment g.D.Disk.image g.D.Disk.image_since g.met.D.Disk.counts_now g.met.D.Disk.widens c.args.disk.now c.args.disk.now c.write_at.new.self P begun c.write_at.ensures.time (head_image disk (g.D.Disk.image c.args.disk.now) (g.D.Disk.image c.write_at.new.self) (c.requires.short told) (c.requires.durable told) c.write_at.ensures.images) in
    let kept = stays g.D.Disk.moment g.D.Disk.image g.D.Disk.image_since g.met.D.Disk.counts_now g.met.D.Disk.widens c.args.disk.now c.write_at.new.self c.sync.new.self P first c.sync.ensures.time c.sync.ensures.images in
    let staged : g.D.Disk.content c.write_at.new.self ≡ made = head_done disk (g.D.Disk.content c.write_at.new.self) (c.requires.short told) (c.in_ok-write_at.ensures.written told) in
    let second = goes g.D.Disk.moment g.D.Disk.image g.D.Disk.image_since g.met.D.Disk.counts_now g.met.D.Disk.widens c.args.disk.now c.sync.new.self c.write_at-2.new.self P kept c.write_at-2.ensures.time (pad_image (g.D.Disk.content c.write_at.new.self) (g.D.Disk.image c.sync.new.self) (g.D.Disk.image c.write_at-2.new.self) staged c.in_ok-sync.ensures.durable c.write_at-2.ensures.images) in
    let ended = stays g.D.Disk.moment g.D.Disk.image g.D.Disk.image_since g.met.D.Disk.counts_now g.met.D.Disk.widens c.args.disk.now c.write_at-2.new.self c.sync-2.new.self P second c.sync-2.ensures.time c.sync-2.ensures.images in
    ended.leaves

pub returns-clause-any_moment : goal.returns-clause-any_moment
returns-clause-any_moment g c = λ told.
    let P : List ℕ → Type 0 = λ f. StandsFor f [] in
    let disk = g.D.Disk.content c.args.disk.now in
    let begun = starts g.D.Disk.moment g.D.Disk.image g.D.Disk.image_since g.met.D.Disk.counts_now g.met.D.Disk.widens c.args.disk.now P (g.met.D.Disk.only_now c.args.disk.now) (λ f now. short_stands f (subst (λ (z : List ℕ). length z < 33) (sym (c.requires.durable told f now)) (c.requires.short told))) in
    let first = goes g.D.Disk.moment g.D.Disk.image g.D.Disk.image_since g.met.D.Disk.counts_now g.met.D.Disk.widens c.args.disk.now c.args.disk.now c.write_at.new.self P begun c.write_at.ensures.time (head_image disk (g.D.Disk.image c.args.disk.now) (g.D.Disk.image c.write_at.new.self) (c.requires.short told) (c.requires.durable told) c.write_at.ensures.images) in
    let kept = stays g.D.Disk.moment g.D.Disk.image g.D.Disk.image_since g.met.D.Disk.counts_now g.met.D.Disk.widens c.args.disk.now c.write_at.new.self c.sync.new.self P first c.sync.ensures.time c.sync.ensures.images in
    let staged : g.D.Disk.content c.write_at.new.self ≡ made = head_done disk (g.D.Disk.content c.write_at.new.self) (c.requires.short told) (c.in_ok-write_at.ensures.written told) in
    let second = goes g.D.Disk.moment g.D.Disk.image g.D.Disk.image_since g.met.D.Disk.counts_now g.met.D.Disk.widens c.args.disk.now c.sync.new.self c.write_at-2.new.self P kept c.write_at-2.ensures.time (pad_image (g.D.Disk.content c.write_at.new.self) (g.D.Disk.image c.sync.new.self) (g.D.Disk.image c.write_at-2.new.self) staged c.in_ok-sync.ensures.durable c.write_at-2.ensures.images) in
    let ended = stays g.D.Disk.moment g.D.Disk.image g.D.Disk.image_since g.met.D.Disk.counts_now g.met.D.Disk.widens c.args.disk.now c.write_at-2.new.self c.sync-2.new.self P second c.sync-2.ensures.time c.sync-2.ensures.images in
    ended.leaves

pub returns-clause-ready : goal.returns-clause-ready
returns-clause-ready g c = λ told.
    let disk = g.D.Disk.content c.args.disk.now in
    let staged : g.D.Disk.content c.write_at.new.self ≡ made = head_done disk (g.D.Disk.content c.write_at.new.self) (c.requires.short told) (c.in_ok-write_at.ensures.written told) in
    let done : g.D.Disk.content c.sync-2.new.self ≡ made ++ 0 ∷ [] = c.sync-2.ensures.same ∙ pad_done (g.D.Disk.content c.write_at-2.new.self) (subst (λ (z : List ℕ). Written z 32 (0 ∷ []) (g.D.Disk.content c.write_at-2.new.self)) (c.sync.ensures.same ∙ staged) (c.in_ok-write_at-2.ensures.written told)) in
    record {
      settled = made_settled (g.D.Disk.content c.sync-2.new.self) done;
      durable = subst (λ (z : List ℕ). Only z (g.D.Disk.image c.sync-2.new.self)) (sym c.sync-2.ensures.same) c.in_ok-sync-2.ensures.durable;
    }

pub returns-clause-empty : goal.returns-clause-empty
returns-clause-empty g c = λ told.
    let disk = g.D.Disk.content c.args.disk.now in
    let staged : g.D.Disk.content c.write_at.new.self ≡ made = head_done disk (g.D.Disk.content c.write_at.new.self) (c.requires.short told) (c.in_ok-write_at.ensures.written told) in
    let done : g.D.Disk.content c.sync-2.new.self ≡ made ++ 0 ∷ [] = c.sync-2.ensures.same ∙ pad_done (g.D.Disk.content c.write_at-2.new.self) (subst (λ (z : List ℕ). Written z 32 (0 ∷ []) (g.D.Disk.content c.write_at-2.new.self)) (c.sync.ensures.same ∙ staged) (c.in_ok-write_at-2.ensures.written told)) in
    made_empty (g.D.Disk.content c.sync-2.new.self) done

pub returns-clause-made : goal.returns-clause-made
returns-clause-made g c = λ told.
    let disk = g.D.Disk.content c.args.disk.now in
    let staged : g.D.Disk.content c.write_at.new.self ≡ made = head_done disk (g.D.Disk.content c.write_at.new.self) (c.requires.short told) (c.in_ok-write_at.ensures.written told) in
    let done : g.D.Disk.content c.sync-2.new.self ≡ made ++ 0 ∷ [] = c.sync-2.ensures.same ∙ pad_done (g.D.Disk.content c.write_at-2.new.self) (subst (λ (z : List ℕ). Written z 32 (0 ∷ []) (g.D.Disk.content c.write_at-2.new.self)) (c.sync.ensures.same ∙ staged) (c.in_ok-write_at-2.ensures.written told)) in
    done
