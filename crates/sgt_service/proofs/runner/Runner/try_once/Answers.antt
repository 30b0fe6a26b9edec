use Rattle.std.proofs.Common.{◌≡◌, ◌≢◌, ◌∙◌, inl, inr, rules, subst, sym}
use Rattle.std.specs.Prelude.{vec_len}
use Rattle.sgt_workers.specs.declared.ticket.Ending.{Ending}
use Rattle.sgt_workers.specs.declared.ticket.Ending.TheVariants.{Withdrawn}
use Rattle.sgt_service_locks.specs.Seats.{CountsEnd}
use Rattle.sgt_service.proofs.Faults.{back_parts, back_stopped}
use Rattle.sgt_service.proofs.Telling.{begin_tells, commit_tells, operation_tells, withdraw_tells}
use Rattle.sgt_service.proofs.Tries.{fitting, tries_once, try_counts, unfitting}
use Rattle.sgt_service.proofs.runner.Runner.try_once.Goals as goal

pub returns-in-Ok-commit-clause-tries : goal.returns-in-Ok-commit-clause-tries
returns-in-Ok-commit-clause-tries g c =
    let t = c.in-Ok-commit.ticket in
    let told = c.in-Ok-commit.ensures in (
      c.apply_all.new.active,
      tries_once c.args.script.now.operations c.in_ok-active.active c.apply_all.new.active c.in_ok-fits.fits t
          (vec_len c.args.self.now.service.now.sites) c.clear.new.self.items c.apply_all.new.reads.items
          c.in_ok-active.ensures.begun
          c.in_ok-active.ensures.draft c.clear.ensures.items c.apply_all.ensures.named c.in_ok-fits.ensures.does
          (fitting t c.in_ok-fits.fits told.ok.1 c.if-not-fits.false) (inl told.step),
      try_counts t c.in_ok-active.active c.apply_all.new.active c.args.seat.now c.begin.new.seat c.apply_all.new.seat
          c.commit.new.seat c.in_ok-active.ensures.seat c.in_ok-active.ensures.draft c.apply_all.ensures.share
          c.apply_all.ensures.counts told.ok.2
          ((λ i. ((told.begins ∙ c.apply_all.ensures.begins) i).amount) ∙ c.in_ok-active.ensures.counted),
    )

pub returns-in-Ok-clause-tries : goal.returns-in-Ok-clause-tries
returns-in-Ok-clause-tries g c =
    let t = c.in-Ok.ticket in
    let told = c.in-Ok.ensures in
    let ends = subst (λ (v : Ending). CountsEnd v c.apply_all.new.active c.apply_all.new.seat c.withdraw.new.seat)
    (sym told.ok.1) told.ok.2 in (
      c.apply_all.new.active,
      tries_once c.args.script.now.operations c.in_ok-active.active c.apply_all.new.active c.in_ok-fits.fits t
          (vec_len c.args.self.now.service.now.sites) c.clear.new.self.items c.apply_all.new.reads.items
          c.in_ok-active.ensures.begun
          c.in_ok-active.ensures.draft c.clear.ensures.items c.apply_all.ensures.named c.in_ok-fits.ensures.does
          (unfitting t c.in_ok-fits.fits told.ok.1 c.if-not-fits.true) (inr told.step),
      try_counts t c.in_ok-active.active c.apply_all.new.active c.args.seat.now c.begin.new.seat c.apply_all.new.seat
          c.withdraw.new.seat c.in_ok-active.ensures.seat c.in_ok-active.ensures.draft c.apply_all.ensures.share
          c.apply_all.ensures.counts ends
          ((λ i. ((told.begins ∙ c.apply_all.ensures.begins) i).amount) ∙ c.in_ok-active.ensures.counted),
    )

pub returns-in-Err-commit-clause-halt : goal.returns-in-Err-commit-clause-halt
returns-in-Err-commit-clause-halt g c =
    back_stopped (λ (v : Ending). v ≢ Withdrawn) c.apply_all.new.active c.args.seat.now c.apply_all.new.seat
    c.commit.new.seat c.in-Err-commit.back
    (c.apply_all.ensures.share.0 ∙ c.in_ok-active.ensures.seat.0) c.in-Err-commit.ensures.back

pub returns-in-Err-clause-halt : goal.returns-in-Err-clause-halt
returns-in-Err-clause-halt g c =
    back_stopped (λ (v : Ending). v ≡ Withdrawn) c.apply_all.new.active c.args.seat.now c.apply_all.new.seat
    c.withdraw.new.seat c.in-Err.back
    (c.apply_all.ensures.share.0 ∙ c.in_ok-active.ensures.seat.0) c.in-Err.ensures.back

pub returns-in-Err-commit-clause-parts : goal.returns-in-Err-commit-clause-parts
returns-in-Err-commit-clause-parts g c =
    back_parts (λ (v : Ending). v ≢ Withdrawn) c.apply_all.new.active c.args.seat.now c.apply_all.new.seat
    c.commit.new.seat c.in-Err-commit.back
    (c.apply_all.ensures.share.0 ∙ c.in_ok-active.ensures.seat.0) c.in-Err-commit.ensures.back

pub returns-in-Err-clause-parts : goal.returns-in-Err-clause-parts
returns-in-Err-clause-parts g c =
    back_parts (λ (v : Ending). v ≡ Withdrawn) c.apply_all.new.active c.args.seat.now c.apply_all.new.seat
    c.withdraw.new.seat c.in-Err.back
    (c.apply_all.ensures.share.0 ∙ c.in_ok-active.ensures.seat.0) c.in-Err.ensures.back

pub returns-in_err-active-clause-told : goal.returns-in_err-active-clause-told
returns-in_err-active-clause-told g c =
    let service = c.args.self.now.service.now in
    search (rules, begin_tells (vec_len service.sites) service.names.items c.args.script.now.operations)

pub returns-in_err-fits-clause-told : goal.returns-in_err-fits-clause-told
returns-in_err-fits-clause-told g c =
    let service = c.args.self.now.service.now in
    let first = c.in_ok-active.active in
    let began = c.in_ok-active.ensures in
    search (
      rules,
      operation_tells (vec_len service.sites) service.names.items c.args.script.now.operations first
          c.clear.new.self.items began.begun began.draft c.clear.ensures.items,
    )

pub returns-in-Err-commit-clause-told : goal.returns-in-Err-commit-clause-told
returns-in-Err-commit-clause-told g c =
    let service = c.args.self.now.service.now in
    let first = c.in_ok-active.active in
    let last = c.apply_all.new.active in
    let began = c.in_ok-active.ensures in
    let told = c.in-Err-commit.ensures in
    commit_tells (vec_len service.sites) service.names.items c.args.script.now.operations c.in_ok-fits.fits first last
    c.clear.new.self.items c.apply_all.new.reads.items (λ (v : Ending). v ≢ Withdrawn) c.apply_all.new.seat
    c.commit.new.seat c.in-Err-commit.back began.begun began.draft c.clear.ensures.items c.apply_all.ensures.named
    c.in_ok-fits.ensures.does c.if-not-fits.false told.back told.refused

pub returns-in-Err-clause-told : goal.returns-in-Err-clause-told
returns-in-Err-clause-told g c =
    let service = c.args.self.now.service.now in
    let first = c.in_ok-active.active in
    let last = c.apply_all.new.active in
    let began = c.in_ok-active.ensures in
    let told = c.in-Err.ensures in
    withdraw_tells (vec_len service.sites) service.names.items c.args.script.now.operations c.in_ok-fits.fits first last
    c.clear.new.self.items c.apply_all.new.reads.items (λ (v : Ending). v ≡ Withdrawn) c.apply_all.new.seat
    c.withdraw.new.seat c.in-Err.back began.begun began.draft c.clear.ensures.items c.apply_all.ensures.named
    c.in_ok-fits.ensures.does c.if-not-fits.true told.back told.refused
