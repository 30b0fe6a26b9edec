use Rattle.std.proofs.Common.{◌≡◌, ◌∙◌, length, sym, subst, arith}
use Rattle.std.specs.Prelude.{slice_get}
use Rattle.std.proofs.lemmas.Bool.{true≢false}
use Rattle.sgt_service_settle.specs.Settled.{IsSiteSettled}
use Rattle.sgt_service_settle.specs.Told.{handed_in}
use Rattle.sgt_service_settle.specs.private.Sites.{IsLeastBeyond}
use Rattle.sgt_service_settle.proofs.Settling.{fit_settled, settled_counted, settled_fit, beyond_found}
use Rattle.sgt_certifier.proofs.Counting.{on-err}
use Rattle.sgt_service_settle.proofs.check.first_differing.Goals as goal

pub first_unfit-requires-clause-paired : goal.first_unfit-requires-clause-paired
first_unfit-requires-clause-paired c = c.in_ok-index.ensures.index.paired

pub first_unfit-requires-clause-there : goal.first_unfit-requires-clause-there
first_unfit-requires-clause-there c = c.in_ok-index.ensures.long

pub returns-in_err-tables-clause-err : goal.returns-in_err-tables-clause-err
returns-in_err-tables-clause-err c =
    on-err c.from_residual-in_err-tables.result _ (
      0,
      c.has_first_counts.ensures.0 c.if-not-has_first_counts.false,
      λ k lt. absurd (omega (arith, lt)),
    )

pub returns-in-Some-clause-ok : goal.returns-in-Some-clause-ok
returns-in-Some-clause-ok c =
    let history = c.args.certifier.now.history in
    let rulings = c.args.certifier.now.state.rulings in
    let sites = c.args.sites.now in
    let counts = c.args.counts.now in
    let index = c.in_ok-index.index in
    let found = rw c.in-Some.is at c.in_ok-unfit.ensures.ok in (
      λ settled. found.1 (settled_fit history rulings index sites counts c.in-Some.site c.in_ok-index.ensures.index
          settled),
      λ k lt. fit_settled history rulings index sites counts k c.in_ok-index.ensures.index c.requires.counts
          (omega (arith, lt, found.0)) (found.2 k lt),
    )

pub returns-clause-ok : goal.returns-clause-ok
returns-clause-ok c =
    let history = c.args.certifier.now.history in
    let rulings = c.args.certifier.now.state.rulings in
    let sites = c.args.sites.now in
    let counts = c.args.counts.now in
    let index = c.in_ok-index.index in
    let each = rw c.in_default-unfit.is at c.in_ok-unfit.ensures.ok in
    beyond_found history rulings sites counts c.first_beyond.result
    (λ k low. fit_settled history rulings index sites counts k c.in_ok-index.ensures.index c.requires.counts low
    (each k low))
    (subst (λ calls. IsLeastBeyond (length sites) (handed_in calls) c.first_beyond.result) c.history.ensures.is
    c.first_beyond.ensures)

pub returns-then-not-has_first_counts-clause-ok : goal.returns-then-not-has_first_counts-clause-ok
returns-then-not-has_first_counts-clause-ok c =
    let history = c.args.certifier.now.history in
    let rulings = c.args.certifier.now.state.rulings in
    let sites = c.args.sites.now in
    let counts = c.args.counts.now in
    let first : c.in-Ok.first ≡ 0 = c.in-Ok.ensures.1 in (
      λ settled.
          let here = subst (λ k. IsSiteSettled history rulings counts k (slice_get sites k)) first settled in
          true≢false (sym (c.has_first_counts.ensures.1 (settled_counted history rulings sites counts 0 here))
          ∙ c.if-not-has_first_counts.true),
      λ k lt. absurd (omega (arith, lt, first)),
    )

pub returns-in_err-index-clause-err : goal.returns-in_err-index-clause-err
returns-in_err-index-clause-err c =
    on-err c.from_residual.result _ (
      0,
      c.has_first_counts.ensures.0 c.if-not-has_first_counts.false,
      λ k lt. absurd (omega (arith, lt)),
    )

pub returns-in_err-unfit-clause-err : goal.returns-in_err-unfit-clause-err
returns-in_err-unfit-clause-err c =
    let history = c.args.certifier.now.history in
    let rulings = c.args.certifier.now.state.rulings in
    let at = c.in_err-unfit.ensures.err in
    on-err c.from_residual-in_err-unfit.result _ (
      at.0,
      at.2,
      λ k lt. fit_settled history rulings c.in_ok-index.index c.args.sites.now c.args.counts.now k
          c.in_ok-index.ensures.index c.requires.counts (omega (arith, lt, at.1)) (at.3 k lt),
    )
