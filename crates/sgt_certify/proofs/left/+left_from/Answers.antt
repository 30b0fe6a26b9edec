use Rattle.std.proofs.Common.{◌≡◌, ℕ, sym, ◌∙◌, subst}
use Rattle.std.specs.Prelude.{drop}
use Rattle.sgt_certify.proofs.NextEnds.{none-of}
use Rattle.sgt_certify.proofs.Numbered.{drop-first}
use Rattle.sgt_certify.proofs.left.+left_from.Goals as goal

pub returns-in_default-2-clause-none : goal.returns-in_default-2-clause-none
returns-in_default-2-clause-none t c are from =
    none-of _ _ c.in_default-2.not-Some c.in_ok-out.ensures.none are
    (drop-first c.args.site c.args.sites.now c.in-Some.log.now c.in-Some.rest.now (from ∙ c.in-Some.ensures.cases.0)).0

pub returns-in_default-3-clause-none : goal.returns-in_default-3-clause-none
returns-in_default-3-clause-none t c are from =
    none-of _ _ c.in_default-3.not-Some c.in_ok-behind.ensures.none are
    (subst (λ (n : ℕ). drop n c.args.sites.now ≡ c.in-Some.rest.now) (sym c.in-Some-checked_add.ensures.1)
    (drop-first c.args.site c.args.sites.now c.in-Some.log.now c.in-Some.rest.now (from ∙ c.in-Some.ensures.cases.0)).1)
