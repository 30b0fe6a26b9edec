use Rattle.std.proofs.Common.{ℕ, Contains, refl}
use Rattle.std.proofs.lemmas.Result.{IfOk-weaker}
use Rattle.sgt_certify_stuck.specs.Apart.{HasTx}
use Rattle.sgt_certify.proofs.NextEnds.{lines-as}
use Rattle.sgt_names.proofs.Elements.{none-weaker, some-weaker}
use Rattle.sgt_certify.proofs.left.left_lines.Goals as goal

pub returns-clause-some : goal.returns-clause-some
returns-clause-some c =
    let sites = c.args.sites.now in
    IfOk-weaker c.left_from.result _ _
    (λ text h. some-weaker text _ _ (λ t is. lines-as sites (HasTx c.in_ok-set.set) (Contains c.args.decided.now)
    c.in_ok-set.ensures.only c.in_ok-set.ensures.has 0 sites t.items is) h)
    c.left_from.ensures.some

pub returns-clause-none : goal.returns-clause-none
returns-clause-none c =
    IfOk-weaker c.left_from.result _ _ (λ text h. none-weaker text _ _ (λ never are. never are refl) h)
    c.left_from.ensures.none
