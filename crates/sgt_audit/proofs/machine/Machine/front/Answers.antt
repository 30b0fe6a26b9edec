use Rattle.std.proofs.Common.{◌≡◌, ◌∙◌, ℕ, List, ap, subst, sym}
use Rattle.std.proofs.lemmas.Result.{IfOk-weaker}
use Rattle.sgt_audit.specs.declared.kept.Kept.{Kept}
use Rattle.sgt_audit.specs.declared.kept.Passed.{Passed}
use Rattle.sgt_audit.specs.declared.kept.Passed.TheVariants.{Line, Faulty, Unread}
use Rattle.sgt_audit.specs.declared.machine.Progress.{Progress}
use Rattle.sgt_audit.specs.declared.machine.Progress.TheVariants as at
use Rattle.sgt_audit.specs.Progress.{Stands}
use Rattle.sgt_audit.specs.private.NextLine.{Passes, PassesFront}
use Rattle.sgt_audit.proofs.machine.Machine.front.Goals as goal

-- a machine that reads sections takes a line as what is kept of them does
as-kept : (bytes : List ℕ) (p : Progress) (old new : Kept) (passed : Passed) → p ≡ at.Reading old
    → Passes bytes old new passed → PassesFront bytes p (at.Reading new) passed
as-kept bytes p old new (Line n) is (line, front, follows) =
    (line, front, λ s stands. follows s (subst (λ q. Stands q s) is stands))
as-kept bytes p old new (Faulty f) is (line, n, front, follows) =
    (line, n, front, λ s stands. follows s (subst (λ q. Stands q s) is stands))
as-kept bytes p old new Unread is same = ap at.Reading same ∙ sym is

pub returns-in-Reading-clause-passes : goal.returns-in-Reading-clause-passes
returns-in-Reading-clause-passes c =
    IfOk-weaker c.front.result _ _
    (λ passed. as-kept c.args.bytes.now _ c.in-Reading.kept c.front.new.self passed c.in-Reading.is)
    c.front.ensures.passes
