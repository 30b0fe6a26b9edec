use Rattle.std.proofs.Common.{List, length, refl, subst}
use Rattle.std.proofs.lemmas.Result.{IfOk-weaker}
use Rattle.sgt_names.specs.declared.entry.Entry.{Entry}
use Rattle.sgt_certify_stuck.specs.Ends.{AllDecided, IsFirstLeft}
use Rattle.sgt_certify_stuck.specs.private.Ends.{IsShown}
use Rattle.sgt_certify_stuck.proofs.StuckSets.{none-left, one-left}
use Rattle.sgt_certify_stuck.proofs.stuck.is_log_shown.Goals as goal

pub returns-in-Some : goal.returns-in-Some
returns-in-Some c =
    let first = subst (λ (es : List Entry). IsFirstLeft es c.args.decided.now c.in-Some.left.0 c.in-Some.left.1)
    c.as_slice.ensures (rw c.in-Some.is at c.first_left.ensures.some) in
    IfOk-weaker c.is_shown.result _ _
    (λ shown h. (
      λ yes k tx left. subst (IsShown c.args.sites.now c.args.stuck.now c.args.decided.now)
          (one-left c.args.log.now.entries c.args.decided.now c.in-Some.left.0 c.in-Some.left.1 k tx first left)
          (h.0 yes),
      λ all. h.1 (all c.in-Some.left.0 c.in-Some.left.1 first),
    ))
    c.is_shown.ensures

pub returns-in-None : goal.returns-in-None
returns-in-None c = (
  λ _ k tx left. absurd (none-left c.args.log.now.entries c.args.decided.now k tx
      (subst (λ (es : List Entry). AllDecided es c.args.decided.now (length es)) c.as_slice.ensures
      c.in-None.ensures.none) left),
  λ _. refl,
)
