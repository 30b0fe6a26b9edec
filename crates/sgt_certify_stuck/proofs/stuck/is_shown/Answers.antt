use Rattle.std.proofs.Common.{ℕ, List, refl, sym, ◌∙◌, subst}
use Rattle.std.proofs.lemmas.Bool.{true≢false}
use Rattle.std.proofs.lemmas.Result.{IfOk-weaker}
use Rattle.sgt_certify_stuck.specs.Circles.{HasCircle}
use Rattle.sgt_certify_stuck.specs.declared.stuck.Circle.{Circle}
use Rattle.sgt_certify_stuck.proofs.stuck.is_shown.Goals as goal

pub returns-then-waits : goal.returns-then-waits
returns-then-waits c =
    let before = c.waits.ensures.yes c.if-waits.true in
    (λ _ next. absurd (true≢false (sym (next before.0 before.1) ∙ before.2)), λ _. refl)

pub returns-then-not-is_refused : goal.returns-then-not-is_refused
returns-then-not-is_refused c = (
  λ no. absurd (true≢false (sym no)),
  λ shown. absurd (true≢false (sym (c.is_refused.ensures.1 (shown (c.waits.ensures.no c.if-waits.false)).0)
      ∙ c.if-not-is_refused.true)),
)

pub returns : goal.returns
returns c =
    IfOk-weaker c.has_circle.result _ _
    (λ has h. (
      λ yes next. (
        c.is_refused.ensures.0 c.if-not-is_refused.false,
        subst (λ (xs : List ℕ). HasCircle c.args.sites.now xs c.args.stuck.now.circles.items c.args.tx)
            c.as_slice-committed.ensures.value
            (subst (λ (cs : List Circle). HasCircle c.args.sites.now c.as_slice-committed.result.now cs c.args.tx)
            c.as_slice-circles.ensures.value (h.0 yes)),
      ),
      λ shown. h.1 (subst (λ (xs : List ℕ). HasCircle c.args.sites.now xs c.as_slice-circles.result.now c.args.tx)
          (sym c.as_slice-committed.ensures.value)
          (subst (λ (cs : List Circle). HasCircle c.args.sites.now c.args.stuck.now.committed.items cs c.args.tx)
          (sym c.as_slice-circles.ensures.value)
          (shown (c.waits.ensures.no c.if-waits.false)).1)),
    ))
    c.has_circle.ensures
