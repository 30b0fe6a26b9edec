use Rattle.std.proofs.Common.{ℕ, List, Contains, sym, ◌∙◌, subst}
use Rattle.std.proofs.lemmas.Bool.{true≢false}
use Rattle.std.proofs.lemmas.Result.{IfOk-weaker}
use Rattle.sgt_certify_stuck.specs.Apart.{HasTx}
use Rattle.sgt_certify_stuck.proofs.Circles.{back-of-circle, circle-from, first-of-circle, onward-of-circle}
use Rattle.sgt_certify_stuck.proofs.stuck.is_circle.Goals as goal

pub returns-then-not-first : goal.returns-then-not-first
returns-then-not-first c = (
  λ no. absurd (true≢false (sym no)),
  λ circle. absurd (true≢false (sym (c.in_ok-first.ensures.1
      (first-of-circle c.args.sites.now c.args.committed.now c.args.circle.now c.in_ok-own.own c.in_ok-met.met
      c.in_ok-beyond.beyond
      c.in_ok-own.ensures.has c.in_ok-own.ensures.only
      (λ t has. c.in_ok-met.ensures.has t (subst (λ (xs : List ℕ). Contains xs t) (sym c.as_slice.ensures.value) has))
      (λ t has. subst (λ (xs : List ℕ). Contains xs t) c.as_slice.ensures.value (c.in_ok-met.ensures.only t has))
      c.in_ok-beyond.ensures.has c.in_ok-beyond.ensures.only circle)) ∙ c.if-not-first.true)),
)

pub returns-then-not-onward : goal.returns-then-not-onward
returns-then-not-onward c = (
  λ no. absurd (true≢false (sym no)),
  λ circle. absurd (true≢false (sym (c.in_ok-onward.ensures.1
      (onward-of-circle c.args.sites.now c.args.committed.now c.args.circle.now c.in_ok-own.own c.in_ok-met.met
      c.in_ok-beyond.beyond
      c.in_ok-own.ensures.has c.in_ok-own.ensures.only
      (λ t has. c.in_ok-met.ensures.has t (subst (λ (xs : List ℕ). Contains xs t) (sym c.as_slice.ensures.value) has))
      (λ t has. subst (λ (xs : List ℕ). Contains xs t) c.as_slice.ensures.value (c.in_ok-met.ensures.only t has))
      c.in_ok-beyond.ensures.has c.in_ok-beyond.ensures.only circle)) ∙ c.if-not-onward.true)),
)

pub returns : goal.returns
returns c =
    let met_has = λ (t : ℕ) (has : Contains c.args.circle.now.met.items t). c.in_ok-met.ensures.has t
    (subst (λ (xs : List ℕ). Contains xs t) (sym c.as_slice.ensures.value) has) in
    let met_only =
    λ (t : ℕ) (has : HasTx c.in_ok-met.met t). subst (λ (xs : List ℕ). Contains xs t) c.as_slice.ensures.value
    (c.in_ok-met.ensures.only t has) in
    IfOk-weaker c.are_all_apart-3.result _ _
    (λ back h. (
      λ yes. circle-from c.args.sites.now c.args.committed.now c.args.circle.now c.in_ok-own.own c.in_ok-met.met
          c.in_ok-beyond.beyond
          c.in_ok-own.ensures.has c.in_ok-own.ensures.only met_has met_only c.in_ok-beyond.ensures.has
          c.in_ok-beyond.ensures.only
          (c.in_ok-first.ensures.0 c.if-not-first.false) (c.in_ok-onward.ensures.0 c.if-not-onward.false) (h.0 yes),
      λ circle. h.1 (back-of-circle c.args.sites.now c.args.committed.now c.args.circle.now c.in_ok-own.own
          c.in_ok-met.met c.in_ok-beyond.beyond
          c.in_ok-own.ensures.has c.in_ok-own.ensures.only met_has met_only c.in_ok-beyond.ensures.has
          c.in_ok-beyond.ensures.only circle),
    ))
    c.are_all_apart-3.ensures
