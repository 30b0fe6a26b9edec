use Rattle.std.proofs.Common.{ℕ, List, Contains, sym, ◌∙◌, subst}
use Rattle.std.proofs.lemmas.Bool.{true≢false}
use Rattle.std.proofs.lemmas.Result.{IfOk-weaker}
use Rattle.sgt_names.proofs.Places.{Contains-from_at}
use Rattle.sgt_names.specs.declared.entry.Entry.TheVariants.{Commit}
use Rattle.sgt_certify_stuck.proofs.StuckSets.{shown-stuck, shows-free, shows-shown, shows-stuck}
use Rattle.sgt_certify_stuck.proofs.stuck.is_stuck.Goals as goal

pub returns-then-not-are_uncommitted-clause-exact : goal.returns-then-not-are_uncommitted-clause-exact
returns-then-not-are_uncommitted-clause-exact c = (
  λ no. absurd (true≢false (sym no)),
  λ shows. absurd (true≢false (sym (c.are_uncommitted.ensures.1 (λ log here k t at inside.
      shows.others t (subst (λ (xs : List ℕ). Contains xs t) c.as_slice.ensures.value
      (c.in_ok-others.ensures.only t inside))
      (log, here, Contains-from_at log.entries k (Commit t) at))) ∙ c.if-not-are_uncommitted.true)),
)

pub returns-then-not-has_free-clause-exact : goal.returns-then-not-has_free-clause-exact
returns-then-not-has_free-clause-exact c = (
  λ no. absurd (true≢false (sym no)),
  λ shows. absurd (true≢false (sym (c.has_free.ensures.1
      (shows-free c.args.sites.now c.args.stuck.now c.in_ok-decided.decided c.in_ok-others.others
      c.in_ok-decided.ensures.has c.in_ok-decided.ensures.only
      (λ t has. c.in_ok-others.ensures.has t
      (subst (λ (xs : List ℕ). Contains xs t) (sym c.as_slice.ensures.value) has))
      (λ t has. subst (λ (xs : List ℕ). Contains xs t) c.as_slice.ensures.value (c.in_ok-others.ensures.only t has))
      shows)) ∙ c.if-not-has_free.true)),
)

pub returns-clause-exact : goal.returns-clause-exact
returns-clause-exact c =
    IfOk-weaker c.are_shown.result _ _
    (λ shown h. (
      λ yes. shows-stuck c.args.sites.now c.args.stuck.now c.in_ok-decided.decided c.in_ok-others.others
          c.in_ok-decided.ensures.has c.in_ok-decided.ensures.only
          (λ t has. c.in_ok-others.ensures.has t
          (subst (λ (xs : List ℕ). Contains xs t) (sym c.as_slice.ensures.value) has))
          (λ t has. subst (λ (xs : List ℕ). Contains xs t) c.as_slice.ensures.value (c.in_ok-others.ensures.only t has))
          (c.are_uncommitted.ensures.0 c.if-not-are_uncommitted.false) (c.has_free.ensures.0 c.if-not-has_free.false)
          (h.0 yes),
      λ shows. h.1 (shows-shown c.args.sites.now c.args.stuck.now c.in_ok-decided.decided c.in_ok-others.others
          c.in_ok-decided.ensures.has c.in_ok-decided.ensures.only
          (λ t has. c.in_ok-others.ensures.has t
          (subst (λ (xs : List ℕ). Contains xs t) (sym c.as_slice.ensures.value) has))
          (λ t has. subst (λ (xs : List ℕ). Contains xs t) c.as_slice.ensures.value
          (c.in_ok-others.ensures.only t has)) shows),
    ))
    c.are_shown.ensures

pub returns-clause-stuck : goal.returns-clause-stuck
returns-clause-stuck c =
    IfOk-weaker c.are_shown.result _ _
    (λ shown h yes. shown-stuck c.args.sites.now c.args.stuck.now
    (shows-stuck c.args.sites.now c.args.stuck.now c.in_ok-decided.decided c.in_ok-others.others
    c.in_ok-decided.ensures.has c.in_ok-decided.ensures.only
    (λ t has. c.in_ok-others.ensures.has t (subst (λ (xs : List ℕ). Contains xs t) (sym c.as_slice.ensures.value) has))
    (λ t has. subst (λ (xs : List ℕ). Contains xs t) c.as_slice.ensures.value (c.in_ok-others.ensures.only t has))
    (c.are_uncommitted.ensures.0 c.if-not-are_uncommitted.false) (c.has_free.ensures.0 c.if-not-has_free.false)
    (h.0 yes)))
    c.are_shown.ensures
