use Rattle.std.proofs.Common.{◌≡◌, ℕ, Some, refl, sym, ◌∙◌, subst, arith}
use Rattle.std.specs.Prelude.{slice_get}
use Rattle.std.proofs.lemmas.Bool.{true≢false}
use Rattle.std.proofs.lemmas.Option.{slice_get_within}
use Rattle.sgt_names.proofs.Lists.{element_at}
use Rattle.sgt_names.specs.declared.entry.Entry.{Entry}
use Rattle.sgt_names.specs.declared.entry.Entry.TheVariants.{Commit}
use Rattle.sgt_certify_stuck.specs.Onward.{StandsAt}
use Rattle.sgt_certify_stuck.proofs.Elements.{at_more}
use Rattle.sgt_certify_stuck.proofs.onward.log_commits_stand.Goals as goal

pub returns-then-not-commit_stands : goal.returns-then-not-commit_stands
returns-then-not-commit_stands c =
    let at = element_at c.args.entries.now c.loop-entry.entry-index c.entry-item.result c.loop-entry-test.true
    c.entry-item.is in (
      λ no. absurd (true≢false (sym no)),
      λ all. absurd (true≢false (sym (c.commit_stands.ensures.1
          (λ t is. all c.loop-entry.entry-index t
          (subst (λ (e : Entry). slice_get c.args.entries.now c.loop-entry.entry-index ≡ Some e) is at)))
          ∙ c.if-not-commit_stands.true)),
    )

pub loop-entry-preserved : goal.loop-entry-preserved
loop-entry-preserved c =
    at_more (λ (e : Entry). (t : ℕ) → e ≡ Commit t
    → (place : ℕ) × StandsAt c.args.places.now t place) c.args.entries.now c.loop-entry.entry-index
    c.entry-item.result
    (element_at c.args.entries.now c.loop-entry.entry-index c.entry-item.result c.loop-entry-test.true c.entry-item.is)
    (c.commit_stands.ensures.0 c.if-not-commit_stands.false) c.loop-entry.invariant

pub returns : goal.returns
returns c = (
  λ _ k t at.
      let within = slice_get_within c.args.entries.now k (Commit t) at in
      c.loop-entry.invariant k (Commit t) (omega (arith, within, c.loop-entry-test.false)) at t refl,
  λ _. refl,
)
