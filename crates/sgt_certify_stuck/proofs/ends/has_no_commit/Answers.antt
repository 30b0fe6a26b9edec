use Rattle.std.proofs.Common.{◌≡◌, ℕ, refl, sym, ◌∙◌, arith}
use Rattle.std.proofs.lemmas.Bool.{true≢false}
use Rattle.std.proofs.lemmas.Option.{slice_get_within}
use Rattle.sgt_names.proofs.Lists.{element_at}
use Rattle.sgt_names.specs.declared.entry.Entry.{Entry}
use Rattle.sgt_names.specs.declared.entry.Entry.TheVariants.{Commit}
use Rattle.std.proofs.Common.{Some, subst}
use Rattle.std.specs.Prelude.{slice_get}
use Rattle.sgt_certify_stuck.specs.Apart.{HasTx}
use Rattle.sgt_certify_stuck.proofs.Elements.{at_more}
use Rattle.sgt_certify_stuck.proofs.ends.has_no_commit.Goals as goal

pub returns-then-not-commits_none : goal.returns-then-not-commits_none
returns-then-not-commits_none c =
    let at = element_at c.args.entries.now c.loop-entry.entry-index c.entry-item.result c.loop-entry-test.true
    c.entry-item.is in (
      λ no. absurd (true≢false (sym no)),
      λ none. absurd (true≢false (sym (c.commits_none.ensures.1
          (λ t is inside. none c.loop-entry.entry-index t
          (subst (λ (e : Entry). slice_get c.args.entries.now c.loop-entry.entry-index ≡ Some e) is at) inside))
          ∙ c.if-not-commits_none.true)),
    )

pub loop-entry-preserved : goal.loop-entry-preserved
loop-entry-preserved c =
    at_more (λ (e : Entry). (t : ℕ) → e ≡ Commit t → HasTx c.args.others.now t
    → ⊥) c.args.entries.now c.loop-entry.entry-index c.entry-item.result
    (element_at c.args.entries.now c.loop-entry.entry-index c.entry-item.result c.loop-entry-test.true c.entry-item.is)
    (c.commits_none.ensures.0 c.if-not-commits_none.false) c.loop-entry.invariant

pub returns : goal.returns
returns c = (
  λ _ k t at inside.
      let within = slice_get_within c.args.entries.now k (Commit t) at in
      c.loop-entry.invariant k (Commit t) (omega (arith, within, c.loop-entry-test.false)) at t refl inside,
  λ _. refl,
)
