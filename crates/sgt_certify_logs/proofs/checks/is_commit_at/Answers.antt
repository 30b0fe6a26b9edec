use Rattle.std.proofs.Common.{◌≡◌, Some, None, sym, ◌∙◌, ap}
use Rattle.std.proofs.lemmas.Option.{same_Some}
use Rattle.sgt_names.specs.declared.entry.Entry.TheVariants.{Commit}
use Rattle.sgt_certify_logs.proofs.checks.is_commit_at.Goals as goal

pub returns-in-Some : goal.returns-in-Some
returns-in-Some c = (
  λ yes. (c.entry_at.ensures (Commit c.args.tx)).0 (c.in-Some.is ∙ ap Some (c.is_commit_of.ensures.0 yes)),
  λ stands. c.is_commit_of.ensures.1 (same_Some c.in-Some.found (Commit c.args.tx) (sym c.in-Some.is
      ∙ (c.entry_at.ensures (Commit c.args.tx)).1 stands)),
)

pub returns-in-None : goal.returns-in-None
returns-in-None c = (
  λ no. absurd cc,
  λ stands. let there = (c.entry_at.ensures (Commit c.args.tx)).1 stands in absurd (cc (there, c.in-None.is)),
)
