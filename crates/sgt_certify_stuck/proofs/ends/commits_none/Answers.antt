use Rattle.std.proofs.Common.{sym, ◌∙◌}
use Rattle.std.proofs.lemmas.Bool.{true≢false}
use Rattle.sgt_certify_stuck.proofs.ends.commits_none.Goals as goal

pub returns-then-contains : goal.returns-then-contains
returns-then-contains c = (
  λ no. absurd (true≢false (sym no)),
  λ none. absurd (none c.in-Commit.tx c.in-Commit.is (sym c.contains.ensures ∙ c.if-contains.true)),
)
