use Rattle.std.proofs.Common.{sym, ◌∙◌}
use Rattle.sgt_certifier_tests.proofs.Unread.{unread}
use Rattle.sgt_certifier_tests.proofs.random_drafts.read.Goals as goal

pub seen-requires : goal.seen-requires
seen-requires c = unread c.args.draft.now.touched (c.args.here, c.args.item) (sym c.look.ensures ∙ c.in-None.is)
