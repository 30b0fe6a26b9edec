use Rattle.std.proofs.Common.{length, ◌≡◌, ◌∙◌}
use Rattle.sgt_history.proofs.Cutting.{cut-append_last, end_of-append, drop_all}
use Rattle.sgt_history.proofs.history.History.close.Goals as goal

pub returns-clause-closed : goal.returns-clause-closed
returns-clause-closed c =
    let e : c.len-end.result ≡ length c.args.self.now.operations.items = c.len-end.ensures
    ∙ c.args.self.now.operations.ok.0 in
    rw c.in_ok-push.ensures.items
    (cut-append_last 0 c.args.self.now.lines.items _ c.args.self.now.operations.items e)

pub returns-clause-open : goal.returns-clause-open
returns-clause-open c =
    let e : c.len-end.result ≡ length c.args.self.now.operations.items = c.len-end.ensures
    ∙ c.args.self.now.operations.ok.0 in
    rw (c.in_ok-push.ensures.items, end_of-append 0 c.args.self.now.lines.items _) (drop_all _ _ e)
