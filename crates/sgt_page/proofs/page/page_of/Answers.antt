use Rattle.sgt_page.specs.Page.{fixed, shown_of}
use Rattle.sgt_page.proofs.Joined.{joined}
use Rattle.sgt_page.proofs.page.page_of.Goals as goal

pub returns : goal.returns
returns c =
    joined fixed (shown_of c.args.page) _ _ _ _ _ c.new-out.ensures.items c.in_ok-push_head.ensures
    c.in_ok-push_top.ensures c.in_ok-push_shown.ensures c.in_ok-push_markup.ensures
