use Rattle.sgt_service_settle.specs.private.Index.{IsLinkOf}
use Rattle.sgt_service_settle.proofs.Tying.{tie_added}
use Rattle.sgt_service_settle.proofs.ties.add_tie.Goals as goal

pub returns-in-Some : goal.returns-in-Some
returns-in-Some c =
    let index = c.args.index.now in
    let told : IsLinkOf c.as_slice.result.now c.as_slice-2.result.now c.args.one.now c.in-Some.link =
    rw c.in-Some.is at c.link_of.ensures.some in
    let is : IsLinkOf index.windows.items index.commits.items c.args.one.now c.in-Some.link =
    rw c.as_slice.ensures.value at (rw c.as_slice-2.ensures.value at told) in
    tie_added index c.args.items.now c.args.one.now c.in-Some.link _ _ c.add_link.result is c.add_link.ensures
