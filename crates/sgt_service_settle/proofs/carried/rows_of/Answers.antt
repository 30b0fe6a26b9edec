use Rattle.std.proofs.Common.{◌≡◌, Some, subst, arith}
use Rattle.std.specs.Prelude.{slice_get}
use Rattle.sgt_service_settle.specs.Told.{handed_in}
use Rattle.sgt_service_settle.specs.private.Search.{LinksBy}
use Rattle.sgt_service_settle.specs.private.Index.{LinkedBy}
use Rattle.sgt_service_settle.proofs.Linking.{are_ends, links_indexed, hold_same}
use Rattle.sgt_service_settle.proofs.carried.rows_of.Goals as goal

pub leaving-requires : goal.leaving-requires
leaving-requires c n l at =
    let index = c.args.index.now in
    let low = are_ends index.windows.items index.commits.items (handed_in index.history.now) c.in_ok-links.links.items
    c.in_ok-links.ensures n l (subst (λ xs. slice_get xs n ≡ Some l) c.as_slice.ensures.value at) in (
      omega (arith, low.0, c.len-all.ensures, index.commits.ok.0),
      omega (arith, low.1, c.len-all.ensures, index.commits.ok.0),
    )

pub entering-requires : goal.entering-requires
entering-requires c n l at =
    let index = c.args.index.now in
    let low = are_ends index.windows.items index.commits.items (handed_in index.history.now) c.in_ok-links.links.items
    c.in_ok-links.ensures n l (subst (λ xs. slice_get xs n ≡ Some l) c.as_slice-2.ensures.value at) in (
      omega (arith, low.0, c.len-all.ensures, index.commits.ok.0),
      omega (arith, low.1, c.len-all.ensures, index.commits.ok.0),
    )

pub returns : goal.returns
returns c =
    let index = c.args.index.now in
    let links = c.in_ok-links.links.items in
    let same = links_indexed index links c.in_ok-links.ensures in
    record {
      out_long = omega (arith, c.in_ok-out.ensures.long, c.len-all.ensures, index.commits.ok.0);
      back_long = omega (arith, c.in_ok-back.ensures.long, c.len-all.ensures, index.commits.ok.0);
      out = hold_same c.in_ok-out.out.items (LinksBy links) (LinkedBy index) same
          (rw c.as_slice.ensures.value at c.in_ok-out.ensures.hold);
      back = hold_same c.in_ok-back.back.items (λ cut a b. LinksBy links cut b a) (λ cut a b. LinkedBy index cut b a)
          (λ cut a b. same cut b a) (rw c.as_slice-2.ensures.value at c.in_ok-back.ensures.hold);
    }
