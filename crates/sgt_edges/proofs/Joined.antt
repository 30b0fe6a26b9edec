-- Each edge joins the transaction and a committed one.
use Rattle.std.proofs.Common.{◌≡◌, ◌≢◌, ℕ, List, Some, refl, inl, inr}
use Rattle.sgt_names.specs.Name.{Name}
use Rattle.sgt_names.specs.declared.draft.Touch.{Touch}
use Rattle.sgt_names.specs.declared.entry.Kind.{Kind}
use Rattle.sgt_arena.specs.declared.handle.Handle.{Handle}
use Rattle.sgt_site.specs.State.{SiteState, handle_of, writer}
use Rattle.sgt_site.specs.declared.cell.Writer.{Writer}
use Rattle.sgt_site.proofs.Appends.{chosen_at}
use Rattle.sgt_site.proofs.Projections.{writer_is}
use Rattle.sgt_edges.specs.Edges.{IsWriter, IsEdge, Precedes, wrote_before, wrote_after, wrote_too, read_it, JoinsCommitted}

module _ (s : SiteState) (touched : List Touch) (me : Handle) where
  -- a writer has the handle that was given for it
  given : (x : Name) (k : ℕ) (w : Writer) → IsWriter s x k w → handle_of s.installed w.tx ≡ Some w.handle
  given x k w is = let c = chosen_at (writer s.installed x) s.entries k w is in
      (writer_is s.installed x c.1 w c.3).given

  by_case : (x : Name) (from to : Handle) (kind : Kind) → from ≢ to → Precedes s touched me x from to kind
      → JoinsCommitted s me from to
  by_case x from to kind apart (wrote_before n k w saw less is) =
      record { other = w.tx; handle = w.handle; given = given x k w is; ends = inl (refl, refl); apart = apart }
  by_case x from to kind apart (wrote_after n k w saw more is) =
      record { other = w.tx; handle = w.handle; given = given x k w is; ends = inr (refl, refl); apart = apart }
  by_case x from to kind apart (wrote_too c k w asks is far) =
      record { other = w.tx; handle = w.handle; given = given x k w is; ends = inl (refl, refl); apart = apart }
  by_case x from to kind apart (read_it c r asks is) = record {
    other = r.tx;
    handle = r.handle;
    given = is.0;
    ends =
        inl (refl, refl);
    apart = apart;
  }

  pub joins : (x : Name) (from to : Handle) (kind : Kind) → IsEdge s touched me x from to kind
      → JoinsCommitted s me from to
  joins x from to kind is = by_case x from to kind is.0 is.1
