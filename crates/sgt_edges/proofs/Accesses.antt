-- What is so of an item's listed readers is so of those that the site has.
use Rattle.std.proofs.Common.{◌≡◌, ℕ, ◌<◌, ◌≤◌, ◌⊎◌, List, inl, inr, Contains}
use Rattle.sgt_names.specs.Name.{Name}
use Rattle.sgt_site.specs.State.{SiteState}
use Rattle.sgt_site.specs.declared.cell.Reader.{Reader}
use Rattle.sgt_site.specs.declared.cell.Writer.{Writer}
use Rattle.sgt_edges.specs.Edges.{HasReader}
use Rattle.sgt_edges.specs.Neighbours.{IsUnread}
use Rattle.sgt_edges.specs.private.Gathered.{AreAccesses}

module _ (s : SiteState) (x : Name) (us : List Writer) (rs : List Reader) (are : AreAccesses s x us rs) where
  -- a version that was read, or this number
  pub read-there : (n m : ℕ) → (n ≡ m) ⊎ ((r : Reader) × Contains rs r × (r.version ≡ n))
      → (n ≡ m) ⊎ ((r : Reader) × HasReader s x r × (r.version ≡ n))
  read-there n m (inl is) = inl is
  read-there n m (inr r) = inr (r.0, (are.read r.0).0 r.1, r.2)

  -- versions that nobody read
  pub unread-there : (n m : ℕ) → ((r : Reader) → Contains rs r → n ≤ r.version → r.version < m → ⊥)
      → IsUnread s x n m
  unread-there n m none r is = none r ((are.read r).1 is)
