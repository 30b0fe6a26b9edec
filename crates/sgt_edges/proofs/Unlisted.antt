-- An item that isn't at the site has no writers and no readers.
use Rattle.std.proofs.Common.{◌≡◌, ℕ, [], length, Some, refl, sym, ap, ◌∙◌, inl, inr, Contains}
use Rattle.std.specs.Prelude.{slice_get}
use Rattle.std.specs.Option.{ForSome}
use Rattle.sgt_names.specs.Name.{Name}
use Rattle.sgt_names.specs.Entry.{item_of, change_of}
use Rattle.sgt_names.specs.Log.{names}
use Rattle.sgt_names.specs.declared.entry.Entry.{Entry}
use Rattle.sgt_names.specs.declared.entry.Entry.TheVariants.{Read}
use Rattle.sgt_names.proofs.Lists.{option_cases, filter_map-none}
use Rattle.sgt_names.proofs.Places.{All_at}
use Rattle.sgt_site.specs.declared.cell.Reader.{Reader}
use Rattle.sgt_site.specs.State.{SiteState, IsSite, IsReader, version_at, writer, writers_of}
use Rattle.sgt_site.proofs.Entries.{change-item}
use Rattle.sgt_site.proofs.Projections.{length-writers, all_given}

module _ (s : SiteState) (site : IsSite s) where
  -- the versions count the writers
  pub versions : (x : Name) → length (writers_of s.installed s.entries x) ≡ version_at s.entries x
  versions x = length-writers s.installed s.entries x (all_given s site)

  known : (n : ℕ) (e : Entry) (x : Name) → slice_get s.entries n ≡ Some e → item_of e ≡ Some x
      → Contains (names s.items) x
  known n e x at of = All_at (λ e. ForSome (item_of e) (Contains (names s.items))) s.entries n e site.orderly.known at
      x of

  module _ (x : Name) (absent : Contains (names s.items) x → ⊥) where
    pub no_writers : writers_of s.installed s.entries x ≡ []
    no_writers = filter_map-none (writer s.installed x) s.entries (λ n e at. elim (option_cases (change_of x e)) [
      | inl none ↦ rw none refl
      | inr some ↦ absurd (absent (known n e x at (change-item x e some.0 some.1)))
    ])

    pub no_versions : 0 ≡ version_at s.entries x
    no_versions = ap length (sym no_writers) ∙ versions x

    pub no_readers : (r : Reader) → IsReader s.installed s.entries x r → ⊥
    no_readers r is = absent (known is.1.1.place (Read r.tx x is.1.0) x is.1.1.at refl)
