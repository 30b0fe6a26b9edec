-- What a site keeps when it logs the block of a refused transaction.
use Rattle.std.proofs.Common.{◌≡◌, ℕ, List, [], ◌∷◌, ◌++◌, length, Option, Some, None, refl, sym, ap, ◌∙◌, subst, Contains}
use Rattle.std.specs.Prelude.{slice_get}
use Rattle.std.specs.List.{filter_map, cons_option}
use Rattle.sgt_names.specs.Name.{Name}
use Rattle.sgt_names.specs.Draft.{writing_in}
use Rattle.sgt_names.specs.Entry.{tx_of, change_of}
use Rattle.sgt_names.specs.declared.entry.Change.{Change}
use Rattle.sgt_names.specs.declared.entry.Change.TheVariants.{Put, Add}
use Rattle.sgt_names.specs.declared.entry.Entry.{Entry}
use Rattle.sgt_names.specs.declared.entry.Entry.TheVariants.{Refuse}
use Rattle.sgt_names.proofs.Places.{Contains-from_at}
use Rattle.sgt_names.proofs.Rising.{writings-rise}
use Rattle.sgt_site.specs.State.{SiteState, Pledge, IsCovered, IsWant, committed_in, want_entry, refuse_block}
use Rattle.sgt_site.specs.private.Cells.{Contents}
use Rattle.sgt_site.specs.private.Kept.{Spare, IsKept}
use Rattle.sgt_site.proofs.Keeps.{Ends, ended-one, IsQuiet, site-quiet, cells-quiet}
use Rattle.sgt_site.proofs.Blocks.{refusals-blocks, block_tx, at_end, block_ends, block_alone, block_orderly, block_follows, no_reads}

-- what is chosen of neither a want nor a refusal is not in the block
none_chosen : {B : Type 0} (f : Entry → Option B) (tx : ℕ) → ((x : Name) (c : Change) → f (want_entry tx x c) ≡ None)
    → f (Refuse tx) ≡ None → (cs : List (Name × Change)) → filter_map f (refuse_block tx cs) ≡ []
none_chosen f tx wants refuses [] = ap (λ o. cons_option o []) refuses
none_chosen f tx wants refuses (c ∷ cs) = ap (λ o. cons_option o (filter_map f (refuse_block tx cs))) (wants c.0 c.1)
    ∙ none_chosen f tx wants refuses cs

-- a want changes nothing and commits nothing
no_change : (x : Name) (tx : ℕ) (y : Name) (c : Change) → change_of x (want_entry tx y c) ≡ None
no_change x tx y (Put v) = refl
no_change x tx y (Add v) = refl

no_commit : (tx : ℕ) (y : Name) (c : Change) → committed_in (want_entry tx y c) ≡ None
no_commit tx y (Put v) = refl
no_commit tx y (Add v) = refl

module _ (s : SiteState) (p : Pledge) (covered : IsCovered s p) where
  abbrev cs : List (Name × Change)
  cs = writing_in p.part

  refused : (m : ℕ) (e : Entry) → slice_get (refuse_block p.tx cs) m ≡ Some e → IsWant e
      → Contains (refuse_block p.tx cs) (Refuse (tx_of e))
  refused m e at want =
      subst (λ t. Contains (refuse_block p.tx cs) (Refuse t))
      (sym (block_tx want_entry Refuse refusals-blocks p.tx cs m e at))
      (Contains-from_at (refuse_block p.tx cs) (length cs) (Refuse p.tx)
      (at_end want_entry Refuse refusals-blocks p.tx cs))

  pub kept-refuse : (cells : List Contents) (ended ends : List ℕ) (spare more : Spare) → IsKept s cells ended spare
      → Ends ended ends p.tx
      → IsKept (record s { entries = s.entries ++ refuse_block p.tx cs; pledge = None }) cells ends more
  kept-refuse cells ended ends spare more kept ending =
      let quiet : IsQuiet (refuse_block p.tx cs) p.tx = record {
        values = λ x. none_chosen (change_of x) p.tx (no_change x p.tx) refl cs;
        commits = none_chosen committed_in p.tx (no_commit p.tx) refl cs;
        reads = λ m t x v at. absurd (no_reads want_entry Refuse refusals-blocks p.tx cs m t x v at);
      } in
      record {
        site = site-quiet s (refuse_block p.tx cs) p.tx kept.site covered.active quiet None
            (block_orderly want_entry Refuse refusals-blocks p.tx cs s.items
            (writings-rise s.number p.part covered.here covered.rising) covered.known)
            (block_follows want_entry Refuse refusals-blocks p.tx cs s kept.site covered.active)
            (λ m t x v at. absurd (no_reads want_entry Refuse refusals-blocks p.tx cs m t x v at))
            refused
            (λ q is. absurd cc);
        names_same = kept.names_same;
        each = cells-quiet s (refuse_block p.tx cs) p.tx kept.site covered.active quiet
            (no_reads want_entry Refuse refusals-blocks p.tx cs) cells kept.each;
        ends_rise = ending.rising;
        ends = ended-one s.entries (refuse_block p.tx cs) p.tx ended ends kept.ends ending
            (block_ends want_entry Refuse refusals-blocks p.tx cs)
            (block_alone want_entry Refuse refusals-blocks p.tx cs);
        room = λ q is. absurd cc;
      }
