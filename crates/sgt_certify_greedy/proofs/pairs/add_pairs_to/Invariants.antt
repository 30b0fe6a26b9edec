use Rattle.std.proofs.Common.{◌≡◌, ◌<◌, ℕ, Some, All}
use Rattle.std.specs.Prelude.{slice_get}
use Rattle.sgt_names.specs.Entry.{tx_of}
use Rattle.sgt_names.specs.declared.entry.Entry.{Entry}
use Rattle.sgt_bundle.specs.declared.bundle.SiteLog.{SiteLog}
use Rattle.sgt_certify_greedy.specs.Pairs.{ArePaired, IsPair, Leads}
use Rattle.sgt_certify_greedy.proofs.Pairing.{Keeps}
use Rattle.sgt_certify_greedy.proofs.pairs.add_pairs_to.Given as goal

abbrev pub invariant-loop-first : goal.invariant-loop-first
invariant-loop-first l = record {
  kept : Keeps l.initial.found.items l.found.items;
  only : All (IsPair l.rule l.sites) l.initial.found.items → All (IsPair l.rule l.sites) l.found.items;
  has : (p : ℕ) → p < l.first → (log : SiteLog) (e f : Entry) → slice_get l.sites l.site ≡ Some log
      → slice_get log.entries p ≡ Some e → slice_get log.entries l.second ≡ Some f → ArePaired l.rule e f
      → Leads l.found.items (tx_of e) (tx_of f);
}
