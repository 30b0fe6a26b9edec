use Rattle.std.proofs.Common.{◌≡◌, List, take, length}
use Rattle.sgt_names.specs.declared.entry.Entry.{Entry as AnEntry}
use Rattle.sgt_service_settle.specs.private.Acts.{AreKnown, AreActs}
use Rattle.sgt_service_settle.specs.private.Sites.{AreLogged}
use Rattle.sgt_service_settle.proofs.sites.are_logged.Given as goal

abbrev pub invariant-loop-one : goal.invariant-loop-one
invariant-loop-one l = record {
  near : length l.near.rows.items ≡ length l.items;
  logged : (log : List AnEntry) → AreKnown l.items log → AreActs l.items log l.acts
      → AreLogged l.windows (take l.one-index l.edges) log;
}
