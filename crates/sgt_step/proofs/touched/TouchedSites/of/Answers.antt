use Rattle.std.proofs.Common.{◌↔◌, ℕ, List, false, subst}
use Rattle.std.specs.Prelude.{replicate}
use Rattle.sgt_names.specs.Draft.{Touches}
use Rattle.sgt_names.specs.declared.draft.Touch.{Touch}
use Rattle.sgt_step.specs.Touched.{IsIn}
use Rattle.sgt_step.proofs.Flags.{flags_whole, unset}
use Rattle.sgt_step.proofs.Listing.{sites_of}
use Rattle.sgt_step.proofs.touched.TouchedSites.of.Goals as goal

pub returns : goal.returns
returns c =
    let new = c.mark_parts.new.flags in
    sites_of new c.args.draft.now.touched c.touched.ensures.used
    (subst (λ (ts : List Touch). (s : ℕ) → IsIn new s ↔ Touches ts s) c.touched.ensures.all
    (flags_whole (replicate 64 false) c.mark_all.new.flags new c.touched.result.0.now
    c.touched.result.1.now (unset 64) c.mark_all.ensures.marks c.mark_parts.ensures))
