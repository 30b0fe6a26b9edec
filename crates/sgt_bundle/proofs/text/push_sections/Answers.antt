use Rattle.std.proofs.Common.{arith}
use Rattle.std.proofs.lemmas.Grind.{common_steps}
use Rattle.sgt_bundle.specs.Text.{IsLog}
use Rattle.sgt_names.proofs.Lists.{All-next, All-whole, element_at}
use Rattle.sgt_bundle.proofs.text.push_sections.Goals as goal

pub loop-k-preserved : goal.loop-k-preserved
loop-k-preserved c =
    let xs = c.args.sites.now in
    let log = c.index-sites-k.result in (
      grind (arith, common_steps),
      All-next IsLog xs c.loop-k.k log (element_at xs c.loop-k.k log (omega arith) c.index-sites-k.is)
          c.in_ok-push_log.ensures.in_range c.loop-k.invariant.1,
    )

pub returns-clause-in_range : goal.returns-clause-in_range
returns-clause-in_range c = All-whole IsLog c.args.sites.now c.loop-k.k (omega arith) c.loop-k.invariant.1
