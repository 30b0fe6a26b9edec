use Rattle.std.proofs.Common.{◌<◌, ◌++◌, map, ap, ◌∙◌, arith}
use Rattle.std.proofs.lemmas.Result.{OkIff-at_ok}
use Rattle.sgt_names.specs.Limits.{max_sites}
use Rattle.sgt_names.proofs.Lists.{element_at}
use Rattle.sgt_serial.specs.Report.{final_at, finals_at}
use Rattle.sgt_serial.proofs.Grouping.{site_more}
use Rattle.sgt_serial.proofs.finals.finals.Goals as goal

pub loop-number-preserved : goal.loop-number-preserved
loop-number-preserved c =
    let sites = c.args.sites.now in
    let n = c.loop-number.number in
    let log = c.index-sites-number.result in
    let site = OkIff-at_ok c.new.result (n < max_sites) n c.unwrap-site.result c.new.ensures c.unwrap-site.ensures in
    let at = element_at sites n log (omega arith) c.index-sites-number.is in
    site_more (λ s o. map (final_at s) (finals_at o)) sites n log at c.loop-number.finals.items
    c.add_finals.new.finals.items c.loop-number.invariant c.unwrap-site.result site.1
    (c.in_ok-add_finals.ensures
    ∙ ap (λ hs. c.loop-number.finals.items ++ map (final_at c.unwrap-site.result) hs) c.finals.ensures)
