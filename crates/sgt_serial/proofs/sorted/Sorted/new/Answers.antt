use Rattle.std.proofs.Common.{◌≡◌, ◌<◌, ◌++◌, map, ap, ◌∙◌, length, rules, arith}
use Rattle.std.specs.List.{filter, flat_map, range_with_len}
use Rattle.std.proofs.lemmas.Fn.{always_returns_same}
use Rattle.std.proofs.lemmas.List.Sorted.{IsNonDecreasingBy-from_sort}
use Rattle.std.proofs.lemmas.Result.{OkIff-at_ok}
use Rattle.sgt_names.specs.Limits.{max_sites}
use Rattle.sgt_names.specs.declared.entry.Entry.TheVariants.{Commit}
use Rattle.sgt_names.proofs.Lists.{element_at}
use Rattle.sgt_bundle.specs.Serial.{entries_of}
use Rattle.sgt_bundle.proofs.Headline.{entries_at}
use Rattle.sgt_serial.specs.private.Operations.{entry_at, owner, is_by}
use Rattle.sgt_serial.proofs.Grouping.{site_more}
use Rattle.sgt_serial.proofs.Sorting.{stable-of_number}
use Rattle.sgt_serial.proofs.sorted.Sorted.new.Goals as goal

pub loop-number-preserved : goal.loop-number-preserved
loop-number-preserved c =
    let sites = c.args.sites.now in
    let n = c.loop-number.number in
    let log = c.index-sites-number.result in
    let site = OkIff-at_ok c.new.result (n < max_sites) n c.unwrap-site.result c.new.ensures c.unwrap-site.ensures in
    let at = element_at sites n log (omega arith) c.index-sites-number.is in
    site_more (λ s o. map (entry_at s) (entries_at o)) sites n log at c.loop-number.entries.items
    c.add_site.new.entries.items c.loop-number.invariant c.unwrap-site.result site.1
    (c.in_ok-add_site.ensures
    ∙ ap (λ es. c.loop-number.entries.items ++ map (entry_at c.unwrap-site.result) es) c.entries.ensures)

pub invariant_of-result : goal.invariant_of-result
invariant_of-result c =
    IsNonDecreasingBy-from_sort owner c.sort_by_key.new.self.items
    (c.in_ok-sort_by_key.ensures.sorted owner
    (always_returns_same _ _ _ (λ a r g called. (search rules, search rules))))

pub returns : goal.returns
returns c tx =
    let sites = c.args.sites.now in
    let all : c.loop-number.number ≡ length sites = omega arith in
    let stable =
    c.sort_by_key.ensures.stable owner (always_returns_same _ _ _ (λ a r g called. (search rules, search rules))) in
    stable-of_number owner c.loop-number.entries.items c.sort_by_key.new.self.items stable (entry_at 0 (Commit tx))
    ∙ ap (filter (is_by tx)) (c.loop-number.invariant
    ∙ ap (λ n. flat_map (λ s. map (entry_at s) (entries_of sites s)) (range_with_len 0 n)) all)
