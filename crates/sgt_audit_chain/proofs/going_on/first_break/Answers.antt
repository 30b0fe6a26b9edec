use Rattle.std.proofs.Common.{◌≡◌, ◌+◌, ◌≤◌, length, map, take, Some, sym, ap, ◌∙◌, arith}
use Rattle.std.specs.Prelude.{slice_get}
use Rattle.std.proofs.lemmas.List.{length-map}
use Rattle.std.proofs.lemmas.Option.{slice_get_past}
use Rattle.sgt_names.proofs.Lists.{element_at, within_at}
use Rattle.sgt_audit_chain.specs.Break.{site_line}
use Rattle.sgt_audit_chain.specs.Chain.{initial_of}
use Rattle.sgt_audit_chain.specs.Sums.{in_64_bits}
use Rattle.sgt_audit_chain.proofs.GoingOn.{breaks-at, front-next, items-at, line-next, missing-at}
use Rattle.sgt_audit_chain.proofs.going_on.first_break.Goals as goal

pub returns-in-Some-first_difference-clause-some : goal.returns-in-Some-first_difference-clause-some
returns-in-Some-first_difference-clause-some c =
    let logs = c.args.logs.now in
    let left = c.args.left.now in
    let n = c.loop-site.site in
    let log = c.index-logs-site.result in
    let values = c.in-Some.values.now in
    let place = c.in-Some-first_difference.place in
    let at = element_at logs n log c.loop-site-test.true c.index-logs-site.is in
    let there = element_at left n values c.in-Some.ensures.lookup.3.0 c.in-Some.ensures.lookup.1 in
    let found = c.in-Some-first_difference.ensures.some in
    let line : c.saturating_add-in-Some-first_difference.result ≡ in_64_bits (site_line logs n + place + 1) =
    omega (
      arith,
      c.loop-site.invariant.0,
      c.saturating_add.ensures,
      c.saturating_add-in-Some-first_difference.ensures,
    ) in (
      site_line logs n + place + 1,
      record {
        site = n;
        before = c.loop-site.invariant.1;
        here = breaks-at _ _ log.items values (site_line logs n) place (items-at logs n log at) there
            (ap (take place) (sym c.items.ensures) ∙ found.0 ∙ ap (take place) c.as_slice.ensures)
            (λ same. found.1 (ap (λ xs. slice_get xs place) c.items.ensures ∙ same
            ∙ sym (ap (λ xs. slice_get xs place) c.as_slice.ensures)));
      },
      line,
    )

pub loop-site-preserved : goal.loop-site-preserved
loop-site-preserved c =
    let logs = c.args.logs.now in
    let left = c.args.left.now in
    let n = c.loop-site.site in
    let log = c.index-logs-site.result in
    let values = c.in-Some.values.now in
    let at = element_at logs n log c.loop-site-test.true c.index-logs-site.is in
    let there = element_at left n values c.in-Some.ensures.lookup.3.0 c.in-Some.ensures.lookup.1 in
    let same = sym c.items.ensures ∙ c.in_default-first_difference.ensures.none ∙ c.as_slice.ensures in
    let next = line-next logs n log at in
    let long = c.lines_of.ensures (length (take n logs)) in (
      omega (arith, next, long, c.loop-site.invariant.0, c.saturating_add-line.ensures),
      front-next (map initial_of logs) left n log.items c.loop-site.invariant.1 (items-at logs n log at) (there
          ∙ ap Some (sym same)),
    )

pub returns-then-logs-left-clause-some : goal.returns-then-logs-left-clause-some
returns-then-logs-left-clause-some c =
    let logs = c.args.logs.now in
    let left = c.args.left.now in
    let n = c.loop-site.site in
    let end : n ≡ length logs = omega arith in
    let more = within_at left n (omega (arith, end, c.if-logs-left.true)) in
    let past : length (map initial_of logs) ≤ n = omega (arith, end, length-map logs initial_of) in (
      site_line logs n,
      record {
        site = n;
        before = c.loop-site.invariant.1;
        here = missing-at _ _ more.0 (site_line logs n) (slice_get_past (map initial_of logs) n past) more.1;
      },
      c.loop-site.invariant.0,
    )
