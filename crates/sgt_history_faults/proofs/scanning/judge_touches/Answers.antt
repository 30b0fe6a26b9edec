use Rattle.std.proofs.Common.{◌≡◌, ◌<◌, ◌-◌, subst, length, arith, false, get_or, take, drop, Some}
use Rattle.std.specs.Prelude.{slice_get}
use Rattle.std.proofs.lemmas.Option.{slice_get-get_or, slice_get_within}
use Rattle.sgt_names.proofs.Places.{Contains_at}
use Rattle.sgt_history.specs.declared.history.Kind.TheVariants.{Read, Write}
use Rattle.sgt_history_faults.specs.declared.touch.Touch.{Touch}
use Rattle.sgt_history_faults.proofs.Grouping.{lines-rise, all-of-kind, alike-part, boundary-next, goes-on, faulty-writes, faulty-reads, front-covered}
use Rattle.sgt_history_faults.proofs.scanning.judge_touches.Goals as goal

pub judge_group-first-requires-clause-alike : goal.judge_group-first-requires-clause-alike
judge_group-first-requires-clause-alike c =
    let d : Touch = record {
      version = 0;
      item = 0;
      line = 0;
      place = 0;
      kind = Read;
      commits = false;
      surpassed =
          false;
    } in
    alike-part c.args.touches.now c.requires.ordered (get_or c.args.touches.now c.loop-start.start d)
    c.loop-start.start c.end_of-middle.result
    c.end_of-end.result (slice_get-get_or c.args.touches.now c.loop-start.start d c.loop-start-test.true)
    c.loop-start.invariant.boundary
    c.end_of-middle.ensures c.end_of-end.ensures c.requires.alike

pub judge_group-first-requires-clause-writes : goal.judge_group-first-requires-clause-writes
judge_group-first-requires-clause-writes c =
    let d : Touch = record {
      version = 0;
      item = 0;
      line = 0;
      place = 0;
      kind = Read;
      commits = false;
      surpassed =
          false;
    } in
    lines-rise c.args.touches.now c.requires.ordered (get_or c.args.touches.now c.loop-start.start d) Write
    c.loop-start.start
    c.end_of-middle.result c.end_of-middle.ensures

pub judge_group-first-requires-clause-reads : goal.judge_group-first-requires-clause-reads
judge_group-first-requires-clause-reads c =
    let d : Touch = record {
      version = 0;
      item = 0;
      line = 0;
      place = 0;
      kind = Read;
      commits = false;
      surpassed =
          false;
    } in
    lines-rise c.args.touches.now c.requires.ordered (get_or c.args.touches.now c.loop-start.start d) Read
    c.end_of-middle.result
    c.end_of-end.result c.end_of-end.ensures

pub judge_group-first-requires-clause-kinds : goal.judge_group-first-requires-clause-kinds
judge_group-first-requires-clause-kinds c =
    let d : Touch = record {
      version = 0;
      item = 0;
      line = 0;
      place = 0;
      kind = Read;
      commits = false;
      surpassed =
          false;
    } in
    all-of-kind c.args.touches.now c.requires.ordered (get_or c.args.touches.now c.loop-start.start d) Read
    c.end_of-middle.result
    c.end_of-end.result c.end_of-end.ensures

pub judge_group-first-requires-clause-writing : goal.judge_group-first-requires-clause-writing
judge_group-first-requires-clause-writing c =
    let d : Touch = record {
      version = 0;
      item = 0;
      line = 0;
      place = 0;
      kind = Read;
      commits = false;
      surpassed =
          false;
    } in
    all-of-kind c.args.touches.now c.requires.ordered (get_or c.args.touches.now c.loop-start.start d) Write
    c.loop-start.start
    c.end_of-middle.result c.end_of-middle.ensures

pub loop-start-smaller : goal.loop-start-smaller
loop-start-smaller c =
    let d : Touch = record {
      version = 0;
      item = 0;
      line = 0;
      place = 0;
      kind = Read;
      commits = false;
      surpassed =
          false;
    } in
    let on : c.loop-start.start < c.end_of-end.result =
    goes-on c.args.touches.now c.requires.ordered (get_or c.args.touches.now c.loop-start.start d) c.loop-start.start
    c.end_of-middle.result
    c.end_of-end.result (slice_get-get_or c.args.touches.now c.loop-start.start d c.loop-start-test.true)
    c.loop-start.invariant.boundary
    c.end_of-middle.ensures c.end_of-end.ensures in
    let within = c.end_of-end.ensures.within in
    let start = c.loop-start-test.true in
    omega (arith, on, within, start)

pub loop-start-preserved : goal.loop-start-preserved
loop-start-preserved c =
    let d : Touch = record {
      version = 0;
      item = 0;
      line = 0;
      place = 0;
      kind = Read;
      commits = false;
      surpassed =
          false;
    } in
    let like : Touch = get_or c.args.touches.now c.loop-start.start d in
    let there = slice_get-get_or c.args.touches.now c.loop-start.start d c.loop-start-test.true in
    record {
      within = c.end_of-end.ensures.within;
      boundary = boundary-next c.args.touches.now c.requires.ordered like c.loop-start.start c.end_of-middle.result
          c.end_of-end.result there
          c.loop-start.invariant.boundary c.end_of-middle.ensures c.end_of-end.ensures;
      kept = λ l r p h. c.judge_group-first.ensures.kept l r p (c.loop-start.invariant.kept l r p h);
      covered = front-covered c.args.touches.now c.requires.ordered like c.loop-start.start c.end_of-middle.result
          c.end_of-end.result there
          c.loop-start.invariant.boundary c.end_of-middle.ensures c.end_of-end.ensures c.loop-start.first
          c.judge_group-first.result
          c.loop-start.invariant.covered c.judge_group-first.ensures.kept c.judge_group-first.ensures.covered
          c.judge_group-first.ensures.covered_reads;
      real = λ h all before. c.judge_group-first.ensures.real h
          (faulty-writes c.args.touches.now c.requires.ordered like c.loop-start.start c.end_of-middle.result
          c.end_of-end.result there
          c.loop-start.invariant.boundary c.end_of-middle.ensures c.end_of-end.ensures h all)
          (faulty-reads c.args.touches.now c.requires.ordered like c.loop-start.start c.end_of-middle.result
          c.end_of-end.result there
          c.loop-start.invariant.boundary c.end_of-middle.ensures c.end_of-end.ensures h all)
          (c.loop-start.invariant.real h all before);
    }

pub returns-clause-covered : goal.returns-clause-covered
returns-clause-covered c = λ e flaw in_it has.
    let at = Contains_at c.args.touches.now e in_it in
    c.loop-start.invariant.covered at.0 e flaw (omega (arith, slice_get_within c.args.touches.now at.0 e at.1)) at.1 has
