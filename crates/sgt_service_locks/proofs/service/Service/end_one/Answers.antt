use Rattle.std.proofs.Common.{◌∙◌, sym, subst, arith, ◌+◌}
use Rattle.sgt_names.specs.Draft.{at_site}
use Rattle.sgt_service_locks.specs.Counts.{AreCounted, only_at, with_others}
use Rattle.sgt_service_locks.proofs.Counting.{gains_zero, block_none, block_empty, block_here}
use Rattle.sgt_service_locks.specs.Pledges.{HasLostPledge}
use Rattle.sgt_service_locks.proofs.Decisions.{later}
use Rattle.sgt_service_locks.proofs.Losing.{lost_pledge}
use Rattle.sgt_service_locks.proofs.Noting.{notes_untouched, noted}
use Rattle.sgt_service_locks.proofs.service.Service.end_one.Goals as goal

pub returns-then-not-contains-clause-awaits : goal.returns-then-not-contains-clause-awaits
returns-then-not-contains-clause-awaits g c _ verdict =
    later c.args.guarded.now.certifier c.args.active.now.tx c.args.active.now.draft.touched c.args.here
    (c.args.here + 1) (omega arith) (c.requires.awaits verdict)

pub returns-then-not-contains-clause-counted : goal.returns-then-not-contains-clause-counted
returns-then-not-contains-clause-counted g c _ =
    let none = c.requires.sites.none c.args.here (sym c.contains.ensures ∙ c.if-not-contains.true) in
    gains_zero c.args.seat.now.counts.items c.args.here _
    (block_none c.args.verdict (at_site c.args.here c.args.active.now.draft.touched) none)

pub returns-then-not-contains-clause-history : goal.returns-then-not-contains-clause-history
returns-then-not-contains-clause-history g c _ =
    let none = c.requires.sites.none c.args.here (sym c.contains.ensures ∙ c.if-not-contains.true) in
    notes_untouched c.args.verdict c.args.active.now c.args.here c.args.guarded.now.certifier.history
    (block_none c.args.verdict (at_site c.args.here c.args.active.now.draft.touched) none)

pub returns-then-entries-eq0-clause-awaits : goal.returns-then-entries-eq0-clause-awaits
returns-then-entries-eq0-clause-awaits g c _ verdict =
    later c.args.guarded.now.certifier c.args.active.now.tx c.args.active.now.draft.touched c.args.here
    (c.args.here + 1) (omega arith) (c.requires.awaits verdict)

pub returns-then-entries-eq0-clause-counted : goal.returns-then-entries-eq0-clause-counted
returns-then-entries-eq0-clause-counted g c _ =
    let is = block_here c.args.verdict c.args.here c.args.active.now.draft.touched _ _ c.block_at-entries.ensures
    c.at.ensures.part in
    gains_zero c.args.seat.now.counts.items c.args.here _ (sym is ∙ c.if-entries-eq0.true)

pub returns-clause-counted : goal.returns-clause-counted
returns-clause-counted g c _ =
    let is = block_here c.args.verdict c.args.here c.args.active.now.draft.touched _ _ c.block_at-entries.ensures
    c.at.ensures.part in
    subst (λ n. AreCounted (only_at c.args.here (with_others n)) c.args.seat.now.counts.items
    c.count_others.new.self.counts.items) is c.count_others.ensures.counts

pub returns-then-entries-eq0-clause-history : goal.returns-then-entries-eq0-clause-history
returns-then-entries-eq0-clause-history g c _ =
    let is = block_here c.args.verdict c.args.here c.args.active.now.draft.touched _ _ c.block_at-entries.ensures
    c.at.ensures.part in
    notes_untouched c.args.verdict c.args.active.now c.args.here c.args.guarded.now.certifier.history (sym is
    ∙ c.if-entries-eq0.true)

pub returns-clause-history : goal.returns-clause-history
returns-clause-history g c _ =
    let is = block_here c.args.verdict c.args.here c.args.active.now.draft.touched _ _ c.block_at-entries.ensures
    c.at.ensures.part in
    let ended = c.end.ensures in
    noted c.args.verdict c.args.active.now c.args.here c.args.guarded.now.certifier c.end.new.self.certifier
    (λ none. c.if-entries-eq0.false (is ∙ none))
    (ended.noted c.if-not-end.false)
    ended.quiet

pub returns-then-not-end-clause-touched : goal.returns-then-not-end-clause-touched
returns-then-not-end-clause-touched g c _ none =
    let is = block_here c.args.verdict c.args.here c.args.active.now.draft.touched _ _ c.block_at-entries.ensures
    c.at.ensures.part in
    c.if-entries-eq0.false (is ∙ block_none c.args.verdict (at_site c.args.here c.args.active.now.draft.touched) none)

pub pass-requires-then-entries-eq0-clause-untouched : goal.pass-requires-then-entries-eq0-clause-untouched
pass-requires-then-entries-eq0-clause-untouched g c =
    let is = block_here c.args.verdict c.args.here c.args.active.now.draft.touched _ _ c.block_at-entries.ensures
    c.at.ensures.part in
    block_empty c.args.verdict (at_site c.args.here c.args.active.now.draft.touched) (sym is ∙ c.if-entries-eq0.true)

pub stop-requires-clause-lost : goal.stop-requires-clause-lost
stop-requires-clause-lost g c =
    let e = c.end.ensures in
    let none = c.if-not-end.true in
    subst (HasLostPledge c.args.verdict c.args.active.now c.args.here) (sym (e.unchanged none).0)
    (lost_pledge c.args.verdict c.args.active.now c.args.here _ c.end.result none e.stands e.stands_withdrawn)
