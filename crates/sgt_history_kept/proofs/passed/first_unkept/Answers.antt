use Rattle.std.proofs.Common.{ℕ, ◌⊎◌, List, Option, None, get_or, subst, refl}
use Rattle.std.proofs.lemmas.Option.{slice_get-get_or}
use Rattle.sgt_history_time.specs.declared.times.Times.{Times}
use Rattle.sgt_history_kept.specs.Seen.{ComesAhead, ComesBehind, ComesLast, EndsBefore, EndsBehind, IsLatestWith}
use Rattle.sgt_history_kept.proofs.Passing.{seen-next, seen-none, seen-passes, seen-whole, unkept-breaks, unkept-of}
use Rattle.sgt_history_kept.proofs.passed.first_unkept.Goals as goal

pub loop-place-init : goal.loop-place-init
loop-place-init c =
    seen-none c.args.order.now c.args.asked.now None c.new-last.result.items refl c.new-last.ensures.items

pub loop-place-preserved : goal.loop-place-preserved
loop-place-preserved c =
    let order = c.args.order.now in
    let a = c.args.asked.now in
    let n = c.loop-place.place in
    let line = get_or order n 0 in
    let latest = c.loop-place.latest in
    let next = c.latest_with-latest.result in
    let w = subst (λ (ts : List (Option Times)). IsLatestWith ts latest line next) c.as_slice.ensures.value
    c.latest_with-latest.ensures in
    let behind =
    subst (λ (ls : List (Option ℕ)). ComesBehind a.sessions.items ls line × EndsBehind a.times.items next line)
    c.as_slice-in-loop-place.ensures.value c.in_default.ensures.none in
    let comes = subst (λ (ss : List (Option ℕ)). ComesLast ss c.loop-place.last.items line c.note.new.last.items)
    c.as_slice-in-loop-place-2.ensures.value c.in_ok-note.ensures in
    seen-next order a n line latest next c.loop-place.last.items c.note.new.last.items c.loop-place.invariant
    (slice_get-get_or order n 0 c.loop-place-test.true) w behind comes

pub returns-in-Some-clause-unkept : goal.returns-in-Some-clause-unkept
returns-in-Some-clause-unkept c =
    let order = c.args.order.now in
    let a = c.args.asked.now in
    let n = c.loop-place.place in
    let line = get_or order n 0 in
    let latest = c.loop-place.latest in
    let next = c.latest_with-latest.result in
    let p = c.in-Some.found in
    let w = subst (λ (ts : List (Option Times)). IsLatestWith ts latest line next) c.as_slice.ensures.value
    c.latest_with-latest.ensures in
    let passes =
    subst (λ (ls : List (Option ℕ)). ComesAhead a.sessions.items ls line p
    ⊎ (ComesBehind a.sessions.items ls line × EndsBefore a.times.items next line p))
    c.as_slice-in-loop-place.ensures.value c.in-Some.ensures.some in
    seen-passes order a n line latest next c.loop-place.last.items p c.loop-place.invariant
    (slice_get-get_or order n 0 c.loop-place-test.true) w passes

pub returns-in-Some-clause-exact : goal.returns-in-Some-clause-exact
returns-in-Some-clause-exact c =
    let order = c.args.order.now in
    let a = c.args.asked.now in
    let n = c.loop-place.place in
    let line = get_or order n 0 in
    let latest = c.loop-place.latest in
    let next = c.latest_with-latest.result in
    let p = c.in-Some.found in
    let w = subst (λ (ts : List (Option Times)). IsLatestWith ts latest line next) c.as_slice.ensures.value
    c.latest_with-latest.ensures in
    let passes =
    subst (λ (ls : List (Option ℕ)). ComesAhead a.sessions.items ls line p
    ⊎ (ComesBehind a.sessions.items ls line × EndsBefore a.times.items next line p))
    c.as_slice-in-loop-place.ensures.value c.in-Some.ensures.some in
    let first = seen-passes order a n line latest next c.loop-place.last.items p c.loop-place.invariant
    (slice_get-get_or order n 0 c.loop-place-test.true) w passes in
    (λ none. absurd cc, λ keeps. absurd (unkept-breaks order a (unkept-of n line p) first keeps))

pub returns-clause-unkept : goal.returns-clause-unkept
returns-clause-unkept c =
    seen-whole c.args.order.now c.args.asked.now c.loop-place.place c.loop-place.latest c.loop-place.last.items
    c.loop-place-test.false c.loop-place.invariant

pub returns-clause-exact : goal.returns-clause-exact
returns-clause-exact c = (
  λ none. seen-whole c.args.order.now c.args.asked.now c.loop-place.place c.loop-place.latest
      c.loop-place.last.items c.loop-place-test.false c.loop-place.invariant,
  λ keeps. refl,
)
