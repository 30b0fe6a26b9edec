use Rattle.std.proofs.Common.{sym, ap, ◌∙◌, ◌++◌, ◌<◌, subst, arith, length, drop}
use Rattle.std.specs.Prelude.{vec_len}
use Rattle.std.proofs.lemmas.Bool.Decides.{nat_tests}
use Rattle.std.proofs.lemmas.List.{length-drop}
use Rattle.std.proofs.lemmas.Result.{err_from_is_err_and}
use Rattle.sgt_order.specs.Graph.{IsAcyclic, IsPlaced}
use Rattle.sgt_order.specs.SerializationGraph.{Joins}
use Rattle.sgt_order.specs.private.Parts.{Lists}
use Rattle.sgt_order.specs.private.Search.{AreAmong, AreMarks, Circles, IsMarked, IsOpen, IsTraced, in_window, is_marked}
use Rattle.sgt_order.proofs.Forward.{forward_acyclic, placed_forward, is_placed}
use Rattle.sgt_order.proofs.Moving.{among_moved, length-placed}
use Rattle.sgt_order.proofs.Nodes.{placed_within}
use Rattle.sgt_order.proofs.Reaching.{closes_cycle, marks_among, searched_traced, walk_is_cycle}
use Rattle.sgt_order.proofs.admission.admit_in.Goals as goal

pub closing_if-requires-clause-any : goal.closing_if-requires-clause-any
closing_if-requires-clause-any c k marked =
    let order = c.args.dag.now.order in
    let f = c.search.new.region.first in
    let mark = subst (λ ms. IsMarked ms k) c.as_slice-3.ensures.value marked in
    let member = marks_among _ _ _ _ _ _ c.search.ensures.searched _ c.search.ensures.begins k mark.0 mark.1 in
    let has = member.1.1 in
    let long = length-drop f order.items in
    let lt : f < vec_len order = omega (arith, has, long, order.ok) in
    grind (arith, nat_tests)

pub walk_back-requires-clause-traced : goal.walk_back-requires-clause-traced
walk_back-requires-clause-traced c =
    let dag = c.args.dag.now in
    let traced =
    searched_traced _ _ _ _ _ _ c.search.ensures.searched
    (λ p x at. omega (
      arith,
      placed_within dag.nodes dag.order.items dag.edges.items p x c.requires.rest.sound.holds at,
      c.search.ensures.long,
    )) in
    subst (λ o. IsTraced o c.args.new c.as_slice-in-Some-2.result.now) (sym c.as_slice-in-Some.ensures.value)
    (subst (IsTraced dag.order.items c.args.new) (sym c.as_slice-in-Some-2.ensures.value) traced)

pub returns-in_err-walk-clause-among : goal.returns-in_err-walk-clause-among
returns-in_err-walk-clause-among c k e has =
    marks_among _ _ _ _ _ _ c.search.ensures.searched _ c.search.ensures.begins k e has

pub returns-in_err-walk-clause-fault : goal.returns-in_err-walk-clause-fault
returns-in_err-walk-clause-fault c =
    let told = err_from_is_err_and c.from_residual.result c.from_residual.ensures.1 in
    let found = c.in-Some.ensures.some in
    let marked = subst (λ ms. IsMarked ms c.in-Some.last.from.index) c.as_slice-3.ensures.value found.3 in
    let cycle = closes_cycle _ _ _ _ _ _ c.search.ensures.searched found.0 c.in-Some.last found.1 found.2 marked in
    rw told.1 (rw told.2 (λ acyclic. absurd (acyclic c.args.new cycle)))

pub returns-in-Some-clause-among : goal.returns-in-Some-clause-among
returns-in-Some-clause-among c k e has =
    marks_among _ _ _ _ _ _ c.search.ensures.searched _ c.search.ensures.begins k e has

pub returns-in-Some-clause-fault : goal.returns-in-Some-clause-fault
returns-in-Some-clause-fault c =
    let found = c.in-Some.ensures.some in
    let circles =
    subst (λ o. Circles o c.args.new c.in_ok-walk.walk) c.as_slice-in-Some.ensures.value
    c.in_ok-walk.ensures.circles in
    let marks = subst (λ ms. AreMarks ms c.in-Some.last c.in_ok-walk.walk) c.as_slice-in-Some-2.ensures.value
    c.in_ok-walk.ensures.marks in
    walk_is_cycle _ _ _ _ _ _ c.search.ensures.searched found.0 c.in-Some.last _ found.1 circles marks

pub returns-then-leads_to_older-clause-among : goal.returns-then-leads_to_older-clause-among
returns-then-leads_to_older-clause-among c k e has =
    marks_among _ _ _ _ _ _ c.search.ensures.searched _ c.search.ensures.begins k e has

pub returns-then-leads_to_older-clause-fault : goal.returns-then-leads_to_older-clause-fault
returns-then-leads_to_older-clause-fault c =
    let free = subst (IsOpen (in_window c.args.new c.args.offered.now) c.args.new) c.as_slice-3.ensures.value
    c.in_default.ensures.none in (
      c.leads_to_older.ensures.0 c.if-leads_to_older.true,
      forward_acyclic _ _ _ (placed_forward _ _ _ _ _ _ c.search.ensures.searched free),
    )

pub returns-in_err-wide-clause-among : goal.returns-in_err-wide-clause-among
returns-in_err-wide-clause-among c =
    let among = marks_among _ _ _ _ _ _ c.search.ensures.searched _ c.search.ensures.begins in
    let members = subst (λ o. AreAmong (drop c.search.new.region.first o) c.search.new.region.marks.items)
    (sym c.in_err-wide.ensures.keeps.order) among in
    subst (λ f. AreAmong (drop f c.extend.new.dag.order.items) c.extend.new.region.marks.items)
    (sym c.extend.ensures.region.1)
    (subst (AreAmong (drop c.search.new.region.first c.extend.new.dag.order.items))
    (sym (ap (λ v. v.items) c.extend.ensures.region.0)) members)

pub returns-clause-first : goal.returns-clause-first
returns-clause-first c =
    let old = c.args.dag.now.order in
    let long = ap length c.in_ok-wide.ensures.order
    ∙ length-placed (is_marked c.search.new.region.marks.items) old.items c.args.new in
    omega (arith, c.extend.ensures.region.1, c.search.ensures.first, long, c.extend.new.dag.order.ok, old.ok)

pub returns-clause-among : goal.returns-clause-among
returns-clause-among c =
    let among = marks_among _ _ _ _ _ _ c.search.ensures.searched _ c.search.ensures.begins in
    let members = among_moved c.search.new.region.first c.args.dag.now.order.items c.extend.new.dag.order.items
    c.args.new c.search.new.region.marks.items c.in_ok-wide.ensures.moved among in
    subst (λ f. AreAmong (drop f c.extend.new.dag.order.items) c.extend.new.region.marks.items)
    (sym c.extend.ensures.region.1)
    (subst (AreAmong (drop c.search.new.region.first c.extend.new.dag.order.items))
    (sym (ap (λ v. v.items) c.extend.ensures.region.0)) members)

pub returns-clause-acyclic : goal.returns-clause-acyclic
returns-clause-acyclic c =
    subst (λ es. IsAcyclic (Joins es)) c.in_ok-wide.ensures.edges
    (forward_acyclic _ _ _ c.extend.ensures.sound.forward)

pub returns-clause-order : goal.returns-clause-order
returns-clause-order c =
    let dag = c.args.dag.now in
    let free = subst (IsOpen (in_window c.args.new c.args.offered.now) c.args.new) c.as_slice-3.ensures.value
    c.in_default.ensures.none in
    let placing =
    is_placed dag.nodes.generation dag.order.items dag.edges.items (in_window c.args.new c.args.offered.now)
    c.args.new c.search.new.region.marks.items c.search.ensures.searched free in
    subst (IsPlaced (Joins (dag.edges.items ++ in_window c.args.new c.args.offered.now)) dag.order.items c.args.new)
    (sym c.in_ok-wide.ensures.order) placing

pub open_rows-requires-clause-lists : goal.open_rows-requires-clause-lists
open_rows-requires-clause-lists c =
    subst (λ es. Lists c.extend.new.dag.nodes es) (sym c.as_slice-4.ensures.value) c.extend.ensures.sound.holds.lists
