use Rattle.std.proofs.Common.{◌≡◌, ◌∙◌, ◌+◌, ◌++◌, ◌∷◌, [], ap, sym, subst, arith, length, take}
use Rattle.std.proofs.lemmas.List.{take_all}
use Rattle.sgt_names.proofs.Places.{Contains-from_at}
use Rattle.sgt_names.specs.declared.entry.Label.{Label as ALabel}
use Rattle.sgt_service_settle.specs.declared.handed.Handed.{Handed as AHanded}
use Rattle.sgt_service_settle.specs.declared.link.Link.{Link as ALink}
use Rattle.sgt_service_settle.specs.private.Index.{IsIndexed}
use Rattle.sgt_service_settle.specs.private.Joined.{AreItemLinks}
use Rattle.sgt_service_settle.proofs.Rowing.{written_back}
use Rattle.sgt_service_settle.proofs.Joining.{item_links_next}
use Rattle.sgt_service_settle.proofs.Tying.{AreTiedOf, tied_none, tied_hit, tied_miss, tied_all}
use Rattle.sgt_service_settle.proofs.ties.ties_at.Goals as goal
use Rattle.sgt_service_settle.proofs.ties.ties_at.Goals.{in-Some, in-None+in_ok-push-in-None}
use Rattle.sgt_names.proofs.Lists.{element_at}

pub loop-one-init : goal.loop-one-init
loop-one-init c = record {
  long = c.in_ok-rows.ensures.long;
  links = λ at n l e. absurd (c.in_ok-rows.ensures.none at n l e);
  tied = rw c.new-others.ensures.items (tied_none c.args.index.now c.edges_at-edges.result.now c.in_ok-rows.rows.items);
}

pub loop-one-preserved : goal.loop-one-preserved
loop-one-preserved c =
    let index = c.args.index.now in
    let items = c.args.items.now in
    let edges = c.edges_at-edges.result.now in
    let n = c.loop-one.one-index in
    let one : AHanded = c.one-item.result in
    let here = element_at edges n one c.loop-one-test.true c.one-item.is in
    let known = (c.edges_at-edges.ensures one).0 (Contains-from_at edges n one here) in
    let inv = c.loop-one.invariant in
    let old = c.loop-one.rows in
    let others = c.loop-one.others.items in
    let new = c.add_tie.new.rows in
    let long : length c.as_mut_slice.result.now ≡ length old.items = ap length c.as_mut_slice.ensures.value in
    let same : length new ≡ length c.as_mut_slice.result.now = c.add_tie.auto.rows in
    let back = written_back old.items new old.len (omega (arith, old.ok.0, same, long)) in
    elim c.match-placed.branch [
      | in-Some w ↦
          let tie = rw c.as_mut_slice.ensures.value at (rw w.in-Some.is at c.in_ok-placed.ensures) in
          let link : ALink = tie.link in
          let indexed : IsIndexed index link = (one, known.0, tie.is) in
          let site : link.label.site ≡ c.args.site = ap (λ (x : ALabel). x.site) tie.is.label ∙ known.1 in
          let tied = tied_hit index items edges others n w.in-Some.at one old.items new here tie inv.tied in
          record {
            long = ap length back ∙ (same ∙ (long ∙ inv.long));
            links = subst (AreItemLinks (IsIndexed index) c.args.site items) (sym back)
                (item_links_next (IsIndexed index) c.args.site items old.items new w.in-Some.at link indexed site
                tie.added.item tie.added.pushed inv.links);
            tied = rw w.others-is (subst (λ rs. AreTiedOf index (take (n + 1) edges) rs others) (sym back) tied);
          }
      | in-None+in_ok-push-in-None w ↦
          let kept = rw c.as_mut_slice.ensures.value at (rw w.in-None.is at c.in_ok-placed.ensures) in
          let tied = tied_miss index edges others n one old.items here inv.tied in
          record {
            long = ap length back ∙ (same ∙ (long ∙ inv.long));
            links = subst (AreItemLinks (IsIndexed index) c.args.site items) (sym (back ∙ kept)) inv.links;
            tied = rw w.others-is
                (rw w.in_ok-push-in-None.ensures.items
                (subst (λ rs. AreTiedOf index (take (n + 1) edges) rs (others ++ one ∷ [])) (sym (back ∙ kept)) tied));
          }
    ]

pub returns-clause-tied : goal.returns-clause-tied
returns-clause-tied c =
    let edges = c.edges_at-edges.result.now in
    let whole = take_all c.loop-one.one-index edges (omega (arith, c.loop-one-test.false)) in
    tied_all c.args.index.now c.args.site edges c.loop-one.others.items c.loop-one.rows.items c.edges_at-edges.ensures
    (subst (λ hs. AreTiedOf c.args.index.now hs c.loop-one.rows.items c.loop-one.others.items) whole
    c.loop-one.invariant.tied)
