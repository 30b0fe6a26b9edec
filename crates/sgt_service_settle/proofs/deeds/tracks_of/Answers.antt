use Rattle.std.proofs.Common.{◌≡◌, ◌∙◌, ◌<◌, sym, subst, refl, arith, length}
use Rattle.std.specs.Prelude.{slice_set}
use Rattle.std.proofs.lemmas.List.{length-set}
use Rattle.std.proofs.lemmas.Option.{none-some, same_Some}
use Rattle.sgt_names.specs.declared.entry.Entry.{Entry as AnEntry}
use Rattle.sgt_service_settle.specs.private.Words.{IsItemAt}
use Rattle.sgt_service_settle.specs.private.Deeds.{AreTracks}
use Rattle.sgt_service_settle.proofs.Tracking.{tracks_next, tracks_skip}
use Rattle.sgt_service_settle.proofs.deeds.tracks_of.Goals as goal
use Rattle.sgt_service_settle.proofs.deeds.tracks_of.Goals.{in-Some+in-Some-place_near+in_ok-add, in-Some+in_default-place_near, in_default}
use Rattle.sgt_names.proofs.Lists.{element_at}

pub index_mut-requires : goal.index_mut-requires
index_mut-requires c =
    let within = ((c.place_near.ensures c.in-Some-place_near.at).0 c.in-Some-place_near.is).within in
    omega (arith, within, c.loop-place.invariant.long, c.loop-place.tracks.ok.0)

pub add-requires : goal.add-requires
add-requires c =
    let at = c.in-Some-place_near.at in
    let within = ((c.place_near.ensures at).0 c.in-Some-place_near.is).within in
    let low : at < length c.loop-place.tracks.items = omega (arith, within, c.loop-place.invariant.long) in
    let here = element_at c.loop-place.tracks.items at c.index_mut.result.now low c.index_mut.ensures.value in
    let few = (c.loop-place.invariant.tracks.each at c.index_mut.result.now here).few in
    omega (arith, few, c.loop-place-test.true, c.well_formed)

pub loop-place-preserved : goal.loop-place-preserved
loop-place-preserved c =
    let commits = c.args.commits.now in
    let items = c.args.items.now in
    let log = c.args.log.now in
    let n = c.loop-place.place in
    let e : AnEntry = c.index-log-place.result in
    let here = element_at log n e c.loop-place-test.true c.index-log-place.is in
    let old = c.loop-place.tracks.items in
    let inv = c.loop-place.invariant in
    elim c.match-cut_at.branch [
      | in-Some+in-Some-place_near+in_ok-add w ↦
          let cut = w.in-Some.cut in
          let at = w.in-Some-place_near.at in
          let k = (c.cut_at.ensures cut).0 w.in-Some.is in
          let item = (w.place_near.ensures at).0 w.in-Some-place_near.is in
          let within = item.within in
          let before = w.index_mut.result.now in
          let after = w.add.new.track in
          let was = element_at old at before (omega (arith, within, inv.long)) w.index_mut.ensures.value in
          record {
            long = rw w.tracks-is (length-set old at after ∙ inv.long);
            tracks = rw w.tracks-is (tracks_next commits items log n at cut.last e cut.item old
                (slice_set old at after) before after c.requires here k.0 k.1 item was refl w.in_ok-add.ensures.deeds
                w.in_ok-add.ensures.read w.in_ok-add.ensures.change inv.tracks);
          }
      | in-Some+in_default-place_near w ↦
          let cut = w.in-Some.cut in
          let k = (c.cut_at.ensures cut).0 w.in-Some.is in
          record {
            long = rw w.tracks-is inv.long;
            tracks = rw w.tracks-is
                (tracks_skip commits items log n e old here
                (λ m at x item commit there. none-some at (sym w.in_default-place_near.is
                ∙ (w.place_near.ensures at).1
                (subst (λ y. IsItemAt items y at) (same_Some x cut.item (sym item ∙ k.0)) there))) inv.tracks);
          }
      | in_default w ↦ record {
        long = rw w.tracks-is inv.long;
        tracks = rw w.tracks-is
            (tracks_skip commits items log n e old here (λ m at x item commit there. none-some _ (sym w.in_default.is
            ∙ (c.cut_at.ensures (record { site = c.args.site; item = x; last = m })).1 (item, commit, refl)))
            inv.tracks);
      }
    ]

pub returns-clause-tracks : goal.returns-clause-tracks
returns-clause-tracks c =
    let whole : c.loop-place.place ≡ length c.args.log.now =
    omega (arith, c.loop-place-test.false, c.loop-place.auto.place-end) in
    subst (λ n. AreTracks c.args.commits.now c.args.items.now c.args.log.now n c.loop-place.tracks.items) whole
    c.loop-place.invariant.tracks
