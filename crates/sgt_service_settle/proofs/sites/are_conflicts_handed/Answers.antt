use Rattle.std.proofs.Common.{◌∙◌, ap, refl, sym, subst, length}
use Rattle.std.proofs.lemmas.Bool.{true≢false}
use Rattle.sgt_service_settle.specs.private.Deeds.{AreTracks}
use Rattle.sgt_service_settle.specs.private.Joined.{AreSound, AreTracksCarried}
use Rattle.sgt_service_settle.specs.private.Places.{AreShown}
use Rattle.sgt_service_settle.proofs.Joining.{all_carried}
use Rattle.sgt_service_settle.proofs.Tying.{left_logged}
use Rattle.sgt_service_settle.proofs.sites.are_conflicts_handed.Goals as goal

pub are_shown-shown-requires : goal.are_shown-shown-requires
are_shown-shown-requires c = ap length c.as_slice-deeds.ensures.value
    ∙ (c.in_ok-tracks.ensures.long ∙ (sym c.in_ok-ties.ensures.long ∙ sym (ap length c.as_slice-rows.ensures.value)))

pub are_joined-requires-clause-long : goal.are_joined-requires-clause-long
are_joined-requires-clause-long c = ap length c.as_slice-deeds.ensures.value
    ∙ (c.in_ok-tracks.ensures.long ∙ (sym c.in_ok-ties.ensures.long ∙ sym (ap length c.as_slice-rows.ensures.value)))

pub are_joined-requires-clause-sound : goal.are_joined-requires-clause-sound
are_joined-requires-clause-sound c =
    subst AreSound (sym c.as_slice-deeds.ensures.value)
    (λ k t d at has. (c.in_ok-tracks.ensures.tracks.each k t at).sound d has)

pub returns-then-not-told-clause-ok : goal.returns-then-not-told-clause-ok
returns-then-not-told-clause-ok c =
    let log = c.args.log.now in
    let ties = c.in_ok-ties.ties in
    let told = rw c.as_slice-2.ensures.value at c.in_ok-told.ensures in
    let left = left_logged c.args.index.now c.args.site log ties.rows.items ties.others.items c.edges_at.result.now
    c.unshown-edges.result.now c.are_shown-shown.result c.in_ok-ties.ensures.tied
    (λ yes. subst (AreShown log) c.as_slice-rows.ensures.value (c.are_shown-shown.ensures yes))
    c.edges_at.ensures c.unshown-edges.ensures.yes c.unshown-edges.ensures.no in (
      λ yes. absurd (true≢false (sym yes)),
      λ fit. absurd (true≢false (sym (told.1 (left.1 fit.edges)) ∙ c.if-not-told.true)),
    )

pub returns-then-joined-clause-ok : goal.returns-then-joined-clause-ok
returns-then-joined-clause-ok c =
    let index = c.args.index.now in
    let items = c.args.items.now in
    let log = c.args.log.now in
    let ties = c.in_ok-ties.ties in
    let tracks = c.in_ok-tracks.tracks.items in
    let told = rw c.as_slice-2.ensures.value at c.in_ok-told.ensures in
    let left =
    left_logged index c.args.site log ties.rows.items ties.others.items c.edges_at.result.now
    c.unshown-edges.result.now c.are_shown-shown.result c.in_ok-ties.ensures.tied
    (λ yes. subst (AreShown log) c.as_slice-rows.ensures.value (c.are_shown-shown.ensures yes))
    c.edges_at.ensures c.unshown-edges.ensures.yes c.unshown-edges.ensures.no in
    let are : AreTracks index.commits.items items log (length log) tracks =
    subst (λ cs. AreTracks cs items log (length log) tracks) c.as_slice.ensures.value
    c.in_ok-tracks.ensures.tracks in
    let carried : AreTracksCarried c.as_slice-rows.result.now c.as_slice-deeds.result.now =
    c.in_ok-joined.ensures.carried c.if-joined.true in
    let by_rows : AreTracksCarried ties.rows.items c.as_slice-deeds.result.now =
    subst (λ rs. AreTracksCarried rs c.as_slice-deeds.result.now) c.as_slice-rows.ensures.value carried in
    let by_tracks : AreTracksCarried ties.rows.items tracks =
    subst (AreTracksCarried ties.rows.items) c.as_slice-deeds.ensures.value by_rows in (
      λ yes. record {
        edges = left.0 (told.0 c.if-not-told.false);
        conflicts =
            all_carried index c.args.site items log tracks ties.rows.items c.requires.known c.in_ok-ties.ensures.links
            c.in_ok-ties.ensures.long are by_tracks;
      },
      λ fit. refl,
    )

pub returns-clause-ok : goal.returns-clause-ok
returns-clause-ok c =
    let log = c.args.log.now in
    let ties = c.in_ok-ties.ties in
    let told = rw c.as_slice-2.ensures.value at c.in_ok-told.ensures in
    let left = left_logged c.args.index.now c.args.site log ties.rows.items ties.others.items c.edges_at.result.now
    c.unshown-edges.result.now c.are_shown-shown.result c.in_ok-ties.ensures.tied
    (λ yes. subst (AreShown log) c.as_slice-rows.ensures.value (c.are_shown-shown.ensures yes))
    c.edges_at.ensures c.unshown-edges.ensures.yes c.unshown-edges.ensures.no in (
      λ yes. record {
        edges = left.0 (told.0 c.if-not-told.false);
        conflicts = c.in_ok-carried.ensures.0 yes;
      },
      λ fit. c.in_ok-carried.ensures.1 fit.conflicts,
    )
