use Rattle.std.proofs.Common.{◌≡◌, ◌∙◌, ◌<◌, ap, sym, subst, arith, inl, inr, length, Contains, Vec, Global}
use Rattle.std.specs.Prelude.{slice_get}
use Rattle.std.proofs.lemmas.Bool.{cases_lt}
use Rattle.std.proofs.lemmas.Option.{same_Some, slice_get_within}
use Rattle.sgt_service_settle.specs.declared.deeds.Track.{Track as ATrack}
use Rattle.sgt_service_settle.specs.declared.link.Link.{Link as ALink}
use Rattle.sgt_service_settle.specs.private.Joined.{AreDeedsCarried}
use Rattle.sgt_names.proofs.Lists.{element_at}
use Rattle.sgt_service_settle.proofs.joined.are_joined.Goals as goal

pub is_item_joined-requires-clause-sound : goal.is_item_joined-requires-clause-sound
is_item_joined-requires-clause-sound c d has =
    let tracks = c.args.tracks.now in
    let track = c.index-tracks-at.result in
    let here = element_at tracks c.loop-at.at track c.loop-at-test.true c.index-tracks-at.is in
    c.requires.sound c.loop-at.at track d here (subst (λ xs. Contains xs d) (c.as_slice-deeds.ensures.value
    ∙ ap (λ (t : ATrack). t.deeds.items) (sym c.index-tracks-at.is)) has)

pub loop-at-preserved : goal.loop-at-preserved
loop-at-preserved c = record {
  under = c.in_ok-joined.ensures.under;
  carried = λ k t row low at_t at_row. elim (cases_lt k c.loop-at.at) [
    | inl early ↦ c.loop-at.invariant.carried k t row early at_t at_row
    | inr late ↦
        let tracks = c.args.tracks.now in
        let rows = c.args.rows.now in
        let at = c.loop-at.at in
        let track : ATrack = c.index-tracks-at.result in
        let own : Vec ALink Global = c.index-rows-at.result in
        let same : at ≡ k = omega (arith, late, low) in
        let in_rows : at < length rows = omega (arith, c.loop-at-test.true, c.requires.long) in
        let is_t : track ≡ t =
        same_Some track t (sym (element_at tracks at track c.loop-at-test.true c.index-tracks-at.is)
        ∙ (ap (slice_get tracks) same ∙ at_t)) in
        let is_row : own ≡ row = same_Some own row (sym (element_at rows at own in_rows c.index-rows-at.is)
        ∙ (ap (slice_get rows) same ∙ at_row)) in
        let known = c.in_ok-joined.ensures.carried c.if-not-joined.false in
        let in_row : AreDeedsCarried own.items c.as_slice-deeds.result.now =
        subst (λ ls. AreDeedsCarried ls c.as_slice-deeds.result.now) c.as_slice.ensures.value known in
        let both : AreDeedsCarried own.items track.deeds.items =
        subst (λ xs. AreDeedsCarried own.items xs) (c.as_slice-deeds.ensures.value
        ∙ ap (λ (u : ATrack). u.deeds.items) (sym c.index-tracks-at.is)) in_row in
        subst (λ (r : Vec ALink Global). AreDeedsCarried r.items t.deeds.items) is_row
        (subst (λ (u : ATrack). AreDeedsCarried own.items u.deeds.items) is_t both)
  ];
}

pub returns-clause-carried : goal.returns-clause-carried
returns-clause-carried c = λ yes k t row at_t at_row.
    c.loop-at.invariant.carried k t row (let low = slice_get_within c.args.tracks.now k t at_t in
    omega (arith, low, c.loop-at-test.false)) at_t at_row
