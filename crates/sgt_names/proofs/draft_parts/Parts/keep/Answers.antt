use Rattle.std.proofs.Common.{refl, ap, subst, inl, inr, length}
use Rattle.std.specs.Prelude.{nat_lt, vec_capacity, IsSome, ◌&&◌}
use Rattle.std.proofs.lemmas.Option.{slice_get_read}
use Rattle.sgt_names.specs.Draft.{place_of}
use Rattle.sgt_names.specs.DraftParts.{all_fit}
use Rattle.sgt_names.proofs.Touched.{OnOk_then}
use Rattle.sgt_names.proofs.Parts.{changes_part, inserts_part, parts_tried, touched_found_part, touched_no_part, fits_at, and_left, all_fit-set, fits_then}
use Rattle.sgt_names.proofs.draft_parts.Parts.keep.Goals as goal

pub invariant_of-self-in-Err : goal.invariant_of-self-in-Err
invariant_of-self-in-Err c =
    let gap = rw c.as_slice.ensures.value at c.in-Err.ensures.absent in
    let parts = parts_tried _ c.add_part.result c.self.inside.parts.items c.add_part.new.parts.items c.in-Err.at
    c.args.touch c.add_part.ensures.ok c.add_part.ensures.err gap c.requires c.self.invariant.0
    c.self.invariant.1 in
    (parts.0, parts.1, c.add_part.ensures.blank)

pub returns-in-Ok-clause-ok : goal.returns-in-Ok-clause-ok
returns-in-Ok-clause-ok c =
    let ps = c.self.inside.parts.items in
    let found = rw c.as_slice.ensures.value at c.in-Ok.ensures.found in
    let at = slice_get_read ps (length ps) c.in-Ok.at _ refl found.within c.index_mut.ensures.value in
    rw (← c.self.view_is)
    (OnOk_then c.keep.result c.keep.ensures.ok
    (λ changes. changes_part ps c.in-Ok.at c.index_mut.result.now c.keep.new.self c.args.touch at changes))

pub returns-in-Ok-clause-succeeds : goal.returns-in-Ok-clause-succeeds
returns-in-Ok-clause-succeeds c =
    let ps = c.self.inside.parts.items in
    let q = c.index_mut.result.now in
    let found = rw c.as_slice.ensures.value at c.in-Ok.ensures.found in
    let at = slice_get_read ps (length ps) c.in-Ok.at q refl found.within c.index_mut.ensures.value in
    rw (← c.self.view_is) (λ room. c.keep.ensures.succeeds (elim room [
      | inl fits ↦ inl (fits_at ps c.in-Ok.at q (and_left (all_fit ps) _ fits) at)
      | inr touched ↦ inr
          (subst IsSome (touched_found_part ps (place_of c.args.touch) c.in-Ok.at q c.self.invariant.0
          c.self.invariant.1 found at) touched)
    ]))

pub returns-in-Ok-clause-room : goal.returns-in-Ok-clause-room
returns-in-Ok-clause-room c =
    let ps = c.self.inside.parts.items in
    let q = c.index_mut.result.now in
    let found = rw c.as_slice.ensures.value at c.in-Ok.ensures.found in
    let at = slice_get_read ps (length ps) c.in-Ok.at q refl found.within c.index_mut.ensures.value in
    rw (← c.self.view_is) (λ touched.
    let there =
    subst IsSome (touched_found_part ps (place_of c.args.touch) c.in-Ok.at q c.self.invariant.0 c.self.invariant.1
    found at) touched in
    ap (λ b. b && (nat_lt c.self.inside.parts.len c.self.inside.parts.cap && nat_lt 0
    (vec_capacity c.self.inside.spare)))
    (all_fit-set ps c.in-Ok.at q c.keep.new.self at (c.keep.ensures.room there)))

pub returns-in-Err-clause-ok : goal.returns-in-Err-clause-ok
returns-in-Err-clause-ok c =
    rw (← c.self.view_is)
    (OnOk_then c.add_part.result c.add_part.ensures.ok
    (λ inserts. inserts_part c.self.inside.parts.items c.add_part.new.parts.items c.in-Err.at c.args.touch inserts))

pub returns-in-Err-clause-succeeds : goal.returns-in-Err-clause-succeeds
returns-in-Err-clause-succeeds c =
    let gap = rw c.as_slice.ensures.value at c.in-Err.ensures.absent in
    rw (← c.self.view_is) (λ room. elim room [
      | inl fits ↦ fits_then c.add_part.result _ _ _ _ c.add_part.ensures.full fits
      | inr touched ↦ absurd (let none =
          rw (touched_no_part c.self.inside.parts.items (place_of c.args.touch) c.in-Err.at c.self.invariant.1 gap) at
          touched in cc)
    ])

pub returns-in-Err-clause-room : goal.returns-in-Err-clause-room
returns-in-Err-clause-room c =
    let gap = rw c.as_slice.ensures.value at c.in-Err.ensures.absent in
    rw (← c.self.view_is)
    (λ touched. absurd (let none =
    rw (touched_no_part c.self.inside.parts.items (place_of c.args.touch) c.in-Err.at c.self.invariant.1 gap) at
    touched in cc))
