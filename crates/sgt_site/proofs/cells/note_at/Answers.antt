use Rattle.std.proofs.Common.{◌<◌, ◌∙◌, refl, sym, ap, arith, length, set, length-set}
use Rattle.std.proofs.lemmas.Option.{same_Some, slice_get_read}
use Rattle.sgt_site.specs.private.Cells.{Contents}
use Rattle.sgt_site.proofs.Inserts.{get_set_same}
use Rattle.sgt_site.proofs.Versions.{versions-noted}
use Rattle.sgt_site.proofs.cells.note_at.Goals as goal

pub returns-clause-versions : goal.returns-clause-versions
returns-clause-versions c =
    let cells = c.args.cells.now.items in
    let at = c.args.at in
    let made = c.note.new.self in
    let long = length-set cells at made in
    let within : at < length (set cells at made) = omega (arith, c.requires.within, long) in
    let there = slice_get_read (set cells at made) (length (set cells at made)) _ _ refl within c.index.ensures in
    let same = same_Some _ _ (sym there ∙ get_set_same cells at made c.requires.within) in
    ap (λ n. set c.args.versions.now at n) (c.version.ensures ∙ ap (λ (d : Contents). length d.writers) same)
    ∙ versions-noted cells c.args.versions.now at made c.requires.versions
