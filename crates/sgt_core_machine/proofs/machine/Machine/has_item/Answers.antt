use Rattle.std.proofs.Common.{◌≡◌, Some, length, refl, sym, ◌∙◌, subst, ap, arith}
use Rattle.std.specs.Prelude.{slice_get, IsTrue, Contains}
use Rattle.std.proofs.lemmas.Option.{slice_get_read}
use Rattle.sgt_names.specs.Log.{names}
use Rattle.sgt_core_machine.specs.Machine.{parts_of}
use Rattle.sgt_core_machine.proofs.Finding.{of_place, to_place, ok_iff}
use Rattle.sgt_core_machine.proofs.machine.Machine.has_item.Goals as goal

pub returns : goal.returns
returns c = λ d s.
    let m = parts_of c.args.self.now in
    let p = c.index-place.result.now in
    let at : slice_get m.places c.args.site ≡ Some p =
    ap (slice_get m.places) (sym c.number-at.ensures.is)
    ∙ slice_get_read m.places (length m.places) c.number-at.result p refl (omega arith) c.index-place.ensures in
    let both = ok_iff (Contains (names p.site.items) c.args.item) _ c.writers.result c.writers.ensures.allowed
    c.writers.ensures.refused in (
      λ t. of_place m d c.args.site c.args.item p s at (both.0 (subst IsTrue c.is_ok.ensures.value t)),
      λ k. subst IsTrue (sym c.is_ok.ensures.value) (both.1 (to_place m d c.args.site c.args.item p s at k)),
    )
