use Rattle.std.proofs.Common.{◌≡◌, ◌∙◌, ap, arith, length}
use Rattle.sgt_site.proofs.Versions.{written-back}
use Rattle.sgt_site.proofs.Changes.{changed-items, items-rise}
use Rattle.sgt_site.proofs.cells.Cells.note.Goals as goal

pub note_all-requires-clause-versions : goal.note_all-requires-clause-versions
note_all-requires-clause-versions c = rw c.as_mut_slice-versions.ensures.value c.self.invariant.counted

pub invariant_of-self : goal.invariant_of-self
invariant_of-self c =
    let new = c.note_all.new.versions in
    let items = c.self.inside.versions.items in
    let same : length new ≡ length c.as_mut_slice-versions.result.now = c.note_all.auto.versions in
    let lent : length c.as_mut_slice-versions.result.now ≡ length items =
    ap length c.as_mut_slice-versions.ensures.value in
    let fits : c.self.inside.versions.len ≡ length new = omega (arith, c.self.inside.versions.ok.0, same, lent) in
    record {
      rising = items-rise _ _ (changed-items _ (λ d e noted. noted.item) _ _ c.note_all.ensures.noted)
          c.self.invariant.rising;
      counted = written-back items new _ fits ∙ c.note_all.ensures.versions;
    }

pub returns : goal.returns
returns c = rw (← c.self.view_is) c.note_all.ensures.noted
