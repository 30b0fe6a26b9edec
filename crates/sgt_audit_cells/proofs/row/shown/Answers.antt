use Rattle.std.proofs.Common.{◌≡◌, Bool, true, false, refl, sym, ap, ◌∙◌, subst, arith, Any}
use Rattle.std.specs.Prelude.{◌↔◌, IsTrue}
use Rattle.sgt_audit_cells.specs.private.Deeds.{IsOf}
use Rattle.sgt_audit_cells.specs.private.Linked.{chain}
use Rattle.sgt_audit_cells.specs.private.Rows.{HasBit, HasMark}
use Rattle.sgt_audit_cells.proofs.Tracking.{got}
use Rattle.sgt_audit_cells.proofs.row.shown.Goals as goal

pub returns-then-change : goal.returns-then-change
returns-then-change c nodes are =
    let row = c.in-Some.row.now in
    let shows = (are c.args.number row (got _ _ _ _ refl c.in-Some.ensures.lookup.0 c.in-Some.ensures.lookup.1)).1
    c.args.place true in
    let same : row.upto ≡ c.args.last = omega (arith, c.if-row-last.false) in
    let here = subst (λ k. Any (IsOf c.args.place true) (chain nodes k) ↔ HasMark row true c.args.place) same shows in
    let told = subst (λ ws. IsTrue c.has_bit.result ↔ HasBit ws c.args.place) c.as_slice.ensures.value
    c.has_bit.ensures in
    subst (λ b. IsTrue c.has_bit.result ↔ Any (IsOf c.args.place b) (chain nodes c.args.last)) (sym c.if-change.true)
    (λ h. here.1 (told.0 h), λ any. told.1 (here.0 any))

pub returns : goal.returns
returns c nodes are =
    let row = c.in-Some.row.now in
    let shows = (are c.args.number row (got _ _ _ _ refl c.in-Some.ensures.lookup.0 c.in-Some.ensures.lookup.1)).1
    c.args.place false in
    let same : row.upto ≡ c.args.last = omega (arith, c.if-row-last.false) in
    let here = subst (λ k. Any (IsOf c.args.place false) (chain nodes k) ↔ HasMark row false c.args.place) same shows in
    let told = subst (λ ws. IsTrue c.has_bit-2.result ↔ HasBit ws c.args.place) c.as_slice-2.ensures.value
    c.has_bit-2.ensures in
    subst (λ b. IsTrue c.has_bit-2.result ↔ Any (IsOf c.args.place b) (chain nodes c.args.last)) (sym c.if-change.false)
    (λ h. here.1 (told.0 h), λ any. told.1 (here.0 any))
