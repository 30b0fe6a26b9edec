use Rattle.std.proofs.Common.{subst}
use Rattle.std.proofs.lemmas.Bool.{false≢true}
use Rattle.sgt_names.specs.Log.{names}
use Rattle.sgt_audit_cells.specs.Tracks.{IsNumberOf}
use Rattle.sgt_audit_cells.proofs.Clashing.{clash-decides, conflict-listed, undecided-first, undecided-second}
use Rattle.sgt_audit_cells.proofs.Tracking.{record-of}
use Rattle.sgt_names.proofs.Elements.{none-unless_some}
use Rattle.sgt_audit_cells.proofs.state.SiteState.have_conflict.Goals as goal

pub returns-in_default : goal.returns-in_default
returns-in_default c ds items entries a b t from to apart = (
  λ h. absurd (false≢true h),
  λ k. absurd (undecided-first ds items entries c.args.self.now t c.args.kind c.args.item.now a b
      (subst (IsNumberOf ds a) (none-unless_some c.args.from c.in_default.not-Some) from) k),
)

pub returns-in_default-to : goal.returns-in_default-to
returns-in_default-to c ds items entries a b t from to apart = (
  λ h. absurd (false≢true h),
  λ k. absurd (undecided-second ds items entries c.args.self.now t c.args.kind c.args.item.now a b
      (subst (IsNumberOf ds b) (none-unless_some c.args.to c.in_default-to.not-Some) to) k),
)

pub returns-in-Some-place_of : goal.returns-in-Some-place_of
returns-in-Some-place_of c ds items entries a b t from to apart =
    let s = c.args.self.now in
    let first = record-of ds items entries s t c.in-Some.first a (subst (IsNumberOf ds a) c.in-Some.is from) in
    let second = record-of ds items entries s t c.in-Some-to.second b (subst (IsNumberOf ds b) c.in-Some-to.is to) in
    let met = clash-decides (names items) entries a b first.0.acts second.0.acts first.2.acts second.2.acts
    c.in-Some-place_of.place c.args.item.now (c.in-Some-place_of.ensures.some ds items entries t) c.args.kind
    apart in
    let told = c.have_clash.ensures first.0 second.0 first.1 second.1 in
    (λ h. met.0 (told.0 h), λ k. told.1 (met.1 k))

pub returns-in-None : goal.returns-in-None
returns-in-None c ds items entries a b t from to apart = (
  λ h. absurd (false≢true h),
  λ k. absurd
      (c.in-None.ensures.none ds items entries t
      (conflict-listed ds items entries c.args.self.now t c.args.kind c.args.item.now a b k)),
)
