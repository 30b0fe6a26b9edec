-- A line that ends no section, taken in by all that is kept.
use Rattle.std.proofs.Common.{◌≡◌, ◌≢◌, ◌++◌, ◌∷◌, [], List, None, Option, IfSome, refl, sym, subst, arith}
use Rattle.sgt_notation.specs.Spelling.{IsLine, line_text}
use Rattle.sgt_notation.specs.declared.SectionLine.{SectionLine}
use Rattle.sgt_notation.specs.declared.SectionLine.TheVariants.{End}
use Rattle.sgt_bundle.specs.Text.{AreSections, Begins}
use Rattle.sgt_audit_decisions.specs.declared.steps.Edge.{Edge}
use Rattle.sgt_audit.specs.declared.alone.Alone.{Alone}
use Rattle.sgt_audit.specs.declared.faults.Fault.TheVariants as fault
use Rattle.sgt_audit.specs.declared.kept.Kept.{Kept}
use Rattle.sgt_audit.specs.declared.machine.Progress.TheVariants.{Reading}
use Rattle.sgt_audit.specs.Alone.{FollowsAlone}
use Rattle.sgt_audit.specs.Faults.{Stage}
use Rattle.sgt_audit.specs.Held.{Holds}
use Rattle.sgt_audit.specs.Kept.{IsStageOf, Means, MeansMet}
use Rattle.sgt_audit.specs.Reading.{Begun, lines_read}
use Rattle.sgt_audit.specs.private.Following.{with_next}
use Rattle.sgt_audit.specs.private.NextLine.{Follows}
use Rattle.sgt_audit.proofs.Lone.{alone-follows, no-end, same-whole}
use Rattle.sgt_audit.proofs.MayFollow.{added-lines, are-sections}
use Rattle.sgt_audit.proofs.NextLine.{added-open}
use Rattle.sgt_audit.proofs.NextStage.{line-follows}
use Rattle.sgt_audit.proofs.Places.{next-sites}

pub line-goes : (old : Kept) (alone : Alone) (sections : Option Begun) (edges : List Edge) (b : Begun)
    (before : List SectionLine) (line : SectionLine) (s : Stage) → alone.second ≡ old.alone.second
    → Holds old b before → IsStageOf old.alone.second old.certificate before s → IsLine line → line ≢ End
    → FollowsAlone old.certificate edges b (line_text line) alone None
    → IfSome sections (λ r. r ≡ with_next b b.current line)
    → Follows s (line_text line) (Reading (record old { alone = alone; sections = sections })) None
line-goes old alone sections edges b before line s same h stage is other told added =
    let c = old.certificate in
    let m = subst (λ n. Means n c b before) (sym same) h.means in
    let (read, kept, stands, meets) = alone-follows c edges b line alone is told in
    let begins = subst (λ n. Begins n (lines_read b ++ line ∷ [])) (sym m.sites) (kept fault.Section (omega arith)) in
    let next = with_next b b.current line in
    let sites = next-sites b b.current line in
    let lines = added-lines b m.begun line begins b.current refl in
    let new : Kept = record old { alone = alone; sections = sections } in
    let miss : AreSections next.sites (lines_read next) → ⊥ =
    λ all. no-end b b.current line other (are-sections next all).0 in
    line-follows new next before line s
    (record {
      means = added-open _ _ _ next before _ m sites lines read kept stands.begun miss;
      stands = stands;
      walks = subst (λ logs. MeansMet c.decisions logs old.walks) (sym (same-whole b b.current line other)) h.walks;
      sections = added;
    }) (subst (λ n. IsStageOf n c before s) (sym same) stage)
