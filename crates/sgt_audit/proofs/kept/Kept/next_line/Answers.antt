use Rattle.std.proofs.Common.{◌≡◌, ◌++◌, ◌∷◌, [], IfSome, None, Some, refl, sym, subst, ◌∙◌, arith}
use Rattle.sgt_notation.specs.Spelling.{line_text}
use Rattle.sgt_notation.specs.declared.SectionLine.{SectionLine}
use Rattle.sgt_notation.specs.declared.SectionLine.TheVariants.{End}
use Rattle.sgt_bundle.specs.Text.{Begins}
use Rattle.sgt_audit_decisions.specs.Steps.{AreStepsAt}
use Rattle.sgt_audit_decisions.proofs.Loops.{refuted}
use Rattle.sgt_audit.specs.Alone.{FollowsAlone}
use Rattle.sgt_audit.specs.declared.faults.Fault.TheVariants as fault
use Rattle.sgt_audit.specs.declared.kept.Kept.{Kept}
use Rattle.sgt_audit.specs.declared.machine.Progress.TheVariants.{Reading}
use Rattle.sgt_audit.specs.Kept.{IsStageOf, Means}
use Rattle.sgt_audit.specs.Reading.{lines_read}
use Rattle.sgt_audit.specs.private.Following.{with_next}
use Rattle.sgt_audit.specs.private.NextLine.{Follows}
use Rattle.sgt_audit.proofs.LoggedConflicts.{walks-decide}
use Rattle.sgt_audit.proofs.Goes.{line-goes}
use Rattle.sgt_audit.proofs.Lone.{alone-follows}
use Rattle.sgt_audit.proofs.MayFollow.{added-lines, are-sections, begins-follow}
use Rattle.sgt_audit.proofs.NextLine.{alone-breaks, line-breaks, walks-broken, added-open, added-last}
use Rattle.sgt_audit.proofs.NextStage.{complete-all, line-follows, line-trails}
use Rattle.sgt_audit.proofs.Places.{next-sites}
use Rattle.sgt_audit.proofs.kept.Kept.next_line.Goals as goal
use Rattle.sgt_audit.proofs.kept.Kept.next_line.Goals.{else-is_complete-2-via-then-is_complete-2+else-not-self, else-is_complete-2-via-else-is_complete-2}

pub returns-then-is_complete-clause-follows : goal.returns-then-is_complete-clause-follows
returns-then-is_complete-clause-follows k is s (b, before, h, stage) =
    let all = (k.is_complete.ensures b h.means.begun h.stands.place).0 k.if-is_complete.true in
    line-trails (line_text k.args.line) s ((complete-all k.args.self.now b before s h.means stage).1 all)

pub returns-in-Some-clause-follows : goal.returns-in-Some-clause-follows
returns-in-Some-clause-follows k is s (b, before, h, stage) =
    let c = k.args.self.now.certificate in
    let same = k.next_line.ensures.second in
    let open_yet = refuted k.is_complete.result (k.is_complete.ensures b h.means.begun h.stands.place)
    k.if-is_complete.false in
    let found = rw k.in-Some.is at k.in_ok-fault.ensures.follows is b h.stands in
    alone-breaks k.next_line.new.self.second c b before _ k.in-Some.fault
    (subst (λ n. Means n c b before) (sym same) h.means) open_yet found.0 s
    (subst (λ n. IsStageOf n c before s) (sym same) stage)

pub returns-in_default-line-clause-follows : goal.returns-in_default-line-clause-follows
returns-in_default-line-clause-follows k is s (b, before, h, stage) =
    line-goes k.args.self.now k.next_line.new.self k.add_line_to.new.sections k.at-edges.result.now b before k.args.line s
    k.next_line.ensures.second h stage is k.in_default-line.not-End
    (rw k.in_default.is at k.in_ok-fault.ensures.follows is b h.stands) (k.in_ok-add_line_to.ensures.next b h.sections)

pub returns-then-not-self-clause-follows : goal.returns-then-not-self-clause-follows
returns-then-not-self-clause-follows k is s (b, before, h, stage) =
    let c = k.args.self.now.certificate in
    let edges = k.at-edges.result.now in
    let alone = k.next_line.new.self in
    let same = k.next_line.ensures.second in
    let m = subst (λ n. Means n c b before) (sym same) h.means in
    let open_yet = refuted k.is_complete.result (k.is_complete.ensures b h.means.begun h.stands.place)
    k.if-is_complete.false in
    let told = subst (λ (l : SectionLine). FollowsAlone c edges b (line_text l) alone None) k.in-End.is
    (rw k.in_default.is at k.in_ok-fault.ensures.follows is b h.stands) in
    let (read, kept, stands, meets) = alone-follows c edges b End alone tt told in
    let begins = subst (λ n. Begins n (lines_read b ++ End ∷ [])) (sym m.sites) (kept fault.Section (omega arith)) in
    let next = with_next b b.current End in
    let sites = next-sites b b.current End in
    let lines = added-lines b m.begun End begins b.current refl in
    let walks = k.pass.ensures c.decisions b edges (begins-follow b End begins)
    (subst (λ n. AreStepsAt c.decisions n edges) h.stands.place.whole
    (k.at-edges.ensures c.decisions h.walks.steps)) meets h.walks in
    let done = k.is_complete-2.ensures next stands.begun stands.place in
    let all = done.0 k.if-is_complete-2.true in
    let each = (are-sections next all).1 ∙ sites ∙ m.sites in
    let miss = refuted k.pass.new.self.met (walks-decide c next.whole k.pass.new.self m.kept.spelled each walks)
    k.if-not-self.true in
    let new : Kept = record k.args.self.now {
      alone = alone;
      walks = k.pass.new.self;
      sections = k.add_line_to.new.sections;
    } in
    subst (λ (l : SectionLine). Follows s (line_text l) (Reading new) (Some fault.WalkStep)) (sym k.in-End.is)
    (line-breaks _ _ _ before _ _ _ m open_yet read refl (walks-broken _ _ _ next before _ m sites lines all miss kept) s
    (subst (λ n. IsStageOf n c before s) (sym same) stage))

pub returns-clause-follows : goal.returns-clause-follows
returns-clause-follows k is s (b, before, h, stage) =
    let c = k.args.self.now.certificate in
    let edges = k.at-edges.result.now in
    let alone = k.next_line.new.self in
    let same = k.next_line.ensures.second in
    let m = subst (λ n. Means n c b before) (sym same) h.means in
    let stage_now = subst (λ n. IsStageOf n c before s) (sym same) stage in
    let told = subst (λ (l : SectionLine). FollowsAlone c edges b (line_text l) alone None) k.in-End.is
    (rw k.in_default.is at k.in_ok-fault.ensures.follows is b h.stands) in
    let (read, kept, stands, meets) = alone-follows c edges b End alone tt told in
    let begins = subst (λ n. Begins n (lines_read b ++ End ∷ [])) (sym m.sites) (kept fault.Section (omega arith)) in
    let next = with_next b b.current End in
    let sites = next-sites b b.current End in
    let lines = added-lines b m.begun End begins b.current refl in
    let walks = k.pass.ensures c.decisions b edges (begins-follow b End begins)
    (subst (λ n. AreStepsAt c.decisions n edges) h.stands.place.whole
    (k.at-edges.ensures c.decisions h.walks.steps)) meets h.walks in
    let sections = subst (λ (l : SectionLine). IfSome k.add_line_to.new.sections (λ r. r ≡ with_next b b.current l)) k.in-End.is
    (k.in_ok-add_line_to.ensures.next b h.sections) in
    let new : Kept = record k.args.self.now {
      alone = alone;
      walks = k.pass.new.self;
      sections = k.add_line_to.new.sections;
    } in
    let done = k.is_complete-2.ensures next stands.begun stands.place in
    subst (λ (l : SectionLine). Follows s (line_text l) (Reading new) None) (sym k.in-End.is)
    (elim k.else-is_complete-2.branch [
      | else-is_complete-2-via-then-is_complete-2+else-not-self w ↦
          let all = done.0 w.if-is_complete-2.true in
          let each = (are-sections next all).1 ∙ sites ∙ m.sites in
          let met = (walks-decide c next.whole k.pass.new.self m.kept.spelled each walks).0 w.if-not-self.false in
          line-follows new next before End s
          (record {
            means = added-last _ _ _ next before _ m sites lines read kept stands.begun all met;
            stands = stands;
            walks = walks;
            sections = sections;
          }) stage_now
      | else-is_complete-2-via-else-is_complete-2 w ↦
          let miss = refuted k.is_complete-2.result done w.if-is_complete-2.false in
          line-follows new next before End s
          (record {
            means = added-open _ _ _ next before _ m sites lines read kept stands.begun miss;
            stands = stands;
            walks = walks;
            sections = sections;
          }) stage_now
    ])
