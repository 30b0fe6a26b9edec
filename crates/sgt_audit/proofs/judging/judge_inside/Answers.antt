use Rattle.std.proofs.Common.{◌++◌, ◌∷◌, [], sym, subst}
use Rattle.sgt_notation.specs.declared.SectionLine.{SectionLine}
use Rattle.sgt_bundle.specs.Text.{Begins}
use Rattle.sgt_audit.specs.Rules.{KeepsBy}
use Rattle.sgt_audit.specs.private.Following.{Fits}
use Rattle.sgt_audit.proofs.SiteStates.{known-entry, known-missing}
use Rattle.sgt_audit.specs.private.Judging.{JudgedLine}
use Rattle.sgt_audit.proofs.judging.judge_inside.Goals as goal

pub returns-in-Some : goal.returns-in-Some
returns-in-Some j c before log once are p k t o fits begins =
    let is = known-entry c.decisions j.args.state.now j.args.line.now j.args.known.now j.in-Logged.entry
    j.in-Some.known j.in-Logged.is j.in-Some.is k in
    subst (λ (l : SectionLine). JudgedLine (KeepsBy j.args.rules c before l) j.judge_entry.result) (sym j.in-Logged.is)
    (j.judge_entry.ensures c before log once are p is t o
    (subst (λ (l : SectionLine). Begins c.sites (before ++ l ∷ [])) j.in-Logged.is begins))

pub returns-in-None : goal.returns-in-None
returns-in-None j c before log once are p k t o fits begins =
    absurd (known-missing c.decisions j.args.state.now j.args.line.now j.args.known.now j.in-Logged.entry
    j.in-Logged.is j.in-None.is k)

pub returns-in-Final : goal.returns-in-Final
returns-in-Final j c before log once are p k t o fits begins =
    subst (λ (l : SectionLine). JudgedLine (KeepsBy j.args.rules c before l) j.judge_final.result) (sym j.in-Final.is)
    (j.judge_final.ensures j.args.rules c before log p t
    (subst (Fits log) j.in-Final.is fits) o
    (subst (λ (l : SectionLine). Begins c.sites (before ++ l ∷ [])) j.in-Final.is begins))

pub returns-in-End : goal.returns-in-End
returns-in-End j c before log once are p k t o fits begins =
    subst (λ (l : SectionLine). JudgedLine (KeepsBy j.args.rules c before l) j.judge_end.result) (sym j.in-End.is)
    (j.judge_end.ensures j.args.rules c before log p t o
    (subst (λ (l : SectionLine). Begins c.sites (before ++ l ∷ [])) j.in-End.is begins))
