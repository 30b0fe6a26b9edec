use Rattle.std.proofs.Common.{[], sym, subst}
use Rattle.sgt_notation.specs.Spelling.{line_text}
use Rattle.sgt_notation.specs.declared.SectionLine.TheVariants.{Logged}
use Rattle.sgt_audit_decisions.proofs.Loops.{refuted}
use Rattle.sgt_audit.specs.Kept.{IsStageOf, Means}
use Rattle.sgt_audit.proofs.Goes.{line-goes}
use Rattle.sgt_audit.proofs.NextLine.{alone-breaks}
use Rattle.sgt_audit.proofs.NextStage.{complete-all, line-trails}
use Rattle.sgt_audit.proofs.kept.Kept.next_entry.Goals as goal

pub returns-then-is_complete-clause-follows : goal.returns-then-is_complete-clause-follows
returns-then-is_complete-clause-follows k is s (b, before, h, stage) =
    let all = (k.is_complete.ensures b h.means.begun h.stands.place).0 k.if-is_complete.true in
    line-trails (line_text (Logged k.args.entry.now)) s ((complete-all k.args.self.now b before s h.means stage).1 all)

pub returns-in-Some-clause-follows : goal.returns-in-Some-clause-follows
returns-in-Some-clause-follows k is s (b, before, h, stage) =
    let c = k.args.self.now.certificate in
    let same = k.follow_entry.ensures.second in
    let open_yet = refuted k.is_complete.result (k.is_complete.ensures b h.means.begun h.stands.place)
    k.if-is_complete.false in
    let found = rw k.in-Some.is at k.in_ok-fault.ensures.follows is [] b h.stands in
    alone-breaks k.follow_entry.new.self.second c b before _ k.in-Some.fault
    (subst (λ n. Means n c b before) (sym same) h.means) open_yet found.0 s
    (subst (λ n. IsStageOf n c before s) (sym same) stage)

pub returns-clause-follows : goal.returns-clause-follows
returns-clause-follows k is s (b, before, h, stage) =
    line-goes k.args.self.now k.follow_entry.new.self k.add_entry_to.new.sections [] b before (Logged k.args.entry.now) s
    k.follow_entry.ensures.second h stage is.0 (λ same. cc)
    (rw k.in_default.is at k.in_ok-fault.ensures.follows is [] b h.stands) (k.in_ok-add_entry_to.ensures.next b h.sections)
