use Rattle.std.proofs.Common.{◌++◌, ◌∷◌, [], sym, subst}
use Rattle.sgt_notation.specs.declared.SectionLine.{SectionLine}
use Rattle.sgt_notation.specs.declared.SectionLine.TheVariants.{Logged}
use Rattle.sgt_bundle.specs.Text.{Begins}
use Rattle.sgt_audit.specs.Reading.{HasRoomFor, lines_read}
use Rattle.sgt_audit.proofs.Least.{below-any}
use Rattle.sgt_audit.proofs.Lone.{two, first, first-begins, first-open, not-walk, section-breaks}
use Rattle.sgt_audit.proofs.OpenLogs.{has_open, fits-open, kept-between}
use Rattle.sgt_audit.proofs.Places.{no-open, open-log}
use Rattle.sgt_audit.proofs.SiteStates.{open-tracked}
use Rattle.sgt_audit_decisions.proofs.Loops.{refuted}
use Rattle.sgt_audit.proofs.judging.judge_next_entry.Goals as goal

pub returns-then-not-takes_entries : goal.returns-then-not-takes_entries
returns-then-not-takes_entries k c b once ranked sites begun place t known =
    let line : SectionLine = Logged k.args.entry.now in (
      section-breaks k.args.rules c (lines_read b) line
          (λ begins. refuted k.takes_entries.result (k.takes_entries.ensures b k.args.entry.now begun place) k.if-not-takes_entries.true
          (subst (λ n. Begins n (lines_read b ++ line ∷ [])) (sym sites) begins)),
      λ same. cc,
    )

pub returns-in-Some : goal.returns-in-Some
returns-in-Some k c b once ranked sites begun place t known =
    let rules = k.args.rules in
    let line : SectionLine = Logged k.args.entry.now in
    let begins = (k.takes_entries.ensures b k.args.entry.now begun place).0 k.if-not-takes_entries.false in
    let at = open-log b k.args.place.now begun place _ k.in-Some.is in
    let is = (subst (HasRoomFor b) at.1 begun.room).1 in
    let fits = fits-open b at.0 _ at.1 begins in
    let tracked = open-tracked c.decisions b k.args.state.now at.0 at.1 t in (
      k.judge_entry.ensures c (lines_read b) at.0 once ranked at.2 known tracked (has_open b at.0 at.1)
          (subst (λ n. Begins n (lines_read b ++ line ∷ [])) sites begins),
      not-walk c.decisions at.0 is rules line _ fits
          (k.judge_entry.ensures (two c.decisions at.0 is) (lines_read (first c.decisions at.0 is)) at.0 once ranked
          at.2 known tracked (first-open c.decisions at.0 is) (first-begins c.decisions at.0 is line fits)),
    )

pub returns-in-None : goal.returns-in-None
returns-in-None k c b once ranked sites begun place t known =
    let line : SectionLine = Logged k.args.entry.now in (
      below-any k.args.rules c (lines_read b) line 17
          (kept-between c b _ (sym sites) (no-open b k.args.place.now begun place k.in-None.is)
          ((k.takes_entries.ensures b k.args.entry.now begun place).0 k.if-not-takes_entries.false)),
      λ same. cc,
    )
