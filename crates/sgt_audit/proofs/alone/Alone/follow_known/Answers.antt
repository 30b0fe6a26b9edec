use Rattle.std.proofs.Common.{None, Some, refl, ap}
use Rattle.sgt_notation.specs.declared.SectionLine.{SectionLine}
use Rattle.sgt_notation.specs.declared.SectionLine.TheVariants.{Logged}
use Rattle.sgt_audit.specs.Reading.{lines_read}
use Rattle.sgt_audit.specs.declared.alone.Alone.{Alone}
use Rattle.sgt_audit.proofs.Least.{judged-all}
use Rattle.sgt_audit.proofs.Lone.{next-stands, open-meets}
use Rattle.sgt_audit.proofs.NextLine.{within-breaks}
use Rattle.sgt_audit.proofs.SiteStates.{entry-entered}
use Rattle.sgt_audit.proofs.alone.Alone.follow_known.Goals as goal

pub returns-in-Some-clause-follows : goal.returns-in-Some-clause-follows
returns-in-Some-clause-follows c is cert edges b known s =
    let line : SectionLine = Logged c.args.entry.now in
    let judged = c.judge_next_entry-found.ensures cert b s.once s.ranked s.sites s.begun s.place s.open_site known in
    let told = rw c.in-Some.is at judged in (
      within-breaks c.args.self.now.second cert (lines_read b) line is c.in-Some.fault
          (judged-all cert (lines_read b) line (Some c.in-Some.fault) told.0),
      λ same. told.1 (ap Some same),
    )

pub returns-clause-follows : goal.returns-clause-follows
returns-clause-follows c is cert edges b known s =
    let e = c.args.entry.now in
    let line : SectionLine = Logged e in
    let old = c.args.self.now in
    let new : Alone = record {
      second = old.second;
      place = c.enter_entry.new.self;
      state = c.enter.new.state;
      met = old.met;
      latest = c.unwrap_or-self.result;
    } in
    let judged = c.judge_next_entry-found.ensures cert b s.once s.ranked s.sites s.begun s.place s.open_site known in
    let kept = judged-all cert (lines_read b) line None (rw c.in_default.is at judged).0 in (
      line,
      is,
      refl,
      kept,
      next-stands cert b line old new s kept c.enter_entry.ensures
          (λ a once begun fits admits t. entry-entered cert.decisions a old.state c.enter.new.state a.current e
          c.enter.ensures.section (λ items entries. c.in_ok-enter.ensures.tracks cert.decisions items entries known once)
          begun.room fits admits t),
      open-meets edges b.current e old.met,
    )
