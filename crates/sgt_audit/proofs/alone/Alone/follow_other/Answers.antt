use Rattle.std.proofs.Common.{None, Some, refl, ap}
use Rattle.sgt_audit.specs.Reading.{lines_read}
use Rattle.sgt_audit.specs.declared.alone.Alone.{Alone}
use Rattle.sgt_audit.proofs.Least.{judged-all}
use Rattle.sgt_audit.proofs.Lone.{next-stands}
use Rattle.sgt_audit.proofs.NextLine.{within-breaks}
use Rattle.sgt_audit.proofs.SiteStates.{allows-plain, known-none}
use Rattle.sgt_audit.proofs.alone.Alone.follow_other.Goals as goal

pub returns-in-Some-clause-follows : goal.returns-in-Some-clause-follows
returns-in-Some-clause-follows c is other cert edges b s meets =
    let line = c.args.line.now in
    let second = c.args.self.now.second in
    let known = known-none cert.decisions c.args.self.now.state line other in
    let judged = c.in-Some.ensures cert b s.once s.ranked s.sites s.begun s.place s.open_site known in (
      within-breaks second cert (lines_read b) line (is, allows-plain second line other) c.in-Some.fault
          (judged-all cert (lines_read b) line (Some c.in-Some.fault) judged.0),
      λ same. judged.1 (ap Some same),
    )

pub returns-clause-follows : goal.returns-clause-follows
returns-clause-follows c is other cert edges b s meets =
    let line = c.args.line.now in
    let old = c.args.self.now in
    let known = known-none cert.decisions old.state line other in
    let new : Alone = record {
      second = old.second;
      place = c.enter.new.self;
      state = c.enter_line.new.state;
      met = c.args.met;
      latest = c.args.self.now.latest;
    } in
    let judged = c.in_default.ensures cert b s.once s.ranked s.sites s.begun s.place s.open_site known in
    let kept = judged-all cert (lines_read b) line None judged.0 in (
      line,
      (is, allows-plain old.second line other),
      refl,
      kept,
      next-stands cert b line old new s kept c.in_ok-enter.ensures (c.in_ok-enter_line.ensures cert.decisions known),
      meets,
    )
