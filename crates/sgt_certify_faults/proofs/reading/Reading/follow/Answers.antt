use Rattle.std.proofs.Common.{None, Some}
use Rattle.sgt_certify_faults.specs.private.Judging.{asked_for}
use Rattle.sgt_certify_faults.proofs.Alone.{judged-alone}
use Rattle.sgt_certify_faults.proofs.Following.{broken, entered, tells}
use Rattle.sgt_certify_faults.proofs.reading.Reading.follow.Goals as goal

pub returns-in-Some : goal.returns-in-Some
returns-in-Some c second bytes rest more count are h open_yet is cut =
    let ds = c.args.decided.now.decisions in
    let b = h.sections in
    let judged = c.in-Some.ensures (asked_for ds) b are.once tt h.read.sites h.read.begun h.place h.open_site
    c.look_up-known.ensures in
    broken second ds bytes rest more count c.args.self.now c.args.line.now are h is cut open_yet c.args.self.now
    c.in-Some.fault
    (judged-alone ds b c.args.line.now h.read.sites h.read.begun
    (tells second ds bytes rest more count c.args.self.now c.args.line.now are h is cut)
    (Some c.in-Some.fault) judged.0)

pub returns : goal.returns
returns c second bytes rest more count are h open_yet is cut =
    let ds = c.args.decided.now.decisions in
    let b = h.sections in
    let judged = c.in_default.ensures (asked_for ds) b are.once tt h.read.sites h.read.begun h.place h.open_site
    c.look_up-known.ensures in
    let keeps = judged-alone ds b c.args.line.now h.read.sites h.read.begun
    (tells second ds bytes rest more count c.args.self.now c.args.line.now are h is cut) None judged.0 in
    entered second ds bytes rest more count c.args.self.now c.args.line.now are h is cut keeps _
    c.in_ok-enter.ensures (λ a. c.in_ok-enter_line.ensures ds c.look_up-known.ensures a)
