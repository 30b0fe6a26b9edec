use Rattle.std.proofs.Common.{drop, ◌-◌, ◌≡◌, ◌<◌, ◌≤◌, ◌++◌, ◌∙◌, List, ℕ, ap, arith, length, refl, subst, sym}
use Rattle.std.specs.Prelude.{vec_len}
use Rattle.sgt_names.specs.Limits.{max_line}
use Rattle.sgt_audit_sections.specs.Judged.{IsUnderway, IsWholeSection}
use Rattle.sgt_audit_sections.specs.declared.judging.NextLine.{NextLine}
use Rattle.sgt_audit_sections.proofs.OneSection.{underway-more}
use Rattle.sgt_audit_workers.specs.Reads.{reader}
use Rattle.sgt_audit_workers.specs.declared.tally.Tally.{Tally}
use Rattle.sgt_audit_workers.specs.private.Tallied.{IsTallied, OpenEnds}
use Rattle.sgt_audit_workers.proofs.Given.{may-later}
use Rattle.sgt_audit_workers.proofs.OneMore.{ok-adds}
use Rattle.sgt_audit_workers.proofs.OpenSection.{goes-behind, last-bytes, open-fault, opened-more, own-more, own-stops}
use Rattle.sgt_audit_workers.proofs.Taken.{rest_of, taken}
use Rattle.sgt_audit_workers.proofs.long.judge_open.Goals as goal

pub begin_section-next-requires-clause-ready : goal.begin_section-next-requires-clause-ready
begin_section-next-requires-clause-ready g c =
    (may-later c.args.head.now 0 c.args.tally.now.whole c.in_ok-alone.alone (omega arith)
    (c.in_ok-alone.ensures.ready c.requires.head.sites, c.in_ok-alone.ensures.second)).0

pub loop-piece-init : goal.loop-piece-init
loop-piece-init g c =
    let h = c.args.head.now in
    let bytes = c.take_open-opened.result.bytes.items in
    let same = c.begin_section-next.ensures.next in
    record {
      site = ap (λ (n : NextLine). n.site) same;
      tally = refl;
      read = bytes;
      under = subst (λ (n : NextLine). IsUnderway h.second h.certificate n.site bytes bytes n.line
          c.begin_section-next.new.alone) (sym same)
          (subst (λ s. IsUnderway s h.certificate c.args.tally.now.whole bytes bytes 1 c.begin_section-next.new.alone)
          c.in_ok-alone.ensures.second (c.begin_section-next.ensures.underway bytes));
      rest = λ first left is. c.take_open-opened.ensures.opened first _ left is;
      behind = c.take_open-opened.ensures.behind;
      asked = λ first left is was. c.take_open-opened.ensures.asked first _ was;
      most = c.take_open-opened.ensures.most;
    }

pub judge_piece-requires-clause-site : goal.judge_piece-requires-clause-site
judge_piece-requires-clause-site g c =
    omega (
      arith,
      c.loop-piece.invariant.site,
      ap (λ (u : Tally). u.whole) c.loop-piece.invariant.tally,
      c.requires.site,
    )

pub returns-in-Faulty-clause-ends : goal.returns-in-Faulty-clause-ends
returns-in-Faulty-clause-ends g c first left is tallied was =
    let inv = c.loop-piece.invariant in
    let h = c.args.head.now in
    let t = c.loop-piece.tally in
    let few : t.whole < h.certificate.sites = omega (arith, ap (λ (u : Tally). u.whole) inv.tally, c.requires.site) in
    let here = subst (IsTallied h first.told left) (sym inv.tally) tallied in
    let now = reader (g.R.Source.tells c.loop-piece.source) (g.R.Source.failures c.loop-piece.source)
    (g.R.Source.asked c.loop-piece.source) in
    let o = inv.rest first left is in
    let own = rw c.in-Faulty.is at (c.in_ok-lines.ensures.judged inv.read inv.under) in
    let later = rw c.in-Faulty.is at c.in_ok-lines.ensures.later in
    let answer =
    open-fault h first now left t c.loop-piece.text inv.read c.loop-piece.opened.bytes.items
    c.loop-piece.opened.stop c.loop-piece.next.line c.loop-piece.alone c.loop-piece.next.site c.in-Faulty.line
    c.in-Faulty.fault o here few inv.site inv.under
    (own-more h.second h.certificate c.loop-piece.next.site inv.read c.in-Faulty.line c.in-Faulty.fault o.left own)
    later (inv.asked first left is was) in
    ok-adds c.fault_at.result _ (OpenEnds h first c.loop-piece.text now t) c.fault_at.ensures.ok answer

pub returns-in-Some-clause-ends : goal.returns-in-Some-clause-ends
returns-in-Some-clause-ends g c first left is tallied was =
    let inv = c.loop-piece.invariant in
    let h = c.args.head.now in
    let t = c.loop-piece.tally in
    let few : t.whole < h.certificate.sites = omega (arith, ap (λ (u : Tally). u.whole) inv.tally, c.requires.site) in
    let here = subst (IsTallied h first.told left) (sym inv.tally) tallied in
    let k = c.loop-piece.next.site in
    let now = reader (g.R.Source.tells c.loop-piece.source) (g.R.Source.failures c.loop-piece.source)
    (g.R.Source.asked c.loop-piece.source) in
    let o = inv.rest first left is in
    let piece = c.loop-piece.opened.bytes.items in
    let under = rw c.in-Open.is at (c.in_ok-lines.ensures.underway inv.read inv.under) in
    let own = rw c.in-Open.is at (c.in_ok-lines.ensures.judged inv.read inv.under) in
    let later = rw c.in-Open.is at c.in_ok-lines.ensures.later in
    let stops = rw c.in-Some.is at c.in_ok-fault-in-Open.ensures.long in
    let answer =
    open-fault h first now left t c.loop-piece.text inv.read piece c.loop-piece.opened.stop c.loop-piece.next.line
    c.loop-piece.alone k c.in-Open.line c.in-Some.fault o here few inv.site inv.under
    (own-stops h.second h.certificate k (omega (arith, inv.site, few)) inv.read piece c.judge_piece.new.alone
    c.in-Open.line c.in-Open.rest c.loop-piece.opened.stop o.left c.in-Some.fault under own o.behind stops) later
    (inv.asked first left is was) in
    ok-adds c.fault_at-in-Some.result _ (OpenEnds h first c.loop-piece.text now t) c.fault_at-in-Some.ensures.ok answer

pub read_next-requires : goal.read_next-requires
read_next-requires g c =
    goes-behind _ _ c.loop-piece.invariant.behind (rw c.in_default.is at c.in_ok-fault-in-Open.ensures.more)

pub loop-piece-preserved : goal.loop-piece-preserved
loop-piece-preserved g c =
    let inv = c.loop-piece.invariant in
    let h = c.args.head.now in
    let k = c.loop-piece.next.site in
    let line = c.in-Open.line in
    let few : k < h.certificate.sites =
    omega (arith, inv.site, ap (λ (u : Tally). u.whole) inv.tally, c.requires.site) in
    let under = rw c.in-Open.is at (c.in_ok-lines.ensures.underway inv.read inv.under) in
    let before = c.keep_last.new.bytes.items in
    let held = c.loop-piece.opened.bytes in
    let many : vec_len held ≡ length held.items = omega (arith, held.ok.0) in
    let kept : before ≡ under.rest = c.in_ok-keep_last-in-Open.ensures.kept
    ∙ ap (λ n. drop (n - c.in-Open.rest) held.items) many
    ∙ last-bytes held.items under.front under.rest c.in-Open.rest under.last under.many_bytes in
    let more = c.read_next.ensures.more in
    let short : length before ≤ max_line = omega (arith, under.short, ap length kept) in
    record {
      site = inv.site;
      tally = inv.tally;
      read = inv.read ++ more.0;
      under = subst (λ (b : List ℕ). IsUnderway h.second h.certificate k (inv.read ++ more.0) b line
          c.judge_piece.new.alone) (ap (λ (b : List ℕ). b ++ more.0) (sym kept) ∙ sym more.1)
          (underway-more h.second h.certificate k few inv.read under.rest line c.judge_piece.new.alone under.underway
          more.0);
      rest = λ first left is.
          let o = inv.rest first left is in
          opened-more first left inv.read before c.read_next.new.opened.bytes.items c.loop-piece.opened.stop
          c.read_next.new.opened.stop c.loop-piece.text c.read_next.new.text _ _ more.0
          c.loop-piece.opened.bytes.items o (c.read_next.ensures.read first o.left o.rest short) more.1;
      behind = c.read_next.ensures.behind;
      asked = λ first left is was. let o = inv.rest first left is in
          c.read_next.ensures.asked first o.left o.rest (inv.asked first left is was);
      most = c.read_next.ensures.most ∙ inv.most;
    }

pub returns-in-Whole-clause-ends : goal.returns-in-Whole-clause-ends
returns-in-Whole-clause-ends g c first left is tallied was =
    let inv = c.loop-piece.invariant in
    let h = c.args.head.now in
    let t = c.loop-piece.tally in
    let few : t.whole < h.certificate.sites = omega (arith, ap (λ (u : Tally). u.whole) inv.tally, c.requires.site) in
    let here = subst (IsTallied h first.told left) (sym inv.tally) tallied in
    let o = inv.rest first left is in
    let judged = rw c.in-Whole.is at (c.in_ok-lines.ensures.judged inv.read inv.under) in
    let whole = subst (λ k. IsWholeSection h.second h.certificate k inv.read c.in-Whole.lines c.in-Whole.met)
    (inv.site ∙ here.tally.whole) judged in
    let adds = c.in_ok-add_whole-in-Whole.ensures.adds h.second h.certificate here.logs inv.read
    (rest_of o.left) here.tally (omega (arith, few, here.tally.whole)) whole in (
      o.left,
      (taken h first.told left o.left inv.read t here o.came c.add_whole.new.self (rest_of o.left) adds).0,
      o.rest,
    )

pub returns-in-Whole-clause-whole : goal.returns-in-Whole-clause-whole
returns-in-Whole-clause-whole g c =
    let same = ap (λ (u : Tally). u.whole) c.loop-piece.invariant.tally in
    let many = c.requires.head.good.spelled.1 in
    let small : c.loop-piece.tally.whole < 4294967296 = omega (arith, same, c.requires.site, many) in
    omega (arith, c.in_ok-add_whole-in-Whole.ensures.whole small, same)
