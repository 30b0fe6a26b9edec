use Rattle.std.proofs.Common.{◌+◌, refl, sym, ap, ◌∙◌, subst}
use Rattle.std.proofs.lemmas.Result.{on_ok_weaker}
use Rattle.sgt_audit_cells.specs.Tracks.{IsReadyFor}
use Rattle.sgt_audit.proofs.SiteStates.{Enters, site-entered, item-entered, entry-entered, final-entered, end-entered, known-entry, known-missing}
use Rattle.sgt_audit.proofs.tracked.enter_line.Goals as goal

pub returns-in-Site : goal.returns-in-Site
returns-in-Site c ds k b once begun fits admits t =
    let new = c.begin.new.self in
    subst (Enters ds b c.args.state.now new b.current) (sym c.in-Site.is)
    (site-entered ds b c.args.state.now new b.current c.in-Site.site (c.begin.ensures.section
    ∙ ap (λ n. n + 1) c.number.ensures.is)
    (λ ready. c.begin.ensures.tracks ds
    (subst (λ n. IsReadyFor ds (n + 1) c.args.state.now) (sym c.number.ensures.is) ready)))
    begun.room fits admits t

pub returns-in-Initial : goal.returns-in-Initial
returns-in-Initial c =
    let new = c.list.new.self in
    on_ok_weaker c.list.result (λ tracks ds k b once begun fits admits t.
    subst (Enters ds b c.args.state.now new b.current) (sym c.in-Initial.is)
    (item-entered ds b c.args.state.now new b.current c.in-Initial.holding c.list.ensures.section (tracks ds))
    begun.room fits admits t) c.list.ensures.tracks

pub returns-in-Some : goal.returns-in-Some
returns-in-Some c =
    let new = c.enter.new.state in
    on_ok_weaker c.enter.result (λ tracks ds k b once begun fits admits t.
    let is = known-entry ds c.args.state.now c.args.line.now c.args.known.now c.in-Logged.entry c.in-Some.known
    c.in-Logged.is c.in-Some.is k in
    subst (Enters ds b c.args.state.now new b.current) (sym c.in-Logged.is)
    (entry-entered ds b c.args.state.now new b.current c.in-Logged.entry c.enter.ensures.section
    (λ items entries. tracks ds items entries is once))
    begun.room fits admits t) c.enter.ensures.tracks

pub returns-in-None : goal.returns-in-None
returns-in-None c ds k =
    absurd (known-missing ds c.args.state.now c.args.line.now c.args.known.now c.in-Logged.entry c.in-Logged.is
    c.in-None.is k)

pub returns-in-Final : goal.returns-in-Final
returns-in-Final c ds k b once begun fits admits t =
    subst (Enters ds b c.args.state.now c.args.state.now b.current) (sym c.in-Final.is)
    (final-entered ds b c.args.state.now c.args.state.now b.current _ refl) begun.room fits admits t

pub returns-in-End : goal.returns-in-End
returns-in-End c ds k b once begun fits admits t =
    subst (Enters ds b c.args.state.now c.args.state.now b.current) (sym c.in-End.is)
    (end-entered ds b c.args.state.now c.args.state.now b.current refl) begun.room fits admits t
