use Rattle.std.proofs.Common.{All, sym, ◌∙◌, subst}
use Rattle.std.specs.Prelude.{IfSome, IfNone}
use Rattle.sgt_names.specs.Entry.{tx_of}
use Rattle.sgt_bundle.specs.Certificate.{IsCommitted, IsDecidedOnce}
use Rattle.sgt_bundle.specs.Valid.{RiseInRank}
use Rattle.sgt_explain_decisions.specs.Against.{IsFirstAgainst}
use Rattle.sgt_explain_decisions.specs.Placed.{ArePlaced}
use Rattle.sgt_explain.proofs.SecondLine.{held-line}
use Rattle.sgt_explain.proofs.ShownValues.{no-certificate, no-entry, shows-ranks-found}
use Rattle.sgt_explain.proofs.shown.ranks_shown.Goals as goal

pub returns-in_default : goal.returns-in_default
returns-in_default c =
    λ first. no-certificate c.args.bytes.now c.args.number first (λ front d rest none is e. sym c.in_default.is
    ∙ c.in_ok-certificate.ensures.only d (held-line _ front rest d none is e))

pub returns-in_default-logged_at : goal.returns-in_default-logged_at
returns-in_default-logged_at c = λ first. no-entry c.args.bytes.now c.args.number first c.in_default-logged_at.ensures

pub returns : goal.returns
returns c = λ first.
    let found = c.against_ranks.result in
    let r = c.against_ranks.ensures in
    let decisions = c.decisions-decisions.ensures in
    let placed = c.in_ok-placed.ensures in
    shows-ranks-found c.args.bytes.now c.args.number first c.in_ok-section.section c.in-Some.certificate
    c.in-Some-logged_at.logged found
    c.in_ok-section.ensures
    (λ front d rest none is e. sym c.in-Some.is ∙ c.in_ok-certificate.ensures.only d (held-line _ front rest d none is e))
    c.in-Some-logged_at.ensures r.site r.among r.same
    (subst (λ ds. IfSome found (λ s. IsCommitted ds s.first.number (tx_of s.first.logged.entry) s.first.rank))
    decisions r.first)
    (subst (λ ds. IfSome found (λ s. IsCommitted ds s.second.number (tx_of s.second.logged.entry) s.second.rank))
    decisions r.second)
    r.stand
    (subst (λ ds. IsDecidedOnce ds
    → IfSome found (λ s. IsFirstAgainst ds c.in_ok-section.section.entries.items s.first.logged
    c.in-Some-logged_at.logged.entry)) decisions
    (r.earlier (subst (λ ps. ArePlaced c.decisions-decisions.result.now ps) (sym c.as_slice.ensures.value) placed)))
    (subst (λ ds. IsDecidedOnce ds
    → IfNone found
    (All (λ l. RiseInRank ds l.entry c.in-Some-logged_at.logged.entry) c.in_ok-section.section.entries.items))
    decisions
    (r.none (subst (λ ps. ArePlaced c.decisions-decisions.result.now ps) (sym c.as_slice.ensures.value) placed)))
