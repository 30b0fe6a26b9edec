use Rattle.std.proofs.Common.{◌∙◌, sym, subst, arith, inl, inr, refl}
use Rattle.std.proofs.lemmas.Bool.{true≢false}
use Rattle.std.proofs.lemmas.Option.{slice_get_within}
use Rattle.sgt_names.specs.Entry.{tx_of}
use Rattle.sgt_names.specs.declared.entry.Entry.{Entry as AnEntry}
use Rattle.sgt_service_settle.specs.private.Search.{IsMarked}
use Rattle.sgt_service_settle.specs.private.Index.{IsDue, IsSided}
use Rattle.sgt_service_settle.proofs.Lists.{before_or_here}
use Rattle.sgt_service_settle.proofs.carried.all_sided.Goals as goal
use Rattle.sgt_service_settle.proofs.carried.all_sided.Goals.{else-is_due-via-then-is_due+else-not-is_sided, else-is_due-via-else-is_due}
use Rattle.sgt_names.proofs.Lists.{element_at}

pub loop-at-preserved : goal.loop-at-preserved
loop-at-preserved c q f low at due =
    let e : AnEntry = c.args.entry.now in
    let seen : AnEntry = c.index-log-at.result in
    let here = element_at c.args.log.now c.loop-at.at seen c.loop-at-test.true c.index-log-at.is in
    elim (before_or_here c.args.log.now c.loop-at.at q seen f here at low) [
      | inl early ↦ c.loop-at.invariant q f early at due
      | inr last ↦
          elim c.else-is_due.branch [
            | else-is_due-via-then-is_due+else-not-is_sided w ↦
                subst (λ (x : AnEntry). IsSided (IsMarked c.args.backward.now (tx_of x))
                (IsMarked c.args.forward.now (tx_of x)) c.args.cut.now.item c.args.place q e x) last.1
                (subst (λ k. IsSided (IsMarked c.args.backward.now (tx_of seen))
                (IsMarked c.args.forward.now (tx_of seen)) c.args.cut.now.item c.args.place k e seen) last.0
                (w.is_sided.ensures.0 w.if-not-is_sided.false))
            | else-is_due-via-else-is_due w ↦
                absurd (true≢false
                (sym (c.is_due.ensures.1
                (subst (λ (x : AnEntry). IsDue c.args.commits.now e x c.args.cut.now.last) (sym last.1) due))
                ∙ w.if-is_due.false))
          ]
    ]

pub returns : goal.returns
returns c = (
  λ yes q f at due. c.loop-at.invariant q f (let low = slice_get_within c.args.log.now q f at in
      omega (arith, low, c.loop-at-test.false)) at due,
  λ all. refl,
)
