use Rattle.std.proofs.Common.{sym, ◌∙◌}
use Rattle.std.proofs.lemmas.Bool.{true≢false}
use Rattle.std.proofs.lemmas.Result.{IfOk-weaker}
use Rattle.sgt_certify_stuck.proofs.Orders.{changes-onward, onward-from, over-onward, puts-onward, reads-onward}
use Rattle.sgt_certify_stuck.proofs.onward.conflicts_lead_onward.Goals as goal

pub returns-then-not-reads : goal.returns-then-not-reads
returns-then-not-reads c = (
  λ no. absurd (true≢false (sym no)),
  λ onward. absurd
      (true≢false (sym (c.in_ok-reads.ensures.1 (reads-onward c.args.entries.now c.args.places.now onward))
      ∙ c.if-not-reads.true)),
)

pub returns-then-not-changes : goal.returns-then-not-changes
returns-then-not-changes c = (
  λ no. absurd (true≢false (sym no)),
  λ onward. absurd
      (true≢false (sym (c.in_ok-changes.ensures.1 (changes-onward c.args.entries.now c.args.places.now onward))
      ∙ c.if-not-changes.true)),
)

pub returns-then-not-puts : goal.returns-then-not-puts
returns-then-not-puts c = (
  λ no. absurd (true≢false (sym no)),
  λ onward. absurd (true≢false (sym (c.in_ok-puts.ensures.1 (puts-onward c.args.entries.now c.args.places.now onward))
      ∙ c.if-not-puts.true)),
)

pub returns : goal.returns
returns c =
    IfOk-weaker c.pair_leads_onward-4.result _ _
    (λ over h. (
      λ yes. onward-from c.args.entries.now c.args.places.now
          (c.in_ok-reads.ensures.0 c.if-not-reads.false) (c.in_ok-changes.ensures.0 c.if-not-changes.false)
          (c.in_ok-puts.ensures.0 c.if-not-puts.false) (h.0 yes),
      λ onward. h.1 (over-onward c.args.entries.now c.args.places.now onward),
    ))
    c.pair_leads_onward-4.ensures
