use Rattle.std.proofs.Common.{sym, ◌∙◌}
use Rattle.std.proofs.lemmas.Bool.{true≢false}
use Rattle.std.proofs.lemmas.Result.{IfOk-weaker}
use Rattle.sgt_certify_stuck.proofs.Clear.{apart-from, clear-changes, clear-over, clear-puts, clear-reads}
use Rattle.sgt_certify_stuck.proofs.apart.are_apart.Goals as goal

pub returns-then-not-free_of_reads : goal.returns-then-not-free_of_reads
returns-then-not-free_of_reads c = (
  λ no. absurd (true≢false (sym no)),
  λ apart. absurd (true≢false (sym (c.in_ok-free_of_reads.ensures.1 (clear-reads _ _ _ apart))
      ∙ c.if-not-free_of_reads.true)),
)

pub returns-then-not-free_of_changes : goal.returns-then-not-free_of_changes
returns-then-not-free_of_changes c = (
  λ no. absurd (true≢false (sym no)),
  λ apart. absurd (true≢false (sym (c.in_ok-free_of_changes.ensures.1 (clear-changes _ _ _ apart))
      ∙ c.if-not-free_of_changes.true)),
)

pub returns-then-not-free_of_puts : goal.returns-then-not-free_of_puts
returns-then-not-free_of_puts c = (
  λ no. absurd (true≢false (sym no)),
  λ apart. absurd (true≢false (sym (c.in_ok-free_of_puts.ensures.1 (clear-puts _ _ _ apart))
      ∙ c.if-not-free_of_puts.true)),
)

pub returns : goal.returns
returns c =
    IfOk-weaker c.is_clear-4.result _ _
    (λ clear h. (
      λ yes. apart-from c.args.entries.now c.args.sources.now c.args.barred.now
          (c.in_ok-free_of_reads.ensures.0 c.if-not-free_of_reads.false)
          (c.in_ok-free_of_changes.ensures.0 c.if-not-free_of_changes.false)
          (c.in_ok-free_of_puts.ensures.0 c.if-not-free_of_puts.false) (h.0 yes),
      λ apart. h.1 (clear-over _ _ _ apart),
    ))
    c.is_clear-4.ensures
