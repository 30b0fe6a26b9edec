use Rattle.std.proofs.Common.{◌/◌, ◌%◌, slice_index_or, sym, ◌∙◌, arith}
use Rattle.std.proofs.lemmas.Bool.{eqb-true, eq-eqb, false≢true}
use Rattle.std.proofs.lemmas.Nat.Bits.{shr_and_one}
use Rattle.sgt_audit_cells.specs.private.Rows.{HasBit}
use Rattle.sgt_audit_cells.proofs.Rows.{past_bits}
use Rattle.sgt_audit_cells.proofs.row.has_bit.Goals as goal

pub returns-then-at-words : goal.returns-then-at-words
unfolding HasBit
returns-then-at-words c =
    let same = shr_and_one (slice_index_or c.args.words.now (c.args.at / 64) 0) (c.args.at % 64) in
    (λ h. sym same ∙ eqb-true _ _ h, λ has. eq-eqb _ _ (same ∙ has))

pub returns-else-at-words : goal.returns-else-at-words
returns-else-at-words c = (
  λ h. absurd (false≢true h),
  λ has. absurd (past_bits c.args.words.now c.args.at (omega (arith, c.if-at-words.false)) has),
)
