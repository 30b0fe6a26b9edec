use mathlib.Core.Bool.{false≢true}
use Rattle.std.proofs.Common.{refl, sym, ◌∙◌, inl, inr}
use Rattle.std.proofs.lemmas.Bool.{cases_Bool}
use Rattle.sgt_site.proofs.PendingReads.{free-slot, own-slot, other-slot}
use Rattle.sgt_site.proofs.pending.may_hold.Goals as goal

pub returns-then-is_free-clause-may : goal.returns-then-is_free-clause-may
returns-then-is_free-clause-may c = λ _. inl (c.if-is_free.ensures.0 refl)

pub returns-then-is_free-clause-not : goal.returns-then-is_free-clause-not
returns-then-is_free-clause-not c = inr (free-slot c.args.slot.now c.args.tx (c.if-is_free.ensures.0 refl))

pub returns-else-is_free-clause-may : goal.returns-else-is_free-clause-may
returns-else-is_free-clause-may c = λ hit. inr (c.is_of.ensures.0 hit)

pub returns-else-is_free-clause-free : goal.returns-else-is_free-clause-free
returns-else-is_free-clause-free c =
    λ hit none. absurd
    (false≢true (c.if-is_free.ensures.1 (sym (own-slot c.args.slot.now c.args.tx (c.is_of.ensures.0 hit)) ∙ none)))

pub returns-else-is_free-clause-not : goal.returns-else-is_free-clause-not
returns-else-is_free-clause-not c = elim (cases_Bool c.is_of.result) [
  | inl hit ↦ inl hit
  | inr miss ↦ inr (other-slot c.args.slot.now c.args.tx (λ same. false≢true (sym miss ∙ c.is_of.ensures.1 same)))
]
