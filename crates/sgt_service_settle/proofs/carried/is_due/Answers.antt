use Rattle.std.proofs.Common.{◌≡◌, ◌∙◌, Some, sym, ap, subst, arith, inl, inr}
use Rattle.std.specs.Prelude.{not}
use Rattle.std.proofs.lemmas.Bool.{true≢false, eq-eqb, ne_eqb, leb-true, cases_Bool, cases_eq}
use Rattle.std.proofs.lemmas.Option.{same_Some, none-some}
use Rattle.sgt_service_settle.specs.private.Index.{IsIn}
use Rattle.sgt_service_settle.proofs.carried.is_due.Goals as goal

pub returns-then-number-last : goal.returns-then-number-last
returns-then-number-last c = (
  λ yes. record {
    apart = λ same. true≢false (sym yes
        ∙ (c.ne.ensures
        ∙ ap not (eq-eqb _ _ (c.tx-then-number-last.ensures ∙ (same ∙ sym c.tx-then-number-last-2.ensures)))));
    number = c.in-Some.number;
    commit = subst (λ t. IsIn c.args.commits.now t c.in-Some.number) c.tx.ensures
        ((c.number_of.ensures c.in-Some.number).0 c.in-Some.is);
    early = c.if-number-last.true;
  },
  λ due. elim (cases_Bool c.ne.result) [
    | inl told ↦ told
    | inr untold ↦
        elim (cases_eq c.tx-then-number-last.result c.tx-then-number-last-2.result) [
          | inl same ↦ absurd (due.apart (sym c.tx-then-number-last.ensures ∙ (same ∙ c.tx-then-number-last-2.ensures)))
          | inr other ↦ c.ne.ensures ∙ ap not (ne_eqb c.tx-then-number-last.result c.tx-then-number-last-2.result other)
        ]
  ],
)

pub returns-else-number-last : goal.returns-else-number-last
returns-else-number-last c = (
  λ yes. absurd (omega (arith, c.if-number-last.false, leb-true _ _ yes)),
  λ due.
      let mine : c.number_of.result ≡ Some due.number =
      (c.number_of.ensures due.number).1
      (subst (λ t. IsIn c.args.commits.now t due.number) (sym c.tx.ensures) due.commit) in
      let same = same_Some c.in-Some.number due.number (sym c.in-Some.is ∙ mine) in
      absurd (omega (arith, c.if-number-last.false, same, due.early)),
)

pub returns-in-None : goal.returns-in-None
returns-in-None c = (
  λ yes. absurd (true≢false (sym yes)),
  λ due.
      let mine : c.number_of.result ≡ Some due.number =
      (c.number_of.ensures due.number).1
      (subst (λ t. IsIn c.args.commits.now t due.number) (sym c.tx.ensures) due.commit) in
      absurd (none-some due.number (sym c.in-None.is ∙ mine)),
)
