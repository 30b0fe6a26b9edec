use Rattle.std.proofs.Common.{◌≡◌, Some, None, sym, subst, ◌∙◌, ap, arith}
use Rattle.std.proofs.lemmas.Option.{same_Some}
use Rattle.sgt_names.specs.Entry.{tx_of, IsEnd}
use Rattle.sgt_names.specs.declared.entry.Entry.{Entry}
use Rattle.sgt_certify_logs.specs.Steps.{IsEndStep}
use Rattle.sgt_certify_logs.proofs.checks.is_end_step.Goals as goal

pub returns-in_default : goal.returns-in_default
returns-in_default c = (
  λ no. absurd cc,
  λ (h : IsEndStep c.args.sites.now c.args.step.now). absurd
      (c.in_default.not-Some h.e ((c.entry_at.ensures h.e).1 h.first)),
)

pub returns-in_default-entry_at : goal.returns-in_default-entry_at
returns-in_default-entry_at c = (
  λ no. absurd cc,
  λ (h : IsEndStep c.args.sites.now c.args.step.now). absurd
      (c.in_default-entry_at.not-Some h.f ((c.entry_at-2.ensures h.f).1 h.second)),
)

pub returns : goal.returns
returns c = (
  λ yes.
      let are = c.are_ends_of.ensures.0 yes in
      record {
        e = c.in-Some.first;
        f = c.in-Some-entry_at.second;
        before = omega arith;
        first = (c.entry_at.ensures c.in-Some.first).0 c.in-Some.is;
        second = (c.entry_at-2.ensures c.in-Some-entry_at.second).0 c.in-Some-entry_at.is;
        ends = (are.0.0, are.1.0);
        from = are.0.1;
        to = are.1.1;
      },
  λ (h : IsEndStep c.args.sites.now c.args.step.now).
      let e : h.e ≡ c.in-Some.first = same_Some h.e c.in-Some.first (sym ((c.entry_at.ensures h.e).1 h.first)
      ∙ c.in-Some.is) in
      let f : h.f ≡ c.in-Some-entry_at.second =
      same_Some h.f c.in-Some-entry_at.second (sym ((c.entry_at-2.ensures h.f).1 h.second)
      ∙ c.in-Some-entry_at.is) in
      c.are_ends_of.ensures.1 (
        subst (λ (x : Entry). IsEnd x × (tx_of x ≡ c.args.step.now.from)) e (h.ends.0, h.from),
        subst (λ (x : Entry). IsEnd x × (tx_of x ≡ c.args.step.now.to)) f (h.ends.1, h.to),
      ),
)
