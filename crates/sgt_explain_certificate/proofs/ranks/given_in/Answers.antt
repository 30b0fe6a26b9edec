use Rattle.std.proofs.Common.{rules, ap, ◌∙◌, sym, subst, arith, take_all, List}
use Rattle.std.specs.Prelude.{IsPermutation}
use Rattle.std.proofs.lemmas.Fn.{always_returns_same}
use Rattle.std.proofs.lemmas.List.Sorted.{IsNonDecreasingBy-from_sort}
use Rattle.sgt_explain_certificate.specs.declared.ranks.Given.{Given}
use Rattle.sgt_explain_certificate.specs.Ranks.{all_given}
use Rattle.sgt_names.proofs.Lists.{element_at}
use Rattle.sgt_explain_certificate.proofs.Giving.{given-one-more, given-none-more}
use Rattle.sgt_explain_certificate.proofs.ranks.given_in.Goals as goal
use Rattle.sgt_explain_certificate.proofs.ranks.given_in.Goals.{in-Some+in_ok-push, in_default}

pub loop-number-preserved : goal.loop-number-preserved
loop-number-preserved c =
    let ds = c.args.decisions.now in
    let n = c.loop-number.number in
    let d = c.index-decisions-number.result in
    let gs = c.loop-number.given.items in
    let at = element_at ds n d (omega arith) c.index-decisions-number.is in
    elim c.match-given_by.branch [
      | in-Some+in_ok-push w ↦
          rw w.given-is
          (rw w.in_ok-push.ensures.items (given-one-more ds n d w.in-Some.one gs at (sym c.given_by.ensures
          ∙ w.in-Some.is) c.loop-number.invariant))
      | in_default w ↦ rw w.given-is (given-none-more ds n d gs at (sym c.given_by.ensures
          ∙ w.in_default.is) c.loop-number.invariant)
    ]

pub returns : goal.returns
returns c =
    let decisions = c.args.decisions.now in
    let facts = c.in_ok-sort_by_key.ensures in
    record {
      all = subst (λ (gs : List Given). IsPermutation gs c.sort_by_key.new.self.items) (c.loop-number.invariant
          ∙ ap all_given (take_all c.loop-number.number decisions (omega (arith, c.loop-number-test.false))))
          facts.permutation;
      rising = IsNonDecreasingBy-from_sort (λ (g : Given). g.rank) c.sort_by_key.new.self.items
          (facts.sorted (λ (g : Given). g.rank)
          (always_returns_same _ _ _ (λ a r g called. (search rules, search rules))));
    }
