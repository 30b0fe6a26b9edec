use Rattle.std.proofs.Common.{◌≡◌, ℕ, Some, Option, None, sym, subst, ◌∙◌}
use Rattle.std.specs.Prelude.{IfSome, IfNone, slice_get, List}
use Rattle.std.proofs.lemmas.Option.{same_Some, IfSome_then}
use Rattle.sgt_history.specs.History.{closed_of}
use Rattle.sgt_history.specs.Transaction.{Transaction}
use Rattle.sgt_history_evidence.specs.Values.{GivesIn, GivesAt, IsFirstGivenIn, IsFirstInLine}
use Rattle.sgt_history_evidence.proofs.values.place_in_line.Goals as goal

-- what the line gives, its transaction does
in-line : (h : List (Transaction ℕ ℕ)) (x v line place : ℕ) (t : Transaction ℕ ℕ) → slice_get h line ≡ Some t
    → GivesAt h x v line place → GivesIn t.operations x v place
in-line h x v line place t at gives =
    let same : gives.t ≡ t = same_Some gives.t t (sym gives.committed.0 ∙ at) in
    subst (λ (k : Transaction ℕ ℕ). GivesIn k.operations x v place) same gives.is

none-then : {A : Type 0} (o : Option A) (P Q : Type 0) → (P → Q) → IfNone o P → IfNone o Q
none-then None P Q f p = f p
none-then (Some a) P Q f p = tt

pub returns-clause-some : goal.returns-clause-some
returns-clause-some c =
    let h = closed_of c.args.history.now in
    let t : Transaction ℕ ℕ = record {
      commits = c.transaction_of-commits.result.0;
      operations =
          c.transaction_of-commits.result.1.now;
    } in
    IfSome_then c.first_place.result c.first_place.ensures.some (λ place first. record {
      gives = record {
        t = t;
        committed = (c.transaction_of-commits.ensures.is, c.if-not-commits.false);
        is =
            first.gives;
      };
      first = λ other gives. first.first other
          (in-line h c.args.item c.args.version c.args.line other t c.transaction_of-commits.ensures.is gives);
    })

pub returns-clause-none : goal.returns-clause-none
returns-clause-none c =
    let h = closed_of c.args.history.now in
    let t : Transaction ℕ ℕ = record {
      commits = c.transaction_of-commits.result.0;
      operations =
          c.transaction_of-commits.result.1.now;
    } in
    none-then c.first_place.result _ _
    (λ none place gives. none place
    (in-line h c.args.item c.args.version c.args.line place t c.transaction_of-commits.ensures.is gives))
    c.first_place.ensures.none
