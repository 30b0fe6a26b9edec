use Rattle.std.proofs.Common.{◌≡◌, ℕ, List, Some, slice_get, subst}
use Rattle.std.specs.Prelude.{MatchOption}
use Rattle.sgt_history_text.specs.Table.{IsNew}
use Rattle.sgt_history_text.proofs.Keys.{found}
use Rattle.sgt_history_text.proofs.ids.Ids.find.Goals as goal

pub returns : goal.returns
returns c = λ ids are.
    let told = rw c.in-Some.is at c.in_ok-text.ensures in
    let r = c.number_of.result in
    found c.args.self.now ids are c.args.line.now c.in-Some.text.items told.0 told.1 told.2 told.3 r
    (subst (λ (texts : List (List ℕ)). MatchOption r (IsNew texts c.in-Some.text.items)
    (λ n. slice_get texts n ≡ Some c.in-Some.text.items)) c.self.view_is
    (subst (λ (text : List ℕ). MatchOption r (IsNew c.self.inside.table text)
    (λ n. slice_get c.self.inside.table n ≡ Some text)) c.as_slice.ensures.value c.number_of.ensures))
