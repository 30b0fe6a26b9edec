use Rattle.std.proofs.Common.{◌≡◌, ◌++◌, ◌∷◌, [], List, length, Result, Ok, Err, refl, ◌∙◌, ap, sym, subst, All}
use Rattle.std.specs.Prelude.{OnOk}
use Rattle.std.proofs.lemmas.Bool.{eqb-true}
use Rattle.std.proofs.lemmas.List.{append-nil}
use Rattle.sgt_names.specs.Draft.{AreRising, IsUsed}
use Rattle.sgt_names.specs.DraftParts.{PartView, touched_in}
use Rattle.sgt_names.specs.declared.draft.Touch.{Touch}
use Rattle.sgt_core_machine.specs.private.Whole.{AreTouched}
use Rattle.sgt_core_machine.proofs.TouchedSites.{listed_touched}
use Rattle.sgt_core_machine.proofs.whole.list_touched.Goals as goal

nothing : (ps : List PartView) → length ps ≡ 0 → ps ≡ []
nothing [] e = refl
nothing (p ∷ ps) e = absurd cc

-- without parts the list is all that is touched
whole : (few : List Touch) (parts : List PartView) (touched : List Touch) → few ++ touched_in parts ≡ touched
    → length parts ≡ 0 → few ≡ touched
whole few parts touched all none =
    sym (append-nil few) ∙ (ap (λ ps. few ++ touched_in ps) (sym (nothing parts none)) ∙ all)

weaker : {A E P Q : Type 0} (r : Result A E) → (P → Q) → OnOk r P → OnOk r Q
weaker (Ok a) f p = f p
weaker (Err e) f p = tt

pub list_few-requires-clause-rising : goal.list_few-requires-clause-rising
list_few-requires-clause-rising c =
    let all = whole c.touched.result.0.now c.touched.result.1.now c.args.draft.now.touched c.touched.ensures.all
    (eqb-true _ 0 (sym c.is_empty.ensures ∙ c.if-is_empty.true)) in
    subst AreRising (sym all) c.touched.ensures.rising

pub list_few-requires-clause-used : goal.list_few-requires-clause-used
list_few-requires-clause-used c =
    let all = whole c.touched.result.0.now c.touched.result.1.now c.args.draft.now.touched c.touched.ensures.all
    (eqb-true _ 0 (sym c.is_empty.ensures ∙ c.if-is_empty.true)) in
    subst (All IsUsed) (sym all) c.touched.ensures.used

pub returns-then-is_empty : goal.returns-then-is_empty
returns-then-is_empty c =
    let all = whole c.touched.result.0.now c.touched.result.1.now c.args.draft.now.touched c.touched.ensures.all
    (eqb-true _ 0 (sym c.is_empty.ensures ∙ c.if-is_empty.true)) in
    subst (λ ts. OnOk c.list_few.result (AreTouched ts c.args.count c.list_few.new.sites.items)) all c.list_few.ensures

pub returns : goal.returns
returns c =
    weaker c.list_below.result (listed_touched c.of.result c.args.draft.now.touched c.args.count
    c.list_below.new.sites.items c.of.ensures) c.list_below.ensures
