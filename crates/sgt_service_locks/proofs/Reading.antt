-- A kept read shows in the draft.
use Rattle.std.proofs.Common.{◌≡◌, ℕ, ◌+◌, ◌<◌, ◌==◌, Bool, true, List, [], ◌∷◌, ◌++◌, length, Option, Some, None, refl, sym, ap, ◌∙◌, arith}
use Rattle.std.specs.Prelude.{option_and_then, IfSome, IsTrue}
use Rattle.std.specs.Option.{option_to_list}
use Rattle.std.proofs.lemmas.Bool.{eqb-true}
use Rattle.std.proofs.lemmas.List.{append-nil, length-append}
use Rattle.sgt_names.specs.Name.{Name}
use Rattle.sgt_names.specs.Log.{value_with_any}
use Rattle.sgt_names.specs.DraftParts.{PartView, touched_in}
use Rattle.sgt_names.specs.Draft.{look_of, place_of, touched_at, change_at, AreRising, ChangesOnly}
use Rattle.sgt_names.specs.declared.draft.Seen.{Seen}
use Rattle.sgt_names.specs.declared.draft.Touch.{Touch}
use Rattle.sgt_names.specs.declared.entry.Change.{Change}
use Rattle.sgt_names.specs.declared.entry.Change.TheVariants.{Put, Add}
use Rattle.sgt_service_locks.specs.Reads.{look_in}
use Rattle.sgt_service_locks.proofs.Earlier.{was_there}

shows : (v : ℕ) (c : Option Change) → value_with_any (Some v) c ≡ None → ⊥
shows v None e = cc
shows v (Some (Put u)) e = cc
shows v (Some (Add u)) e = cc

pub seen_shows : (old new : List Touch) (site : ℕ) (x : Name) (seen : Seen) (change : Option Change) → AreRising new
    → ChangesOnly old new (record { site = site; item = x; seen = Some seen; change = change })
    → ((o n : List Touch) (t : Touch) → AreRising n → ChangesOnly o n t → touched_at n (place_of t) ≡ Some t)
    → look_in new site x ≡ None → ⊥
seen_shows old new site x seen change rising changes law none =
    let t : Touch = record { site = site; item = x; seen = Some seen; change = change } in
    let at : touched_at new (site, x) ≡ Some t = law old new t rising changes in
    shows seen.value change (sym (ap (option_and_then look_of) at) ∙ none)

-- a list that an item was put into is longer only where nothing was in its place
none_there : (there : Option Touch) (front rest : List Touch) (t : Touch)
    → length (front ++ (option_to_list there ++ rest)) < length (front ++ t ∷ rest) → there ≡ None
none_there None front rest t more = refl
none_there (Some u) front rest t more =
    absurd (omega (arith, more, length-append front (u ∷ rest), length-append front (t ∷ rest)))

-- a read of an item that is new to a draft shows there as it is
pub new_shows : (old new : List Touch) (site : ℕ) (x : Name) (seen : Seen) → AreRising new
    → ChangesOnly old new (record { site = site; item = x; seen = Some seen; change = change_at old (site, x) })
    → ((o n : List Touch) (t : Touch) → AreRising n → ChangesOnly o n t → touched_at n (place_of t) ≡ Some t)
    → (before after : Option ℕ) (longer : Bool) → IfSome before (λ n. n ≡ length old)
    → IfSome after (λ n. n ≡ length new)
    → ((m n : ℕ) → IfSome before (λ k. k ≡ m) → IfSome after (λ k. k ≡ n) → IsTrue longer → m < n)
    → IsTrue longer → look_in new site x ≡ Some seen.value
new_shows old new site x seen rising changes law before after longer was is more_where holds =
    let more : length old < length new = more_where (length old) (length new) was is holds in
    let t : Touch = record { site = site; item = x; seen = Some seen; change = change_at old (site, x) } in
    let at : touched_at new (site, x) ≡ Some t = law old new t rising changes in
    let longer : length (changes.front ++ (option_to_list changes.there ++ changes.rest))
    < length (changes.front ++ t ∷ changes.rest) =
    omega (arith, more, ap length changes.was, ap length changes.is) in
    let none : changes.there ≡ None = none_there changes.there changes.front changes.rest t longer in
    let unchanged : change_at old (site, x) ≡ None =
    ap (option_and_then (λ (u : Touch). u.change)) (was_there old new t rising changes ∙ none) in
    ap (option_and_then look_of) at ∙ ap (value_with_any (Some seen.value)) unchanged

-- without parts one list is all that is touched
nothing : (ps : List PartView) → length ps ≡ 0 → ps ≡ []
nothing [] e = refl
nothing (p ∷ ps) e = absurd cc

pub in_one_list : (few : List Touch) (parts : List PartView) (touched : List Touch) (n : ℕ) (none : Bool)
    → few ++ touched_in parts ≡ touched → none ≡ (length parts == 0) → none ≡ true → n ≡ length few → n ≡ length touched
in_one_list few parts touched n none all is holds count =
    let without : parts ≡ [] = nothing parts (eqb-true _ 0 (sym is ∙ holds)) in
    count ∙ ap length (sym (append-nil few) ∙ (ap (λ ps. few ++ touched_in ps) (sym without) ∙ all))
