-- Where a site and its items are found.
use Rattle.std.proofs.Common.{inl, inr, ◌≡◌, Bool, true, ◌<◌, ◌≤◌, ℕ, List, length, refl, sym, ◌∙◌, arith, Contains, Option, Some, None, subst, ap}
use Rattle.std.specs.Prelude.{slice_get, slice_set, option_map, false, get_or, IsTrue, is_ok, is_err, Result, Ok, Err, OnOk, OnErr, IfErr}
use Rattle.std.proofs.lemmas.Bool.{true≢false}
use Rattle.std.proofs.lemmas.Option.{slice_get-map, slice_get_read, slice_get_within}
use Rattle.sgt_names.specs.Name.{Name}
use Rattle.sgt_names.specs.Log.{names}
use Rattle.sgt_names.proofs.Lists.{option_cases}
use Rattle.sgt_order.proofs.Lists.{set_same}
use Rattle.sgt_core_machine.specs.declared.machine.Place.{Place}
use Rattle.sgt_core_machine.specs.declared.machine.Running.{Running}
use Rattle.sgt_core_model.specs.Core.{CoreState, items_in, items_at}
use Rattle.sgt_core_model.specs.Step.{IsOfSite}
use Rattle.sgt_core_machine.specs.Machine.{Parts, StandsFor}
use Rattle.sgt_names.proofs.Elements.{contains-none}

-- the items of a site are those of its place
pub items_there : (m : Parts) (c : CoreState) (s : ℕ) (o : Option Place) → StandsFor m c → slice_get m.places s ≡ o
    → items_at c s ≡ items_in (option_map (λ (p : Place). p.site.items) o)
items_there m c s o stands at =
    ap (λ items. items_in (slice_get items s)) stands.items
    ∙ (ap items_in (slice_get-map (λ (p : Place). p.site.items) m.places s)
    ∙ ap (λ q. items_in (option_map (λ (p : Place). p.site.items) q)) at)

pub of_place : (m : Parts) (c : CoreState) (s : ℕ) (x : Name) (p : Place) → StandsFor m c
    → slice_get m.places s ≡ Some p → Contains (names p.site.items) x → IsOfSite c s x
of_place m c s x p stands at h =
    subst (λ items. Contains (names items) x) (sym (items_there m c s (Some p) stands at)) h

pub to_place : (m : Parts) (c : CoreState) (s : ℕ) (x : Name) (p : Place) → StandsFor m c
    → slice_get m.places s ≡ Some p → IsOfSite c s x → Contains (names p.site.items) x
to_place m c s x p stands at h = subst (λ items. Contains (names items) x) (items_there m c s (Some p) stands at) h

pub of_none : (m : Parts) (c : CoreState) (s : ℕ) (x : Name) → StandsFor m c → slice_get m.places s ≡ None
    → IsOfSite c s x → ⊥
of_none m c s x stands at h =
    contains-none x (subst (λ items. Contains (names items) x) (items_there m c s None stands at) h)

-- ---- results

pub not_true : (b : Bool) → b ≡ false → IsTrue b → ⊥
not_true b e t = true≢false (sym t ∙ e)

pub ok_iff : {A E : Type 0} (P : Type 0) (Q : E → Type 0) (r : Result A E) → OnOk r P → IfErr r (λ f. Q f × (P → ⊥))
    → (IsTrue (is_ok r) → P) × (P → IsTrue (is_ok r))
ok_iff P Q (Ok a) p out = (λ t. p, λ q. refl)
ok_iff P Q (Err e) p out = (λ t. absurd (true≢false (sym t)), λ q. absurd (out.1 q))

pub OnErr_then : {A E : Type 0} {P Q : Type 0} (r : Result A E) → OnErr r P → (P → Q) → OnErr r Q
OnErr_then (Ok a) p f = tt
OnErr_then (Err e) p f = f p

-- an element that was put back as it was
pub put_back : (table : List (Option Running)) (slot : ℕ) (r : Running) (e : Option Running) → slot < length table
    → e ≡ get_or table slot e → e ≡ Some r
    → slice_set table slot (Some r) ≡ table
put_back table slot r e lt at is = set_same table slot (Some r) (slice_get_read table (length table) slot e refl lt at
    ∙ ap Some is)

pub beyond : {A : Type 0} (xs : List A) (n : ℕ) → length xs ≤ n → slice_get xs n ≡ None
beyond xs n le = elim (option_cases (slice_get xs n)) [
  | inl none ↦ none
  | inr some ↦ absurd (let lt = slice_get_within xs n some.0 some.1 in omega arith)
]

pub ok_of : {A E : Type 0} {P : Type 0} (r : Result A E) (a : A) → r ≡ Ok a → OnOk r P → P
ok_of (Ok b) a e p = p
ok_of (Err f) a e p = absurd (let g = e in cc)

pub err_of : {A E : Type 0} {P : Type 0} (r : Result A E) → is_err r ≡ true → OnErr r P → P
err_of (Ok a) e p = absurd (true≢false (sym e))
err_of (Err f) e p = p

pub ok_by : {A E : Type 0} {P : Type 0} (r : Result A E) → is_err r ≡ false → OnOk r P → P
ok_by (Ok a) e p = p
ok_by (Err f) e p = absurd (true≢false e)

-- what was found at a place of the table where a transaction is active
pub found_there : (table : List (Option Running)) (slot : ℕ) (e : Option Running) (q : Running)
    → slice_get table slot ≡ Some (Some q) → e ≡ get_or table slot e → slice_get table slot ≡ Some e
found_there table slot e q at is =
    slice_get_read table (length table) slot e refl (slice_get_within table slot (Some q) at) is

pub someone_there : (table : List (Option Running)) (slot : ℕ) (e : Option Running) (q : Running)
    → slice_get table slot ≡ Some (Some q) → e ≡ get_or table slot e → e ≡ None → ⊥
someone_there table slot e q at is none = let f : ◌≡◌ {A = Option (Option Running)} (Some (Some q)) (Some None) =
    sym at ∙ (found_there table slot e q at is ∙ ap Some none) in cc
