-- The value of an item after one more entry.
use Rattle.std.proofs.Common.{◌≡◌, ◌≢◌, ℕ, ◌+◌, ◌-◌, ◌<◌, ◌≤◌, List, [], ◌∷◌, ◌++◌, length, Option, Some, None, inl, inr, refl, sym, ap, ◌∙◌, arith, length-append, take_all}
use Rattle.std.specs.Prelude.{fold}
use Rattle.std.specs.List.{filter_map, cons_option}
use Rattle.std.proofs.lemmas.Bool.{cases_lt}
use Rattle.std.proofs.lemmas.List.{take-append-le}
use Rattle.std.proofs.lemmas.List.Elements.{filter_map-append}
use Rattle.std.proofs.lemmas.List.Sums.{fold-append}
use Rattle.std.proofs.lemmas.Option.{same_Some, slice_get_within}
use Rattle.sgt_names.proofs.Lists.{front_at, middle_at}
use Rattle.sgt_names.specs.Name.{Name}
use Rattle.sgt_names.specs.Entry.{change_of}
use Rattle.sgt_names.specs.Log.{value_with, value_with_any, value_after}
use Rattle.sgt_names.specs.declared.entry.Change.{Change}
use Rattle.sgt_explain_lines.specs.declared.section.Logged.{Logged}
use Rattle.sgt_explain_lines.specs.Values.{entries_of, latest, HasBehind, HadUntil}

any-next : (a : Option ℕ) (o : Option Change) → value_with_any a o ≡ fold value_with a (cons_option o [])
any-next a None = refl
any-next a (Some c) = refl

entries-next : (ls : List Logged) (l : Logged) → entries_of (ls ++ l ∷ []) ≡ entries_of ls ++ l.entry ∷ []
entries-next [] l = refl
entries-next (k ∷ ls) l = ap (λ es. k.entry ∷ es) (entries-next ls l)

-- a value that one more entry makes of the value so far
pub value-next : (x : Name) (v : Option ℕ) (ls : List Logged) (l : Logged) (m n : ℕ)
    → Some m ≡ value_after v (entries_of ls) x
    → Some n ≡ value_with_any (Some m) (change_of x l.entry) → Some n ≡ value_after v (entries_of (ls ++ l ∷ [])) x
value-next x v ls l m n before step =
    step ∙ any-next (Some m) (change_of x l.entry)
    ∙ ap (λ a. fold value_with a (cons_option (change_of x l.entry) [])) before
    ∙ sym (fold-append value_with v (filter_map (change_of x) (entries_of ls)) (cons_option (change_of x l.entry) []))
    ∙ ap (fold value_with v) (sym (filter_map-append (change_of x) (entries_of ls) (l.entry ∷ [])))
    ∙ ap (λ es. value_after v es x) (sym (entries-next ls l))

pub by-next : (x : Name) (a : Option Logged) (ls : List Logged) (l : Logged) (b c : Option Logged)
    → b ≡ fold (latest x) a ls
    → c ≡ latest x b l → c ≡ fold (latest x) a (ls ++ l ∷ [])
by-next x a ls l b c before step = step ∙ ap (λ o. latest x o l) before ∙ sym (fold-append (latest x) a ls (l ∷ []))

-- ---- up to which line an item had a value

-- with one more entry the values before it are the same
front-same : (o : Option ℕ) (ls : List Logged) (l : Logged) (x : Name) (v q : ℕ) → q ≤ length ls
    → HasBehind o (ls ++ l ∷ []) x v q → HasBehind o ls x v q
front-same o ls l x v q le has = ap (λ es. value_after o (entries_of es) x) (sym (take-append-le q ls (l ∷ []) le))
    ∙ has

front-kept : (o : Option ℕ) (ls : List Logged) (l : Logged) (x : Name) (v q : ℕ) → q ≤ length ls
    → HasBehind o ls x v q → HasBehind o (ls ++ l ∷ []) x v q
front-kept o ls l x v q le has = ap (λ es. value_after o (entries_of es) x) (take-append-le q ls (l ∷ []) le) ∙ has

-- where the item has another value behind the last entry, what holds of the places before holds of all
none-behind : (o : Option ℕ) (ls : List Logged) (l : Logged) (x : Name) (v n : ℕ) (P : ℕ → Type 0)
    → Some n ≡ value_after o (entries_of (ls ++ l ∷ [])) x → n ≢ v
    → ((q : ℕ) → P q → q ≤ length ls → HasBehind o ls x v q → ⊥) → (q : ℕ) → P q → q ≤ length (ls ++ l ∷ [])
    → HasBehind o (ls ++ l ∷ []) x v q → ⊥
none-behind o ls l x v n P value other none q p le has =
    elim (cases_lt (length ls) q) [
      | inl beyond ↦ (let long : length (ls ++ l ∷ []) ≡ length ls + 1 = length-append ls (l ∷ []) in
          other (same_Some n v (value
          ∙ ap (λ es. value_after o (entries_of es) x)
          (sym (take_all q (ls ++ l ∷ []) (omega (arith, beyond, long)))) ∙ has)))
      | inr within ↦ none q p within (front-same o ls l x v q within has)
    ]

-- the entry changes the value to another
pub until-here : (o : Option ℕ) (ls : List Logged) (l : Logged) (x : Name) (v n line : ℕ)
    → value_after o (entries_of ls) x ≡ Some v
    → Some n ≡ value_after o (entries_of (ls ++ l ∷ [])) x → n ≢ v → line ≡ l.line - 1
    → HadUntil o (ls ++ l ∷ []) x v (Some line)
until-here o ls l x v n line here value other at = (
  length ls,
  l,
  middle_at ls l [],
  at,
  front-kept o ls l x v (length ls) (omega arith)
      (ap (λ es. value_after o (entries_of es) x) (take_all (length ls) ls (omega arith)) ∙ here),
  none-behind o ls l x v n (λ q. length ls < q) value other (λ q less le has. omega (arith, less, le)),
)

-- the item had another value before the entry, and has another one behind it
pub until-before : (o : Option ℕ) (ls : List Logged) (l : Logged) (x : Name) (v n : ℕ) (last : Option ℕ)
    → Some n ≡ value_after o (entries_of (ls ++ l ∷ [])) x → n ≢ v
    → HadUntil o ls x v last → HadUntil o (ls ++ l ∷ []) x v last
until-before o ls l x v n (Some line) value other h =
    let less = slice_get_within ls h.0 h.1 h.2 in (
      h.0,
      h.1,
      front_at ls (l ∷ []) h.0 h.1 h.2,
      h.3,
      front-kept o ls l x v h.0 (omega (arith, less)) h.4,
      none-behind o ls l x v n (λ q. h.0 < q) value other h.5,
    )
until-before o ls l x v n None value other none =
    λ q le has. none-behind o ls l x v n (λ q. Unit {0}) value other (λ q u le has. none q le has) q tt le has
