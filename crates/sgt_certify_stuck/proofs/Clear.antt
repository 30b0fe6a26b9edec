-- A pass over a log that keeps the items that were seen.
use Rattle.std.proofs.Common.{◌≡◌, inl, inr, ◌⊎◌, ℕ, ◌+◌, ◌<◌, Bool, true, false, List, Some, BTreeSet, IsTrue, refl, sym, ap, ◌∙◌, subst, arith}
use Rattle.std.specs.Prelude.{slice_get}
use Rattle.std.proofs.lemmas.Bool.{cases_eq, true≢false}
use Rattle.std.proofs.lemmas.Option.{same_Some}
use Rattle.sgt_names.specs.Name.{Name}
use Rattle.sgt_names.specs.Entry.{tx_of, item_of, is_increment}
use Rattle.sgt_names.specs.declared.entry.Entry.{Entry}
use Rattle.sgt_names.specs.declared.entry.Entry.TheVariants.{Read}
use Rattle.sgt_names.specs.declared.entry.Kind.TheVariants.{Wr, Rw, Ww}
use Rattle.sgt_certify_stuck.specs.Apart.{AreApart, Does, HasItem, HasTx, IsClear}
use Rattle.sgt_certify_stuck.specs.declared.apart.Class.{Class}
use Rattle.sgt_names.proofs.Elements.{bool_cases}
use Rattle.sgt_notation.proofs.DecidableEntries.{reads-item, writes-item}
use Rattle.sgt_certify_stuck.specs.declared.apart.Class.TheVariants as class

-- one of the first n entries is of a source and does this to the item
abbrev pub IsSeen : List Entry → ℕ → BTreeSet ℕ → Class → Name → Type 0
IsSeen entries n sources first x = (p : ℕ) × (e : Entry) × (p < n) × (slice_get entries p ≡ Some e)
    × HasTx sources (tx_of e) × Does first x e

-- what was seen of the first n entries
pub record HasSeen (entries : List Entry) (n : ℕ) (sources barred : BTreeSet ℕ) (first second : Class)
    (seen : BTreeSet (List ℕ)) : Type 0 where
  pub kept : (p : ℕ) (e : Entry) (x : Name) → p < n → slice_get entries p ≡ Some e → HasTx sources (tx_of e)
      → Does first x e → HasItem seen x
  pub clear : (p q : ℕ) (e f : Entry) (x : Name) → p < q → q < n → slice_get entries p ≡ Some e
      → slice_get entries q ≡ Some f
      → HasTx sources (tx_of e) → HasTx barred (tx_of f) → Does first x e → Does second x f → ⊥
  pub only : (x : Name) → HasItem seen x → IsSeen entries n sources first x

seen-later : (entries : List Entry) (n : ℕ) (sources : BTreeSet ℕ) (first : Class) (x : Name)
    → IsSeen entries n sources first x
    → IsSeen entries (n + 1) sources first x
seen-later entries n sources first x (p, e, lt, at, source, does) = (p, e, omega (arith, lt), at, source, does)

-- where a barred entry meets what was seen, the log isn't clear
pub not-clear : (entries : List Entry) (n : ℕ) (sources barred : BTreeSet ℕ) (first second : Class) (x : Name)
    (f : Entry)
    → IsSeen entries n sources first x → slice_get entries n ≡ Some f → HasTx barred (tx_of f) → Does second x f
    → IsClear entries sources barred first second → ⊥
not-clear entries n sources barred first second x f (p, e, lt, at, source, does) here bars then clear =
    clear p n e f x lt at here source bars does then

pub seen-next : (entries : List Entry) (n : ℕ) (sources barred : BTreeSet ℕ) (first second : Class)
    (seen next : BTreeSet (List ℕ)) (e : Entry)
    → HasSeen entries n sources barred first second seen → slice_get entries n ≡ Some e
    → ((x : Name) → HasItem seen x → HasTx barred (tx_of e) → Does second x e → ⊥)
    → ((x : Name) → HasItem seen x → HasItem next x)
    → ((x : Name) → HasTx sources (tx_of e) → Does first x e → HasItem next x)
    → ((x : Name) → HasItem next x → HasItem seen x ⊎ (HasTx sources (tx_of e) × Does first x e))
    → HasSeen entries (n + 1) sources barred first second next
seen-next entries n sources barred first second seen next e had at misses kept added only = record {
  kept = λ p f x lt at_p source does.
      elim (cases_eq p n) [
        | inl last ↦
            let one : f ≡ e = same_Some f e (sym at_p ∙ ap (slice_get entries) last ∙ at) in
            added x (subst (λ (g : Entry). HasTx sources (tx_of g)) one source)
            (subst (λ (g : Entry). Does first x g) one does)
        | inr before ↦ kept x (had.kept p f x (omega arith) at_p source does)
      ];
  clear = λ p q f g x lt within at_p at_q source bars does then.
      elim (cases_eq q n) [
        | inl last ↦
            let one : g ≡ e = same_Some g e (sym at_q ∙ ap (slice_get entries) last ∙ at) in
            misses x (had.kept p f x (omega arith) at_p source does)
            (subst (λ (h : Entry). HasTx barred (tx_of h)) one bars)
            (subst (λ (h : Entry). Does second x h) one then)
        | inr before ↦ had.clear p q f g x lt (omega arith) at_p at_q source bars does then
      ];
  only = λ x has.
      elim (only x has) [
        | inl before ↦ seen-later entries n sources first x (had.only x before)
        | inr now ↦ (n, e, omega arith, at, now.0, now.1)
      ];
}

-- the four passes find each clash
pub apart-from : (entries : List Entry) (sources barred : BTreeSet ℕ)
    → IsClear entries sources barred class.Change class.Read
    → IsClear entries sources barred class.Read class.Change → IsClear entries sources barred class.Change class.Put
    → IsClear entries sources barred class.Put class.Change → AreApart entries sources barred
apart-from entries sources barred reads changes puts over Wr x p q e f lt at_p at_q source bars clash =
    reads p q e f x lt at_p at_q source bars clash.0 clash.1
apart-from entries sources barred reads changes puts over Rw x p q e f lt at_p at_q source bars clash =
    changes p q e f x lt at_p at_q source bars clash.0 clash.1
apart-from entries sources barred reads changes puts over Ww x p q e f lt at_p at_q source bars clash =
    elim (bool_cases (is_increment e)) [
      | inl adds ↦ puts p q e f x lt at_p at_q source bars clash.0 (
        clash.1,
        λ (both : IsTrue (is_increment f)). clash.2 adds both,
      )
      | inr writes ↦ over p q e f x lt at_p at_q source bars (
        clash.0,
        λ (adds : IsTrue (is_increment e)). true≢false (sym adds ∙ writes),
      ) clash.1
    ]

-- and find nothing else
pub clear-reads : (entries : List Entry) (sources barred : BTreeSet ℕ) → AreApart entries sources barred
    → IsClear entries sources barred class.Change class.Read
clear-reads entries sources barred apart p q e f x lt at_p at_q source bars does then =
    apart Wr x p q e f lt at_p at_q source bars (does, then)

pub clear-changes : (entries : List Entry) (sources barred : BTreeSet ℕ) → AreApart entries sources barred
    → IsClear entries sources barred class.Read class.Change
clear-changes entries sources barred apart p q e f x lt at_p at_q source bars does then =
    apart Rw x p q e f lt at_p at_q source bars (does, then)

pub clear-puts : (entries : List Entry) (sources barred : BTreeSet ℕ) → AreApart entries sources barred
    → IsClear entries sources barred class.Change class.Put
clear-puts entries sources barred apart p q e f x lt at_p at_q source bars does then =
    apart Ww x p q e f lt at_p at_q source bars (does, then.0, λ adds both. then.1 both)

pub clear-over : (entries : List Entry) (sources barred : BTreeSet ℕ) → AreApart entries sources barred
    → IsClear entries sources barred class.Put class.Change
clear-over entries sources barred apart p q e f x lt at_p at_q source bars does then =
    apart Ww x p q e f lt at_p at_q source bars (does.0, then, λ adds both. does.1 adds)
