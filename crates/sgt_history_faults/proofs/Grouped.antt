-- Faults of a group, one touch more.
use Rattle.std.proofs.Common.{◌≡◌, ◌≢◌, ℕ, zero, suc, ◌+◌, ◌<◌, ◌≤◌, Bool, true, false, List, [], ◌∷◌, Option, Some, None, length, take, refl, sym, ap, ◌∙◌, subst, arith, inl, inr, ◌⊎◌, All, Contains, get_or}
use Rattle.std.specs.Prelude.{slice_get, ◌↔◌, ◌==◌}
use Rattle.std.proofs.lemmas.Bool.{cases_eq, cases_lt, eqb-true, eqb-false}
use Rattle.std.proofs.lemmas.Option.{same_Some, slice_get-get_or, slice_get_within}
use Rattle.sgt_names.proofs.Places.{Contains_at, Contains-from_at, slice_get-take, slice_get-take_at}
use Rattle.sgt_history.specs.Flaws.{IsFaulty, rank_of}
use Rattle.sgt_history.specs.Transaction.{Transaction}
use Rattle.sgt_history.specs.declared.history.Kind.TheVariants.{Read, Write}
use Rattle.sgt_history.specs.declared.named.Flaw.{Flaw}
use Rattle.sgt_history.specs.declared.named.Flaw.TheVariants.{Internal, Duplicate, AbortedRead, Unwritten, IntermediateRead, Value}
use Rattle.sgt_history_faults.specs.declared.fault.Fault.{Fault}
use Rattle.sgt_history_faults.specs.declared.touch.Touch.{Touch}
use Rattle.sgt_history_faults.specs.Group.{AreAlike, AreCovered, AreEarlier, HasGroupFlaw, IsCommittedOf, IsEarliest, IsFaultyTouch, IsRead, IsWrite}
use Rattle.sgt_history_faults.specs.Noted.{Covers}

pub covered-next : (writes touches : List Touch) (k : ℕ) (d : Touch) (first next : Option Fault) → k < length touches
    → AreCovered writes (take k touches) first
    → ((line rank place : ℕ) → Covers first line rank place → Covers next line rank place)
    → ((flaw : Flaw) → HasGroupFlaw writes (get_or touches k d) flaw
    → Covers next (get_or touches k d).line (rank_of flaw) (get_or touches k d).place)
    → AreCovered writes (take (k + 1) touches) next
covered-next writes touches k d first next lt covered kept this e flaw in_it has =
    let at = Contains_at (take (k + 1) touches) e in_it in
    let there = slice_get-take touches (k + 1) at.0 e at.1 in
    elim (cases_eq at.0 k) [
      | inl same ↦
          let e_is : get_or touches k d ≡ e =
          same_Some (get_or touches k d) e (sym (slice_get-get_or touches k d lt) ∙ ap (slice_get touches) (sym same)
          ∙ there.1) in
          subst (λ u. HasGroupFlaw writes u flaw → Covers next u.line (rank_of flaw) u.place) e_is (this flaw) has
      | inr apart ↦
          kept e.line (rank_of flaw) e.place (covered e flaw (Contains-from_at (take k touches) at.0 e
          (slice_get-take_at touches k at.0 e (omega (arith, there.0)) there.1)) has)
    ]

pub contains_next : (touches : List Touch) (k : ℕ) (d : Touch) → k < length touches
    → Contains touches (get_or touches k d)
contains_next touches k d lt = Contains-from_at touches k (get_or touches k d) (slice_get-get_or touches k d lt)

-- ---- what a read is, by who wrote its version

not-write : (e : Touch) → IsRead e → e.kind ≡ Write → ⊥
not-write e read write = let f = sym read ∙ write in cc

pub none-writes : (writes : List Touch) (e : Touch) (flaw : Flaw) (given : Option Flaw) → given ≡ None → IsRead e
    → ((w : Touch) → IsEarliest writes w → w.surpassed ≡ true → ⊥) → ((w : Touch) × IsCommittedOf writes w)
    → flaw ≢ Internal
    → (given ≡ Some flaw) ↔ HasGroupFlaw writes e flaw
none-writes writes e flaw given is read never by other = (λ g. let f = sym is ∙ g in cc, λ h. absurd (not flaw other h))
  where
    not : (flaw : Flaw) → flaw ≢ Internal → HasGroupFlaw writes e flaw → ⊥
    not Internal other h = other refl
    not Duplicate other h = not-write e read h.0
    not AbortedRead other h = h.2 by.0 by.1
    not Unwritten other h = h.2 by.0 by.1.0
    not IntermediateRead other h = never h.2 h.3 h.4
    not Value other h = h

pub surpassed-is : (writes : List Touch) (e : Touch) (w : Touch) (flaw : Flaw) → IsEarliest writes w
    → w.surpassed ≡ true → IsRead e → e.version ≢ 0
    → flaw ≢ Internal → (Some IntermediateRead ≡ Some flaw) ↔ HasGroupFlaw writes e flaw
surpassed-is writes e w Internal first s read above other = absurd (other refl)
surpassed-is writes e w Duplicate first s read above other = (λ g. cc, λ h. absurd (not-write e read h.0))
surpassed-is writes e w AbortedRead first s read above other = (λ g. cc, λ h. absurd (h.2 w first.is))
surpassed-is writes e w Unwritten first s read above other = (λ g. cc, λ h. absurd (h.2 w first.is.0))
surpassed-is writes e w IntermediateRead first s read above other = (λ g. (read, above, w, first, s), λ h. refl)
surpassed-is writes e w Value first s read above other = (λ g. cc, λ h. absurd h)

pub unwritten-is : (writes : List Touch) (e : Touch) (flaw : Flaw) → ((w : Touch) → Contains writes w → ⊥) → IsRead e
    → e.version ≢ 0
    → flaw ≢ Internal → (Some Unwritten ≡ Some flaw) ↔ HasGroupFlaw writes e flaw
unwritten-is writes e Internal none read above other = absurd (other refl)
unwritten-is writes e Duplicate none read above other = (λ g. cc, λ h. absurd (not-write e read h.0))
unwritten-is writes e AbortedRead none read above other = (λ g. cc, λ h. absurd (none h.3 h.4))
unwritten-is writes e Unwritten none read above other = (λ g. (read, above, none), λ h. refl)
unwritten-is writes e IntermediateRead none read above other = (λ g. cc, λ h. absurd (none h.2 h.3.is.0))
unwritten-is writes e Value none read above other = (λ g. cc, λ h. absurd h)

pub aborted-is : (writes : List Touch) (e w : Touch) (flaw : Flaw) → Contains writes w
    → ((w : Touch) → IsCommittedOf writes w → ⊥) → IsRead e
    → e.version ≢ 0 → flaw ≢ Internal → (Some AbortedRead ≡ Some flaw) ↔ HasGroupFlaw writes e flaw
aborted-is writes e w Internal by none read above other = absurd (other refl)
aborted-is writes e w Duplicate by none read above other = (λ g. cc, λ h. absurd (not-write e read h.0))
aborted-is writes e w AbortedRead by none read above other = (λ g. (read, above, none, w, by), λ h. refl)
aborted-is writes e w Unwritten by none read above other = (λ g. cc, λ h. absurd (h.2 w by))
aborted-is writes e w IntermediateRead by none read above other = (λ g. cc, λ h. absurd (none h.2 h.3.is))
aborted-is writes e w Value by none read above other = (λ g. cc, λ h. absurd h)

-- writes of the earliest line tell alike
pub alike-not : (writes : List Touch) (w : Touch) → AreAlike writes → IsEarliest writes w → w.surpassed ≡ false
    → (u : Touch) → IsEarliest writes u → u.surpassed ≡ true → ⊥
alike-not writes w alike first told u also tells =
    let a = first.least u also.is in
    let b = also.least w first.is in
    let same = alike w u first.is.0 also.is.0 (omega (arith, a, b)) in
    let f = sym told ∙ same ∙ tells in cc

-- no write has a fault where none is of a transaction that commits
pub no-duplicate : (writes : List Touch) (e : Touch) (flaw : Flaw) → IsWrite e
    → ((w : Touch) → IsCommittedOf writes w → ⊥)
    → HasGroupFlaw writes e flaw → ⊥
no-duplicate writes e Internal write none h = not-write e h.0 write
no-duplicate writes e Duplicate write none h = none h.2 h.3
no-duplicate writes e AbortedRead write none h = not-write e h.0 write
no-duplicate writes e Unwritten write none h = not-write e h.0 write
no-duplicate writes e IntermediateRead write none h = not-write e h.0 write
no-duplicate writes e Value write none h = h

-- a write that doesn't commit, or isn't of a later line than the earliest, has none
pub not-duplicate : (writes : List Touch) (w e : Touch) (flaw : Flaw) → IsWrite e → IsEarliest writes w
    → (e.commits ≡ false) ⊎ (e.line ≤ w.line)
    → HasGroupFlaw writes e flaw → ⊥
not-duplicate writes w e Internal write first either h = not-write e h.0 write
not-duplicate writes w e Duplicate write first either h = elim either [
  | inl aborts ↦ let f = sym aborts ∙ h.1 in cc
  | inr most ↦ absurd (omega (arith, most, first.least h.2 h.3, h.4))
]
not-duplicate writes w e AbortedRead write first either h = not-write e h.0 write
not-duplicate writes w e Unwritten write first either h = not-write e h.0 write
not-duplicate writes w e IntermediateRead write first either h = not-write e h.0 write
not-duplicate writes w e Value write first either h = h

-- ---- a read

decide : (flaw : Flaw) → (flaw ≡ Internal) ⊎ (flaw ≢ Internal)
decide Internal = inl refl
decide Duplicate = inr (λ e. cc)
decide AbortedRead = inr (λ e. cc)
decide Unwritten = inr (λ e. cc)
decide IntermediateRead = inr (λ e. cc)
decide Value = inr (λ e. cc)

above-0 : (writes : List Touch) (e : Touch) (flaw : Flaw) → IsRead e → flaw ≢ Internal → HasGroupFlaw writes e flaw
    → e.version ≢ 0
above-0 writes e Internal read other h = absurd (other refl)
above-0 writes e Duplicate read other h = absurd (not-write e read h.0)
above-0 writes e AbortedRead read other h = h.1
above-0 writes e Unwritten read other h = h.1
above-0 writes e IntermediateRead read other h = h.1
above-0 writes e Value read other h = absurd h

-- a fault of a read is its own, or that of its version
pub read-covered : (writes : List Touch) (e : Touch) (given : Option Flaw) (mid next : Option Fault) → IsRead e
    → ((flaw : Flaw) → IsRead e → e.version ≢ 0 → flaw ≢ Internal → (given ≡ Some flaw) ↔ HasGroupFlaw writes e flaw)
    → (((w : Touch) × Contains writes w × (w.line ≡ e.line)) → Covers mid e.line 0 e.place)
    → ((line rank place : ℕ) → Covers mid line rank place → Covers next line rank place)
    → ((one : Flaw) → e.version ≢ 0 → given ≡ Some one → Covers next e.line (rank_of one) e.place)
    → (flaw : Flaw) → HasGroupFlaw writes e flaw → Covers next e.line (rank_of flaw) e.place
read-covered writes e given mid next read exact own kept foreign flaw h =
    elim (decide flaw) [
      | inl is ↦
          let h' = subst (HasGroupFlaw writes e) is h in
          subst (λ f. Covers next e.line (rank_of f) e.place) (sym is) (kept e.line 0 e.place (own (h'.1, h'.2, h'.3)))
      | inr other ↦
          let above = above-0 writes e flaw read other h in
          foreign flaw above ((exact flaw read above other).1 h)
    ]

-- an own fault, and the given one, are faults
pub read-faulty : (h : List (Transaction ℕ ℕ)) (writes : List Touch) (e : Touch) (given : Option Flaw) → IsRead e
    → ((flaw : Flaw) → IsRead e → e.version ≢ 0 → flaw ≢ Internal → (given ≡ Some flaw) ↔ HasGroupFlaw writes e flaw)
    → (given ≡ Some Internal → ⊥) → IsFaultyTouch h writes e → (one : Flaw) → e.version ≢ 0 → given ≡ Some one
    → IsFaulty h e.line one e.place
read-faulty h writes e given read exact never all one above is =
    elim (decide one) [
      | inl same ↦ absurd (never (is ∙ ap Some same))
      | inr other ↦ all one ((exact one read above other).0 is)
    ]

-- ---- lists and lines

pub empty-none : (writes : List Touch) → (length writes == 0) ≡ true → (w : Touch) → Contains writes w → ⊥
empty-none writes is w in_it =
    let at = Contains_at writes w in_it in
    absurd (omega (arith, slice_get_within writes at.0 w at.1, eqb-true (length writes) 0 is))

pub some-element : (writes : List Touch) → (length writes == 0) ≡ false → (w : Touch) × Contains writes w
some-element [] is = absurd (eqb-false 0 0 is refl)
some-element (w ∷ ws) is = (w, Contains-from_at (w ∷ ws) 0 w refl)

pub earlier-on : (writes : List Touch) (at line line' : ℕ) → line ≤ line' → AreEarlier writes at line
    → AreEarlier writes at line'
earlier-on writes at line line' le earlier k w lt there = omega (arith, earlier k w lt there, le)
