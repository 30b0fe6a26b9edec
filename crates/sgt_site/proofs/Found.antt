-- What a search finds: an item among the cells, a transaction among the reads of an item and among those that have
-- ended.
use Rattle.std.proofs.Common.{◌≡◌, ℕ, Bool, List, [], ◌∷◌, map, get_or, Option, Some, None, Result, Ok, Err, refl, sym, ap, ◌∙◌, subst, arith, inl, inr, Contains}
use mathlib.Core.Bool.{false≢true}
use Rattle.std.specs.Prelude.{slice_get, set, IsTrue, is_some, is_ok, OnOk, OnErr, IfOk, IfErr, IfSome, IfNone, option_map, ◌↔◌}
use Rattle.std.specs.Ordering.{nat_cmp}
use Rattle.std.specs.Cmp.{IsTotalOrder}
use Rattle.std.specs.Cmp.Lexicographic.{slice_cmp}
use Rattle.std.specs.declared.cmp.Ordering.{Ordering}
use Rattle.std.specs.declared.cmp.Ordering.TheVariants.{Less, Equal}
use Rattle.std.proofs.lemmas.Bool.{cases_lt, cases_order}
use Rattle.std.proofs.lemmas.Cmp.{nat_cmp_total, nat_list_cmp_total, tied_itself}
use Rattle.std.proofs.lemmas.Option.{slice_get-map, slice_get-get_or, slice_get_within, same_Some}
use Rattle.sgt_names.specs.Name.{Name}
use Rattle.sgt_names.specs.Ordered.{IsRisingBy, IsAt, IsGapFor}
use Rattle.sgt_names.specs.declared.draft.Seen.{Seen}
use Rattle.sgt_names.proofs.Lists.{map_at, Any_at, Any-from_at}
use Rattle.sgt_names.proofs.Places.{Contains_at, Contains-from_at, AllPairs_at}
use Rattle.sgt_site.specs.private.Cells.{Contents, items_of, HasItem, InCells, AreReadings, IsAnswering, IsAnswered, AnswersAt, CellsRise, answer_of}
use Rattle.sgt_site.specs.declared.readings.Reading.{Reading}

-- where the search ends at a gap, the item is not there
pub not_found : (cells : List Contents) (x : Name) {T : Type 0} (r : Result T ℕ)
    → IfErr r (IsGapFor (λ c. c.item) (slice_cmp nat_cmp) cells x) → OnErr r (HasItem cells x → ⊥)
not_found cells x (Ok n) gap = tt
not_found cells x (Err n) gap = λ has.
    let at = Contains_at (map (λ (c : Contents). c.item) cells) x has in
    let from = map_at (λ (c : Contents). c.item) cells at.0 x at.1 in
    let same : slice_cmp nat_cmp from.0.item x ≡ Equal =
    subst (λ y. slice_cmp nat_cmp from.0.item y ≡ Equal) from.2 (tied_itself nat_list_cmp_total from.0.item) in
    elim (cases_lt at.0 n) [
      | inl lt ↦ let less = gap.before at.0 from.0 lt from.1 in absurd cc
      | inr le ↦ let more = gap.after at.0 from.0 le from.1 in absurd cc
    ]

-- where a key was found, an element has it; at a gap, none does
pub has_key : {A K : Type 0} (key : A → K) (xs : List A) (k : K) (n : ℕ) → IsAt key xs k n
    → (a : A) × (slice_get xs n ≡ Some a) × (key a ≡ k)
has_key key [] k n at = absurd (omega (arith, at.within))
has_key key (x ∷ xs) k n at = let here = slice_get-get_or (x ∷ xs) n x at.within in
    (get_or (x ∷ xs) n x, here, at.is (get_or (x ∷ xs) n x) here)

pub no_key : {A K : Type 0} (key : A → K) (cmp : K → K → Ordering) → IsTotalOrder cmp → (xs : List A) (k : K) (n : ℕ)
    → IsGapFor key cmp xs k n → (a : A) → Contains xs a → key a ≡ k → ⊥
no_key key cmp total xs k n gap a has same =
    let at = Contains_at xs a has in
    let tied : cmp (key a) k ≡ Equal = subst (λ j. cmp (key a) j ≡ Equal) same (tied_itself total (key a)) in
    elim (cases_lt at.0 n) [
      | inl lt ↦ let less = gap.before at.0 a lt at.1 in absurd cc
      | inr le ↦ let more = gap.after at.0 a le at.1 in absurd cc
    ]

-- a cell of the item at a place is where the item is
pub at-place : (cells : List Contents) (x : Name) (n : ℕ) → (c : Contents) × (slice_get cells n ≡ Some c)
    × (c.item ≡ x) → IsAt (λ c. c.item) cells x n
at-place cells x n c = record {
  within = slice_get_within cells n c.0 c.1;
  is = λ d here. ap (λ (e : Contents). e.item) (same_Some d c.0 (sym here ∙ c.1)) ∙ c.2;
}

-- an item that was found is among the items at that place
pub named_at : (cells : List Contents) (x : Name) (n : ℕ) → IsAt (λ c. c.item) cells x n
    → slice_get (items_of cells) n ≡ Some x
named_at cells x n at =
    let c = has_key (λ (c : Contents). c.item) cells x n at in
    slice_get-map (λ (c : Contents). c.item) cells n
    ∙ ap (option_map (λ (c : Contents). c.item)) c.1 ∙ ap Some c.2

-- so it is there
pub item-there : (cells : List Contents) (x : Name) (n : ℕ) → IsAt (λ c. c.item) cells x n → HasItem cells x
item-there cells x n at = Contains-from_at (items_of cells) n x (named_at cells x n at)

-- two elements of one key are one
pub same_key : {A K : Type 0} (key : A → K) (cmp : K → K → Ordering) → IsTotalOrder cmp → (xs : List A)
    → IsRisingBy key cmp xs → (a b : A) → Contains xs a → Contains xs b → key a ≡ key b → a ≡ b
same_key key cmp total xs rising a b has_a has_b same =
    let at_a = Contains_at xs a has_a in
    let at_b = Contains_at xs b has_b in
    let tied : cmp (key a) (key b) ≡ Equal = subst (λ j. cmp (key a) j ≡ Equal) same (tied_itself total (key a)) in
    let tied_back : cmp (key b) (key a) ≡ Equal =
    subst (λ j. cmp (key b) j ≡ Equal) (sym same) (tied_itself total (key b)) in
    elim (cases_order at_a.0 at_b.0) [
      | inl here ↦ same_Some a b (sym at_a.1 ∙ ap (slice_get xs) here ∙ at_b.1)
      | inr (inl lt) ↦ let less =
          AllPairs_at (λ x y. cmp (key x) (key y) ≡ Less) xs at_a.0 at_b.0 a b rising lt at_a.1 at_b.1 in absurd cc
      | inr (inr gt) ↦ let less =
          AllPairs_at (λ x y. cmp (key x) (key y) ≡ Less) xs at_b.0 at_a.0 b a rising gt at_b.1 at_a.1 in absurd cc
    ]

-- what a search among the reads finds
pub seen-found : (readings : List Reading) (tx n : ℕ) (m : Reading) → AreReadings readings
    → IsAt (λ m. m.tx) readings tx n → slice_get readings n ≡ Some m → (seen : Seen)
    → (Some m.seen ≡ Some seen) ↔ Contains readings (record { tx = tx; seen = seen })
seen-found readings tx n m rising at here seen = (
  λ same. Contains-from_at readings n (record { tx = tx; seen = seen }) (here
      ∙ ap Some (λ i. record { tx = own i; seen = (same_Some m.seen seen same) i })),
  λ has. ap (λ (r : Reading). Some r.seen) (same_key (λ (r : Reading). r.tx) nat_cmp nat_cmp_total readings rising m
      (record { tx = tx; seen = seen }) (Contains-from_at readings n m here) has own),
)
  where
    own : m.tx ≡ tx
    own = at.is m here

pub seen-nowhere : (readings : List Reading) (tx n : ℕ) → IsGapFor (λ m. m.tx) nat_cmp readings tx n → (seen : Seen)
    → (None ≡ Some seen) ↔ Contains readings (record { tx = tx; seen = seen })
seen-nowhere readings tx n gap seen = (
  λ e. absurd cc,
  λ has. absurd (no_key (λ (m : Reading). m.tx) nat_cmp nat_cmp_total readings tx n gap
      (record { tx = tx; seen = seen }) has refl),
)

-- a transaction that is found has one of the reads
pub found_reading : (readings : List Reading) (tx n : ℕ) → IsAt (λ m. m.tx) readings tx n → IsAnswering readings tx
found_reading readings tx n at =
    let m = has_key (λ (m : Reading). m.tx) readings tx n at in
    let same : m.0 ≡ record { tx = tx; seen = m.0.seen } = λ i. record { tx = m.2 i; seen = m.0.seen } in
    (m.0.seen, subst (Contains readings) same (Contains-from_at readings n m.0 m.1))

-- the cell at a place answers
pub answers_at : {E : Type 0} (cells : List Contents) (n tx : ℕ) (new : Contents) (r : Result Seen E) {old : Contents}
    → slice_get cells n ≡ Some old → IfOk r (λ seen. seen ≡ answer_of old) → OnOk r (IsAnswered old new tx)
    → IfOk r (λ seen. AnswersAt cells (set cells n new) n tx seen)
answers_at cells n tx new (Err e) at value ok = tt
answers_at cells n tx new (Ok seen) {old} at value ok =
    record { cell = old; answered = new; at = at; is = value; reads = ok; others = refl }

-- a search tells whether the item is there, or the transaction has ended
pub tells_item : (cells : List Contents) (x : Name) (b : Bool) (o : Option ℕ) → b ≡ is_some o
    → IfSome o (IsAt (λ c. c.item) cells x) → IfNone o (HasItem cells x → ⊥) → IsTrue b ↔ HasItem cells x
tells_item cells x b (Some n) is at absent = (λ _. item-there cells x n at, λ _. is)
tells_item cells x b None is at absent = (λ h. absurd (false≢true (sym is ∙ h)), λ has. absurd (absent has))

pub tells_ended : (ended : List ℕ) (tx : ℕ) (b : Bool) (r : Result ℕ ℕ) → b ≡ is_ok r
    → IfOk r (IsAt (λ t. t) ended tx) → IfErr r (IsGapFor (λ t. t) nat_cmp ended tx) → IsTrue b ↔ Contains ended tx
tells_ended ended tx b (Ok n) is at gap = (
  λ _. let t = has_key (λ (t : ℕ). t) ended tx n at in
      subst (Contains ended) t.2 (Contains-from_at ended n t.0 t.1),
  λ _. is,
)
tells_ended ended tx b (Err n) is at gap = (
  λ h. absurd (false≢true (sym is ∙ h)),
  λ has. absurd (no_key (λ (t : ℕ). t) nat_cmp nat_cmp_total ended tx n gap tx has refl),
)

-- what the transaction's read of an item that was found answered, and of one that isn't there
pub cell-seen : (cells : List Contents) (tx : ℕ) (x : Name) (n : ℕ) (c : Contents) (r : Option Seen) → CellsRise cells
    → IsAt (λ c. c.item) cells x n → slice_get cells n ≡ Some c
    → ((seen : Seen) → (r ≡ Some seen) ↔ Contains c.readings (record { tx = tx; seen = seen })) → (seen : Seen)
    → (r ≡ Some seen) ↔ InCells cells tx x seen
cell-seen cells tx x n c r rising at here tells seen = (
  λ is. Any-from_at (λ (d : Contents). (d.item ≡ x) × Contains d.readings (record { tx = tx; seen = seen })) cells n c
      here (at.is c here, (tells seen).0 is),
  λ has.
      let d = Any_at (λ (d : Contents). (d.item ≡ x) × Contains d.readings (record { tx = tx; seen = seen })) cells
      has in
      let same = same_key (λ (e : Contents). e.item) (slice_cmp nat_cmp) nat_list_cmp_total cells rising d.1 c
      (Contains-from_at cells d.0 d.1 d.2) (Contains-from_at cells n c here) (d.3.0 ∙ sym (at.is c here)) in
      (tells seen).1 (subst (λ (e : Contents). Contains e.readings (record { tx = tx; seen = seen })) same d.3.1),
)

pub cell-nowhere : (cells : List Contents) (tx : ℕ) (x : Name) → (HasItem cells x → ⊥) → (seen : Seen)
    → (None ≡ Some seen) ↔ InCells cells tx x seen
cell-nowhere cells tx x absent seen = (
  λ e. absurd cc,
  λ has.
      let d = Any_at (λ (d : Contents). (d.item ≡ x) × Contains d.readings (record { tx = tx; seen = seen })) cells
      has in
      absurd (absent (Contains-from_at (items_of cells) d.0 x (slice_get-map (λ (c : Contents). c.item) cells d.0
      ∙ ap (option_map (λ (c : Contents). c.item)) d.2 ∙ ap Some d.3.0))),
)
