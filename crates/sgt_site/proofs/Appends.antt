-- What entries added to a log keep.
use Rattle.std.proofs.Common.{◌≡◌, ℕ, zero, suc, ◌+◌, ◌<◌, ◌≤◌, List, [], ◌∷◌, ◌++◌, length, take, Option, Some, None, refl, sym, ap, ◌∙◌, arith, AllPairs, Contains, length-append, append-nil}
use Rattle.std.specs.Prelude.{slice_get, ◌≢◌, fold}
use Rattle.std.specs.List.{filter_map, cons_option}
use Rattle.std.specs.Option.{ForSome}
use Rattle.std.proofs.lemmas.Option.{slice_get_within}
use Rattle.std.proofs.lemmas.List.{take-append-le}
use Rattle.std.proofs.lemmas.List.Elements.{filter_map-append, All-append}
use Rattle.sgt_names.specs.Name.{Name}
use Rattle.sgt_names.specs.Entry.{tx_of, item_of, change_of, IsEnd, Repeats}
use Rattle.sgt_names.specs.Log.{names, value_with, value_at, IsOrderly, ReadsAreLegal}
use Rattle.sgt_names.specs.declared.entry.Entry.{Entry}
use Rattle.sgt_names.specs.declared.entry.Entry.TheVariants.{Read}
use Rattle.sgt_names.specs.declared.entry.Holding.{Holding}
use Rattle.sgt_names.proofs.Lists.{front_at, back_at, Any_at, Any-from_at}
use Rattle.sgt_names.proofs.Places.{AllPairs_at, AllPairs-from_at, Contains-from_at, take-next}
use Rattle.sgt_site.specs.State.{version_at, HasEnded, LogsRead}

module _ {A : Type 0} where
  pub get_cases : {P : Type 0} (xs ys : List A) (n : ℕ) (a : A) → slice_get (xs ++ ys) n ≡ Some a
      → (slice_get xs n ≡ Some a → P) → ((m : ℕ) → n ≡ length xs + m → slice_get ys m ≡ Some a → P) → P
  get_cases [] ys n a h front back = back n (omega arith) h
  get_cases (x ∷ xs) ys zero a h front back = front h
  get_cases (x ∷ xs) ys (suc n) a h front back = get_cases xs ys n a h front (λ m e at. back m (omega (arith, e)) at)

  pub take_back : (xs ys : List A) (m : ℕ) → take (length xs + m) (xs ++ ys) ≡ xs ++ take m ys
  take_back [] ys m = ap (λ k. take k ys) (omega arith)
  take_back (x ∷ xs) ys m = let e : suc (length xs) + m ≡ suc (length xs + m) = omega arith in
      ap (λ k. take k (x ∷ (xs ++ ys))) e ∙ ap (λ zs. x ∷ zs) (take_back xs ys m)

-- the two lists of chosen values that begin with an optional one
cons_cases : {B P : Type 0} (o : Option B) (bs : List B) (n : ℕ) (b : B) → slice_get (cons_option o bs) n ≡ Some b
    → ((o ≡ None) → slice_get bs n ≡ Some b → P) → ((m : ℕ) (c : B) → o ≡ Some c → n ≡ suc m → slice_get bs m ≡ Some b
    → P) → (n ≡ 0 → o ≡ Some b → P) → P
cons_cases None bs n b h none later here = none refl h
cons_cases (Some c) bs zero b h none later here = here refl h
cons_cases (Some c) bs (suc n) b h none later here = later n c refl refl h

module _ {A B : Type 0} (f : A → Option B) where
  -- how many values come before a place
  abbrev pub count_before : List A → ℕ → ℕ
  count_before xs n = length (filter_map f (take n xs))

  -- where the value of number k among those that are chosen comes from
  pub chosen_at : (xs : List A) (k : ℕ) (b : B) → slice_get (filter_map f xs) k ≡ Some b
      → (n : ℕ) × (a : A) × (slice_get xs n ≡ Some a) × (f a ≡ Some b) × (count_before xs n ≡ k)
  chosen_at [] k b h = absurd cc
  chosen_at (x ∷ xs) k b h = cons_cases (f x) (filter_map f xs) k b h
      (λ none at. let r = chosen_at xs k b at in
      (suc r.0, r.1, r.2, r.3, ap (λ o. length (cons_option o (filter_map f (take r.0 xs)))) none ∙ r.4))
      (λ m c some is at. let r = chosen_at xs m b at in (
        suc r.0,
        r.1,
        r.2,
        r.3,
        ap (λ o. length (cons_option o (filter_map f (take r.0 xs)))) some ∙ ap suc r.4
            ∙ sym is,
      ))
      (λ is some. (0, x, refl, some, sym is))

  -- and which number the value of an element has
  pub chosen_from : (xs : List A) (n : ℕ) (a : A) (b : B) → slice_get xs n ≡ Some a → f a ≡ Some b
      → slice_get (filter_map f xs) (count_before xs n) ≡ Some b
  chosen_from [] n a b h is = absurd cc
  chosen_from (x ∷ xs) zero a b h is = let same : x ≡ a = cc in
      ap (λ o. slice_get (cons_option o (filter_map f xs)) 0) (ap f same ∙ is)
  chosen_from (x ∷ xs) (suc n) a b h is = by_value (f x) (chosen_from xs n a b h is)
    where
      by_value : (o : Option B) → slice_get (filter_map f xs) (count_before xs n) ≡ Some b
          → slice_get (cons_option o (filter_map f xs)) (length (cons_option o (filter_map f (take n xs)))) ≡ Some b
      by_value None later = later
      by_value (Some c) later = later

  -- there are no fewer before a later place
  pub count-rises : (xs : List A) (m n : ℕ) → m ≤ n → count_before xs m ≤ count_before xs n
  count-rises xs zero n le = omega arith
  count-rises [] (suc m) n le = omega arith
  count-rises (x ∷ xs) (suc m) zero le = absurd (omega arith)
  count-rises (x ∷ xs) (suc m) (suc n) le = by_value (f x) (count-rises xs m n (omega arith))
    where
      by_value : (o : Option B) → count_before xs m ≤ count_before xs n
          → length (cons_option o (filter_map f (take m xs))) ≤ length (cons_option o (filter_map f (take n xs)))
      by_value None le = le
      by_value (Some c) le = omega arith

  -- an element that is chosen counts for each later place
  pub count-next : (xs : List A) (m n : ℕ) (a : A) (b : B) → slice_get xs m ≡ Some a → f a ≡ Some b → m < n
      → count_before xs m < count_before xs n
  count-next xs m n a b h is lt =
      let more = count-rises xs (suc m) n (omega arith) in
      let one : count_before xs (suc m) ≡ count_before xs m + 1 =
      ap (λ ys. length (filter_map f ys)) (take-next xs m a h)
      ∙ ap length (filter_map-append f (take m xs) (a ∷ []))
      ∙ ap (λ o. length (filter_map f (take m xs) ++ cons_option o [])) is
      ∙ length-append (filter_map f (take m xs)) (b ∷ []) in
      omega (arith, more, one)

-- the entries before and the new ones may stand together: none repeats an earlier one, and none follows the end of
-- its transaction
pub record MayFollow (es bs : List Entry) : Type 0 where
  pub once : (e f : Entry) → Contains es e → Contains bs f → (x : Name) → Repeats x e f → ⊥
  pub closed : (e f : Entry) → Contains es e → Contains bs f → IsEnd e → tx_of e ≢ tx_of f

module _ (items : List Holding) (es bs : List Entry) where
  -- an orderly log goes on with entries that are orderly by themselves
  pub orderly-append : IsOrderly items es → IsOrderly items bs → MayFollow es bs → IsOrderly items (es ++ bs)
  orderly-append old new may = record {
    known = All-append (λ e. ForSome (item_of e) (Contains (names items))) es bs old.known new.known;
    once = pairs (λ e f. (x : Name) → Repeats x e f → ⊥) old.once new.once may.once;
    blocks = λ n e at opens. get_cases es bs n e at
        (λ front. let next = old.blocks n e front opens in (next.0, front_at es bs (suc n) next.0 next.1, next.2))
        (λ m is back. let next = new.blocks m e back opens in
        let place : suc n ≡ length es + suc m = omega (arith, is) in
        (next.0, ap (slice_get (es ++ bs)) place ∙ back_at es bs (suc m) ∙ next.1, next.2));
    closed = pairs (λ e f. IsEnd e → tx_of e ≢ tx_of f) old.closed new.closed may.closed;
  }
    where
      pairs : (R : Entry → Entry → Type 0) → AllPairs R es → AllPairs R bs
          → ((e f : Entry) → Contains es e → Contains bs f → R e f) → AllPairs R (es ++ bs)
      pairs R front back cross = AllPairs-from_at R (es ++ bs) (λ p q e f lt at_p at_q. get_cases es bs p e at_p
          (λ first. get_cases es bs q f at_q
          (λ second. AllPairs_at R es p q e f front lt first second)
          (λ m is second. cross e f (Contains-from_at es p e first) (Contains-from_at bs m f second)))
          (λ k here first. get_cases es bs q f at_q
          (λ second. absurd (omega (arith, slice_get_within es q f second)))
          (λ m is second. AllPairs_at R bs k m e f back (omega (arith, is, here)) first second)))

  -- the reads stay legal, where each new one has the value at its place
  pub legal-append : ReadsAreLegal items es → ((m tx : ℕ) (x : Name) (v : ℕ) → slice_get bs m ≡ Some (Read tx x v)
      → value_at items (es ++ take m bs) x ≡ Some v) → ReadsAreLegal items (es ++ bs)
  legal-append old new n tx x v at = get_cases es bs n (Read tx x v) at
      (λ front. let within : n ≤ length es = let lt = slice_get_within es n (Read tx x v) front in omega (arith, lt) in
      ap (λ ds. value_at items ds x) (take-append-le n es bs within) ∙ old n tx x v front)
      (λ m is back. ap (λ ds. value_at items ds x) (ap (λ k. take k (es ++ bs)) is ∙ take_back es bs m)
      ∙ new m tx x v back)

  -- the value of an item that the new entries don't change
  pub value-kept : (x : Name) → filter_map (change_of x) bs ≡ [] → value_at items (es ++ bs) x ≡ value_at items es x
  value-kept x none = ap (fold value_with _) (filter_map-append (change_of x) es bs
      ∙ ap (λ cs. filter_map (change_of x) es ++ cs) none ∙ append-nil (filter_map (change_of x) es))

-- a read in the log stays there
pub LogsRead-append : (es bs : List Entry) (tx : ℕ) (x : Name) (v n : ℕ) → LogsRead es tx x v n
    → LogsRead (es ++ bs) tx x v n
LogsRead-append es bs tx x v n r =
    let within : r.place ≤ length es = let lt = slice_get_within es r.place (Read tx x v) r.at in omega (arith, lt) in
    record {
      place = r.place;
      at = front_at es bs r.place (Read tx x v) r.at;
      version =
          ap (λ ds. version_at ds x) (take-append-le r.place es bs within) ∙ r.version;
    }

-- and each read of the longer log is of the old one, or is new
pub LogsRead-cases : {P : Type 0} (es bs : List Entry) (tx : ℕ) (x : Name) (v n : ℕ) → LogsRead (es ++ bs) tx x v n
    → (LogsRead es tx x v n → P) → ((m : ℕ) → slice_get bs m ≡ Some (Read tx x v) → version_at (es ++ take m bs) x ≡ n
    → P) → P
LogsRead-cases es bs tx x v n r front back = get_cases es bs r.place (Read tx x v) r.at
    (λ at. let within : r.place ≤ length es = let lt = slice_get_within es r.place (Read tx x v) at in
    omega (arith, lt) in
    front (record {
      place = r.place;
      at = at;
      version =
          ap (λ ds. version_at ds x) (sym (take-append-le r.place es bs within)) ∙ r.version;
    }))
    (λ m is at. back m at (ap (λ ds. version_at ds x) (sym (ap (λ k. take k (es ++ bs)) is ∙ take_back es bs m))
    ∙ r.version))

-- an end stays, and each end of the longer log is of the old one, or is new
pub HasEnded-append : (es bs : List Entry) (tx : ℕ) → HasEnded es tx → HasEnded (es ++ bs) tx
HasEnded-append es bs tx h = let a = Any_at (λ e. (tx_of e ≡ tx) × IsEnd e) es h in
    Any-from_at (λ e. (tx_of e ≡ tx) × IsEnd e) (es ++ bs) a.0 a.1 (front_at es bs a.0 a.1 a.2) a.3

pub HasEnded-append_right : (es bs : List Entry) (tx : ℕ) → HasEnded bs tx → HasEnded (es ++ bs) tx
HasEnded-append_right es bs tx h = let a = Any_at (λ e. (tx_of e ≡ tx) × IsEnd e) bs h in
    Any-from_at (λ e. (tx_of e ≡ tx) × IsEnd e) (es ++ bs) (length es + a.0) a.1 (back_at es bs a.0 ∙ a.2) a.3

pub HasEnded-cases : {P : Type 0} (es bs : List Entry) (tx : ℕ) → HasEnded (es ++ bs) tx → (HasEnded es tx → P)
    → (HasEnded bs tx → P) → P
HasEnded-cases es bs tx h front back =
    let a = Any_at (λ e. (tx_of e ≡ tx) × IsEnd e) (es ++ bs) h in
    get_cases es bs a.0 a.1 a.2 (λ at. front (Any-from_at (λ e. (tx_of e ≡ tx) × IsEnd e) es a.0 a.1 at a.3))
    (λ m is at. back (Any-from_at (λ e. (tx_of e ≡ tx) × IsEnd e) bs m a.1 at a.3))
