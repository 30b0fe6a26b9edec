-- A test that a bundle passes only where it is valid.
use Rattle.std.proofs.Common.{◌≡◌, ◌≢◌, ℕ, zero, suc, ◌<◌, Bool, true, false, cond, List, [], ◌∷◌, ◌++◌, length, take, Option, Some, None, refl, sym, ap, ap₂, ◌∙◌, subst, arith, inl, inr, Contains, ltb-true, append_assoc}
use Rattle.std.specs.Prelude.{slice_get, Any, ◌&&◌, ◌||◌, ◌==◌, not, nat_le, nat_lt, option_map, if◌then◌else◌}
use Rattle.std.specs.List.{AllByRecursion, list_all, list_any}
use Rattle.std.specs.Option.{ForSome}
use Rattle.std.specs.Str.{bytes_eq}
use Rattle.std.proofs.lemmas.Bool.{and_parts, or_cases, or_left, or_right, eqb-true, eq-eqb, leb-true, ne_eqb, not-true, true≢false}
use Rattle.std.proofs.lemmas.List.{append-nil}
use Rattle.std.proofs.lemmas.List.Elements.{All-from_recursion}
use Rattle.std.proofs.lemmas.List.Folds.{Any-from_list_any}
use Rattle.std.proofs.lemmas.Option.{same_Some}
use Rattle.std.proofs.lemmas.Slice.Eq.{bytes_eq-Decides}
use Rattle.sgt_names.specs.Name.{Name}
use Rattle.sgt_names.specs.Entry.{tx_of, item_of, Reads, Writes, is_increment, IsEnd, IsOpen, GoesOn, GoesOnAsking, Continues, Clash, Repeats}
use Rattle.sgt_names.specs.Log.{names, value_at}
use Rattle.sgt_names.specs.declared.entry.Entry.{Entry}
use Rattle.sgt_names.specs.declared.entry.Entry.TheVariants as e
use Rattle.sgt_names.specs.declared.entry.Holding.{Holding}
use Rattle.sgt_names.specs.declared.entry.Kind.{Kind}
use Rattle.sgt_names.specs.declared.entry.Kind.TheVariants.{Wr, Rw, Ww}
use Rattle.sgt_names.proofs.Places.{AllPairs-from_recursion, AllPairs_at, AllPairs-tail, Contains-from_at, PairsByRecursion}
use Rattle.sgt_bundle.specs.Parts.{Parts}
use Rattle.sgt_bundle.specs.Certificate.{decided_tx, IsDecidedOnce, Suits, ranks}
use Rattle.sgt_bundle.specs.Valid.{RefusedLieOnCycles, IsDecided, EndInOrder, RiseInRank, IsValidLog, IsValid}
use Rattle.sgt_bundle.specs.declared.certificate.Decision.{Decision}
use Rattle.sgt_bundle.specs.declared.certificate.Decision.TheVariants.{Commit, Refuse, Withdraw}
use Rattle.sgt_bundle.specs.declared.bundle.SiteLog.{SiteLog}
use Rattle.sgt_bundle.proofs.Ranks.{rank_of, rank_of-committed}

-- ---- tests of lists

all-from_test : {A : Type 0} (P : A → Type 0) (test : A → Bool) → ((a : A) → test a ≡ true → P a) → (xs : List A)
    → list_all test xs ≡ true → AllByRecursion P xs
all-from_test P test sound [] h = tt
all-from_test P test sound (x ∷ xs) h = let p = and_parts (test x) (list_all test xs) h in
    (sound x p.0, all-from_test P test sound xs p.1)

abbrev pub pairs_pass : {A : Type 0} → (A → A → Bool) → List A → Bool
pairs_pass test [] = true
pairs_pass test (x ∷ xs) = list_all (test x) xs && pairs_pass test xs

pairs-from_test : {A : Type 0} (R : A → A → Type 0) (test : A → A → Bool) → ((a b : A) → test a b ≡ true → R a b)
    → (xs : List A) → pairs_pass test xs ≡ true → PairsByRecursion R xs
pairs-from_test R test sound [] h = tt
pairs-from_test R test sound (x ∷ xs) h =
    let p = and_parts (list_all (test x) xs) (pairs_pass test xs) h in
    (all-from_test (R x) (test x) (sound x) xs p.0, pairs-from_test R test sound xs p.1)

-- the place of an element that passes
found : {A : Type 0} (test : A → Bool) (xs : List A) → list_any test xs ≡ true
    → (n : ℕ) × (a : A) × (slice_get xs n ≡ Some a) × (test a ≡ true)
found test [] h = absurd (true≢false (sym h))
found test (x ∷ xs) h =
    elim (or_cases (test x) (list_any test xs) h) [
      | inl this ↦ (0, x, refl, this)
      | inr later ↦ let more = found test xs later in (suc more.0, more.1, more.2, more.3)
    ]

refuted : (b : Bool) → not b ≡ true → b ≡ true → ⊥
refuted b h t = true≢false (sym t ∙ not-true b h)

-- ---- what an entry reads and writes

abbrev reads : Entry → Option Name
reads (e.Read tx x v) = Some x
reads _ = None

abbrev writes : Entry → Option Name
writes (e.Write tx x v) = Some x
writes (e.Add tx x v) = Some x
writes (e.Want tx x v) = Some x
writes (e.WantAdd tx x v) = Some x
writes _ = None

reads-is : (x : Name) (en : Entry) → Reads x en → reads en ≡ Some x
reads-is x (e.Read tx y v) h = ap Some h
reads-is x (e.Write tx y v) h = absurd h
reads-is x (e.Add tx y v) h = absurd h
reads-is x (e.Want tx y v) h = absurd h
reads-is x (e.WantAdd tx y v) h = absurd h
reads-is x (e.Commit tx) h = absurd h
reads-is x (e.Refuse tx) h = absurd h
reads-is x (e.Withdraw tx) h = absurd h

writes-is : (x : Name) (en : Entry) → Writes x en → writes en ≡ Some x
writes-is x (e.Write tx y v) h = ap Some h
writes-is x (e.Add tx y v) h = ap Some h
writes-is x (e.Want tx y v) h = ap Some h
writes-is x (e.WantAdd tx y v) h = ap Some h
writes-is x (e.Read tx y v) h = absurd h
writes-is x (e.Commit tx) h = absurd h
writes-is x (e.Refuse tx) h = absurd h
writes-is x (e.Withdraw tx) h = absurd h

abbrev same_item : Option Name → Option Name → Bool
same_item (Some x) (Some y) = bytes_eq x y
same_item _ _ = false

same_item-from : (x : Name) (o p : Option Name) → o ≡ Some x → p ≡ Some x → same_item o p ≡ true
same_item-from x o p a b = ap₂ same_item a b ∙ (bytes_eq-Decides x x).1 refl

abbrev repeats : Entry → Entry → Bool
repeats en f = (tx_of en == tx_of f) && (same_item (reads en) (reads f) || same_item (writes en) (writes f))

and-true : (a b : Bool) → a ≡ true → b ≡ true → a && b ≡ true
and-true a b h g = ap₂ (λ x y. x && y) h g

repeats-sound : (en f : Entry) → not (repeats en f) ≡ true → (x : Name) → Repeats x en f → ⊥
repeats-sound en f h x (same, how) =
    refuted (repeats en f) h
    (and-true (tx_of en == tx_of f) (same_item (reads en) (reads f) || same_item (writes en) (writes f))
    (eq-eqb (tx_of en) (tx_of f) same) (elim how [
      | inl p ↦ or_left (same_item (reads en) (reads f)) (same_item (writes en) (writes f))
          (same_item-from x (reads en) (reads f) (reads-is x en p.0) (reads-is x f p.1))
      | inr p ↦ or_right (same_item (reads en) (reads f)) (same_item (writes en) (writes f))
          (same_item-from x (writes en) (writes f) (writes-is x en p.0) (writes-is x f p.1))
    ]))

abbrev clashes : Entry → Entry → Bool
clashes en f =
    same_item (writes en) (reads f) ||
    (same_item (reads en) (writes f) || (same_item (writes en) (writes f) && not (is_increment en && is_increment f)))

not_both : (a b : Bool) → (a ≡ true → b ≡ true → ⊥) → not (a && b) ≡ true
not_both true true h = absurd (h refl refl)
not_both true false h = refl
not_both false b h = refl

clashes-from : (k : Kind) (x : Name) (en f : Entry) → Clash k x en f → clashes en f ≡ true
clashes-from Wr x en f h =
    or_left (same_item (writes en) (reads f)) _ (same_item-from x (writes en) (reads f) (writes-is x en h.0)
    (reads-is x f h.1))
clashes-from Rw x en f h =
    or_right (same_item (writes en) (reads f)) _
    (or_left (same_item (reads en) (writes f)) _ (same_item-from x (reads en) (writes f) (reads-is x en h.0)
    (writes-is x f h.1)))
clashes-from Ww x en f h =
    or_right (same_item (writes en) (reads f)) _ (or_right (same_item (reads en) (writes f)) _
    (and-true (same_item (writes en) (writes f)) (not (is_increment en && is_increment f))
    (same_item-from x (writes en) (writes f) (writes-is x en h.0) (writes-is x f h.1))
    (not_both (is_increment en) (is_increment f) h.2)))

-- ---- ends and blocks

abbrev is_end : Entry → Bool
is_end (e.Commit tx) = true
is_end (e.Refuse tx) = true
is_end (e.Withdraw tx) = true
is_end _ = false

is_end-from : (en : Entry) → IsEnd en → is_end en ≡ true
is_end-from (e.Commit tx) h = refl
is_end-from (e.Refuse tx) h = refl
is_end-from (e.Withdraw tx) h = refl
is_end-from _ h = absurd h

IsEnd-from : (en : Entry) → is_end en ≡ true → IsEnd en
IsEnd-from (e.Commit tx) h = tt
IsEnd-from (e.Refuse tx) h = tt
IsEnd-from (e.Withdraw tx) h = tt
IsEnd-from _ h = absurd (true≢false (sym h))

abbrev is_open : Entry → Bool
is_open (e.Write tx x v) = true
is_open (e.Add tx x v) = true
is_open (e.Want tx x v) = true
is_open (e.WantAdd tx x v) = true
is_open _ = false

is_open-from : (en : Entry) → IsOpen en → is_open en ≡ true
is_open-from (e.Write tx x v) h = refl
is_open-from (e.Add tx x v) h = refl
is_open-from (e.Want tx x v) h = refl
is_open-from (e.WantAdd tx x v) h = refl
is_open-from _ h = absurd h

abbrev goes_on : ℕ → Entry → Bool
goes_on i (e.Write j x v) = i == j
goes_on i (e.Add j x v) = i == j
goes_on i (e.Commit j) = i == j
goes_on i _ = false

GoesOn-from : (i : ℕ) (f : Entry) → goes_on i f ≡ true → GoesOn i f
GoesOn-from i (e.Write j x v) h = eqb-true i j h
GoesOn-from i (e.Add j x v) h = eqb-true i j h
GoesOn-from i (e.Commit j) h = eqb-true i j h
GoesOn-from i _ h = absurd (true≢false (sym h))

abbrev goes_on_asking : ℕ → Entry → Bool
goes_on_asking i (e.Want j x v) = i == j
goes_on_asking i (e.WantAdd j x v) = i == j
goes_on_asking i (e.Refuse j) = i == j
goes_on_asking i _ = false

GoesOnAsking-from : (i : ℕ) (f : Entry) → goes_on_asking i f ≡ true → GoesOnAsking i f
GoesOnAsking-from i (e.Want j x v) h = eqb-true i j h
GoesOnAsking-from i (e.WantAdd j x v) h = eqb-true i j h
GoesOnAsking-from i (e.Refuse j) h = eqb-true i j h
GoesOnAsking-from i _ h = absurd (true≢false (sym h))

abbrev continues : Entry → Entry → Bool
continues (e.Write i x v) f = goes_on i f
continues (e.Add i x v) f = goes_on i f
continues (e.Want i x v) f = goes_on_asking i f
continues (e.WantAdd i x v) f = goes_on_asking i f
continues _ f = false

Continues-from : (en f : Entry) → continues en f ≡ true → Continues en f
Continues-from (e.Write i x v) f h = GoesOn-from i f h
Continues-from (e.Add i x v) f h = GoesOn-from i f h
Continues-from (e.Want i x v) f h = GoesOnAsking-from i f h
Continues-from (e.WantAdd i x v) f h = GoesOnAsking-from i f h
Continues-from _ f h = absurd (true≢false (sym h))

abbrev blocks_pass : List Entry → Bool
blocks_pass [] = true
blocks_pass (en ∷ more) = (not (is_open en) || list_any (continues en) (take 1 more)) && blocks_pass more

next-from : (en : Entry) (more : List Entry) → list_any (continues en) (take 1 more) ≡ true
    → (f : Entry) × (slice_get more 0 ≡ Some f) × Continues en f
next-from en [] h = absurd (true≢false (sym h))
next-from en (f ∷ more) h = (
  f,
  refl,
  Continues-from en f (elim (or_cases (continues en f) false h) [ inl p ↦ p | inr p ↦ absurd (true≢false (sym p)) ]),
)

blocks-sound : (entries : List Entry) → blocks_pass entries ≡ true → (n : ℕ) (en : Entry)
    → slice_get entries n ≡ Some en → IsOpen en → (f : Entry) × (slice_get entries (suc n) ≡ Some f) × Continues en f
blocks-sound [] h n en at open_ = absurd cc
blocks-sound (d ∷ more) h zero en at open_ =
    let p = and_parts (not (is_open d) || list_any (continues d) (take 1 more)) (blocks_pass more) h in
    let same = same_Some d en at in
    subst (λ (c : Entry). (f : Entry) × (slice_get more 0 ≡ Some f) × Continues c f) same
    (elim (or_cases (not (is_open d)) (list_any (continues d) (take 1 more)) p.0) [
      | inl closed ↦ absurd (refuted (is_open d) closed (is_open-from d (subst IsOpen (sym same) open_)))
      | inr next ↦ next-from d more next
    ])
blocks-sound (d ∷ more) h (suc n) en at open_ =
    blocks-sound more (and_parts (not (is_open d) || list_any (continues d) (take 1 more)) (blocks_pass more) h).1 n
    en at open_

-- ---- decisions

abbrev suits : Entry → Decision → Bool
suits (e.Read tx x v) d = true
suits (e.Write tx x v) (Commit i rank) = true
suits (e.Add tx x v) (Commit i rank) = true
suits (e.Want tx x v) (Refuse i walk) = true
suits (e.WantAdd tx x v) (Refuse i walk) = true
suits (e.Commit tx) (Commit i rank) = true
suits (e.Refuse tx) (Refuse i walk) = true
suits (e.Withdraw tx) (Withdraw i) = true
suits _ _ = false

Suits-from : (en : Entry) (d : Decision) → suits en d ≡ true → Suits en d
Suits-from (e.Read tx x v) d h = tt
Suits-from (e.Write tx x v) (Commit i rank) h = tt
Suits-from (e.Add tx x v) (Commit i rank) h = tt
Suits-from (e.Want tx x v) (Refuse i walk) h = tt
Suits-from (e.WantAdd tx x v) (Refuse i walk) h = tt
Suits-from (e.Commit tx) (Commit i rank) h = tt
Suits-from (e.Refuse tx) (Refuse i walk) h = tt
Suits-from (e.Withdraw tx) (Withdraw i) h = tt
Suits-from _ _ h = absurd (true≢false (sym h))

abbrev is_decided : List Decision → Entry → Bool
is_decided decisions en = list_any (λ d. (decided_tx d == tx_of en) && suits en d) decisions

decided-sound : (decisions : List Decision) (en : Entry) → is_decided decisions en ≡ true
    → (number : ℕ) × IsDecided decisions en number
decided-sound decisions en h =
    let f = found (λ d. (decided_tx d == tx_of en) && suits en d) decisions h in
    let p = and_parts (decided_tx f.1 == tx_of en) (suits en f.1) f.3 in
    (f.0, (f.1, f.2, eqb-true (decided_tx f.1) (tx_of en) p.0, Suits-from en f.1 p.1))

-- the number of the decision on a transaction
abbrev number_of : List Decision → ℕ → Option ℕ
number_of [] tx = None
number_of (d ∷ ds) tx = if decided_tx d == tx then Some 0 else option_map suc (number_of ds tx)

abbrev Apart : Decision → Decision → Type 0
Apart d f = decided_tx d ≢ decided_tx f

number_of-at : (ds : List Decision) (n tx : ℕ) (d : Decision) → IsDecidedOnce ds → slice_get ds n ≡ Some d
    → decided_tx d ≡ tx → number_of ds tx ≡ Some n
number_of-at [] n tx d once at is = absurd cc
number_of-at (f ∷ ds) zero tx d once at is =
    ap (λ b. cond b (Some 0) (option_map suc (number_of ds tx)))
    (eq-eqb (decided_tx f) tx (ap decided_tx (same_Some f d at) ∙ is))
number_of-at (f ∷ ds) (suc n) tx d once at is =
    let apart : decided_tx f ≢ tx = λ e. AllPairs_at Apart (f ∷ ds) 0 (suc n) f d once (omega arith) refl at (e
    ∙ sym is) in
    ap (λ b. cond b (Some 0) (option_map suc (number_of ds tx))) (ne_eqb (decided_tx f) tx apart)
    ∙ ap (option_map suc) (number_of-at ds n tx d (AllPairs-tail Apart f ds once) at is)

abbrev in_order : Option ℕ → Option ℕ → Bool
in_order (Some m) (Some n) = nat_le m n
in_order _ _ = true

abbrev ends_in_order : List Decision → Entry → Entry → Bool
ends_in_order ds en f = not (is_end en && is_end f) || in_order (number_of ds (tx_of en)) (number_of ds (tx_of f))

ends-sound : (ds : List Decision) → IsDecidedOnce ds → (en f : Entry) → ends_in_order ds en f ≡ true
    → EndInOrder ds en f
ends-sound ds once en f h en-end f-end m n a b =
    elim (or_cases (not (is_end en && is_end f)) (in_order (number_of ds (tx_of en)) (number_of ds (tx_of f))) h) [
      | inl other ↦ absurd
          (refuted (is_end en && is_end f) other (and-true (is_end en) (is_end f) (is_end-from en en-end)
          (is_end-from f f-end)))
      | inr order ↦ leb-true m n
          (sym (ap₂ in_order (number_of-at ds m (tx_of en) a.0 once a.1 a.2)
          (number_of-at ds n (tx_of f) b.0 once b.1 b.2)) ∙ order)
    ]

abbrev rises : Option ℕ → Option ℕ → Bool
rises (Some r) (Some s) = nat_lt r s
rises _ _ = true

abbrev rises_in_rank : List Decision → Entry → Entry → Bool
rises_in_rank ds en f =
    not (clashes en f) || ((tx_of en == tx_of f) || rises (rank_of ds (tx_of en)) (rank_of ds (tx_of f)))

ranked-sound : (ds : List Decision) → IsDecidedOnce ds → (en f : Entry) → rises_in_rank ds en f ≡ true
    → RiseInRank ds en f
ranked-sound ds once en f h kind x m n r s clash apart a b =
    elim (or_cases (not (clashes en f)) ((tx_of en == tx_of f) || rises (rank_of ds (tx_of en))
    (rank_of ds (tx_of f))) h) [
      | inl other ↦ absurd (refuted (clashes en f) other (clashes-from kind x en f clash))
      | inr rest ↦ elim (or_cases (tx_of en == tx_of f) (rises (rank_of ds (tx_of en)) (rank_of ds (tx_of f))) rest) [
        | inl same ↦ absurd (apart (eqb-true (tx_of en) (tx_of f) same))
        | inr rank ↦ ltb-true r s
            (sym (ap₂ rises (rank_of-committed ds m (tx_of en) r once a) (rank_of-committed ds n (tx_of f) s once b))
            ∙ rank)
      ]
    ]

-- ---- values

abbrev is_value : Option ℕ → ℕ → Bool
is_value (Some w) v = w == v
is_value None v = false

is_value-from : (o : Option ℕ) (v : ℕ) → is_value o v ≡ true → o ≡ Some v
is_value-from (Some w) v h = ap Some (eqb-true w v h)
is_value-from None v h = absurd (true≢false (sym h))

abbrev reads_well : List Holding → List Entry → Entry → Bool
reads_well items before (e.Read tx x v) = is_value (value_at items before x) v
reads_well items before _ = true

abbrev reads_pass : List Holding → List Entry → List Entry → Bool
reads_pass items before [] = true
reads_pass items before (en ∷ more) = reads_well items before en && reads_pass items (before ++ en ∷ []) more

reads-sound : (items : List Holding) (before entries : List Entry) → reads_pass items before entries ≡ true
    → (n tx : ℕ) (x : Name) (v : ℕ) → slice_get entries n ≡ Some (e.Read tx x v)
    → value_at items (before ++ take n entries) x ≡ Some v
reads-sound items before [] h n tx x v at = absurd cc
reads-sound items before (en ∷ more) h zero tx x v at =
    let p = and_parts (reads_well items before en) (reads_pass items (before ++ en ∷ []) more) h in
    let well = sym (ap (reads_well items before) (same_Some en (e.Read tx x v) at)) ∙ p.0 in
    ap (λ (es : List Entry). value_at items es x) (append-nil before) ∙ is_value-from (value_at items before x) v well
reads-sound items before (en ∷ more) h (suc n) tx x v at =
    let p = and_parts (reads_well items before en) (reads_pass items (before ++ en ∷ []) more) h in
    ap (λ (es : List Entry). value_at items es x) (sym (append_assoc before (en ∷ []) (take n more)))
    ∙ reads-sound items (before ++ en ∷ []) more p.1 n tx x v at

-- ---- a log

abbrev is_known : List Name → Option Name → Bool
is_known xs None = true
is_known xs (Some x) = list_any (bytes_eq x) xs

known-sound : (xs : List Name) (o : Option Name) → is_known xs o ≡ true → ForSome o (Contains xs)
known-sound xs None h x is = absurd cc
known-sound xs (Some y) h x is =
    let f = found (bytes_eq y) xs h in
    let same = (bytes_eq-Decides y f.1).0 f.3 in
    Contains-from_at xs f.0 x (f.2 ∙ ap Some (sym same) ∙ is)

abbrev has_ended : List Entry → Entry → Bool
has_ended entries en = list_any (λ f. is_end f && (tx_of f == tx_of en)) entries

ended-sound : (entries : List Entry) (en : Entry) → has_ended entries en ≡ true
    → Any (λ f. IsEnd f × (tx_of f ≡ tx_of en)) entries
ended-sound entries en h =
    let a = Any-from_list_any (λ f. is_end f && (tx_of f == tx_of en)) entries h in
    let p = and_parts (is_end a.1) (tx_of a.1 == tx_of en) a.4 in
    (a.0, a.1, a.2, a.3, (IsEnd-from a.1 p.0, eqb-true (tx_of a.1) (tx_of en) p.1))

abbrev closes : Entry → Entry → Bool
closes en f = not (is_end en && (tx_of en == tx_of f))

closes-sound : (en f : Entry) → closes en f ≡ true → IsEnd en → tx_of en ≢ tx_of f
closes-sound en f h en-end same =
    refuted (is_end en && (tx_of en == tx_of f)) h (and-true (is_end en) (tx_of en == tx_of f) (is_end-from en en-end)
    (eq-eqb (tx_of en) (tx_of f) same))

-- all of them together
abbrev pub log_passes : List Decision → SiteLog → Bool
log_passes ds log =
    list_all (λ en. is_known (names log.items) (item_of en)) log.entries
    && (pairs_pass (λ en f. not (repeats en f)) log.entries
    && (blocks_pass log.entries
    && (pairs_pass closes log.entries
    && (list_all (has_ended log.entries) log.entries
    && (reads_pass log.items [] log.entries
    && (list_all (λ (h : Holding). is_value (value_at log.items log.entries h.item) h.value) log.finals
    && (list_all (is_decided ds) log.entries && (pairs_pass (ends_in_order ds) log.entries && pairs_pass
    (rises_in_rank ds) log.entries))))))))

log-sound : (ds : List Decision) → IsDecidedOnce ds → (log : SiteLog) → log_passes ds log ≡ true → IsValidLog ds log
log-sound ds once log h =
    let known = and_parts _ _ h in
    let apart = and_parts _ _ known.1 in
    let blocks = and_parts _ _ apart.1 in
    let closed = and_parts _ _ blocks.1 in
    let ended = and_parts _ _ closed.1 in
    let read = and_parts _ _ ended.1 in
    let final = and_parts _ _ read.1 in
    let told = and_parts _ _ final.1 in
    let last = and_parts _ _ told.1 in
    record {
      formed = (
        record {
          known = All-from_recursion (λ en. ForSome (item_of en) (Contains (names log.items))) log.entries
              (all-from_test _ (λ en. is_known (names log.items) (item_of en))
              (λ en. known-sound (names log.items) (item_of en)) log.entries known.0);
          once = AllPairs-from_recursion (λ en f. (x : Name) → Repeats x en f
              → ⊥) log.entries (pairs-from_test _ (λ en f. not (repeats en f)) repeats-sound log.entries apart.0);
          blocks = blocks-sound log.entries blocks.0;
          closed = AllPairs-from_recursion (λ en f. IsEnd en
              → tx_of en ≢ tx_of f) log.entries (pairs-from_test _ closes closes-sound log.entries closed.0);
        },
        All-from_recursion (λ en. Any (λ f. IsEnd f × (tx_of f ≡ tx_of en)) log.entries) log.entries
            (all-from_test _ (has_ended log.entries) (ended-sound log.entries) log.entries ended.0),
      );
      reads = reads-sound log.items [] log.entries read.0;
      finals = All-from_recursion (λ (h : Holding). value_at log.items log.entries h.item ≡ Some h.value) log.finals
          (all-from_test _ (λ (h : Holding). is_value (value_at log.items log.entries h.item) h.value)
          (λ (h : Holding). is_value-from (value_at log.items log.entries h.item) h.value) log.finals final.0);
      agrees = record {
        decided = All-from_recursion (λ en. (number : ℕ) × IsDecided ds en number) log.entries
            (all-from_test _ (is_decided ds) (decided-sound ds) log.entries told.0);
        in_order =
            AllPairs-from_recursion (EndInOrder ds) log.entries
            (pairs-from_test _ (ends_in_order ds) (ends-sound ds once) log.entries last.0);
      };
      ranked = AllPairs-from_recursion (RiseInRank ds) log.entries
          (pairs-from_test _ (rises_in_rank ds) (ranked-sound ds once) log.entries last.1);
    }

-- ---- a bundle

abbrev other : ℕ → ℕ → Bool
other a b = not (a == b)

other-sound : (a b : ℕ) → other a b ≡ true → a ≢ b
other-sound a b h e = refuted (a == b) h (eq-eqb a b e)

abbrev pub bundle_passes : Parts → Bool
bundle_passes b =
    pairs_pass (λ d f. other (decided_tx d) (decided_tx f)) b.certificate.decisions
    && (list_all (λ r. nat_lt r (length (ranks b.certificate.decisions))) (ranks b.certificate.decisions)
    && (pairs_pass other (ranks b.certificate.decisions) && list_all (log_passes b.certificate.decisions) b.sites))

-- a bundle that passes, and whose walks are cycles, is valid
pub valid-from_test : (b : Parts) → bundle_passes b ≡ true
    → (RefusedLieOnCycles b) → IsValid b
valid-from_test b h cycles =
    let ds = b.certificate.decisions in
    let twice = and_parts _ _ h in
    let low = and_parts _ _ twice.1 in
    let rest = and_parts _ _ low.1 in
    let once =
    AllPairs-from_recursion Apart ds (pairs-from_test Apart (λ d f. other (decided_tx d) (decided_tx f))
    (λ d f. other-sound (decided_tx d) (decided_tx f)) ds twice.0) in
    record {
      logs = All-from_recursion (IsValidLog ds) b.sites
          (all-from_test (IsValidLog ds) (log_passes ds) (log-sound ds once) b.sites rest.1);
      once = once;
      ranks = record {
        below = All-from_recursion (λ r. r < length (ranks ds)) (ranks ds)
            (all-from_test _ (λ r. nat_lt r (length (ranks ds))) (λ r. ltb-true r (length (ranks ds)))
            (ranks ds) low.0);
        apart = AllPairs-from_recursion (λ r s. r ≢ s) (ranks ds)
            (pairs-from_test _ other other-sound (ranks ds) rest.0);
      };
      cycles = cycles;
    }
