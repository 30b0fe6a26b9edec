-- The conflicts that are found are all of the transaction, each once, in their order.
use Rattle.std.proofs.Common.{◌≡◌, ℕ, zero, suc, ◌+◌, ◌<◌, ◌≤◌, Bool, true, false, List, [], ◌∷◌, ◌++◌, length, All, AllPairs, Contains, Option, Some, None, inl, inr, refl, sym, subst, ap, ap₂, ◌∙◌, arith, take_all}
use Rattle.std.specs.Prelude.{IfSome, slice_get, cond, ◌==◌}
use Rattle.std.specs.List.{AllByRecursion, filter, filter_map, flat_map, enumerate_from, cons_option}
use Rattle.std.proofs.lemmas.Bool.{cond-false, cond-true, eq-eqb, eqb-true, ne_eqb, cases_lt, cases_order}
use Rattle.std.proofs.lemmas.Option.{same_Some, slice_get_within}
use Rattle.std.proofs.lemmas.List.{append-nil}
use Rattle.std.proofs.lemmas.List.Elements.{All-append, All-from_recursion, recursion_from_All, Contains-append_left, Contains-append_right}
use Rattle.std.proofs.lemmas.List.Quantifiers.{all_pairs_push}
use Rattle.sgt_names.proofs.Lists.{within_at, AllByRecursion-append}
use Rattle.sgt_names.proofs.Places.{AllPairs-tail, AllPairs-from_recursion, PairsByRecursion, Contains_at, Contains-from_at}
use Rattle.sgt_names.specs.Entry.{tx_of}
use Rattle.sgt_names.specs.declared.entry.Entry.{Entry}
use Rattle.sgt_notation.specs.declared.SectionLine.{SectionLine}
use Rattle.sgt_notation.specs.declared.SectionLine.TheVariants.{Site, Initial, Logged, Final, End}
use Rattle.sgt_explain_lines.specs.Sited.{StandsAt, site_at}
use Rattle.sgt_explain_lines.specs.declared.section.Logged.{Logged as LoggedEntry}
use Rattle.sgt_explain_lines.proofs.Siting.{taken-next}
use Rattle.sgt_explain_transaction.specs.declared.conflicts.Pair.{Pair}
use Rattle.sgt_explain_transaction.specs.declared.dealings.Own.{Own}
use Rattle.sgt_explain_transaction.specs.Conflicts.{AreConflicts, IsOwnConflict, IsToldBefore, other_line, own_line}
use Rattle.sgt_explain_transaction.specs.Dealings.{IsOwn, entries_of, entry_at, is_own, own_of}
use Rattle.sgt_explain_transaction.specs.Found.{conflict_with, conflicts_among, conflicts_with}
use Rattle.sgt_explain_transaction.proofs.Clashing.{IsMet, met-first, met-of, met-second, own-conflict}
use Rattle.sgt_explain_transaction.proofs.Reading.{entries_before}

-- ---- the entries of the lines

abbrev Stands : List SectionLine → Own → Type 0
Stands lines o = StandsAt lines o.site o.logged

abbrev IsBefore : (a b : Own) → Type 0
IsBefore a b = a.logged.line < b.logged.line

abbrev sited : (lines : List SectionLine) (n : ℕ) (e : Entry) → Own
sited lines n e = record { site = site_at lines n; logged = record { line = n + 3; entry = e } }

-- what is known of the entries of the first lines
record AreFirst (lines : List SectionLine) (n : ℕ) (read : List Own) : Type 0 where
  pub stand : All (Stands lines) read
  pub below : All (λ o. o.logged.line < n + 3) read
  pub rising : AllPairs IsBefore read
  pub all : (k : ℕ) (e : Entry) → k < n → slice_get lines k ≡ Some (Logged e)
      → Contains read (record { site = site_at lines k; logged = record { line = k + 3; entry = e } })

contains-cons : {X : Type 0} (y : X) (xs : List X) (x : X) → Contains xs x → Contains (y ∷ xs) x
contains-cons y xs x has = let at = Contains_at xs x has in Contains-from_at (y ∷ xs) (suc at.0) x at.1

same-first : (lines : List SectionLine) (n : ℕ) (read : List Own) (one : SectionLine) → slice_get lines n ≡ Some one
    → ((e : Entry) → one ≡ Logged e → ⊥) → AreFirst lines n read → AreFirst lines (n + 1) (read ++ [])
same-first lines n read one at other first = subst (AreFirst lines (n + 1)) (sym (append-nil read)) (record {
  stand = first.stand;
  below = λ k d within. (let less = first.below k d within in omega (arith, less));
  rising = first.rising;
  all = λ k e less is. elim (cases_lt k n) [
    | inl before ↦ first.all k e before is
    | inr behind ↦ (let here : n ≡ k = omega (arith, less, behind) in
        absurd (other e (same_Some one (Logged e) (sym at ∙ ap (slice_get lines) here ∙ is))))
  ];
})

one-first : (lines : List SectionLine) (n : ℕ) (read : List Own) (f : Entry) → slice_get lines n ≡ Some (Logged f)
    → AreFirst lines n read → AreFirst lines (n + 1) (read ++ sited lines n f ∷ [])
one-first lines n read f at first =
    let own = sited lines n f in
    record {
      stand = All-append (Stands lines) read (own ∷ []) first.stand (All-from_recursion (Stands lines) (own ∷ []) (
        record { place = n; there = at; counted = refl; inside = refl },
        tt,
      ));
      below = All-append (λ (o : Own). o.logged.line < n + 1 + 3) read (own ∷ [])
          (λ k d within. (let less = first.below k d within in omega (arith, less)))
          (All-from_recursion (λ (o : Own). o.logged.line < n + 1 + 3) (own ∷ []) (omega arith, tt));
      rising = all_pairs_push IsBefore read own first.rising (λ k d within. first.below k d within);
      all = λ k e less is. elim (cases_lt k n) [
        | inl before ↦ Contains-append_left read (own ∷ []) (sited lines k e) (first.all k e before is)
        | inr behind ↦ (let here : n ≡ k = omega (arith, less, behind) in
            let same : f ≡ e = logged-same f e (same_Some (Logged f) (Logged e) (sym at ∙ ap (slice_get lines) here
            ∙ is)) in
            subst (Contains (read ++ own ∷ [])) (ap₂ (sited lines) here same)
            (Contains-append_right read (own ∷ []) own (Contains-from_at (own ∷ []) 0 own refl)))
      ];
    }
  where
    logged-same : (f e : Entry) → Logged f ≡ Logged e → f ≡ e
    logged-same f e is = cc

step-first : (lines : List SectionLine) (n : ℕ) (read : List Own) (one : SectionLine) → slice_get lines n ≡ Some one
    → AreFirst lines n read → AreFirst lines (n + 1) (read ++ cons_option (entry_at lines (n, one)) [])
step-first lines n read (Site k) at first = same-first lines n read (Site k) at (λ e is. cc) first
step-first lines n read (Initial h) at first = same-first lines n read (Initial h) at (λ e is. cc) first
step-first lines n read (Logged f) at first = one-first lines n read f at first
step-first lines n read (Final h) at first = same-first lines n read (Final h) at (λ e is. cc) first
step-first lines n read End at first = same-first lines n read End at (λ e is. cc) first

first-lines : (lines : List SectionLine) (n : ℕ) → n ≤ length lines → AreFirst lines n (entries_before lines n)
first-lines lines zero within = record {
  stand = All-from_recursion (Stands lines) [] tt;
  below = All-from_recursion (λ (o : Own). o.logged.line < 0 + 3) [] tt;
  rising = AllPairs-from_recursion IsBefore [] tt;
  all = λ k e less is. absurd (omega (arith, less));
}
first-lines lines (suc n) within =
    let one = within_at lines n (omega (arith, within)) in
    let next : n + 1 ≡ suc n = omega arith in
    subst (λ k. AreFirst lines k (entries_before lines k)) next
    (subst (AreFirst lines (n + 1)) (sym (taken-next (entry_at lines) lines n one.0 one.1))
    (step-first lines n (entries_before lines n) one.0 one.1 (first-lines lines n (omega (arith, within)))))

all-lines : (lines : List SectionLine) → AreFirst lines (length lines) (entries_of lines)
all-lines lines =
    subst (AreFirst lines (length lines))
    (ap (λ ls. filter_map (entry_at lines) (enumerate_from 0 ls)) (take_all (length lines) lines (omega arith)))
    (first-lines lines (length lines) (omega arith))

-- ---- lists of conflicts

all-from : {X : Type 0} (P : X → Type 0) → ((x : X) → P x) → (xs : List X) → AllByRecursion P xs
all-from P f [] = tt
all-from P f (x ∷ xs) = (f x, all-from P f xs)

all-weaker : {X : Type 0} (P Q : X → Type 0) → ((x : X) → P x → Q x) → (xs : List X) → AllByRecursion P xs
    → AllByRecursion Q xs
all-weaker P Q f [] all = tt
all-weaker P Q f (x ∷ xs) all = (f x all.0, all-weaker P Q f xs all.1)

all-both : {X : Type 0} (P Q : X → Type 0) (xs : List X) → AllByRecursion P xs → AllByRecursion Q xs
    → AllByRecursion (λ x. P x × Q x) xs
all-both P Q [] p q = tt
all-both P Q (x ∷ xs) p q = ((p.0, q.0), all-both P Q xs p.1 q.1)

pairs-recursion : {X : Type 0} (R : X → X → Type 0) (xs : List X) → AllPairs R xs → PairsByRecursion R xs
pairs-recursion R [] all = tt
pairs-recursion R (x ∷ xs) all = (
  recursion_from_All (R x) xs (λ k d within. all 0 (suc k) d (omega arith) (omega (arith, within))),
  pairs-recursion R xs (AllPairs-tail R x xs all),
)

all-filter : {X : Type 0} (t : X → Bool) (P : X → Type 0) (xs : List X) → AllByRecursion P xs
    → AllByRecursion P (filter t xs)
all-filter t P [] all = tt
all-filter t P (x ∷ xs) all = picked (t x) (all-filter t P xs all.1)
  where
    picked : (b : Bool) → AllByRecursion P (filter t xs) → AllByRecursion P (cond b (x ∷ filter t xs) (filter t xs))
    picked true rest = (all.0, rest)
    picked false rest = rest

pairs-filter : {X : Type 0} (t : X → Bool) (R : X → X → Type 0) (xs : List X) → PairsByRecursion R xs
    → PairsByRecursion R (filter t xs)
pairs-filter t R [] pairs = tt
pairs-filter t R (x ∷ xs) pairs = picked (t x) (pairs-filter t R xs pairs.1)
  where
    picked : (b : Bool) → PairsByRecursion R (filter t xs)
        → PairsByRecursion R (cond b (x ∷ filter t xs) (filter t xs))
    picked true rest = (all-filter t (R x) xs pairs.0, rest)
    picked false rest = rest

all-passed : {X : Type 0} (t : X → Bool) (xs : List X) → AllByRecursion (λ x. t x ≡ true) (filter t xs)
all-passed t [] = tt
all-passed t (x ∷ xs) = picked (t x) refl (all-passed t xs)
  where
    picked : (b : Bool) → t x ≡ b → AllByRecursion (λ y. t y ≡ true) (filter t xs)
        → AllByRecursion (λ y. t y ≡ true) (cond b (x ∷ filter t xs) (filter t xs))
    picked true is rest = (is, rest)
    picked false is rest = rest

all-option : {Y : Type 0} (Q : Y → Type 0) (o : Option Y) (ys : List Y) → ((y : Y) → o ≡ Some y → Q y)
    → AllByRecursion Q ys → AllByRecursion Q (cons_option o ys)
all-option Q None ys f all = all
all-option Q (Some y) ys f all = (f y refl, all)

all-mapped : {X Y : Type 0} (f : X → Option Y) (P : X → Type 0) (Q : Y → Type 0)
    → ((x : X) (y : Y) → P x → f x ≡ Some y → Q y) → (xs : List X) → AllByRecursion P xs
    → AllByRecursion Q (filter_map f xs)
all-mapped f P Q h [] all = tt
all-mapped f P Q h (x ∷ xs) all =
    all-option Q (f x) (filter_map f xs) (λ y is. h x y all.0 is) (all-mapped f P Q h xs all.1)

pairs-mapped : {X Y : Type 0} (f : X → Option Y) (P : X → Type 0) (R : X → X → Type 0) (S : Y → Y → Type 0)
    → ((a b : X) (p q : Y) → P a → P b → R a b → f a ≡ Some p → f b ≡ Some q → S p q) → (xs : List X)
    → AllByRecursion P xs → PairsByRecursion R xs → PairsByRecursion S (filter_map f xs)
pairs-mapped f P R S h [] all pairs = tt
pairs-mapped {Y = Y} f P R S h (x ∷ xs) all pairs = with-one (f x) refl (pairs-mapped f P R S h xs all.1 pairs.1)
  where
    with-one : (o : Option Y) → f x ≡ o → PairsByRecursion S (filter_map f xs)
        → PairsByRecursion S (cons_option o (filter_map f xs))
    with-one None is rest = rest
    with-one (Some p) is rest = (
      all-mapped f (λ b. P b × R x b) (S p) (λ b q both is'. h x b p q all.0 both.0 both.1 is is') xs
          (all-both P (R x) xs all.1 pairs.0),
      rest,
    )

all-flat : {X Y : Type 0} (g : X → List Y) (P : X → Type 0) (Q : Y → Type 0)
    → ((x : X) → P x → AllByRecursion Q (g x)) → (xs : List X) → AllByRecursion P xs → AllByRecursion Q (flat_map g xs)
all-flat g P Q h [] all = tt
all-flat g P Q h (x ∷ xs) all =
    AllByRecursion-append Q (g x) (flat_map g xs) (h x all.0) (all-flat g P Q h xs all.1)

pairs-append : {Y : Type 0} (S : Y → Y → Type 0) (ps qs : List Y) → PairsByRecursion S ps → PairsByRecursion S qs
    → AllByRecursion (λ p. AllByRecursion (S p) qs) ps → PairsByRecursion S (ps ++ qs)
pairs-append S [] qs first more across = more
pairs-append S (p ∷ ps) qs first more across = (
  AllByRecursion-append (S p) ps qs first.0 across.0,
  pairs-append S ps qs first.1 more across.1,
)

-- ---- what is found is a conflict of the transaction

if-both : (k : Option (List SectionLine)) (A B : List SectionLine → Type 0) → IfSome k A → IfSome k B
    → IfSome k (λ lines. A lines × B lines)
if-both None A B a b = tt
if-both (Some lines) A B a b = (a, b)

abbrev StandsIf : Option (List SectionLine) → Own → Type 0
StandsIf known o = IfSome known (λ lines. StandsAt lines o.site o.logged)

conflicts-are : (known : Option (List SectionLine)) (tx : ℕ) (own read : List Own)
    → AllByRecursion (λ o. IsOwn tx o × StandsIf known o) own → AllByRecursion (StandsIf known) read
    → AllByRecursion (IsOwnConflict known tx) (conflicts_among own read)
conflicts-are known tx own read owns reads =
    all-flat (conflicts_with own) (StandsIf known) (IsOwnConflict known tx)
    (λ other there. all-mapped (conflict_with other) (λ o. IsOwn tx o × StandsIf known o) (IsOwnConflict known tx)
    (λ o p is found. own-conflict known tx o other p is.0
    (if-both known (λ lines. StandsAt lines o.site o.logged) (λ lines. StandsAt lines other.site other.logged) is.1
    there) (met-of o other p found)) own owns) read reads

pub plain-conflicts : (tx : ℕ) (own read : List Own) → All (IsOwn tx) own
    → All (IsOwnConflict None tx) (conflicts_among own read)
plain-conflicts tx own read all =
    All-from_recursion (IsOwnConflict None tx) (conflicts_among own read)
    (conflicts-are None tx own read
    (all-weaker (IsOwn tx) (λ o. IsOwn tx o × StandsIf None o) (λ o is. (is, tt)) own
    (recursion_from_All (IsOwn tx) own all)) (all-from (StandsIf None) (λ o. tt) read))

-- ---- in the order of their lines

lines-of : (tx : ℕ) (own other : Own) (p : Pair) → IsOwn tx own → IsMet own other p
    → (own_line tx p ≡ own.logged.line) × (other_line tx p ≡ other.logged.line)
lines-of tx own other p is met =
    elim met.two [
      | inl t ↦ (let own' = eq-eqb (tx_of p.first.entry) tx (ap (λ (l : LoggedEntry). tx_of l.entry) t.1 ∙ is) in (
        cond-true (tx_of p.first.entry == tx) p.first.line p.second.line own'
            ∙ ap (λ (l : LoggedEntry). l.line) t.1,
        cond-true (tx_of p.first.entry == tx) p.second.line p.first.line own'
            ∙ ap (λ (l : LoggedEntry). l.line) t.2,
      ))
      | inr t ↦ (let second = ap (λ (l : LoggedEntry). tx_of l.entry) t.2 ∙ is in
          let other' = ne_eqb (tx_of p.first.entry) tx (λ same. met.clashes.apart (same ∙ sym second)) in (
            cond-false (tx_of p.first.entry == tx) p.first.line p.second.line other'
                ∙ ap (λ (l : LoggedEntry). l.line) t.2,
            cond-false (tx_of p.first.entry == tx) p.second.line p.first.line other'
                ∙ ap (λ (l : LoggedEntry). l.line) t.1,
          ))
    ]

order-with : (tx : ℕ) (own : List Own) (other : Own) → AllByRecursion (IsOwn tx) own → PairsByRecursion IsBefore own
    → PairsByRecursion (IsToldBefore tx) (conflicts_with own other)
order-with tx own other owns rising =
    pairs-mapped (conflict_with other) (IsOwn tx) IsBefore (IsToldBefore tx)
    (λ a b p q is-a is-b less found-a found-b.
    let at-a = lines-of tx a other p is-a (met-of a other p found-a) in
    let at-b = lines-of tx b other q is-b (met-of b other q found-b) in
    let one = at-a.0 in
    let two = at-b.0 in
    inr (at-a.1 ∙ sym at-b.1, omega (arith, less, one, two))) own owns rising

lines-with : (tx : ℕ) (own : List Own) (other : Own) → AllByRecursion (IsOwn tx) own
    → AllByRecursion (λ p. other_line tx p ≡ other.logged.line) (conflicts_with own other)
lines-with tx own other owns =
    all-mapped (conflict_with other) (IsOwn tx) (λ p. other_line tx p ≡ other.logged.line)
    (λ a p is found. (lines-of tx a other p is (met-of a other p found)).1) own owns

order-among : (tx : ℕ) (own read : List Own) → AllByRecursion (IsOwn tx) own → PairsByRecursion IsBefore own
    → PairsByRecursion IsBefore read → PairsByRecursion (IsToldBefore tx) (conflicts_among own read)
order-among tx own [] owns rising reads = tt
order-among tx own (other ∷ read) owns rising reads =
    let later = all-flat (conflicts_with own) (IsBefore other) (λ q. other.logged.line < other_line tx q)
    (λ next less. all-weaker (λ q. other_line tx q ≡ next.logged.line) (λ q. other.logged.line < other_line tx q)
    (λ q at. omega (arith, less, at)) (conflicts_with own next) (lines-with tx own next owns)) read reads.0 in
    pairs-append (IsToldBefore tx) (conflicts_with own other) (conflicts_among own read)
    (order-with tx own other owns rising) (order-among tx own read owns rising reads.1)
    (all-weaker (λ p. other_line tx p ≡ other.logged.line)
    (λ p. AllByRecursion (IsToldBefore tx p) (conflicts_among own read))
    (λ p at. all-weaker (λ q. other.logged.line < other_line tx q) (IsToldBefore tx p)
    (λ q less. inl (omega (arith, at, less))) (conflicts_among own read) later) (conflicts_with own other)
    (lines-with tx own other owns))

-- ---- each is found

in-filter : {X : Type 0} (t : X → Bool) (xs : List X) (k : ℕ) (x : X) → slice_get xs k ≡ Some x → t x ≡ true
    → Contains (filter t xs) x
in-filter t [] k x at is = absurd cc
in-filter t (y ∷ xs) zero x at is =
    let same : y ≡ x = same_Some y x at in
    subst (λ b. Contains (cond b (y ∷ filter t xs) (filter t xs)) x) (sym (ap t same ∙ is))
    (Contains-from_at (y ∷ filter t xs) 0 x at)
in-filter t (y ∷ xs) (suc k) x at is = picked (t y) (in-filter t xs k x at is)
  where
    picked : (b : Bool) → Contains (filter t xs) x → Contains (cond b (y ∷ filter t xs) (filter t xs)) x
    picked true rest = contains-cons y (filter t xs) x rest
    picked false rest = rest

in-option : {Y : Type 0} (o : Option Y) (ys : List Y) (y : Y) → Contains ys y → Contains (cons_option o ys) y
in-option None ys y has = has
in-option (Some z) ys y has = contains-cons z ys y has

in-mapped : {X Y : Type 0} (f : X → Option Y) (xs : List X) (k : ℕ) (x : X) (y : Y) → slice_get xs k ≡ Some x
    → f x ≡ Some y → Contains (filter_map f xs) y
in-mapped f [] k x y at is = absurd cc
in-mapped f (z ∷ xs) zero x y at is =
    let same : z ≡ x = same_Some z x at in
    subst (λ o. Contains (cons_option o (filter_map f xs)) y) (sym (ap f same ∙ is))
    (Contains-from_at (y ∷ filter_map f xs) 0 y refl)
in-mapped f (z ∷ xs) (suc k) x y at is = in-option (f z) (filter_map f xs) y (in-mapped f xs k x y at is)

in-flat : {X Y : Type 0} (g : X → List Y) (xs : List X) (k : ℕ) (x : X) (y : Y) → slice_get xs k ≡ Some x
    → Contains (g x) y → Contains (flat_map g xs) y
in-flat g [] k x y at has = absurd cc
in-flat g (z ∷ xs) zero x y at has =
    Contains-append_left (g z) (flat_map g xs) y (subst (λ w. Contains (g w) y) (sym (same_Some z x at)) has)
in-flat g (z ∷ xs) (suc k) x y at has =
    Contains-append_right (g z) (flat_map g xs) y (in-flat g xs k x y at has)

-- an entry that stands in the lines is one of theirs
in-lines : (lines : List SectionLine) (site : ℕ) (l : LoggedEntry) → StandsAt lines site l
    → Contains (entries_of lines) (record { site = site; logged = l })
in-lines lines site l there =
    let inside = slice_get_within lines there.place (Logged l.entry) there.there in
    subst (λ k. Contains (entries_of lines) (record { site = k; logged = l })) there.inside
    (subst (λ n. Contains (entries_of lines) (record {
      site = site_at lines there.place;
      logged = record { line = n; entry = l.entry };
    })) (sym there.counted) ((all-lines lines).all there.place l.entry inside there.there))

in-conflicts : (lines : List SectionLine) (tx : ℕ) (own other : Own) (p : Pair) → IsOwn tx own
    → Contains (entries_of lines) own → Contains (entries_of lines) other → conflict_with other own ≡ Some p
    → Contains (conflicts_among (own_of tx lines) (entries_of lines)) p
in-conflicts lines tx own other p is has-own has-other found =
    let at = Contains_at (entries_of lines) own has-own in
    let its = in-filter (is_own tx) (entries_of lines) at.0 own at.1 (eq-eqb (tx_of own.logged.entry) tx is) in
    let mine = Contains_at (own_of tx lines) own its in
    let there = Contains_at (entries_of lines) other has-other in
    in-flat (conflicts_with (own_of tx lines)) (entries_of lines) there.0 other p there.1
    (in-mapped (conflict_with other) (own_of tx lines) mine.0 own p mine.1 found)

-- two entries on one line are one
one-line : (lines : List SectionLine) (site : ℕ) (l m : LoggedEntry) → StandsAt lines site l → StandsAt lines site m
    → l.line ≡ m.line → l.entry ≡ m.entry
one-line lines site l m a b same =
    let n = a.counted in
    let k = b.counted in
    let here : a.place ≡ b.place = omega (arith, n, k, same) in
    let both : Some (Logged l.entry) ≡ Some (Logged m.entry) =
    sym a.there ∙ ap (slice_get lines) here ∙ b.there in
    cc

each-found : (lines : List SectionLine) (tx : ℕ) (p : Pair) → IsOwnConflict (Some lines) tx p
    → Contains (conflicts_among (own_of tx lines) (entries_of lines)) p
each-found lines tx p is =
    let one : Own = record { site = p.site; logged = p.first } in
    let two : Own = record { site = p.site; logged = p.second } in
    let has-one = in-lines lines p.site p.first is.there.0 in
    let has-two = in-lines lines p.site p.second is.there.1 in
    let le = is.order in
    elim is.own [
      | inl first ↦ (let less : p.first.line < p.second.line = elim (cases_order p.first.line p.second.line) [
        | inl same ↦ absurd (is.clashes.apart (ap tx_of (one-line lines p.site p.first p.second is.there.0 is.there.1
            same)))
        | inr (inl less) ↦ less
        | inr (inr more) ↦ absurd (omega (arith, le, more))
      ] in
          in-conflicts lines tx one two p first has-one has-two
          (met-first one two p refl less refl refl refl is.clashes))
      | inr second ↦ in-conflicts lines tx two one p second has-two has-one
          (met-second two one p refl le refl refl refl is.clashes)
    ]

-- ---- all of it

pub conflicts-of : (lines : List SectionLine) (tx : ℕ)
    → AreConflicts lines tx (conflicts_among (own_of tx lines) (entries_of lines))
conflicts-of lines tx =
    let read = entries_of lines in
    let own = own_of tx lines in
    let first = all-lines lines in
    let stand = recursion_from_All (Stands lines) read first.stand in
    let rising = pairs-recursion IsBefore read first.rising in
    let passed = all-weaker (λ o. is_own tx o ≡ true) (IsOwn tx) (λ o t. eqb-true (tx_of o.logged.entry) tx t) own
    (all-passed (is_own tx) read) in
    record {
      each = All-from_recursion (IsOwnConflict (Some lines) tx) (conflicts_among own read)
          (conflicts-are (Some lines) tx own read
          (all-both (IsOwn tx) (Stands lines) own passed (all-filter (is_own tx) (Stands lines) read stand)) stand);
      all = λ p is. each-found lines tx p is;
      order = AllPairs-from_recursion (IsToldBefore tx) (conflicts_among own read)
          (order-among tx own read passed (pairs-filter (is_own tx) IsBefore read rising) rising);
    }
