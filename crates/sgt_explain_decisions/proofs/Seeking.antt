-- A map of what is sought, with one entry more.
use Rattle.std.proofs.Common.{◌≡◌, ◌≢◌, ℕ, ◌+◌, ◌-◌, ◌<◌, ◌≤◌, Bool, true, false, cond, List, [], ◌∷◌, ◌++◌, length, take, drop, take_all, append_assoc, Option, Some, None, inl, inr, refl, sym, ap, ap₂, ◌∙◌, subst, arith, All}
use Rattle.std.specs.Prelude.{IfSome, IfNone, IsSome, IsSomeAnd, Result, Ok, Err, OnOk, slice_get, get_or, ◌⊎◌, ◌%◌, ◌==◌}
use Rattle.std.specs.BTreeMap.{is_at}
use Rattle.std.specs.Map.{lookup}
use Rattle.std.specs.declared.cmp.Ordering.{Ordering}
use Rattle.std.specs.declared.cmp.Ordering.TheVariants.{Less, Equal, Greater}
use Rattle.std.specs.Ordering.{nat_cmp, ordering_then, is_eq}
use Rattle.std.specs.Cmp.{nat_cmp_is}
use Rattle.std.specs.Cmp.Lexicographic.{slice_cmp}
use Rattle.std.proofs.lemmas.Bool.{cases_order, cases_lt, false≢true, true≢false, eq-eqb, eqb-true}
use Rattle.std.proofs.lemmas.List.{nil_from_length, take-append-drop}
use Rattle.std.proofs.lemmas.Map.Text.{is_eq-slice_cmp}
use Rattle.std.proofs.lemmas.Slice.Eq.{bytes_eq-Decides}
use Rattle.std.proofs.lemmas.Option.{same_Some, none-some, slice_get_within}
use Rattle.sgt_names.proofs.Lists.{take_next}
use Rattle.sgt_names.specs.Name.{Name}
use Rattle.sgt_names.specs.Entry.{tx_of, item_of, Reads, Writes}
use Rattle.sgt_names.specs.declared.entry.Entry.{Entry}
use Rattle.sgt_names.specs.declared.entry.Entry.TheVariants as entry
use Rattle.sgt_notation.specs.Spelling.{line_text, text_of_lines, HasNoLf, IsLine}
use Rattle.sgt_notation.specs.declared.SectionLine.{SectionLine}
use Rattle.sgt_notation.specs.declared.SectionLine.TheVariants as Line
use Rattle.sgt_notation.proofs.OneSpelling.{line-one}
use Rattle.sgt_notation.proofs.Short.{line-no_lf}
use Rattle.sgt_bundle.specs.declared.certificate.Step.{Step}
use Rattle.sgt_bundle.specs.declared.certificate.Decision.{Decision}
use Rattle.sgt_bundle.specs.declared.certificate.Decision.TheVariants.{Refuse}
use Rattle.sgt_explain_lines.specs.Numbered.{site_behind, entry_in}
use Rattle.sgt_explain_lines.specs.Sited.{HasLines, HasBefore, StandsAt, site_at}
use Rattle.sgt_explain_lines.specs.declared.section.Logged.{Logged}
use Rattle.sgt_explain_lines.proofs.Numbering.{line-cut}
use Rattle.sgt_explain_lines.proofs.Siting.{all_lines, IsGone, IsHeadLine, IsSited, gone-step, gone-all, gone-end, site-next}
use Rattle.sgt_explain_decisions.specs.declared.sought.Found.{Found}
use Rattle.sgt_explain_decisions.specs.declared.sought.Sought.{Sought}
use Rattle.sgt_explain_decisions.specs.Sought.{Key, key_cmp, key_of, found_at, nothing, ReadsAs, ChangesAs, IsLastAt, IsFoundIn, AreFoundIn, IsFound, AreFound, IsSoughtFor, last_stop, AreSoughtFor, WalksAreSought}
use Rattle.sgt_explain_decisions.specs.Sought.{AreUnfound, KeepsKeys, PutsAt, TakesPlace, HasOneMore, IsNextOf, TakesOne, AreMarked, Seeks, FindsOne, FindsFirst, FindsAny}
use Rattle.sgt_names.proofs.Elements.{nat_cmp-same}
use Rattle.sgt_notation.proofs.DecidableEntries.{reads-item, writes-item}

-- ---- keys

both-equal : (o p : Ordering) → is_eq (ordering_then o p) ≡ true → (is_eq o ≡ true) × (is_eq p ≡ true)
both-equal Less p e = absurd (false≢true e)
both-equal Equal p e = (refl, e)
both-equal Greater p e = absurd (false≢true e)

equal-both : (o p : Ordering) → is_eq o ≡ true → is_eq p ≡ true → is_eq (ordering_then o p) ≡ true
equal-both Less p e f = absurd (false≢true e)
equal-both Equal p e f = f
equal-both Greater p e f = absurd (false≢true e)

pub same-number : (a b : ℕ) → is_eq (nat_cmp a b) ≡ true → a ≡ b
same-number a b e =
    elim (cases_order a b) [
      | inl same ↦ same
      | inr (inl less) ↦ absurd (false≢true (ap is_eq (nat_cmp_is a b Less less) ∙ e))
      | inr (inr more) ↦ absurd (false≢true (ap is_eq (nat_cmp_is a b Greater more) ∙ e))
    ]

-- keys that compare as equal have one site, one item and one transaction
pub same-key : (k q : Key) → is_eq (key_cmp k q) ≡ true → (k.0 ≡ q.0) × (k.1 ≡ q.1) × (k.2 ≡ q.2)
same-key k q e =
    let outer = both-equal (ordering_then (nat_cmp k.0 q.0) (slice_cmp nat_cmp k.1 q.1)) (nat_cmp k.2 q.2) e in
    let inner = both-equal (nat_cmp k.0 q.0) (slice_cmp nat_cmp k.1 q.1) outer.0 in (
      same-number k.0 q.0 inner.0,
      (bytes_eq-Decides k.1 q.1).0 (sym (is_eq-slice_cmp k.1 q.1) ∙ inner.1),
      same-number k.2 q.2 outer.1,
    )

pub key-same : (k q : Key) → k.0 ≡ q.0 → k.1 ≡ q.1 → k.2 ≡ q.2 → is_eq (key_cmp k q) ≡ true
key-same k q a b c =
    equal-both (ordering_then (nat_cmp k.0 q.0) (slice_cmp nat_cmp k.1 q.1)) (nat_cmp k.2 q.2)
    (equal-both (nat_cmp k.0 q.0) (slice_cmp nat_cmp k.1 q.1) (nat_cmp-same k.0 q.0 a) (is_eq-slice_cmp k.1 q.1
    ∙ (bytes_eq-Decides k.1 q.1).1 b))
    (nat_cmp-same k.2 q.2 c)

-- ---- what is sought

some-cond : {A : Type 0} (b : Bool) (a : A) (o : Option A) → IsSome o → IsSome (cond b (Some a) o)
some-cond true a o some = refl
some-cond false a o some = some

pub puts-keys : (k : Key) (f : Found) (old new : Sought) → PutsAt k f old new → KeepsKeys old new
puts-keys k f old new puts q some =
    subst IsSome (sym (puts q)) (some-cond (is_eq (key_cmp k q)) f (found_at old q) some)

pub puts-own : (k : Key) (f : Found) (old new : Sought) → PutsAt k f old new → IsSome (found_at new k)
puts-own k f old new puts =
    subst IsSome (sym (puts k)) (subst (λ b. IsSome (cond b (Some f) (found_at old k)))
    (sym (key-same k k refl refl refl)) refl)

unfound-cond : (b : Bool) (o : Option Found) → IfSome o (λ f. f ≡ nothing)
    → IfSome (cond b (Some nothing) o) (λ f. f ≡ nothing)
unfound-cond true o h = refl
unfound-cond false o h = h

pub puts-unfound : (k : Key) (old new : Sought) → PutsAt k nothing old new → AreUnfound old → AreUnfound new
puts-unfound k old new puts none q =
    subst (λ o. IfSome o (λ f. f ≡ nothing)) (sym (puts q))
    (unfound-cond (is_eq (key_cmp k q)) (found_at old q) (none q))

pub puts-marked : (k : Key) (f : Found) (old new : Sought) (a b : List Bool) → PutsAt k f old new
    → get_or b (k.2 % 65536) false ≡ true
    → ((n : ℕ) → get_or a n false ≡ true → get_or b n false ≡ true) → AreMarked old a → AreMarked new b
puts-marked k f old new a b puts own kept marked q some = by (is_eq (key_cmp k q)) refl (subst IsSome (puts q) some)
  where
    by : (c : Bool) → is_eq (key_cmp k q) ≡ c → IsSome (cond c (Some f) (found_at old q))
        → get_or b (q.2 % 65536) false ≡ true
    by true e there = subst (λ t. get_or b (t % 65536) false ≡ true) (same-key k q e).2 own
    by false e there = kept (q.2 % 65536) (marked q there)

pub puts-seeks : (k : Key) (old new : Sought) (a b : List Bool) → PutsAt k nothing old new
    → get_or b (k.2 % 65536) false ≡ true
    → ((n : ℕ) → get_or a n false ≡ true → get_or b n false ≡ true) → Seeks old a new b
puts-seeks k old new a b puts own kept = record {
  keys = puts-keys k nothing old new puts;
  unfound = puts-unfound k old new puts;
  marked = puts-marked k nothing old new a b puts own kept;
}

pub put-seeks : {T E : Type 0} (r : Result T E) (s : ℕ) (x : Name) (tx : ℕ) (f : Found) (old new : Sought)
    (a b : List Bool) → f ≡ nothing → OnOk r (PutsAt (s, x, tx) f old new)
    → get_or b (tx % 65536) false ≡ true → ((n : ℕ) → get_or a n false ≡ true → get_or b n false ≡ true)
    → OnOk r (Seeks old a new b)
put-seeks (Ok t) s x tx f old new a b none puts own kept =
    puts-seeks (s, x, tx) old new a b (subst (λ g. PutsAt (s, x, tx) g old new) none puts) own kept
put-seeks (Err e) s x tx f old new a b none puts own kept = tt

pub put-own : {T E : Type 0} (r : Result T E) (s t : ℕ) (x : Name) (tx : ℕ) (f : Found) (old new : Sought) → s ≡ t
    → OnOk r (PutsAt (s, x, tx) f old new) → OnOk r (IsSome (found_at new (t, x, tx)))
put-own (Ok u) s t x tx f old new same puts =
    subst (λ m. IsSome (found_at new (m, x, tx))) same (puts-own (s, x, tx) f old new puts)
put-own (Err e) s t x tx f old new same puts = tt

pub on-two : {T E A B C : Type 0} (r : Result T E) → (A → B → C) → OnOk r A → OnOk r B → OnOk r C
on-two (Ok t) f a b = f a b
on-two (Err e) f a b = tt

-- where nothing is sought
pub empty-none : (sought : Sought) → sought.found.entries ≡ [] → (k : Key) → found_at sought k ≡ None
empty-none sought empty k = ap (lookup (is_at (key_cmp k))) empty

pub sought-none : (sought : Sought) (tx : ℕ) (walk : List Step) → AreSoughtFor sought tx walk 0
sought-none sought tx walk place step less = absurd (omega (arith, less))

pub seeks-both : (old mid new : Sought) (a b c : List Bool) → Seeks old a mid b → Seeks mid b new c → Seeks old a new c
seeks-both old mid new a b c first second = record {
  keys = λ k some. second.keys k (first.keys k some);
  unfound = λ none. second.unfound (first.unfound none);
  marked = λ marked. second.marked (first.marked marked);
}

pub seeks-none : (sought : Sought) (a : List Bool) → Seeks sought a sought a
seeks-none sought a = record { keys = λ k some. some; unfound = λ none. none; marked = λ marked. marked }

pub sought-kept : (old new : Sought) (from : ℕ) (step : Step) → KeepsKeys old new → IsSoughtFor old from step
    → IsSoughtFor new from step
sought-kept old new from step kept both = (kept (key_of step from) both.0, kept (key_of step step.to) both.1)

pub walk-kept : (old new : Sought) (tx count : ℕ) (walk : List Step) → KeepsKeys old new
    → AreSoughtFor old tx walk count → AreSoughtFor new tx walk count
walk-kept old new tx count walk kept all place step less at =
    sought-kept old new (last_stop tx (take place walk)) step kept (all place step less at)

pub walk-next : (old new : Sought) (tx n from : ℕ) (walk : List Step) (step : Step) → slice_get walk n ≡ Some step
    → from ≡ last_stop tx (take n walk) → KeepsKeys old new
    → IsSoughtFor new from step → AreSoughtFor old tx walk n → AreSoughtFor new tx walk (n + 1)
walk-next old new tx n from walk step at is kept both all place s less at' =
    elim (cases_order place n) [
      | inl here ↦ (let same = same_Some step s (sym at ∙ ap (slice_get walk) (sym here) ∙ at') in
          subst (λ (t : Step). IsSoughtFor new (last_stop tx (take place walk)) t) same
          (subst (λ m. IsSoughtFor new (last_stop tx (take m walk)) step) (sym here)
          (subst (λ f. IsSoughtFor new f step) is both)))
      | inr (inl earlier) ↦ sought-kept old new (last_stop tx (take place walk)) s kept (all place s earlier at')
      | inr (inr later) ↦ absurd (omega (arith, less, later))
    ]

pub walks-kept : (old new : Sought) (ds : List Decision) (count : ℕ) → KeepsKeys old new → WalksAreSought old ds count
    → WalksAreSought new ds count
walks-kept old new ds count kept all number tx walk less at =
    walk-kept old new tx (length walk) walk kept (all number tx walk less at)

pub refuse-same : (t u : ℕ) (v w : List Step) → Refuse t v ≡ Refuse u w → (t ≡ u) × (v ≡ w)
refuse-same t u v w same = (cc, cc)

pub walks-next : (old new : Sought) (ds : List Decision) (n : ℕ) (d : Decision) → slice_get ds n ≡ Some d
    → KeepsKeys old new
    → ((tx : ℕ) (walk : List Step) → d ≡ Refuse tx walk → AreSoughtFor new tx walk (length walk))
    → WalksAreSought old ds n → WalksAreSought new ds (n + 1)
walks-next old new ds n d at kept own all number tx walk less at' =
    elim (cases_order number n) [
      | inl here ↦ own tx walk (same_Some d (Refuse tx walk) (sym at ∙ ap (slice_get ds) (sym here) ∙ at'))
      | inr (inl earlier) ↦ walk-kept old new tx (length walk) walk kept (all number tx walk earlier at')
      | inr (inr later) ↦ absurd (omega (arith, less, later))
    ]

-- ---- one entry more

-- an entry that isn't the key's changes nothing there
next-same : (site : ℕ) (l : Logged) (q : Key) (o : Option Found)
    → (IsSome o → site ≡ q.0 → tx_of l.entry ≡ q.2 → item_of l.entry ≡ Some q.1 → ⊥) → IsNextOf site l q o o
next-same site l q (Some f) apart = record {
  read = inr (λ own. apart refl own.0 own.1.0 (reads-item q.1 l.entry own.1.1), refl);
  change = inr (λ own. apart refl own.0 own.1.0 (writes-item q.1 l.entry own.1.1), refl);
}
next-same site l q None apart = tt

-- where nothing changes, since the entry is sought nowhere
pub takes-none : (site : ℕ) (l : Logged) (sought : Sought) → ((q : Key) → IsSome (found_at sought q) → site ≡ q.0
    → tx_of l.entry ≡ q.2 → item_of l.entry ≡ Some q.1 → ⊥)
    → TakesOne site l sought sought
takes-none site l sought apart q = next-same site l q (found_at sought q) (apart q)

-- an entry on no item, of a class that isn't marked, or that isn't sought
pub takes-no_item : (site : ℕ) (l : Logged) (sought : Sought) → item_of l.entry ≡ None → TakesOne site l sought sought
takes-no_item site l sought none = takes-none site l sought (λ q some a b c. none-some q.1 (sym none ∙ c))

pub takes-unmarked : (site : ℕ) (l : Logged) (sought : Sought) (classes : List Bool) → AreMarked sought classes
    → get_or classes (tx_of l.entry % 65536) false ≡ false → TakesOne site l sought sought
takes-unmarked site l sought classes marked missing = takes-none site l sought (λ q some a b c.
    false≢true (sym missing ∙ ap (λ t. get_or classes (t % 65536) false) b ∙ marked q some))

pub takes-unsought : (site : ℕ) (l : Logged) (x : Name) (sought : Sought) → item_of l.entry ≡ Some x
    → found_at sought (site, x, tx_of l.entry) ≡ None → TakesOne site l sought sought
takes-unsought site l x sought item none = takes-none site l sought (λ q some a b c.
    let same =
    ap₂ (λ (s : ℕ) (r : Name × ℕ). (s, r.0, r.1)) a
    (ap₂ (λ (y : Name) (t : ℕ). (y, t)) (same_Some x q.1 (sym item ∙ c)) b) in
    false≢true (subst IsSome (ap (found_at sought) (sym same) ∙ none) some))

-- what a line adds, by what was read of it
pub finds-some : (site line : ℕ) (read : SectionLine) (e : Entry) (old new : Sought) → Some e ≡ entry_in read
    → TakesOne site (record { line = line; entry = e }) old new → FindsOne site line read old new
finds-some site line (Line.Logged f) e old new is takes =
    subst (λ (g : Entry). TakesOne site (record { line = line; entry = g }) old new) (same_Some e f is) takes
finds-some site line (Line.Site n) e old new is takes = absurd (none-some e (sym is))
finds-some site line (Line.Initial h) e old new is takes = absurd (none-some e (sym is))
finds-some site line (Line.Final h) e old new is takes = absurd (none-some e (sym is))
finds-some site line Line.End e old new is takes = absurd (none-some e (sym is))

pub finds-none : (site line : ℕ) (read : SectionLine) (sought : Sought) → None ≡ entry_in read
    → FindsOne site line read sought sought
finds-none site line (Line.Logged f) sought is = absurd (none-some f is)
finds-none site line (Line.Site n) sought is = refl
finds-none site line (Line.Initial h) sought is = refl
finds-none site line (Line.Final h) sought is = refl
finds-none site line Line.End sought is = refl

place-by : (P Q : Type 0) (l : Logged) (old new : Option Logged) → (P → Q) → (Q → P) → TakesPlace P l old new
    → TakesPlace Q l old new
place-by P Q l old new f g (inl taken) = inl (f taken.0, taken.1)
place-by P Q l old new f g (inr kept) = inr (λ q. kept.0 (g q), kept.1)

pub takes-put : (site : ℕ) (l : Logged) (x : Name) (f g : Found) (old new : Sought) → item_of l.entry ≡ Some x
    → found_at old (site, x, tx_of l.entry) ≡ Some f
    → TakesPlace (Reads x l.entry) l f.read g.read → TakesPlace (Writes x l.entry) l f.change g.change
    → PutsAt (site, x, tx_of l.entry) g old new → TakesOne site l old new
takes-put site l x f g old new item there read change puts q =
    subst (λ o. IsNextOf site l q (found_at old q) o) (sym (puts q))
    (by (is_eq (key_cmp (site, x, tx_of l.entry) q)) refl (found_at old q) refl)
  where
    own : Key
    own = (site, x, tx_of l.entry)

    at-key : (a : site ≡ q.0) → (b : x ≡ q.1) → (c : tx_of l.entry ≡ q.2) → HasOneMore site l q f g
    at-key a b c = record {
      read = place-by (Reads x l.entry) ((site ≡ q.0) × ReadsAs q l.entry) l f.read g.read
          (λ r. (a, (c, subst (λ y. Reads y l.entry) b r))) (λ h. subst (λ y. Reads y l.entry) (sym b) h.1.1) read;
      change = place-by (Writes x l.entry) ((site ≡ q.0) × ChangesAs q l.entry) l f.change g.change
          (λ r. (a, (c, subst (λ y. Writes y l.entry) b r))) (λ h. subst (λ y. Writes y l.entry) (sym b) h.1.1) change;
    }

    by : (b : Bool) → is_eq (key_cmp own q) ≡ b → (o : Option Found) → found_at old q ≡ o
        → IsNextOf site l q o (cond b (Some g) o)
    by true e o is =
        let same = same-key own q e in
        let k : found_at old q ≡ Some f =
        subst (λ (p : Key). found_at old p ≡ Some f)
        (ap₂ (λ (s : ℕ) (r : Name × ℕ). (s, r.0, r.1)) same.0 (ap₂ (λ (y : Name) (t : ℕ). (y, t)) same.1 same.2))
        there in
        subst (λ p. IsNextOf site l q p (Some g)) (sym k ∙ is) (at-key same.0 same.1 same.2)
    by false e o is =
        next-same site l q o (λ some a b c. false≢true (sym e ∙ key-same own q a (same_Some x q.1 (sym item ∙ c)) b))

-- the same by a number that is the transaction's
pub takes-at : (site : ℕ) (l : Logged) (x : Name) (t : ℕ) (f g : Found) (old new : Sought) → t ≡ tx_of l.entry
    → item_of l.entry ≡ Some x → found_at old (site, x, t) ≡ Some f
    → TakesPlace (Reads x l.entry) l f.read g.read → TakesPlace (Writes x l.entry) l f.change g.change
    → PutsAt (site, x, t) g old new → TakesOne site l old new
takes-at site l x t f g old new own item there read change puts =
    takes-put site l x f g old new item (subst (λ u. found_at old (site, x, u) ≡ Some f) own there) read change
    (subst (λ u. PutsAt (site, x, u) g old new) own puts)

pub unsought-at : (site : ℕ) (l : Logged) (x : Name) (t : ℕ) (sought : Sought) → t ≡ tx_of l.entry
    → item_of l.entry ≡ Some x → found_at sought (site, x, t) ≡ None → TakesOne site l sought sought
unsought-at site l x t sought own item none =
    takes-unsought site l x sought item (subst (λ u. found_at sought (site, x, u) ≡ None) own none)

-- ---- what holds of what was found

unfound-is : (k : Key) (o : Option Found) → IfSome o (λ f. f ≡ nothing) → IfSome o (IsFound k)
unfound-is k (Some f) none = subst (IsFound k) (sym none) (record { read = tt; change = tt })
unfound-is k None none = tt

pub unfound-found : (sought : Sought) → AreUnfound sought → AreFound sought
unfound-found sought none k = unfound-is k (found_at sought k) (none k)

none-last : (P : Entry → Type 0) (lines : List SectionLine) (site : ℕ) → IsLastAt P lines site 0 None
none-last P lines site = record {
  there = tt;
  last = λ l at less is. let n = at.counted in
      absurd (omega (arith, n, less));
}

unfound-in_is : (lines : List SectionLine) (k : Key) (o : Option Found) → IfSome o (λ f. f ≡ nothing)
    → IfSome o (IsFoundIn lines 0 k)
unfound-in_is lines k (Some f) none =
    subst (IsFoundIn lines 0 k) (sym none) (record {
      read = none-last (ReadsAs k) lines k.0;
      change =
          none-last (ChangesAs k) lines k.0;
    })
unfound-in_is lines k None none = tt

pub unfound-in : (lines : List SectionLine) (sought : Sought) → AreUnfound sought → AreFoundIn lines 0 sought
unfound-in lines sought none k = unfound-in_is lines k (found_at sought k) (none k)

own-next : (Q : Type 0) (P : Entry → Type 0) (l : Logged) (old new : Option Logged) → (Q → P l.entry)
    → TakesPlace Q l old new → IfSome old (λ g. P g.entry) → IfSome new (λ g. P g.entry)
own-next Q P l old new is (inl taken) h = subst (λ o. IfSome o (λ (g : Logged). P g.entry)) (sym taken.1) (is taken.0)
own-next Q P l old new is (inr kept) h = subst (λ o. IfSome o (λ (g : Logged). P g.entry)) (sym kept.1) h

found-next : (site : ℕ) (l : Logged) (k : Key) (o p : Option Found) → IsNextOf site l k o p → IfSome o (IsFound k)
    → IfSome p (IsFound k)
found-next site l k (Some f) (Some g) next is = record {
  read = own-next ((site ≡ k.0) × ReadsAs k l.entry) (ReadsAs k) l f.read g.read (λ q. q.1) next.read is.read;
  change = own-next ((site ≡ k.0) × ChangesAs k l.entry) (ChangesAs k) l f.change g.change (λ q. q.1) next.change
      is.change;
}
found-next site l k (Some f) None next is = absurd next
found-next site l k None (Some g) next is = absurd next
found-next site l k None None next is = tt

some-next : (site : ℕ) (l : Logged) (k : Key) (o p : Option Found) → IsNextOf site l k o p
    → (IsSome o → IsSome p) × (IsSome p → IsSome o)
some-next site l k (Some f) (Some g) next = (λ s. refl, λ s. refl)
some-next site l k (Some f) None next = absurd next
some-next site l k None (Some g) next = absurd next
some-next site l k None None next = (λ s. s, λ s. s)

pub any-found : (old new : Sought) → FindsAny old new → AreFound old → AreFound new
any-found old new (inl same) found = subst AreFound (sym same) found
any-found old new (inr one) found = λ k. found-next one.0 one.1 k (found_at old k) (found_at new k) (one.2 k) (found k)

pub any-keys : (old new : Sought) → FindsAny old new → KeepsKeys old new
any-keys old new (inl same) = λ k some. subst (λ (s : Sought). IsSome (found_at s k)) (sym same) some
any-keys old new (inr one) = λ k some. (some-next one.0 one.1 k (found_at old k) (found_at new k) (one.2 k)).0 some

pub any-marked : (old new : Sought) (classes : List Bool) → FindsAny old new → AreMarked old classes
    → AreMarked new classes
any-marked old new classes (inl same) marked = subst (λ (s : Sought). AreMarked s classes) (sym same) marked
any-marked old new classes (inr one) marked =
    λ k some. marked k ((some-next one.0 one.1 k (found_at old k) (found_at new k) (one.2 k)).1 some)

-- ---- the last entry, with one line more

pub last-next : (P : Entry → Type 0) (lines : List SectionLine) (site n : ℕ) (f g : Option Logged)
    → (((l : Logged) × StandsAt lines site l × (l.line ≡ n + 3) × P l.entry × (g ≡ Some l))
    ⊎ ((g ≡ f) × ((l : Logged) → StandsAt lines site l → l.line ≡ n + 3 → P l.entry → ⊥)))
    → IsLastAt P lines site n f → IsLastAt P lines site (n + 1) g
last-next P lines site n f g (inl one) so_far =
    let here = one.2 in
    subst (IsLastAt P lines site (n + 1)) (sym one.4) (record {
      there = (one.1, omega (arith, here), one.3);
      last = λ l at less is. omega (arith, less, here);
    })
last-next P lines site n f g (inr none) so_far = subst (IsLastAt P lines site (n + 1)) (sym none.0) (record {
  there = wider f so_far.there;
  last = λ l at less is. elim (cases_lt l.line (n + 3)) [
    | inl earlier ↦ so_far.last l at earlier is
    | inr late ↦ absurd (none.1 l at (omega (arith, less, late)) is)
  ];
})
  where
    wider : (o : Option Logged) → IfSome o (λ l. StandsAt lines site l × (l.line < n + 3) × P l.entry)
        → IfSome o (λ l. StandsAt lines site l × (l.line < n + 1 + 3) × P l.entry)
    wider (Some l) h = let less = h.1 in (h.0, omega (arith, less), h.2)
    wider None h = tt

pub last-whole : (P : Entry → Type 0) (lines : List SectionLine) (site m : ℕ) (f : Option Logged) → length lines ≤ m
    → IsLastAt P lines site m f → IsLastAt P lines site (length lines) f
last-whole P lines site m f long so_far = record {
  there = closer f so_far.there;
  last = λ l at less is. so_far.last l at (omega (arith, less, long)) is;
}
  where
    closer : (o : Option Logged) → IfSome o (λ l. StandsAt lines site l × (l.line < m + 3) × P l.entry)
        → IfSome o (λ l. StandsAt lines site l × (l.line < length lines + 3) × P l.entry)
    closer (Some l) h =
        let within = slice_get_within lines h.0.place (Line.Logged l.entry) h.0.there in
        let counted = h.0.counted in
        (h.0, omega (arith, within, counted), h.2)
    closer None h = tt

in-whole_is : (lines : List SectionLine) (m : ℕ) (k : Key) (o : Option Found) → length lines ≤ m
    → IfSome o (IsFoundIn lines m k) → IfSome o (IsFoundIn lines (length lines) k)
in-whole_is lines m k (Some f) long is = record {
  read = last-whole (ReadsAs k) lines k.0 m f.read long is.read;
  change = last-whole (ChangesAs k) lines k.0 m f.change long is.change;
}
in-whole_is lines m k None long is = tt

pub in-whole : (lines : List SectionLine) (m : ℕ) (sought : Sought) → length lines ≤ m → AreFoundIn lines m sought
    → AreFoundIn lines (length lines) sought
in-whole lines m sought long all k = in-whole_is lines m k (found_at sought k) long (all k)

-- an entry stands in one line
at-line : (lines : List SectionLine) (site n : ℕ) (l : Logged) (one : SectionLine) → slice_get lines n ≡ Some one
    → StandsAt lines site l → l.line ≡ n + 3 → one ≡ Line.Logged l.entry
at-line lines site n l one at stands here =
    let counted = stands.counted in
    let same : stands.place ≡ n = omega (arith, counted, here) in
    same_Some one (Line.Logged l.entry) (sym at ∙ ap (slice_get lines) (sym same) ∙ stands.there)

-- and at one site
at-site : (lines : List SectionLine) (site n : ℕ) (l : Logged) → StandsAt lines site l → l.line ≡ n + 3
    → site_at lines n ≡ site
at-site lines site n l stands here =
    let counted = stands.counted in
    let same : n ≡ stands.place = omega (arith, counted, here) in
    ap (site_at lines) same ∙ stands.inside

logged-entry : (e f : Entry) → Line.Logged e ≡ Line.Logged f → e ≡ f
logged-entry e f same = cc

place-next : (P : Entry → Type 0) (lines : List SectionLine) (s site n : ℕ) (e : Entry) (f g : Option Logged)
    → slice_get lines n ≡ Some (Line.Logged e) → s ≡ site_at lines n
    → TakesPlace ((s ≡ site) × P e) (record { line = n + 3; entry = e }) f g → IsLastAt P lines site n f
    → IsLastAt P lines site (n + 1) g
place-next P lines s site n e f g at inside (inl taken) so_far =
    let l : Logged = record { line = n + 3; entry = e } in
    last-next P lines site n f g
    (inl (
      l,
      record { place = n; there = at; counted = refl; inside = sym inside ∙ taken.0.0 },
      refl,
      taken.0.1,
      taken.1,
    )) so_far
place-next P lines s site n e f g at inside (inr kept) so_far =
    last-next P lines site n f g (inr (
      kept.1,
      λ l stands here is.
          let same = logged-entry e l.entry (at-line lines site n l (Line.Logged e) at stands here) in
          kept.0 (inside ∙ at-site lines site n l stands here, subst P (sym same) is),
    )) so_far

in-next_is : (lines : List SectionLine) (s n : ℕ) (e : Entry) (k : Key) (o p : Option Found)
    → slice_get lines n ≡ Some (Line.Logged e) → s ≡ site_at lines n
    → IsNextOf s (record { line = n + 3; entry = e }) k o p → IfSome o (IsFoundIn lines n k)
    → IfSome p (IsFoundIn lines (n + 1) k)
in-next_is lines s n e k (Some f) (Some g) at inside next is = record {
  read = place-next (ReadsAs k) lines s k.0 n e f.read g.read at inside next.read is.read;
  change = place-next (ChangesAs k) lines s k.0 n e f.change g.change at inside next.change is.change;
}
in-next_is lines s n e k (Some f) None at inside next is = absurd next
in-next_is lines s n e k None (Some g) at inside next is = absurd next
in-next_is lines s n e k None None at inside next is = tt

in-other_is : (lines : List SectionLine) (n : ℕ) (one : SectionLine) (k : Key) (o : Option Found)
    → slice_get lines n ≡ Some one → ((e : Entry) → one ≡ Line.Logged e → ⊥)
    → IfSome o (IsFoundIn lines n k) → IfSome o (IsFoundIn lines (n + 1) k)
in-other_is lines n one k (Some f) at other is = record {
  read = last-next (ReadsAs k) lines k.0 n f.read f.read
      (inr (refl, λ l stands here own. other l.entry (at-line lines k.0 n l one at stands here))) is.read;
  change = last-next (ChangesAs k) lines k.0 n f.change f.change
      (inr (refl, λ l stands here own. other l.entry (at-line lines k.0 n l one at stands here))) is.change;
}
in-other_is lines n one k None at other is = tt

pub in-next : (lines : List SectionLine) (s n line : ℕ) (one : SectionLine) (old new : Sought)
    → slice_get lines n ≡ Some one → s ≡ site_at lines n → line ≡ n + 3
    → FindsOne (site_behind s one) line one old new → AreFoundIn lines n old → AreFoundIn lines (n + 1) new
in-next lines s n line (Line.Logged e) old new at inside counted finds all = λ k.
    let finds' = subst (λ m. TakesOne s (record { line = m; entry = e }) old new) counted finds in
    in-next_is lines s n e k (found_at old k) (found_at new k) at inside (finds' k) (all k)
in-next lines s n line (Line.Site m) old new at inside counted finds all =
    subst (AreFoundIn lines (n + 1)) (sym finds) (λ k. in-other_is lines n (Line.Site m) k (found_at old k) at
    (λ e same. cc) (all k))
in-next lines s n line (Line.Initial h) old new at inside counted finds all =
    subst (AreFoundIn lines (n + 1)) (sym finds) (λ k. in-other_is lines n (Line.Initial h) k (found_at old k) at
    (λ e same. cc) (all k))
in-next lines s n line (Line.Final h) old new at inside counted finds all =
    subst (AreFoundIn lines (n + 1)) (sym finds) (λ k. in-other_is lines n (Line.Final h) k (found_at old k) at
    (λ e same. cc) (all k))
in-next lines s n line Line.End old new at inside counted finds all =
    subst (AreFoundIn lines (n + 1)) (sym finds) (λ k. in-other_is lines n Line.End k (found_at old k) at
    (λ e same. cc) (all k))

-- ---- the first line

-- the line that is found at the front of the bytes, with its LF, is their first
pub front-first : (line site site' n : ℕ) (read : SectionLine) (bytes : List ℕ) (old new : Sought) → 2 < line
    → IsLine read → take n bytes ≡ line_text read ++ 10 ∷ []
    → (site' ≡ site_behind site read) × FindsOne site' line read old new
    → FindsFirst line bytes (drop n bytes) site site' old new
front-first line site site' n read bytes old new high is front finds = record {
  text = line_text read;
  cut = λ one more plain e.
      line-cut (line_text read) one (drop n bytes) more bytes (line-no_lf read is) plain whole e;
  head = λ low. absurd (omega (arith, low, high));
  section = λ _ other is_other same. subst (λ (r : SectionLine). (site' ≡ site_behind site r)
      × FindsOne site' line r old new) (line-one read other is is_other same) finds;
}
  where
    whole : bytes ≡ line_text read ++ 10 ∷ drop n bytes
    whole = sym (take-append-drop n bytes) ∙ ap (λ (t : List ℕ). t ++ drop n bytes) front
        ∙ append_assoc (line_text read) (10 ∷ []) (drop n bytes)

-- ---- the loop over the lines

-- what is known behind one more line
pub record IsNextLine (bytes : List ℕ) (end : ℕ) (lines : List SectionLine) (h : HasLines bytes end lines) (line : ℕ)
    (behind : List ℕ) (site : ℕ) (sought : Sought) : Type 0 where
  pub left : behind ≡ text_of_lines (drop (line + 1 - 1) (all_lines bytes end lines h)) ++ h.rest
  pub inside : site ≡ site_at lines (line + 1 - 3)
  pub all : AreFoundIn lines (line + 1 - 3) sought

pub line-next : (bytes : List ℕ) (end : ℕ) (lines : List SectionLine) (h : HasLines bytes end lines)
    (line site site' : ℕ) (rest text behind : List ℕ) (old new : Sought)
    → IsGone bytes end lines h line rest site → AreFoundIn lines (line - 3) old → 1 ≤ line → line < end
    → ((one more : List ℕ) → HasNoLf one → rest ≡ one ++ 10 ∷ more → (text ≡ one) × (behind ≡ more))
    → (line ≤ 2 → (new ≡ old) × (site' ≡ site))
    → (2 < line → (read : SectionLine) → IsLine read → text ≡ line_text read
    → (site' ≡ site_behind site read) × FindsOne site' line read old new)
    → IsNextLine bytes end lines h line behind site' new
line-next bytes end lines h line site site' rest text behind old new gone all low less cuts head section =
    elim (gone-step bytes end lines h line rest site text behind gone low less cuts) [
      | inl s ↦ (let two = s.low in
          let here : line - 3 ≡ line + 1 - 3 = omega (arith, two) in
          let e = head two in
          record {
            left = s.left;
            inside = e.1 ∙ gone.inside ∙ ap (site_at lines) here;
            all = subst (AreFoundIn lines (line + 1 - 3)) (sym e.0) (subst (λ m. AreFoundIn lines m old) here all);
          })
      | inr s ↦ (let high = s.high in
          let n = line - 3 in
          let next : n + 1 ≡ line + 1 - 3 = omega (arith, high) in
          let counted : line ≡ n + 3 = omega (arith, high) in
          let e = section high s.one s.is s.spelled in
          let at = e.0 ∙ ap (λ k. site_behind k s.one) gone.inside in
          record {
            left = s.left;
            inside = at ∙ sym (site-next lines n s.one s.there) ∙ ap (site_at lines) next;
            all = subst (λ m. AreFoundIn lines m new) next
                (in-next lines site n line s.one old new s.there gone.inside counted
                (subst (λ k. FindsOne k line s.one old new) e.0 e.1) all);
          })
    ]

pub line-gone : (bytes : List ℕ) (end : ℕ) (lines : List SectionLine) (h : HasLines bytes end lines) (line : ℕ)
    (behind : List ℕ) (site : ℕ) (sought : Sought)
    → IsNextLine bytes end lines h line behind site sought → behind ≢ []
    → IsGone bytes end lines h (line + 1) behind site
line-gone bytes end lines h line behind site sought next some =
    record { left = next.left; inside = next.inside; more = λ _. some }

-- where nothing is left, all are gone over
pub line-over : (bytes : List ℕ) (end : ℕ) (lines : List SectionLine) (h : HasLines bytes end lines) (line : ℕ)
    (behind : List ℕ) (site : ℕ) (sought : Sought) → 1 ≤ line
    → IsNextLine bytes end lines h line behind site sought → behind ≡ [] → AreFoundIn lines (length lines) sought
line-over bytes end lines h line behind site sought low next none =
    in-whole lines (line + 1 - 3) sought (gone-all bytes end lines h line behind low next.left none) next.all

pub line-end : (bytes : List ℕ) (end : ℕ) (lines : List SectionLine) (h : HasLines bytes end lines) (line : ℕ)
    (sought : Sought) → end ≤ line → AreFoundIn lines (line - 3) sought
    → AreFoundIn lines (length lines) sought
line-end bytes end lines h line sought most all =
    in-whole lines (line - 3) sought (gone-end bytes end lines h line most) all

pub not-empty : (xs : List ℕ) (r : Bool) → r ≡ (length xs == 0) → r ≡ false → xs ≢ []
not-empty xs r is some e = true≢false (sym (eq-eqb (length xs) 0 (ap length e)) ∙ sym is ∙ some)

pub is-empty : (xs : List ℕ) (r : Bool) → r ≡ (length xs == 0) → r ≡ true → xs ≡ []
is-empty xs r is none = nil_from_length xs (eqb-true (length xs) 0 (sym is ∙ none))

-- or none stands before the line
pub lines-all : (bytes : List ℕ) (end : ℕ) (lines : List SectionLine) (sought : Sought) → 3 < end
    → (HasLines bytes end lines → AreFoundIn lines (length lines) sought)
    → HasBefore bytes end lines → AreFoundIn lines (length lines) sought
lines-all bytes end lines sought high all (inl none) = let low = none.1 in absurd (omega (arith, low, high))
lines-all bytes end lines sought high all (inr h) = all h
