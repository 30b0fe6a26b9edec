-- Two entries in conflict: as a test, and as the relation.
use Rattle.std.proofs.Common.{◌≡◌, ◌≢◌, ◌⊎◌, ℕ, ◌<◌, ◌≤◌, Bool, true, false, Option, Some, None, inl, inr, refl, sym, ap, ap₂, ◌∙◌, subst, arith, List}
use Rattle.std.specs.Prelude.{IfSome, cond, nat_lt, not, ◌&&◌, ◌==◌}
use Rattle.std.proofs.lemmas.Bool.{and_cases, and_from, and_parts, both_ways, cond-false, cond-true, eq-eqb, eqb-true, false_from_ne_true, false≢true, le-ltb, lt-ltb, ltb-false, ltb-true, ne_eqb, not-true, not_from_false, or_cases, or_left, or_right}
use Rattle.std.proofs.lemmas.Option.{cond_some, none-some, same_Some}
use Rattle.std.proofs.lemmas.Slice.Eq.{bytes_eq-Decides}
use Rattle.sgt_names.proofs.Lists.{option_cases}
use Rattle.sgt_names.specs.Name.{Name}
use Rattle.sgt_names.specs.Entry.{tx_of, item_of, is_increment, Reads, Writes, Clash}
use Rattle.sgt_names.specs.declared.entry.Entry.{Entry}
use Rattle.sgt_names.specs.declared.entry.Entry.TheVariants.{Read, Write, Add, Want, WantAdd, Commit, Refuse, Withdraw}
use Rattle.sgt_names.specs.declared.entry.Kind.{Kind}
use Rattle.sgt_names.specs.declared.entry.Kind.TheVariants.{Wr, Rw, Ww}
use Rattle.sgt_notation.specs.declared.SectionLine.{SectionLine}
use Rattle.sgt_explain_lines.specs.Clashing.{InNoConflict}
use Rattle.sgt_explain_lines.specs.Sited.{StandsAt}
use Rattle.sgt_explain_lines.specs.declared.section.Logged.{Logged}
use Rattle.sgt_explain_transaction.specs.declared.conflicts.Pair.{Pair}
use Rattle.sgt_explain_transaction.specs.declared.dealings.Own.{Own}
use Rattle.sgt_explain_transaction.specs.Conflicts.{IsClash, IsOwnConflict}
use Rattle.sgt_explain_transaction.specs.Dealings.{IsOwn}
use Rattle.sgt_explain_transaction.specs.Found.{is_read, is_write, is_clash, clash_at, clash_item, pair_on, clash_of, conflict_with}

-- ---- on an item

read-from : (x : Name) (e : Entry) → is_read x e ≡ true → Reads x e
read-from x (Read tx y v) t = (bytes_eq-Decides y x).0 t
read-from x (Write tx y v) t = absurd (false≢true t)
read-from x (Add tx y v) t = absurd (false≢true t)
read-from x (Want tx y v) t = absurd (false≢true t)
read-from x (WantAdd tx y v) t = absurd (false≢true t)
read-from x (Commit tx) t = absurd (false≢true t)
read-from x (Refuse tx) t = absurd (false≢true t)
read-from x (Withdraw tx) t = absurd (false≢true t)

read-to : (x : Name) (e : Entry) → Reads x e → is_read x e ≡ true
read-to x (Read tx y v) r = (bytes_eq-Decides y x).1 r
read-to x (Write tx y v) r = absurd r
read-to x (Add tx y v) r = absurd r
read-to x (Want tx y v) r = absurd r
read-to x (WantAdd tx y v) r = absurd r
read-to x (Commit tx) r = absurd r
read-to x (Refuse tx) r = absurd r
read-to x (Withdraw tx) r = absurd r

write-from : (x : Name) (e : Entry) → is_write x e ≡ true → Writes x e
write-from x (Read tx y v) t = absurd (false≢true t)
write-from x (Write tx y v) t = (bytes_eq-Decides y x).0 t
write-from x (Add tx y v) t = (bytes_eq-Decides y x).0 t
write-from x (Want tx y v) t = (bytes_eq-Decides y x).0 t
write-from x (WantAdd tx y v) t = (bytes_eq-Decides y x).0 t
write-from x (Commit tx) t = absurd (false≢true t)
write-from x (Refuse tx) t = absurd (false≢true t)
write-from x (Withdraw tx) t = absurd (false≢true t)

write-to : (x : Name) (e : Entry) → Writes x e → is_write x e ≡ true
write-to x (Read tx y v) w = absurd w
write-to x (Write tx y v) w = (bytes_eq-Decides y x).1 w
write-to x (Add tx y v) w = (bytes_eq-Decides y x).1 w
write-to x (Want tx y v) w = (bytes_eq-Decides y x).1 w
write-to x (WantAdd tx y v) w = (bytes_eq-Decides y x).1 w
write-to x (Commit tx) w = absurd w
write-to x (Refuse tx) w = absurd w
write-to x (Withdraw tx) w = absurd w

-- an operation on the item is on no other
item-read : (x : Name) (e : Entry) → Reads x e → item_of e ≡ Some x
item-read x (Read tx y v) r = ap Some r
item-read x (Write tx y v) r = absurd r
item-read x (Add tx y v) r = absurd r
item-read x (Want tx y v) r = absurd r
item-read x (WantAdd tx y v) r = absurd r
item-read x (Commit tx) r = absurd r
item-read x (Refuse tx) r = absurd r
item-read x (Withdraw tx) r = absurd r

item-written : (x : Name) (e : Entry) → Writes x e → item_of e ≡ Some x
item-written x (Read tx y v) w = absurd w
item-written x (Write tx y v) w = ap Some w
item-written x (Add tx y v) w = ap Some w
item-written x (Want tx y v) w = ap Some w
item-written x (WantAdd tx y v) w = ap Some w
item-written x (Commit tx) w = absurd w
item-written x (Refuse tx) w = absurd w
item-written x (Withdraw tx) w = absurd w

pub clash-items : (kind : Kind) (x : Name) (e f : Entry) → Clash kind x e f
    → (item_of e ≡ Some x) × (item_of f ≡ Some x)
clash-items Wr x e f c = (item-written x e c.0, item-read x f c.1)
clash-items Rw x e f c = (item-read x e c.0, item-written x f c.1)
clash-items Ww x e f c = (item-written x e c.0, item-written x f c.1)

-- ---- the test and the relation

not-both : (a b : Bool) → (a && b) ≡ false → a ≡ true → b ≡ true → ⊥
not-both a b none s t = elim (and_cases a b none) [ inl n ↦ both_ways a n s | inr n ↦ both_ways b n t ]

clash-from : (x : Name) (e f : Entry) → is_clash x e f ≡ true → (kind : Kind) × Clash kind x e f
clash-from x e f t =
    elim (or_cases (is_write x e && is_read x f) _ t) [
      | inl wr ↦ (let b = and_parts (is_write x e) (is_read x f) wr in
          (Wr, (write-from x e b.0, read-from x f b.1)))
      | inr s ↦ elim (or_cases (is_read x e && is_write x f) _ s) [
        | inl rw ↦ (let b = and_parts (is_read x e) (is_write x f) rw in
            (Rw, (read-from x e b.0, write-from x f b.1)))
        | inr ww ↦ (let b = and_parts (is_write x e && is_write x f) (not (is_increment e && is_increment f)) ww in
            let w = and_parts (is_write x e) (is_write x f) b.0 in
            let n = not-true (is_increment e && is_increment f) b.1 in (
              Ww,
              (
                write-from x e w.0,
                write-from x f w.1,
                λ i j. not-both (is_increment e) (is_increment f) n i j,
              ),
            ))
      ]
    ]

clash-to : (kind : Kind) (x : Name) (e f : Entry) → Clash kind x e f → is_clash x e f ≡ true
clash-to Wr x e f c =
    or_left (is_write x e && is_read x f) _ (and_from (is_write x e) (is_read x f) (write-to x e c.0) (read-to x f c.1))
clash-to Rw x e f c =
    or_right (is_write x e && is_read x f) _
    (or_left (is_read x e && is_write x f) _
    (and_from (is_read x e) (is_write x f) (read-to x e c.0) (write-to x f c.1)))
clash-to Ww x e f c =
    let none = false_from_ne_true (is_increment e && is_increment f) (λ t.
    let b = and_parts (is_increment e) (is_increment f) t in
    c.2 b.0 b.1) in
    or_right (is_write x e && is_read x f) _
    (or_right (is_read x e && is_write x f) _
    (and_from (is_write x e && is_write x f) (not (is_increment e && is_increment f))
    (and_from (is_write x e) (is_write x f) (write-to x e c.0) (write-to x f c.1))
    (not_from_false (is_increment e && is_increment f) none)))

-- ---- the item of a conflict

at-item : (o : Option Name) (e f : Entry) (x : Name) → clash_at o e f ≡ Some x
    → (tx_of e ≢ tx_of f) × ((kind : Kind) × Clash kind x e f)
at-item None e f x is = absurd (none-some x is)
at-item (Some y) e f x is =
    let found = cond_some (not (tx_of e == tx_of f) && is_clash y e f) y x is in
    let b = and_parts (not (tx_of e == tx_of f)) (is_clash y e f) found.0 in (
      λ same. both_ways (tx_of e == tx_of f) (not-true (tx_of e == tx_of f) b.0)
          (eq-eqb (tx_of e) (tx_of f) same),
      clash-from x e f (ap (λ z. is_clash z e f) (sym found.1) ∙ b.1),
    )

item-at : (e f : Entry) (x : Name) (kind : Kind) → tx_of e ≢ tx_of f → Clash kind x e f → clash_item e f ≡ Some x
item-at e f x kind apart c =
    ap (λ o. clash_at o e f) (clash-items kind x e f c).0
    ∙ cond-true (not (tx_of e == tx_of f) && is_clash x e f) (Some x) None
    (and_from (not (tx_of e == tx_of f)) (is_clash x e f)
    (not_from_false (tx_of e == tx_of f) (ne_eqb (tx_of e) (tx_of f) apart)) (clash-to kind x e f c))

-- ---- what `clash` gives

pub clash-some : (site : ℕ) (one other : Logged) (x : Name) (kind : Kind) → Clash kind x one.entry other.entry
    → tx_of one.entry ≢ tx_of other.entry
    → Some (record { site = site; item = x; first = one; second = other }) ≡ clash_of site one other
clash-some site one other x kind c apart =
    sym (ap (pair_on site one other) (item-at one.entry other.entry x kind apart c))

pub clash-none : (site : ℕ) (one other : Logged)
    → (tx_of one.entry ≢ tx_of other.entry → (x : Name) → InNoConflict x one.entry other.entry)
    → None ≡ clash_of site one other
clash-none site one other none =
    elim (option_cases (clash_item one.entry other.entry)) [
      | inl is ↦ sym (ap (pair_on site one other) is)
      | inr s ↦ (let c = at-item (item_of one.entry) one.entry other.entry s.0 s.1 in
          absurd (none c.0 s.0 c.1.0 c.1.1))
    ]

-- ---- the conflict of an entry with one of the transaction's

-- the two entries, in the order of their lines, are these
pub record IsMet (own other : Own) (p : Pair) : Type 0 where
  pub beside : own.site ≡ other.site
  pub site : p.site ≡ own.site
  pub two : ((own.logged.line < other.logged.line) × (p.first ≡ own.logged) × (p.second ≡ other.logged))
      ⊎ ((other.logged.line ≤ own.logged.line) × (p.first ≡ other.logged) × (p.second ≡ own.logged))
  pub clashes : IsClash p

pair-is : (site : ℕ) (one other : Logged) (p : Pair) → clash_of site one other ≡ Some p
    → (p.site ≡ site) × (p.first ≡ one) × (p.second ≡ other) × IsClash p
pair-is site one other p is = with-item (clash_item one.entry other.entry) refl is
  where
    with-item : (o : Option Name) → clash_item one.entry other.entry ≡ o → pair_on site one other o ≡ Some p
        → (p.site ≡ site) × (p.first ≡ one) × (p.second ≡ other) × IsClash p
    with-item None found is = absurd (none-some p is)
    with-item (Some x) found is =
        let c = at-item (item_of one.entry) one.entry other.entry x found in
        let q : Pair = record { site = site; item = x; first = one; second = other } in
        let same : q ≡ p = same_Some q p is in (
          ap (λ (r : Pair). r.site) (sym same),
          ap (λ (r : Pair). r.first) (sym same),
          ap (λ (r : Pair). r.second) (sym same),
          subst IsClash same (record { kind = c.1.0; clash = c.1.1; apart = c.0 }),
        )

pub met-of : (own other : Own) (p : Pair) → conflict_with other own ≡ Some p → IsMet own other p
met-of own other p is = by-site (own.site == other.site) refl is
  where
    by-line : own.site ≡ other.site → (b : Bool) → nat_lt own.logged.line other.logged.line ≡ b
        → cond b (clash_of own.site own.logged other.logged) (clash_of own.site other.logged own.logged) ≡ Some p
        → IsMet own other p
    by-line here true less is = (let q = pair-is own.site own.logged other.logged p is in
        record {
          beside = here;
          site = q.0;
          two = inl (ltb-true own.logged.line other.logged.line less, q.1, q.2);
          clashes = q.3;
        })
    by-line here false more is = (let q = pair-is own.site other.logged own.logged p is in
        record {
          beside = here;
          site = q.0;
          two = inr (ltb-false own.logged.line other.logged.line more, q.1, q.2);
          clashes = q.3;
        })

    by-site : (b : Bool) → (own.site == other.site) ≡ b
        → cond b (cond (nat_lt own.logged.line other.logged.line) (clash_of own.site own.logged other.logged)
        (clash_of own.site other.logged own.logged)) None ≡ Some p → IsMet own other p
    by-site false apart is = absurd (none-some p is)
    by-site true here is =
        by-line (eqb-true own.site other.site here) (nat_lt own.logged.line other.logged.line) refl is

-- they are on one item
pub met-items : (own other : Own) (p : Pair) → IsMet own other p
    → (item_of own.logged.entry ≡ Some p.item) × (item_of other.logged.entry ≡ Some p.item)
met-items own other p met =
    let c = met.clashes in
    let items = clash-items c.kind p.item p.first.entry p.second.entry c.clash in
    elim met.two [
      | inl t ↦ (
        ap (λ (l : Logged). item_of l.entry) (sym t.1) ∙ items.0,
        ap (λ (l : Logged). item_of l.entry) (sym t.2)
            ∙ items.1,
      )
      | inr t ↦ (
        ap (λ (l : Logged). item_of l.entry) (sym t.2) ∙ items.1,
        ap (λ (l : Logged). item_of l.entry) (sym t.1)
            ∙ items.0,
      )
    ]

-- a conflict of the transaction
pub own-conflict : (known : Option (List SectionLine)) (tx : ℕ) (own other : Own) (p : Pair) → IsOwn tx own
    → IfSome known (λ lines. StandsAt lines own.site own.logged × StandsAt lines other.site other.logged)
    → IsMet own other p → IsOwnConflict known tx p
own-conflict known tx own other p is stand met =
    elim met.two [
      | inl t ↦ (let less = t.0 in
          let a = ap (λ (l : Logged). l.line) t.1 in
          let b = ap (λ (l : Logged). l.line) t.2 in
          record {
            clashes = met.clashes;
            order = omega (arith, less, a, b);
            own = inl (ap (λ (l : Logged). tx_of l.entry) t.1 ∙ is);
            there = known-there known stand (λ lines s. (
              subst (StandsAt lines p.site) (sym t.1) (subst (λ k. StandsAt lines k own.logged) (sym met.site) s.0),
              subst (StandsAt lines p.site) (sym t.2) (subst (λ k. StandsAt lines k other.logged) (sym (met.site
                  ∙ met.beside)) s.1),
            ));
          })
      | inr t ↦ (let le = t.0 in
          let a = ap (λ (l : Logged). l.line) t.1 in
          let b = ap (λ (l : Logged). l.line) t.2 in
          record {
            clashes = met.clashes;
            order = omega (arith, le, a, b);
            own = inr (ap (λ (l : Logged). tx_of l.entry) t.2 ∙ is);
            there = known-there known stand (λ lines s. (
              subst (StandsAt lines p.site) (sym t.1) (subst (λ k. StandsAt lines k other.logged) (sym (met.site
                  ∙ met.beside)) s.1),
              subst (StandsAt lines p.site) (sym t.2) (subst (λ k. StandsAt lines k own.logged) (sym met.site) s.0),
            ));
          })
    ]
  where
    known-there : (k : Option (List SectionLine))
        → IfSome k (λ lines. StandsAt lines own.site own.logged × StandsAt lines other.site other.logged)
        → ((lines : List SectionLine) → StandsAt lines own.site own.logged × StandsAt lines other.site other.logged
        → StandsAt lines p.site p.first × StandsAt lines p.site p.second)
        → IfSome k (λ lines. StandsAt lines p.site p.first × StandsAt lines p.site p.second)
    known-there None s f = tt
    known-there (Some lines) s f = f lines s

-- ---- two entries that are in conflict are found

pub met-first : (own other : Own) (p : Pair) → own.site ≡ other.site → own.logged.line < other.logged.line
    → p.site ≡ own.site → p.first ≡ own.logged → p.second ≡ other.logged → IsClash p
    → conflict_with other own ≡ Some p
met-first own other p here less site first second c =
    cond-true (own.site == other.site) _ None (eq-eqb own.site other.site here)
    ∙ cond-true (nat_lt own.logged.line other.logged.line) _ _ (lt-ltb own.logged.line other.logged.line less)
    ∙ ap₂ (λ l m. clash_of own.site l m) (sym first) (sym second)
    ∙ ap (λ k. clash_of k p.first p.second) (sym site)
    ∙ ap (pair_on p.site p.first p.second) (item-at p.first.entry p.second.entry p.item c.kind c.apart c.clash)

pub met-second : (own other : Own) (p : Pair) → own.site ≡ other.site → other.logged.line ≤ own.logged.line
    → p.site ≡ own.site → p.first ≡ other.logged → p.second ≡ own.logged → IsClash p
    → conflict_with other own ≡ Some p
met-second own other p here le site first second c =
    cond-true (own.site == other.site) _ None (eq-eqb own.site other.site here)
    ∙ cond-false (nat_lt own.logged.line other.logged.line) _ _ (le-ltb own.logged.line other.logged.line le)
    ∙ ap₂ (λ l m. clash_of own.site l m) (sym first) (sym second)
    ∙ ap (λ k. clash_of k p.first p.second) (sym site)
    ∙ ap (pair_on p.site p.first p.second) (item-at p.first.entry p.second.entry p.item c.kind c.apart c.clash)
