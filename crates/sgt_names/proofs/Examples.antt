-- The definitions of a log, shown on small logs.
use Rattle.std.proofs.Common.{◌≡◌, ◌≢◌, ℕ, zero, suc, List, [], ◌∷◌, Some, refl, sym, ◌∙◌, ap, subst, lit<, get_or, arith, ◌<◌, None}
use Rattle.std.specs.Prelude.{codes, slice_get}
use Rattle.std.proofs.lemmas.Option.{same_Some}
use Rattle.std.proofs.lemmas.Bool.{eqb-false}
use Rattle.sgt_names.specs.Name.{Name}
use Rattle.sgt_names.specs.Entry.{tx_of, Clash}
use Rattle.sgt_names.specs.Log.{Conflicts, ReadsAreLegal, FinalsAreLegal, IsOrderly, IsFormed, AllEnded, names, value_at}
use Rattle.std.specs.Prelude.{Any, Contains}
use Rattle.std.proofs.Common.{inl, inr}
use Rattle.std.specs.Option.{ForSome}
use Rattle.std.proofs.lemmas.List.Elements.{All-from_recursion}
use Rattle.sgt_names.specs.Entry.{item_of, IsEnd, IsOpen, Continues, Repeats}
use Rattle.sgt_names.specs.Sums.{Overwrites}
use Rattle.sgt_names.specs.declared.entry.Entry.{Entry}
use Rattle.sgt_names.specs.declared.entry.Entry.TheVariants.{Read, Write, Add, Want, WantAdd, Commit, Refuse, Withdraw}
use Rattle.sgt_names.specs.declared.entry.Holding.{Holding}
use Rattle.sgt_names.specs.declared.entry.Kind.{Kind}
use Rattle.sgt_names.specs.declared.entry.Kind.TheVariants.{Wr, Rw, Ww}
use Rattle.sgt_names.proofs.Places.{AllPairs_at, PairsByRecursion, AllPairs-from_recursion}

abbrev pub x : Name
x = codes "x"

abbrev pub y : Name
y = codes "y"

abbrev pub items : List Holding
items = record { item = x; value = 5 } ∷ record { item = y; value = 2 } ∷ []

-- a transaction reads an item and then writes it
abbrev pub own_read : List Entry
own_read = Read 1 x 5 ∷ Write 1 x 6 ∷ Commit 1 ∷ []

only_one : (p : ℕ) (e : Entry) → slice_get own_read p ≡ Some e → tx_of e ≡ 1
only_one zero e at = ap tx_of (sym (same_Some (Read 1 x 5) e at))
only_one (suc zero) e at = ap tx_of (sym (same_Some (Write 1 x 6) e at))
only_one (suc (suc zero)) e at = ap tx_of (sym (same_Some (Commit 1) e at))
only_one (suc (suc (suc n))) e at = absurd cc

-- an own read before an own write is no conflict
pub own_read-no_conflict : (kind : Kind) (z : Name) (a b : ℕ) → Conflicts own_read kind z a b → ⊥
own_read-no_conflict kind z a b c = c.apart (sym c.from ∙ only_one c.p c.e c.first ∙ sym (only_one c.q c.f c.second)
    ∙ c.to)

-- a read of 4 where the item is 5 is not legal
pub wrong_read-not_legal : ReadsAreLegal items (Read 1 x 4 ∷ Write 1 x 6 ∷ Commit 1 ∷ []) → ⊥
wrong_read-not_legal legal = eqb-false 5 4 refl (same_Some 5 4 (legal 0 1 x 4 refl))

-- each of two transactions reads what the other writes; the second is refused
abbrev pub only_cycle : List Entry
only_cycle = Read 1 x 5 ∷ Read 2 y 2 ∷ Write 1 y 7 ∷ Commit 1 ∷ Want 2 x 8 ∷ Refuse 2 ∷ []

-- the two conflicts of the cycle
pub data IsOfCycle : Kind → Name → ℕ → ℕ → Type 0 where
  over_y : IsOfCycle Rw y 2 1
  over_x : IsOfCycle Rw x 1 2

abbrev Allowed : Entry → Entry → Type 0
Allowed e f = (kind : Kind) (z : Name) → Clash kind z e f → tx_of e ≢ tx_of f → IsOfCycle kind z (tx_of e) (tx_of f)

own : (e f : Entry) → tx_of e ≡ tx_of f → Allowed e f
own e f same kind z clash apart = absurd (apart same)

-- of a read, only a write or a want behind it is in conflict
read_end : (i j : ℕ) (z : Name) (v : ℕ) → Allowed (Read i z v) (Refuse j)
read_end i j z v Wr u clash apart = absurd clash.0
read_end i j z v Rw u clash apart = absurd clash.1
read_end i j z v Ww u clash apart = absurd clash.0

read_commit : (i j : ℕ) (z : Name) (v : ℕ) → Allowed (Read i z v) (Commit j)
read_commit i j z v Wr u clash apart = absurd clash.0
read_commit i j z v Rw u clash apart = absurd clash.1
read_commit i j z v Ww u clash apart = absurd clash.0

reads : Allowed (Read 1 x 5) (Read 2 y 2)
reads Wr u clash apart = absurd clash.0
reads Rw u clash apart = absurd clash.1
reads Ww u clash apart = absurd clash.0

first_arc : Allowed (Read 1 x 5) (Want 2 x 8)
first_arc Wr u clash apart = absurd clash.0
first_arc Rw u clash apart = subst (λ n. IsOfCycle Rw n 1 2) clash.0 over_x
first_arc Ww u clash apart = absurd clash.0

second_arc : Allowed (Read 2 y 2) (Write 1 y 7)
second_arc Wr u clash apart = absurd clash.0
second_arc Rw u clash apart = subst (λ n. IsOfCycle Rw n 2 1) clash.0 over_y
second_arc Ww u clash apart = absurd clash.0

other_items : Allowed (Write 1 y 7) (Want 2 x 8)
other_items Wr u clash apart = absurd clash.1
other_items Rw u clash apart = absurd clash.0
other_items Ww u clash apart = absurd (eqb-false 121 120 refl (ap (λ (n : Name). get_or n 0 0) (clash.0 ∙ sym clash.1)))

write_end : Allowed (Write 1 y 7) (Refuse 2)
write_end Wr u clash apart = absurd clash.1
write_end Rw u clash apart = absurd clash.0
write_end Ww u clash apart = absurd clash.1

end_want : Allowed (Commit 1) (Want 2 x 8)
end_want Wr u clash apart = absurd clash.0
end_want Rw u clash apart = absurd clash.0
end_want Ww u clash apart = absurd clash.0

ends : Allowed (Commit 1) (Refuse 2)
ends Wr u clash apart = absurd clash.0
ends Rw u clash apart = absurd clash.0
ends Ww u clash apart = absurd clash.0

pairs : PairsByRecursion Allowed only_cycle
pairs = (
  (
    reads,
    (
      own (Read 1 x 5) (Write 1 y 7) refl,
      (own (Read 1 x 5) (Commit 1) refl, (first_arc, (read_end 1 2 x 5, tt))),
    ),
  ),
  (
    (second_arc, (read_commit 2 1 y 2, (own (Read 2 y 2) (Want 2 x 8) refl, (own (Read 2 y 2) (Refuse 2) refl, tt)))),
    (
      (own (Write 1 y 7) (Commit 1) refl, (other_items, (write_end, tt))),
      ((end_want, (ends, tt)), ((own (Want 2 x 8) (Refuse 2) refl, tt), (tt, tt))),
    ),
  ),
)

-- the log has the two conflicts of the cycle
pub only_cycle-over_y : Conflicts only_cycle Rw y 2 1
only_cycle-over_y = record {
  p = 1;
  q = 2;
  e = Read 2 y 2;
  f = Write 1 y 7;
  before = lit< tt;
  first = refl;
  second = refl;
  from = refl;
  to = refl;
  apart = eqb-false 2 1 refl;
  clash = (refl, refl);
}

pub only_cycle-over_x : Conflicts only_cycle Rw x 1 2
only_cycle-over_x = record {
  p = 0;
  q = 4;
  e = Read 1 x 5;
  f = Want 2 x 8;
  before = lit< tt;
  first = refl;
  second = refl;
  from = refl;
  to = refl;
  apart = eqb-false 1 2 refl;
  clash = (refl, refl);
}

-- and no others
pub only_cycle-no_others : (kind : Kind) (z : Name) (a b : ℕ) → Conflicts only_cycle kind z a b → IsOfCycle kind z a b
only_cycle-no_others kind z a b c =
    let here = AllPairs_at Allowed only_cycle c.p c.q c.e c.f (AllPairs-from_recursion Allowed only_cycle pairs)
    c.before c.first c.second in
    let apart = λ (same : tx_of c.e ≡ tx_of c.f). c.apart (sym c.from ∙ same ∙ c.to) in
    subst (λ n. IsOfCycle kind z n b) c.from
    (subst (λ n. IsOfCycle kind z (tx_of c.e) n) c.to (here kind z c.clash apart))

-- a want leaves the value; a write changes that of its own item alone
pub want-keeps : value_at items (Want 1 x 6 ∷ []) x ≡ Some 5
want-keeps = refl

pub write-changes : value_at items (Write 1 x 6 ∷ []) x ≡ Some 6
write-changes = refl

pub write-keeps_others : value_at items (Write 1 x 6 ∷ []) y ≡ Some 2
write-keeps_others = refl

-- a final is the value at the end
pub final-at_end : FinalsAreLegal items own_read (record { item = x; value = 5 } ∷ []) → ⊥
final-at_end legal = eqb-false 6 5 refl (same_Some 6 5 (legal 0 (record { item = x; value = 5 }) (lit< tt)))

-- a read has the value in front of it: its own transaction's later write doesn't count
abbrev value_read : Entry → ℕ
value_read (Read tx z v) = v
value_read _ = 0

abbrev item_read : Entry → Name
item_read (Read tx z v) = z
item_read _ = []

pub own_read-legal : ReadsAreLegal items own_read
own_read-legal zero tx z v at =
    let e = same_Some (Read 1 x 5) (Read tx z v) at in
    subst (λ n. value_at items [] n ≡ Some v) (ap item_read e) (ap (λ n. Some (value_read n)) e)
own_read-legal (suc zero) tx z v at = absurd cc
own_read-legal (suc (suc zero)) tx z v at = absurd cc
own_read-legal (suc (suc (suc n))) tx z v at = absurd cc

-- two reads of an item by one transaction, a write and a want of it
pub read_twice-not_orderly : IsOrderly items (Read 1 x 5 ∷ Read 1 x 5 ∷ Commit 1 ∷ []) → ⊥
read_twice-not_orderly o = o.once 0 1 (Commit 1) (lit< tt) (lit< tt) x (refl, inl (refl, refl))

pub write_and_want-not_orderly : IsOrderly items (Write 1 x 6 ∷ Want 1 x 7 ∷ Refuse 1 ∷ []) → ⊥
write_and_want-not_orderly o = o.once 0 1 (Refuse 1) (lit< tt) (lit< tt) x (refl, inr (refl, refl))

-- a want and then a commit, and a write with nothing behind it
pub want_committed-not_orderly : IsOrderly items (Want 1 x 6 ∷ Commit 1 ∷ []) → ⊥
want_committed-not_orderly o =
    let next = o.blocks 0 (Want 1 x 6) refl tt in
    subst (Continues (Want 1 x 6)) (sym (same_Some (Commit 1) next.0 next.1)) next.2

pub other_refused-not_orderly : IsOrderly items (Want 1 x 6 ∷ Refuse 2 ∷ []) → ⊥
other_refused-not_orderly o =
    let next = o.blocks 0 (Want 1 x 6) refl tt in
    eqb-false 1 2 refl (subst (Continues (Want 1 x 6)) (sym (same_Some (Refuse 2) next.0 next.1)) next.2)

-- an entry behind the refusal of its transaction
pub read_behind_end-not_orderly : IsOrderly items (Refuse 1 ∷ Read 1 x 5 ∷ []) → ⊥
read_behind_end-not_orderly o = o.closed 0 1 (Refuse 1) (lit< tt) (lit< tt) tt refl

-- a read of an item that the site doesn't have
pub unknown_item-not_orderly : IsOrderly items (Read 1 (codes "z") 5 ∷ []) → ⊥
unknown_item-not_orderly o =
    let known = o.known 0 (Commit 1) (lit< tt) (codes "z") refl in
    no_z known.0 known.1 known.2
  where
    no_z : (k : ℕ) → k < 2 → get_or (names items) k (codes "z") ≡ codes "z" → ⊥
    no_z zero lt same = eqb-false 120 122 refl (ap (λ (n : Name). get_or n 0 0) same)
    no_z (suc zero) lt same = eqb-false 121 122 refl (ap (λ (n : Name). get_or n 0 0) same)
    no_z (suc (suc k)) lt same = absurd (omega arith)

-- a transaction without an end
pub not_ended : AllEnded (Read 1 x 5 ∷ []) → ⊥
not_ended all =
    let end = all 0 (Commit 1) (lit< tt) in
    no_end end.0 end.1 end.2 end.3 end.4.0
  where
    no_end : (k : ℕ) (f : Entry) → k < 1 → get_or (Read 1 x 5 ∷ []) k f ≡ f → IsEnd f → ⊥
    no_end zero f lt at is = subst IsEnd (sym at) is
    no_end (suc k) f lt at is = absurd (omega arith)

-- the log of the cycle is formed
pub only_cycle-ended : AllEnded only_cycle
only_cycle-ended = All-from_recursion (λ e. Any (λ f. IsEnd f × (tx_of f ≡ tx_of e)) only_cycle) only_cycle (
  by_1,
  (by_2, (by_1, (by_1, (by_2, (by_2, tt))))),
)
  where
    by_1 : Any (λ f. IsEnd f × (tx_of f ≡ 1)) only_cycle
    by_1 = (3, Commit 1, lit< tt, refl, (tt, refl))

    by_2 : Any (λ f. IsEnd f × (tx_of f ≡ 2)) only_cycle
    by_2 = (5, Refuse 2, lit< tt, refl, (tt, refl))

-- a write that a want follows, or a read
pub write_then_want-not_orderly : IsOrderly items (Write 1 x 6 ∷ Want 1 y 3 ∷ Refuse 1 ∷ []) → ⊥
write_then_want-not_orderly o =
    let next = o.blocks 0 (Write 1 x 6) refl tt in
    subst (Continues (Write 1 x 6)) (sym (same_Some (Want 1 y 3) next.0 next.1)) next.2

-- a withdrawal is an end
pub withdrawn-ended : AllEnded (Read 1 x 5 ∷ Withdraw 1 ∷ [])
withdrawn-ended = All-from_recursion (λ e. Any (λ f. IsEnd f × (tx_of f ≡ tx_of e)) (Read 1 x 5 ∷ Withdraw 1 ∷ []))
    (Read 1 x 5 ∷ Withdraw 1 ∷ []) (by_1, (by_1, tt))
  where
    by_1 : Any (λ f. IsEnd f × (tx_of f ≡ 1)) (Read 1 x 5 ∷ Withdraw 1 ∷ [])
    by_1 = (1, Withdraw 1, lit< tt, refl, (tt, refl))

-- the log of a transaction that reads an item and then writes it is formed
abbrev Once : Entry → Entry → Type 0
Once e f = (z : Name) → Repeats z e f → ⊥

read_write : Once (Read 1 x 5) (Write 1 x 6)
read_write z (same, inl both) = both.1
read_write z (same, inr both) = both.0

read_commit_once : Once (Read 1 x 5) (Commit 1)
read_commit_once z (same, inl both) = both.1
read_commit_once z (same, inr both) = both.0

write_commit : Once (Write 1 x 6) (Commit 1)
write_commit z (same, inl both) = both.1
write_commit z (same, inr both) = both.1

own_blocks : (n : ℕ) (e : Entry) → slice_get own_read n ≡ Some e → IsOpen e
    → (f : Entry) × (slice_get own_read (suc n) ≡ Some f) × Continues e f
own_blocks zero e at open_ = absurd (subst IsOpen (sym (same_Some (Read 1 x 5) e at)) open_)
own_blocks (suc zero) e at open_ =
    (Commit 1, refl, subst (λ f. Continues f (Commit 1)) (same_Some (Write 1 x 6) e at) refl)
own_blocks (suc (suc zero)) e at open_ = absurd (subst IsOpen (sym (same_Some (Commit 1) e at)) open_)
own_blocks (suc (suc (suc n))) e at open_ = absurd cc

own_known : (z : Name) → Some x ≡ Some z → Contains (names items) z
own_known z h = subst (Contains (names items)) (same_Some x z h) (0, lit< tt, refl)

abbrev Closes : Entry → Entry → Type 0
Closes e f = IsEnd e → tx_of e ≢ tx_of f

pub own_read-formed : IsFormed items own_read
own_read-formed = (
  record {
    known = All-from_recursion (λ e. ForSome (item_of e) (Contains (names items))) own_read (
      own_known,
      (own_known, (λ z h. absurd cc, tt)),
    );
    once = AllPairs-from_recursion Once own_read ((read_write, (read_commit_once, tt)), ((write_commit, tt), (tt, tt)));
    blocks = own_blocks;
    closed = AllPairs-from_recursion Closes own_read (
      (λ is same. is, (λ is same. is, tt)),
      ((λ is same. is, tt), (tt, tt)),
    );
  },
  All-from_recursion (λ e. Any (λ f. IsEnd f × (tx_of f ≡ tx_of e)) own_read) own_read (by_1, (by_1, (by_1, tt))),
)
  where
    by_1 : Any (λ f. IsEnd f × (tx_of f ≡ 1)) own_read
    by_1 = (2, Commit 1, lit< tt, refl, (tt, refl))

-- ---- increments

-- a value is the last one written, or else the first, plus what was added behind it
pub adds-add : value_at items (Add 2 x 4 ∷ Commit 2 ∷ Add 1 x 3 ∷ Commit 1 ∷ []) x ≡ Some 12
adds-add = refl

pub write-forgets_adds : value_at items (Add 1 x 4 ∷ Commit 1 ∷ Write 2 x 7 ∷ Commit 2 ∷ Add 3 x 2 ∷ Commit 3 ∷ []) x
    ≡ Some 9
write-forgets_adds = refl

pub add-keeps_others : value_at items (Add 1 x 4 ∷ []) y ≡ Some 2
add-keeps_others = refl

pub asked_add-keeps : value_at items (WantAdd 1 x 4 ∷ []) x ≡ Some 5
asked_add-keeps = refl

-- an increment overwrites nothing, nor does what was only asked for
pub add-overwrites_nothing : (Overwrites x (Add 1 x 3) → ⊥) × (Overwrites x (WantAdd 1 x 3) → ⊥)
    × (Overwrites x (Want 1 x 3) → ⊥)
add-overwrites_nothing = ((λ h. h), (λ h. h), (λ h. h))

-- the sum is taken modulo 2^64
pub add-wraps : value_at (record { item = x; value = 18446744073709551615 } ∷ []) (Add 1 x 1 ∷ []) x ≡ Some 0
add-wraps = refl

-- an item that isn't there gets no value by an increment
pub add-of_no_item : value_at [] (Add 1 x 1 ∷ []) x ≡ None
add-of_no_item = refl

-- an increment is in conflict with a read before it and a read behind it, and with a write; asked for, too
pub add-clashes : Clash Wr x (Add 1 x 3) (Read 2 x 8) × Clash Rw x (Read 2 x 5) (Add 1 x 3)
    × Clash Ww x (Add 1 x 3) (Write 2 x 7) × Clash Ww x (Write 2 x 7) (Add 1 x 3)
add-clashes = ((refl, refl), (refl, refl), (refl, refl, λ h g. absurd cc), (refl, refl, λ h g. absurd cc))

pub asked_add-clashes : Clash Wr x (WantAdd 1 x 3) (Read 2 x 8) × Clash Rw x (Read 2 x 5) (WantAdd 1 x 3)
    × Clash Ww x (WantAdd 1 x 3) (Want 2 x 7) × Clash Ww x (Write 2 x 7) (WantAdd 1 x 3)
asked_add-clashes = ((refl, refl), (refl, refl), (refl, refl, λ h g. absurd cc), (refl, refl, λ h g. absurd cc))

-- two writes stay in conflict
pub writes-clash : Clash Ww x (Write 1 x 3) (Write 2 x 3)
writes-clash = (refl, refl, λ h g. absurd cc)

-- two increments are in none, an asked one neither
pub two_adds-no_clash : Clash Ww x (Add 1 x 3) (Add 2 x 4) → ⊥
two_adds-no_clash c = c.2 refl refl

pub add_and_asked-no_clash : Clash Ww x (Add 1 x 3) (WantAdd 2 x 4) → ⊥
add_and_asked-no_clash c = c.2 refl refl

pub asked_and_add-no_clash : Clash Ww x (WantAdd 1 x 3) (Add 2 x 4) → ⊥
asked_and_add-no_clash c = c.2 refl refl

-- a transaction changes an item at most once, of whatever kind
pub add_twice-not_orderly : IsOrderly items (Add 1 x 3 ∷ Add 1 x 4 ∷ Commit 1 ∷ []) → ⊥
add_twice-not_orderly o = o.once 0 1 (Commit 1) (lit< tt) (lit< tt) x (refl, inr (refl, refl))

pub write_and_add-not_orderly : IsOrderly items (Write 1 x 3 ∷ Add 1 x 4 ∷ Commit 1 ∷ []) → ⊥
write_and_add-not_orderly o = o.once 0 1 (Commit 1) (lit< tt) (lit< tt) x (refl, inr (refl, refl))

pub want_and_asked_add-not_orderly : IsOrderly items (WantAdd 1 x 3 ∷ Want 1 x 4 ∷ Refuse 1 ∷ []) → ⊥
want_and_asked_add-not_orderly o = o.once 0 1 (Refuse 1) (lit< tt) (lit< tt) x (refl, inr (refl, refl))

-- a read and an increment of it by one transaction are no repetition
pub read_and_add-once : (z : Name) → Repeats z (Read 1 x 5) (Add 1 x 3) → ⊥
read_and_add-once z (same, inl both) = both.1
read_and_add-once z (same, inr both) = both.0

-- writes and increments share a block, and so do wants of both kinds
pub changes-continue : Continues (Write 1 x 3) (Add 1 y 4) × Continues (Add 1 x 3) (Write 1 y 4)
    × Continues (Add 1 x 3) (Add 1 y 4) × Continues (Add 1 x 3) (Commit 1)
changes-continue = (refl, refl, refl, refl)

pub wants-continue : Continues (Want 1 x 3) (WantAdd 1 y 4) × Continues (WantAdd 1 x 3) (Want 1 y 4)
    × Continues (WantAdd 1 x 3) (WantAdd 1 y 4) × Continues (WantAdd 1 x 3) (Refuse 1)
wants-continue = (refl, refl, refl, refl)

pub add-not_refused : (Continues (Add 1 x 3) (Refuse 1) → ⊥) × (Continues (WantAdd 1 x 3) (Commit 1) → ⊥)
add-not_refused = ((λ h. h), (λ h. h))

pub add-no_want : (Continues (Add 1 x 3) (WantAdd 1 y 4) → ⊥) × (Continues (WantAdd 1 x 3) (Add 1 y 4) → ⊥)
add-no_want = ((λ h. h), (λ h. h))

pub add-by_one : Continues (Add 1 x 3) (Add 2 y 4) → ⊥
add-by_one h = eqb-false 1 2 refl h

pub add-opens : IsOpen (Add 1 x 3) × IsOpen (WantAdd 1 x 3)
add-opens = (tt, tt)

-- an increment is on an item of the site, made or asked for
pub add-item : (item_of (Add 1 x 3) ≡ Some x) × (item_of (WantAdd 1 x 3) ≡ Some x)
add-item = (refl, refl)

-- an increment, and what was asked for, is by its transaction
pub add-tx : (tx_of (Add 7 x 3) ≡ 7) × (tx_of (WantAdd 7 x 3) ≡ 7)
add-tx = (refl, refl)
