-- The text of a line is short, and has no LF in it.
use Rattle.std.proofs.Common.{◌≢◌, ◌≤◌, ℕ, List, [], ◌∷◌, ◌++◌, length, arith, length-append, lit<, lit≤}
use Rattle.std.specs.Prelude.{codes, decimal}
use Rattle.std.proofs.lemmas.Fmt.{length-decimal-le}
use Rattle.std.proofs.lemmas.List.Elements.{All-from_recursion}
use Rattle.sgt_names.specs.Name.{Name, IsName}
use Rattle.sgt_names.specs.declared.entry.Entry.TheVariants.{Read, Write, Add, Want, WantAdd, Commit, Refuse, Withdraw}
use Rattle.sgt_names.specs.declared.entry.Holding.{Holding}
use Rattle.sgt_notation.specs.Spelling.{assignment, operation, line_text, HasNoLf, IsHolding, IsLine, IsTx, IsValue}
use Rattle.sgt_notation.specs.declared.SectionLine.{SectionLine}
use Rattle.sgt_notation.specs.declared.SectionLine.TheVariants.{Site, Initial, Logged, Final, End}
use Rattle.sgt_notation.proofs.OneSpelling.{line-one_line}
use Rattle.sgt_names.proofs.Stored.{name-length}

pub tx-short : (n : ℕ) → IsTx n → length (decimal n) ≤ 10
tx-short n h = length-decimal-le 10 n (lit< tt) (omega (arith, h.1)) (omega (arith, h.1))

pub value-short : (n : ℕ) → IsValue n → length (decimal n) ≤ 20
value-short n h = length-decimal-le 20 n (lit< tt) (omega (arith, h)) h

operation-short : (tx : ℕ) (x : Name) (v : ℕ) → IsTx tx × IsName x × IsValue v → length (operation tx x v) ≤ 49
operation-short tx x v h = simp length-append (omega (arith, tx-short tx h.0, name-length x h.1, value-short v h.2))

assignment-short : (h : Holding) → IsHolding h → length (assignment h.item h.value) ≤ 37
assignment-short h is = simp length-append (omega (arith, name-length h.item is.0, value-short h.value is.1))

behind : (word text : List ℕ) (n : ℕ) → length word ≤ 6 → length text ≤ n → n ≤ 44 → length (word ++ text) ≤ 50
behind word text n small short all = simp length-append (omega arith)

letter : (c : ℕ) (text : List ℕ) → length text ≤ 49 → length (c ∷ text) ≤ 50
letter c text short = omega arith

pub line-short : (l : SectionLine) → IsLine l → length (line_text l) ≤ 50
line-short (Site k) h = behind (codes "site ") (decimal k) 20 (lit≤ tt) (value-short k (omega (arith, h))) (lit≤ tt)
line-short (Initial x) h = behind (codes "item ") (assignment x.item x.value) 37 (lit≤ tt) (assignment-short x h) (lit≤ tt)
line-short (Final x) h = behind (codes "final ") (assignment x.item x.value) 37 (lit≤ tt) (assignment-short x h) (lit≤ tt)
line-short End h = lit≤ tt
line-short (Logged (Read tx x v)) h = letter 114 (operation tx x v) (operation-short tx x v h)
line-short (Logged (Write tx x v)) h = letter 119 (operation tx x v) (operation-short tx x v h)
line-short (Logged (Add tx x v)) h = letter 100 (operation tx x v) (operation-short tx x v h)
line-short (Logged (Want tx x v)) h = letter 112 (operation tx x v) (operation-short tx x v h)
line-short (Logged (WantAdd tx x v)) h = letter 113 (operation tx x v) (operation-short tx x v h)
line-short (Logged (Commit tx)) h = letter 99 (decimal tx) (omega (arith, tx-short tx h))
line-short (Logged (Refuse tx)) h = letter 110 (decimal tx) (omega (arith, tx-short tx h))
line-short (Logged (Withdraw tx)) h = letter 97 (decimal tx) (omega (arith, tx-short tx h))

pub line-no_lf : (l : SectionLine) → IsLine l → HasNoLf (line_text l)
line-no_lf l h = All-from_recursion (λ b. b ≢ 10) (line_text l) (line-one_line l h)
