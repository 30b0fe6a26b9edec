-- The entries that walks are about.
use Rattle.std.specs.Prelude.{◌≡◌, ℕ, ◌+◌, ◌<◌, ◌≤◌, Bool, true, false, List, [], ◌∷◌, ◌++◌, length, take, slice_get, get_or, cond, Option, Some, None, IfSome, IfNone, IsSome, IsSomeAnd, unwrap_or, ◌⊎◌, ◌%◌}
use Rattle.std.specs.declared.cmp.Ordering.{Ordering}
use Rattle.std.specs.Ordering.{nat_cmp, ordering_then, is_eq}
use Rattle.std.specs.Cmp.Lexicographic.{slice_cmp}
use Rattle.std.specs.BTreeMap.{get}
use Rattle.sgt_names.specs.Name.{Name}
use Rattle.sgt_names.specs.Entry.{tx_of, item_of, Reads, Writes}
use Rattle.sgt_names.specs.declared.entry.Entry.{Entry}
use Rattle.sgt_names.specs.declared.entry.Kind.{Kind}
use Rattle.sgt_names.specs.declared.entry.Kind.TheVariants.{Wr, Rw, Ww}
use Rattle.sgt_notation.specs.Spelling.{line_text, HasNoLf, IsLine}
use Rattle.sgt_notation.specs.declared.SectionLine.{SectionLine}
use Rattle.sgt_notation.specs.declared.SectionLine.TheVariants as Line
use Rattle.sgt_bundle.specs.declared.certificate.Step.{Step}
use Rattle.sgt_bundle.specs.declared.certificate.Decision.{Decision}
use Rattle.sgt_bundle.specs.declared.certificate.Decision.TheVariants.{Refuse}
use Rattle.sgt_explain_lines.specs.declared.section.Logged.{Logged}
use Rattle.sgt_explain_lines.specs.Numbered.{site_behind}
use Rattle.sgt_explain_lines.specs.Sited.{StandsAt}
use Rattle.sgt_explain_decisions.specs.declared.sought.Found.{Found}
use Rattle.sgt_explain_decisions.specs.declared.sought.Sought.{Sought}

-- a site, an item of it and a transaction
abbrev pub Key : Type 0
Key = ℕ × Name × ℕ

-- in order
abbrev pub key_cmp : Key → Key → Ordering
key_cmp a b = ordering_then (ordering_then (nat_cmp a.0 b.0) (slice_cmp nat_cmp a.1 b.1)) (nat_cmp a.2 b.2)

-- what was found of the transaction on the item of the site, if that is sought
abbrev pub found_at : Sought → Key → Option Found
found_at sought k = get key_cmp sought.found k

-- nothing was found
abbrev pub nothing : Found
nothing = record { read = None; change = None }

-- ---- what the lines have

-- the transaction reads the item
abbrev pub ReadsAs : Key → Entry → Type 0
ReadsAs k e = (tx_of e ≡ k.2) × Reads k.1 e

-- it changes it or asks to
abbrev pub ChangesAs : Key → Entry → Type 0
ChangesAs k e = (tx_of e ≡ k.2) × Writes k.1 e

-- of the first so many lines the last entry at the site that P holds of
pub record IsLastAt (P : Entry → Type 0) (lines : List SectionLine) (site count : ℕ) (found : Option Logged) : Type 0
  where
    pub there : IfSome found (λ l. StandsAt lines site l × (l.line < count + 3) × P l.entry)
    pub last : (l : Logged) → StandsAt lines site l → l.line < count + 3 → P l.entry
        → IsSomeAnd found (λ g. l.line ≤ g.line)

-- what was found in the first so many lines is the transaction's read of the item and its change, the last where
-- there are more, each in its line, and none where there is none
pub record IsFoundIn (lines : List SectionLine) (count : ℕ) (k : Key) (f : Found) : Type 0 where
  pub read : IsLastAt (ReadsAs k) lines k.0 count f.read
  pub change : IsLastAt (ChangesAs k) lines k.0 count f.change

abbrev pub AreFoundIn : List SectionLine → ℕ → Sought → Type 0
AreFoundIn lines count sought = (k : Key) → IfSome (found_at sought k) (IsFoundIn lines count k)

-- what was found are the transaction's own entries
pub record IsFound (k : Key) (f : Found) : Type 0 where
  pub read : IfSome f.read (λ l. ReadsAs k l.entry)
  pub change : IfSome f.change (λ l. ChangesAs k l.entry)

abbrev pub AreFound : Sought → Type 0
AreFound sought = (k : Key) → IfSome (found_at sought k) (IsFound k)

-- ---- what is sought

abbrev pub key_of : Step → ℕ → Key
key_of step tx = (step.label.site, step.label.item, tx)

-- both transactions of a step that starts from this one are sought on its item
abbrev pub IsSoughtFor : Sought → ℕ → Step → Type 0
IsSoughtFor sought from step = IsSome (found_at sought (key_of step from))
    × IsSome (found_at sought (key_of step step.to))

-- where a walk leads
abbrev pub last_stop : ℕ → List Step → ℕ
last_stop from [] = from
last_stop from (step ∷ walk) = last_stop step.to walk

-- of each of so many first steps of a walk
abbrev pub AreSoughtFor : Sought → ℕ → List Step → ℕ → Type 0
AreSoughtFor sought tx walk count = (place : ℕ) (step : Step) → place < count → slice_get walk place ≡ Some step
    → IsSoughtFor sought (last_stop tx (take place walk)) step

-- of each step of the walk of each of so many first decisions
abbrev pub WalksAreSought : Sought → List Decision → ℕ → Type 0
WalksAreSought sought decisions count = (number tx : ℕ) (walk : List Step) → number < count
    → slice_get decisions number ≡ Some (Refuse tx walk)
    → AreSoughtFor sought tx walk (length walk)

-- ---- what is shown of a step

-- what was found of the transaction on the item of the step, at its site
abbrev pub found_of : Sought → Step → ℕ → Found
found_of sought step tx = unwrap_or (found_at sought (key_of step tx)) nothing

-- the entries that a step of the kind begins and ends with
abbrev pub begun_by : Kind → Found → Option Logged
begun_by Rw f = f.read
begun_by Wr f = f.change
begun_by Ww f = f.change

abbrev pub ended_by : Kind → Found → Option Logged
ended_by Wr f = f.read
ended_by Rw f = f.change
ended_by Ww f = f.change

-- ---- for private clauses

-- nothing was found yet
abbrev pub AreUnfound : Sought → Type 0
AreUnfound sought = (k : Key) → IfSome (found_at sought k) (λ f. f ≡ nothing)

-- what is sought stays so
abbrev pub KeepsKeys : Sought → Sought → Type 0
KeepsKeys old new = (k : Key) → IsSome (found_at old k) → IsSome (found_at new k)

-- what was found is put at a key
abbrev pub PutsAt : Key → Found → Sought → Sought → Type 0
PutsAt k f old new = (q : Key) → found_at new q ≡ cond (is_eq (key_cmp k q)) (Some f) (found_at old q)

-- the entry takes the place of what was found where it is one, and nowhere else
abbrev pub TakesPlace : Type 0 → Logged → Option Logged → Option Logged → Type 0
TakesPlace P l old new = (P × (new ≡ Some l)) ⊎ ((P → ⊥) × (new ≡ old))

-- what was found of the transaction of an entry on its item, with that entry
abbrev pub IsWith : Logged → Found → Found → Type 0
IsWith l old new = (x : Name) → item_of l.entry ≡ Some x
    → TakesPlace (Reads x l.entry) l old.read new.read × TakesPlace (Writes x l.entry) l old.change new.change

-- what was found of a key, with one more entry of a site
pub record HasOneMore (site : ℕ) (l : Logged) (k : Key) (f g : Found) : Type 0 where
  pub read : TakesPlace ((site ≡ k.0) × ReadsAs k l.entry) l f.read g.read
  pub change : TakesPlace ((site ≡ k.0) × ChangesAs k l.entry) l f.change g.change

abbrev pub IsNextOf : (site : ℕ) → Logged → Key → Option Found → Option Found → Type 0
IsNextOf site l k (Some f) (Some g) = HasOneMore site l k f g
IsNextOf site l k None None = Unit {0}
IsNextOf site l k _ _ = ⊥

abbrev pub TakesOne : (site : ℕ) → Logged → Sought → Sought → Type 0
TakesOne site l old new = (k : Key) → IsNextOf site l k (found_at old k) (found_at new k)

-- the class of each transaction that is sought is marked
abbrev pub AreMarked : Sought → List Bool → Type 0
AreMarked sought classes = (k : Key) → IsSome (found_at sought k) → get_or classes (k.2 % 65536) false ≡ true

-- from what is sought and marked to more of it, with nothing found
pub record Seeks (old : Sought) (classes : List Bool) (new : Sought) (more : List Bool) : Type 0 where
  pub keys : KeepsKeys old new
  pub unfound : AreUnfound old → AreUnfound new
  pub marked : AreMarked old classes → AreMarked new more

-- what one line of a section adds
abbrev pub FindsOne : (site line : ℕ) → SectionLine → Sought → Sought → Type 0
FindsOne site line (Line.Logged e) old new = TakesOne site (record { line = line; entry = e }) old new
FindsOne site line _ old new = new ≡ old

-- the first line of the bytes is this text, and what stands behind it and the site are right, with what a line of a
-- section adds; the first two lines add nothing
pub record FindsFirst (line : ℕ) (bytes behind : List ℕ) (site site' : ℕ) (old new : Sought) : Type 0 where
  pub text : List ℕ
  pub cut : (one more : List ℕ) → HasNoLf one → bytes ≡ one ++ 10 ∷ more → (text ≡ one) × (behind ≡ more)
  pub head : line ≤ 2 → (new ≡ old) × (site' ≡ site)
  pub section : 2 < line → (read : SectionLine) → IsLine read → text ≡ line_text read
      → (site' ≡ site_behind site read) × FindsOne site' line read old new

-- what some line adds: an entry, or nothing
abbrev pub FindsAny : Sought → Sought → Type 0
FindsAny old new = (new ≡ old) ⊎ ((site : ℕ) × (l : Logged) × TakesOne site l old new)

-- what is sought by decisions, with nothing found yet, and the classes of its transactions
pub record IsUnfound (decisions : List Decision) (sought : Sought) (classes : List Bool) : Type 0 where
  pub none : AreUnfound sought
  pub walks : WalksAreSought sought decisions (length decisions)
  pub marked : AreMarked sought classes
  pub many : length classes ≡ 65536
