-- When the last read began.
use Rattle.std.proofs.Common.{◌≡◌, ◌<◌, ◌≤◌, ◌+◌, ℕ, List, [], ◌∷◌, ◌++◌, length, Option, Some, None, IfSome, ap, arith, inl, inr, refl, ◌∙◌}
use Rattle.std.specs.Prelude.{⊤, ◌*◌}
use Rattle.std.proofs.lemmas.Bool.{cases_order}
use Rattle.std.proofs.lemmas.List.{length-append}
use Rattle.std.specs.Io.KnownBytes.{prepend_known}
use Rattle.sgt_notation.specs.Spelling.{text_of_lines}
use Rattle.sgt_notation.specs.Lines.{Ahead, Gives, coming, most_left}
use Rattle.sgt_notation.specs.declared.lines.Next.TheVariants.{Line, Cut, TooLong, End}
use Rattle.sgt_audit.specs.declared.faults.Fault.{Fault}
use Rattle.sgt_audit.specs.declared.machine.Progress.{Progress}
use Rattle.sgt_audit.specs.Faults.{BeginsNoneBehind, ReadsNoFurther, Stage, lines_so_far}
use Rattle.sgt_audit.specs.private.Stops.{BeganWithin, Goes, IsOfLastRead, IsRest, MeetsFault}

-- so many of the bytes are gone
abbrev pub Eaten : Option (List ℕ) → Option (List ℕ) → ℕ → Type 0
Eaten None coming n = ⊤
Eaten (Some bytes) None n = ⊥
Eaten (Some bytes) (Some rest) n = length bytes ≡ n + length rest

eaten-rest : (s : Stage) (told coming : Option (List ℕ)) → IsRest s told coming
    → Eaten told coming (length (text_of_lines (lines_so_far s)))
eaten-rest s None coming rest = tt
eaten-rest s (Some bytes) None rest = absurd rest
eaten-rest s (Some bytes) (Some xs) rest = ap length rest ∙ length-append (text_of_lines (lines_so_far s)) xs

-- where the machine stands, and how much is gone there
pub eaten-there : (told : Option (List ℕ)) (p : Progress) (coming : Option (List ℕ)) (n reads : ℕ)
    → Goes told p coming n reads
    → (eaten : ℕ) × Goes told p coming n eaten × Eaten told coming eaten
eaten-there told p coming n reads (s, stands, rest, number, few) =
    (length (text_of_lines (lines_so_far s)), (s, stands, rest, number, omega arith), eaten-rest s told coming rest)

-- ---- what is held after a call

-- the lines that were held whole are gone
pub held-fed : (told now : Option (List ℕ)) (old new : Ahead) (last : ℕ) → IsOfLastRead told now old.held last
    → new.reads ≡ old.reads → most_left new ≤ most_left old
    → IsOfLastRead told now new.held last
held-fed told now old new last (inl (same, none)) reads less =
    inl (same, empty new.held (held-less old new reads less none))
  where
    held-less : (old new : Ahead) → new.reads ≡ old.reads → most_left new ≤ most_left old → old.held ≡ []
        → length new.held ≤ 0
    held-less old new reads less none = omega (arith, less, ap (λ (r : ℕ). r * 65536) reads, ap length none)

    empty : (xs : List ℕ) → length xs ≤ 0 → xs ≡ []
    empty [] le = refl
    empty (x ∷ xs) le = absurd (omega arith)
held-fed told now old new last (inr less_held) reads less =
    inr (omega (arith, less_held, less, ap (λ (r : ℕ). r * 65536) reads))

-- a call that made no read held less; one that made some holds bytes of its last
last-held : (told now : Option (List ℕ)) (old new : Ahead) (last last' : ℕ) → IsOfLastRead told now old.held last
    → new.reads ≤ old.reads → (new.reads ≡ old.reads → last' ≡ last)
    → (new.reads < old.reads → length new.held ≤ last') → most_left new ≤ most_left old → length new.held ≤ last'
last-held told now old new last last' before fewer still fresh less =
    elim (cases_order new.reads old.reads) [
      | inl same ↦ elim before [
        | inl (untouched, none) ↦ omega (arith, less, ap (λ (r : ℕ). r * 65536) same, ap length none)
        | inr held ↦ omega (arith, held, still same, less, ap (λ (r : ℕ). r * 65536) same)
      ]
      | inr (inl less_reads) ↦ fresh less_reads
      | inr (inr more) ↦ absurd (omega (arith, fewer, more))
    ]

-- behind a line it holds fewer than the last read gave
pub last-line : (told now : Option (List ℕ)) (old new : Ahead) (last last' : ℕ) → IsOfLastRead told now old.held last
    → new.reads ≤ old.reads → (new.reads ≡ old.reads → last' ≡ last)
    → (new.reads < old.reads → length new.held < last') → most_left new < most_left old → length new.held < last'
last-line told now old new last last' before fewer still fresh less =
    elim (cases_order new.reads old.reads) [
      | inl same ↦ elim before [
        | inl (untouched, none) ↦ absurd (omega (arith, less, ap (λ (r : ℕ). r * 65536) same, ap length none))
        | inr held ↦ omega (arith, held, still same, less, ap (λ (r : ℕ). r * 65536) same)
      ]
      | inr (inl less_reads) ↦ fresh less_reads
      | inr (inr more) ↦ absurd (omega (arith, fewer, more))
    ]

pub last-long : (told now : Option (List ℕ)) (old new : Ahead) (last last' n : ℕ)
    → IsOfLastRead told now old.held last → new.reads ≤ old.reads → (new.reads ≡ old.reads → last' ≡ last)
    → (new.reads < old.reads → length new.held ≤ last') → most_left new + n ≤ most_left old → length new.held ≤ last'
last-long told now old new last last' n before fewer still fresh less =
    last-held told now old new last last' before fewer still fresh (omega (arith, less))

-- ---- how many bytes had been given when the last read began

-- a fault of a line that was held whole
-- how many bytes are told
abbrev size : Option (List ℕ) → ℕ
size None = 0
size (Some xs) = length xs

within-none : (told now : Option (List ℕ)) (last : ℕ) → now ≡ told → BeganWithin told now last 1
within-none None now last same = tt
within-none (Some bytes) None last same = tt
within-none (Some bytes) (Some left) last same = omega (arith, ap size same)

within-held : (told now : Option (List ℕ)) (held : List ℕ) (last e : ℕ) → Eaten told (prepend_known held now) e
    → length held < last → BeganWithin told now last e
within-held None now held last e eaten less = tt
within-held (Some bytes) None held last e eaten less = tt
within-held (Some bytes) (Some left) held last e eaten less = omega (arith, eaten, less, length-append held left)

none-eaten : (told now : Option (List ℕ)) (held : List ℕ) (e : ℕ) → Eaten told (prepend_known held now) e → now ≡ told
    → held ≡ [] → IfSome told (λ bytes. e ≡ 0)
none-eaten None now held e eaten same none = tt
none-eaten (Some bytes) None held e eaten same none = absurd eaten
none-eaten (Some bytes) (Some left) held e eaten same none =
    omega (arith, eaten, length-append held left, ap length none, ap size same)

met-first : (told now : Option (List ℕ)) (n : ℕ) (f : Fault) (e : ℕ) → IfSome told (λ bytes. e ≡ 0)
    → IfSome told (λ bytes. MeetsFault bytes n f e) → IfSome told (λ bytes. MeetsFault bytes n f 1)
met-first None now n f e none met = tt
met-first (Some bytes) now n f e none met = (met.0, omega arith)

pub begun-held : (told now : Option (List ℕ)) (held : List ℕ) (last n e : ℕ) (f : Fault)
    → IsOfLastRead told now held last → Eaten told (prepend_known held now) e
    → IfSome told (λ bytes. MeetsFault bytes n f e)
    → (reads : ℕ) × IfSome told (λ bytes. MeetsFault bytes n f reads) × BeganWithin told now last reads
begun-held told now held last n e f (inl (same, none)) eaten met =
    (1, met-first told now n f e (none-eaten told now held e eaten same none) met, within-none told now last same)
begun-held told now held last n e f (inr less) eaten met = (e, met, within-held told now held last e eaten less)

-- behind a line
pub within-line : (told coming now : Option (List ℕ)) (limit e last : ℕ) (l held : List ℕ) → Eaten told coming e
    → Gives limit coming Line l (prepend_known held now) → length held < last
    → BeganWithin told now last (e + length l + 1)
within-line None coming now limit e last l held eaten gives less = tt
within-line (Some bytes) None now limit e last l held eaten gives less = absurd eaten
within-line (Some bytes) (Some xs) None limit e last l held eaten gives less = tt
within-line (Some bytes) (Some xs) (Some left) limit e last l held eaten gives less =
    omega (arith, eaten, less, ap length gives.2, length-append l (10 ∷ (held ++ left)), length-append held left)

-- at the start of a line that is too long
pub within-long : (told coming now : Option (List ℕ)) (limit e last : ℕ) (l held : List ℕ) → Eaten told coming e
    → Gives limit coming TooLong l (prepend_known held now) → length held ≤ last
    → BeganWithin told now last (e + length l + 1)
within-long None coming now limit e last l held eaten gives less = tt
within-long (Some bytes) None now limit e last l held eaten gives less = absurd eaten
within-long (Some bytes) (Some xs) None limit e last l held eaten gives less = tt
within-long (Some bytes) (Some xs) (Some left) limit e last l held eaten gives less =
    omega (arith, eaten, less, ap length gives.1, length-append l (held ++ left), length-append held left)

-- at the end
pub within-cut : (told coming new now : Option (List ℕ)) (limit e last : ℕ) (l : List ℕ) → Eaten told coming e
    → Gives limit coming Cut l new → BeganWithin told now last (e + length l + 1)
within-cut None coming new now limit e last l eaten gives = tt
within-cut (Some bytes) None new now limit e last l eaten gives = absurd eaten
within-cut (Some bytes) (Some xs) None now limit e last l eaten gives = absurd gives
within-cut (Some bytes) (Some xs) (Some ys) None limit e last l eaten gives = tt
within-cut (Some bytes) (Some xs) (Some ys) (Some left) limit e last l eaten gives =
    omega (arith, eaten, ap length gives.3)

pub within-end : (told coming new now : Option (List ℕ)) (limit e last : ℕ) (l : List ℕ) → Eaten told coming e
    → Gives limit coming End l new → BeganWithin told now last (e + length l + 1)
within-end None coming new now limit e last l eaten gives = tt
within-end (Some bytes) None new now limit e last l eaten gives = absurd eaten
within-end (Some bytes) (Some xs) None now limit e last l eaten gives = absurd gives
within-end (Some bytes) (Some xs) (Some ys) None limit e last l eaten gives = tt
within-end (Some bytes) (Some xs) (Some ys) (Some left) limit e last l eaten gives =
    omega (arith, eaten, ap length gives.0)

-- no more reads than that, and so the last began before the line was whole
pub none_behind : (told now : Option (List ℕ)) (last reads : ℕ) → IfSome told (λ bytes. ReadsNoFurther bytes reads)
    → BeganWithin told now last reads
    → IfSome told (λ bytes. IfSome now (λ left. BeginsNoneBehind bytes (length left) last))
none_behind None now last reads few within = tt
none_behind (Some bytes) None last reads few within = tt
none_behind (Some bytes) (Some left) last reads few within = λ n f first. omega (arith, few n f first, within)
