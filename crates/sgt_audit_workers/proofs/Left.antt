-- What is left of a text behind the sections that were read, and what was asked for it.
use Rattle.std.proofs.Common.{◌≡◌, ◌≢◌, ℕ, suc, ◌+◌, ◌*◌, ◌≤◌, List, [], ◌∷◌, ◌++◌, length, Option, Some, None, IfSome, refl, sym, ap, ◌∙◌, subst, arith}
use Rattle.std.specs.Prelude.{Result, Ok, Err, IsErrOf}
use Rattle.std.specs.Io.KnownBytes.{Consumes}
use Rattle.std.proofs.KnownBytes.{Consumes-nil, Consumes-trans}
use Rattle.std.proofs.Math.Nat.{suc-mul}
use Rattle.std.proofs.lemmas.List.{length-append}
use Rattle.sgt_names.specs.Limits.{most_reads}
use Rattle.sgt_names.specs.declared.outcome.EngineFail.{EngineFail}
use Rattle.sgt_names.specs.declared.outcome.EngineFail.TheVariants.{ReadFault, WriteFault}
use Rattle.sgt_notation.specs.Lines.{Ahead, ReadFaultIsDue, Spends, coming}
use Rattle.sgt_audit.proofs.ReaderAtStage.{spends_on}
use Rattle.sgt_audit_workers.specs.Cut.{FailsDuly, IsPiece, StopsAt, longest}
use Rattle.sgt_audit_workers.specs.Reads.{IsDue, Reader}
use Rattle.sgt_audit_workers.specs.declared.cutting.Stop.{Stop}
use Rattle.sgt_audit_workers.specs.declared.cutting.Stop.TheVariants as stop
use Rattle.sgt_audit_workers.specs.declared.sections.Section.{Section}
use Rattle.sgt_audit_workers.specs.declared.sections.State.{State}
use Rattle.sgt_audit_workers.specs.declared.sections.State.TheVariants.{Going, Ended, Open}
use Rattle.sgt_audit_workers.specs.declared.sections.Text.{Text}
use Rattle.sgt_audit_workers.specs.private.Texts.{AreAhead, CameNext, HasAsked, IsAsked, IsLeft, IsLeftIn, IsLeftBehind, IsNextSection, IsOpen, IsOpenState, IsFirstAhead, IsOpened, IsStateBehind, IsStateOpen, MayFail, StateFails, spare, stop_before}
use Rattle.sgt_audit_workers.proofs.Reading.{spends-fewer}

-- ---- a piece of what is left

module _ (first : Reader) (most : ℕ) (old new : Option (List ℕ)) (reads reads' : ℕ) (before after : List ℕ)
    (stop : Result Stop EngineFail) (p : IsPiece most old new reads reads' before after stop) (left : Option (List ℕ))
    (here : left ≡ old) (spent : Spends most_reads first.told reads left) where
  pub came : Consumes left p.left p.piece
  came = subst (λ (o : Option (List ℕ)). Consumes o p.left p.piece) (sym here) p.read

  pub spends : Spends most_reads first.told (reads' + p.idle) p.left
  spends = spends_on first.told left p.left most_reads reads reads (reads' + p.idle) spent refl
      (subst (λ (o : Option (List ℕ)). Spends reads o (reads' + p.idle) p.left) (sym here) p.spends)

  -- what comes now is that
  pub going : (p.left ≡ new) → p.idle ≡ 0 → (p.left ≡ new) × Spends most_reads first.told reads' p.left
  going same none = (
    same,
    spends-fewer most_reads (reads' + p.idle) reads' first.told p.left p.left [] spends (Consumes-nil p.left)
        (omega (arith, none)),
  )

  pub ended : p.idle ≤ 1 → Spends most_reads first.told (reads' + 1) p.left
  ended few = spends-fewer most_reads (reads' + p.idle) (reads' + 1) first.told p.left p.left [] spends
      (Consumes-nil p.left) (omega (arith, few))

-- what is known of a failure
pub err-inj : {A : Type 0} (e f : EngineFail) (x y : Result A EngineFail) → x ≡ Err e → y ≡ Err f → x ≡ y → e ≡ f
err-inj e f x y is are same = cc

pub due-of : (first old now : Reader) (reads : ℕ) (left : Option (List ℕ)) (e : EngineFail)
    → (e ≢ ReadFault → now.failures ≡ old.failures)
    → (e ≡ ReadFault → FailsDuly reads left old.failures now.failures old.asked now.asked) → e ≢ WriteFault
    → old.failures ≡ first.failures → old.asked + reads ≡ first.asked + most_reads
    → Spends most_reads first.told reads left → IsDue first now e
due-of first old now reads left e quiet due other was counted spent = record {
  fault = λ same. subst (λ f. ReadFaultIsDue first.told f now.failures first.asked now.asked) was
      (due same first.told first.asked spent counted);
  quiet = λ another. quiet another ∙ was;
  other = other;
}

pub may-fail : (first old now : Reader) (reads : ℕ) (left : Option (List ℕ)) (stop : Result Stop EngineFail)
    → (stop ≢ Err ReadFault → now.failures ≡ old.failures)
    → (IsErrOf stop ReadFault → FailsDuly reads left old.failures now.failures old.asked now.asked)
    → stop ≢ Err WriteFault
    → old.failures ≡ first.failures → old.asked + reads ≡ first.asked + most_reads
    → Spends most_reads first.told reads left → MayFail first now stop
may-fail first old now reads left (Ok s) quiet due other was counted spent = quiet (λ same. cc) ∙ was
may-fail first old now reads left (Err e) quiet due other was counted spent =
    due-of first old now reads left e
    (λ another. quiet (λ same. another (err-inj e ReadFault (Err e) (Err ReadFault) refl refl same)))
    (λ same. due (ap (λ (f : EngineFail). Err f) same)) (λ same. other (ap (λ (f : EngineFail). Err f) same)) was
    counted spent

-- ---- states

pub spare-few : (s : State) → spare s ≤ 1
spare-few Going = omega arith
spare-few Ended = omega arith
spare-few (Open bytes stop) = omega arith

-- where nothing stands open it is no matter how long a section may be
pub going-left : (first now : Reader) (lines : Ahead) (few many : ℕ) (left : Option (List ℕ)) (s : State) → s ≡ Going
    → IsLeftIn first lines few now left s → IsLeftIn first lines many now left s
going-left first now lines few many left s same is =
    subst (IsLeftIn first lines many now left) (sym same) (subst (IsLeftIn first lines few now left) same is)

-- how often the reader was asked, by what is left
pub spent-asked : (first now : Reader) (reads b idle : ℕ) (left : Option (List ℕ))
    → now.asked + reads ≡ first.asked + most_reads → Spends most_reads first.told b left → b ≤ reads + idle
    → HasAsked first left idle now
spent-asked first now reads b idle left asks spends le = known first.told left spends
  where
    known : (told left : Option (List ℕ)) → Spends most_reads told b left
        → IfSome told (λ bytes. IfSome left (λ rest. now.asked + length rest ≤ first.asked + length bytes + idle))
    known None left spends = tt
    known (Some bytes) None spends = tt
    known (Some bytes) (Some rest) spends = omega (arith, asks, spends, le)

-- of what is open too
open-asked : (first now : Reader) (idle most : ℕ) (left behind : Option (List ℕ)) (bytes : List ℕ)
    → Consumes left behind bytes → HasAsked first behind idle now → idle + length bytes + 1 ≤ most
    → HasAsked first left most now
open-asked first now idle most left behind bytes read asked short = known first.told left behind read asked
  where
    known : (told left behind : Option (List ℕ)) → Consumes left behind bytes
        → IfSome told (λ all. IfSome behind (λ rest. now.asked + length rest ≤ first.asked + length all + idle))
        → IfSome told (λ all. IfSome left (λ rest. now.asked + length rest ≤ first.asked + length all + most))
    known None left behind read asked = tt
    known (Some all) None behind read asked = tt
    known (Some all) (Some xs) None read asked = absurd read
    known (Some all) (Some xs) (Some ys) read asked =
        omega (arith, asked, short, ap length read, length-append bytes ys)

pub more-asked : (first now : Reader) (left : Option (List ℕ)) (few many : ℕ) → HasAsked first left few now
    → few ≤ many → HasAsked first left many now
more-asked first now left few many asked le = known first.told left asked
  where
    known : (told left : Option (List ℕ))
        → IfSome told (λ all. IfSome left (λ rest. now.asked + length rest ≤ first.asked + length all + few))
        → IfSome told (λ all. IfSome left (λ rest. now.asked + length rest ≤ first.asked + length all + many))
    known None left asked = tt
    known (Some all) None asked = tt
    known (Some all) (Some xs) asked = omega (arith, asked, le)

pub left-asked : (first now : Reader) (text : Text) (left : Option (List ℕ)) → IsAsked first text now
    → IsLeft first text now left → HasAsked first left (spare text.state * longest text.most) now
left-asked first now text left asked is = at text.state is
  where
    at : (s : State) → IsLeftIn first text.lines text.most now left s
        → HasAsked first left (spare s * longest text.most) now
    at Going is =
        more-asked first now left 0 (0 * longest text.most)
        (spent-asked first now text.lines.reads text.lines.reads 0 left asked.asks is.1 (omega arith)) (omega arith)
    at Ended is =
        more-asked first now left 1 (1 * longest text.most)
        (spent-asked first now text.lines.reads (text.lines.reads + 1) 1 left asked.asks is.1 (omega arith))
        (omega arith)
    at (Open bytes stop) is =
        open-asked first now is.idle (1 * longest text.most) left is.behind bytes.items is.read
        (spent-asked first now text.lines.reads (text.lines.reads + is.idle) is.idle is.behind asked.asks is.spends
        (omega arith)) (omega (arith, is.short.with_idle))

-- ---- sections that were read ahead

pub some-bytes : (bytes : List ℕ) → 1 ≤ length bytes → bytes ≢ []
some-bytes bytes some none = absurd (omega (arith, some, ap length none))

-- one more
pub ahead-more : (most : ℕ) (old new later : Option (List ℕ)) (ahead : List Section) (s : Section)
    → AreAhead most old ahead new → IsNextSection most new s later → s.bytes.items ≢ []
    → AreAhead most old (ahead ++ s ∷ []) later
ahead-more most old new later [] s none next some = (
  later,
  record {
    bytes = Consumes-trans old new later [] s.bytes.items none next.bytes;
    last = next.last;
    short =
        next.short;
  },
  some,
  Consumes-nil later,
)
ahead-more most old new later (first ∷ ahead) s are next some =
    (are.0, are.1, are.2, ahead-more most are.0 new later ahead s are.3 next some)

-- no bytes came behind them
pub ahead-on : (most : ℕ) (old new later : Option (List ℕ)) (ahead : List Section) → AreAhead most old ahead new
    → Consumes new later [] → AreAhead most old ahead later
ahead-on most old new later [] none more = Consumes-trans old new later [] [] none more
ahead-on most old new later (first ∷ ahead) are more =
    (are.0, are.1, are.2, ahead-on most are.0 new later ahead are.3 more)

-- ---- how many bytes they have

abbrev pub Bytes : (old new : Option (List ℕ)) → (many : ℕ) → Type 0
Bytes old new many = (bytes : List ℕ) × Consumes old new bytes × (length bytes ≤ many)

pub bytes-one : (old mid new : Option (List ℕ)) (bytes : List ℕ) (one many all : ℕ) → Consumes old mid bytes
    → length bytes ≤ one → Bytes mid new many → one + many ≤ all → Bytes old new all
bytes-one old mid new bytes one many all read short more le = (
  bytes ++ more.0,
  Consumes-trans old mid new bytes more.0 read more.1,
  omega (arith, length-append bytes more.0, short, more.2, le),
)

pub ahead-bytes : (most : ℕ) (old new : Option (List ℕ)) (ahead : List Section) → AreAhead most old ahead new
    → Bytes old new (length ahead * longest most)
ahead-bytes most old new [] none = ([], none, omega arith)
ahead-bytes most old new (s ∷ ahead) are =
    bytes-one old are.0 new s.bytes.items (longest most) (length ahead * longest most)
    (suc (length ahead) * longest most) are.1.bytes (omega (arith, are.1.short))
    (ahead-bytes most are.0 new ahead are.3) (omega (arith, suc-mul (length ahead) (longest most)))

-- a section that came whole, and is the open one
pub kept-open : (first now : Reader) (lines : Ahead) (most : ℕ) (left next : Option (List ℕ)) (section : Section)
    (s : State) → IsLeftIn first lines most now next s → (IsOpenState s → ⊥) → IsNextSection most left section next
    → IsOpen first lines most now left section.bytes.items (Ok (stop_before s))
kept-open first now lines most left next section Going is closed came = record {
  behind = next;
  idle = 0;
  read = came.bytes;
  spends = spends-fewer most_reads lines.reads (lines.reads + 0) first.told next next [] is.1 (Consumes-nil next)
      (omega arith);
  short = record { with_idle = omega (arith, came.short); itself = came.short };
  stops = (is.0, refl);
}
kept-open first now lines most left next section Ended is closed came = record {
  behind = next;
  idle = 1;
  read = came.bytes;
  spends = is.1;
  short = record { with_idle = omega (arith, came.short); itself = came.short };
  stops = (omega arith, is.0);
}
kept-open first now lines most left next section (Open bytes stop) is closed came = absurd (closed tt)

-- ---- one more section

pub first-came : (first now : Reader) (from left : Option (List ℕ)) (text : Text) (ahead : List Section)
    (result : Option Section) → Consumes from left [] → ahead ≡ [] → CameNext first left result text now
    → IsFirstAhead first from result ahead text now
first-came first now from left text ahead (Some s) none empty came = (
  came.0,
  record {
    bytes = Consumes-trans from left came.0 [] s.bytes.items none came.1.bytes;
    last = came.1.last;
    short =
        came.1.short;
  },
  (
    came.0,
    subst (λ (ss : List Section). AreAhead text.most came.0 ss came.0) (sym empty) (Consumes-nil came.0),
    came.2,
  ),
)
first-came first now from left text ahead None none empty came = (left, none, came)

-- ---- an open section

module _ (first now : Reader) (lines : Ahead) (most : ℕ) (left : Option (List ℕ)) (bytes : List ℕ) where
  pub left-behind : (s : Result Stop EngineFail) → (o : IsOpen first lines most now left bytes s)
      → IsLeftBehind s o.behind
  left-behind (Ok stop.Section) o = tt
  left-behind (Ok stop.Text) o = o.stops.1
  left-behind (Ok stop.Room) o = tt
  left-behind (Ok stop.Long) o = o.stops
  left-behind (Err e) o = tt

-- nothing of what comes is read
opens-empty : (first now : Reader) (lines : Ahead) (most idle : ℕ) (behind : Option (List ℕ))
    (s : Result Stop EngineFail) (state : State) → Spends most_reads first.told (lines.reads + idle) behind
    → idle + 1 ≤ longest most → StopsAt behind (coming lines now.told) idle s
    → IsStateOpen state s → IsLeftIn first lines most now behind state
opens-empty first now lines most idle behind s Going spends short stops is = absurd is
opens-empty first now lines most idle behind s Ended spends short stops is = absurd is
opens-empty first now lines most idle behind s (Open bytes t) spends short stops is =
    let none : length bytes.items ≡ 0 = ap length is.0 in
    record {
      behind = behind;
      idle = idle;
      read = subst (λ (b : List ℕ). Consumes behind behind b) (sym is.0) (Consumes-nil behind);
      spends = spends;
      short = record { with_idle = omega (arith, short, none); itself = omega (arith, none) };
      stops = subst (StopsAt behind (coming lines now.told) idle) (sym is.1) stops;
    }

-- what is left behind a piece that stopped so
pub state-left : (first now : Reader) (lines : Ahead) (most idle : ℕ) (behind : Option (List ℕ))
    (s : Result Stop EngineFail) (state : State) → Spends most_reads first.told (lines.reads + idle) behind
    → idle + 1 ≤ longest most → StopsAt behind (coming lines now.told) idle s
    → IsStateBehind s state → IsLeftIn first lines most now behind state
state-left first now lines most idle behind (Ok stop.Section) state spends short stops is =
    subst (IsLeftIn first lines most now behind) (sym is) (
      stops.0,
      spends-fewer most_reads (lines.reads + idle) lines.reads first.told behind behind [] spends
          (Consumes-nil behind) (omega (arith, stops.1)),
    )
state-left first now lines most idle behind (Ok stop.Room) state spends short stops is =
    subst (IsLeftIn first lines most now behind) (sym is) (
      stops.0,
      spends-fewer most_reads (lines.reads + idle) lines.reads first.told behind behind [] spends
          (Consumes-nil behind) (omega (arith, stops.1)),
    )
state-left first now lines most idle behind (Ok stop.Text) state spends short stops is =
    subst (IsLeftIn first lines most now behind) (sym is) (
      stops.1,
      spends-fewer most_reads (lines.reads + idle) (lines.reads + 1) first.told behind behind [] spends
          (Consumes-nil behind) (omega (arith, stops.0)),
    )
state-left first now lines most idle behind (Ok stop.Long) state spends short stops is =
    opens-empty first now lines most idle behind (Ok stop.Long) state spends short stops is
state-left first now lines most idle behind (Err e) state spends short stops is =
    opens-empty first now lines most idle behind (Err e) state spends short stops is

pub fails-behind : (first now : Reader) (s : Result Stop EngineFail) (state : State) → MayFail first now s
    → IsStateBehind s state → StateFails first now state
fails-behind first now (Ok stop.Section) state may is = subst (StateFails first now) (sym is) may
fails-behind first now (Ok stop.Room) state may is = subst (StateFails first now) (sym is) may
fails-behind first now (Ok stop.Text) state may is = subst (StateFails first now) (sym is) may
fails-behind first now (Ok stop.Long) state may is = open-fails state is
  where
    open-fails : (state : State) → IsStateOpen state (Ok stop.Long) → StateFails first now state
    open-fails Going is = absurd is
    open-fails Ended is = absurd is
    open-fails (Open bytes t) is = subst (MayFail first now) (sym is.1) may
fails-behind first now (Err e) state may is = open-fails state is
  where
    open-fails : (state : State) → IsStateOpen state (Err e) → StateFails first now state
    open-fails Going is = absurd is
    open-fails Ended is = absurd is
    open-fails (Open bytes t) is = subst (MayFail first now) (sym is.1) may

-- the section that was open
pub opened-of : (first now : Reader) (text : Text) (left : Option (List ℕ)) (bytes : List ℕ)
    (s : Result Stop EngineFail) → IsOpen first text.lines text.most now left bytes s → IsStateBehind s text.state
    → IsOpened first left bytes bytes s text now
opened-of first now text left bytes s o is = record {
  left = o.behind;
  came = o.read;
  rest = state-left first now text.lines text.most o.idle o.behind s text.state o.spends
      (omega (arith, o.short.with_idle)) o.stops is;
  short = o.short.itself;
  behind = left-behind first now text.lines text.most left bytes s o;
}

-- nothing of it was read
pub settled-read : (first now : Reader) (lines : Ahead) (most : ℕ) (from left : Option (List ℕ)) (bytes : List ℕ)
    (s : Result Stop EngineFail) (state : State) → Consumes from left [] → bytes ≡ []
    → (o : IsOpen first lines most now left bytes s) → IsStateBehind s state
    → (rest : Option (List ℕ)) × Consumes from rest [] × IsLeftIn first lines most now rest state
settled-read first now lines most from left bytes s state before none o is = (
  o.behind,
  Consumes-trans from left o.behind [] [] before (subst (λ (b : List ℕ). Consumes left o.behind b) none o.read),
  state-left first now lines most o.idle o.behind s state o.spends (omega (arith, o.short.with_idle)) o.stops is,
)
