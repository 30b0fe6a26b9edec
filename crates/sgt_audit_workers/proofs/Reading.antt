-- What was read of a text, piece after piece.
use Rattle.std.proofs.Common.{◌≡◌, ℕ, ◌+◌, ◌-◌, ◌%◌, ◌<◌, ◌≤◌, Bool, List, [], ◌∷◌, ◌++◌, length, take, drop, Option, Some, None, IfSome, refl, sym, ap, ◌∙◌, subst, arith, inl, inr, ◌⊎◌, append_assoc}
use Rattle.std.specs.Prelude.{◌≢◌, ◌↔◌, IsTrue, Result, Ok, Err, IsErr}
use Rattle.std.specs.Io.KnownBytes.{Consumes, IsAtEnd}
use Rattle.std.proofs.KnownBytes.{Consumes-nil, Consumes-trans}
use Rattle.std.proofs.lemmas.Bool.{false≢true}
use Rattle.std.proofs.lemmas.List.{append-nil, length-append, take-append-drop}
use Rattle.sgt_names.specs.Limits.{max_line, most_reads}
use Rattle.sgt_names.specs.declared.outcome.EngineFail.{EngineFail}
use Rattle.sgt_notation.specs.Lines.{Ahead, Gives, IsLongerThan, ReadFaultIsDue, Spends, coming, passed}
use Rattle.sgt_notation.specs.declared.lines.Next.TheVariants.{Line, Cut, TooLong, End}
use Rattle.sgt_audit.proofs.ReaderAtStage.{spends_on}
use Rattle.sgt_audit_workers.specs.Cut.{FailsDuly, IsPiece, IsShort, StopsAt, Takes, longest}
use Rattle.sgt_audit_workers.specs.declared.cutting.Stop.{Stop}
use Rattle.sgt_audit_workers.specs.declared.cutting.Stop.TheVariants as stop

-- ---- bytes that are left, and reads

-- by what is held and what is told, or by what is told
pub spends-told : (a b : ℕ) (first : Option (List ℕ)) (lines : Ahead) (told : Option (List ℕ))
    → Spends a first b (coming lines told) → Spends a first b told
spends-told a b None lines told spends = tt
spends-told a b (Some xs) lines None spends = absurd spends
spends-told a b (Some xs) lines (Some ys) spends = omega (arith, spends, length-append lines.held ys)

-- no more is left behind a piece, and more reads may be left
pub spends-fewer : (a b b' : ℕ) (first mid new : Option (List ℕ)) (piece : List ℕ) → Spends a first b mid
    → Consumes mid new piece → b ≤ b' → Spends a first b' new
spends-fewer a b b' None mid new piece spends read le = tt
spends-fewer a b b' (Some xs) None new piece spends read le = absurd spends
spends-fewer a b b' (Some xs) (Some ys) None piece spends read le = absurd read
spends-fewer a b b' (Some xs) (Some ys) (Some zs) piece spends read le =
    omega (arith, spends, le, ap length read, length-append piece zs)

-- each of these reads took a byte of the piece
pub spends-piece : (a b b' : ℕ) (first mid new : Option (List ℕ)) (piece : List ℕ) → Spends a first b mid
    → Consumes mid new piece → b ≤ b' + length piece → Spends a first b' new
spends-piece a b b' None mid new piece spends read le = tt
spends-piece a b b' (Some xs) None new piece spends read le = absurd spends
spends-piece a b b' (Some xs) (Some ys) None piece spends read le = absurd read
spends-piece a b b' (Some xs) (Some ys) (Some zs) piece spends read le =
    omega (arith, spends, le, ap length read, length-append piece zs)

pub line-more : (limit : ℕ) (old new : Option (List ℕ)) (l : List ℕ) → Gives limit old Line l new
    → Consumes old new (l ++ 10 ∷ [])
line-more limit None new l gives = tt
line-more limit (Some bytes) None l gives = absurd gives
line-more limit (Some bytes) (Some rest) l gives = gives.2 ∙ sym (append_assoc l (10 ∷ []) rest)

-- ---- a piece so far

-- so much of what came first was put behind these bytes
pub record IsFar (first : Option (List ℕ)) (reads : ℕ) (before : List ℕ) (lines : Ahead) (told : Option (List ℕ))
    (section : List ℕ) : Type 0 where
  pub piece : List ℕ
  pub bytes : section ≡ before ++ piece
  pub read : Consumes first (coming lines told) piece
  pub spends : Spends reads first lines.reads (coming lines told)

-- more of it

pub far-held : (first : Option (List ℕ)) (reads : ℕ) (before : List ℕ) (old new : Ahead) (told : Option (List ℕ))
    (section after : List ℕ) (n : ℕ) → IsFar first reads before old told section → Takes n old new section after
    → IsFar first reads before new told after
far-held first reads before old new told section after n far takes =
    let moved = passes old n told in
    let here : Consumes (coming old told) (coming new told) (take n old.held) =
    subst (λ (a : Ahead). Consumes (coming old told) (coming a told) (take n old.held)) (sym takes.lines) moved in
    record {
      piece = far.piece ++ take n old.held;
      bytes = takes.section ∙ ap (λ (s : List ℕ). s ++ take n old.held) far.bytes
          ∙ append_assoc before far.piece (take n old.held);
      read = Consumes-trans first (coming old told) (coming new told) far.piece (take n old.held) far.read here;
      spends = spends-fewer reads old.reads new.reads first (coming old told) (coming new told)
          (take n old.held) far.spends here (omega (arith, ap (λ (a : Ahead). a.reads) takes.lines));
    }
  where
    passes : (lines : Ahead) (n : ℕ) (told : Option (List ℕ))
        → Consumes (coming lines told) (coming (passed n lines) told) (take n lines.held)
    passes lines n None = tt
    passes lines n (Some t) = ap (λ (h : List ℕ). h ++ t) (sym (take-append-drop n lines.held))
        ∙ append_assoc (take n lines.held) (drop n lines.held) t

pub far-line : (first : Option (List ℕ)) (reads : ℕ) (before : List ℕ) (old new : Ahead)
    (told told' : Option (List ℕ)) (section after l : List ℕ) (limit : ℕ) → IsFar first reads before old told section
    → Gives limit (coming old told) Line l (coming new told') → after ≡ section ++ (l ++ 10 ∷ [])
    → old.reads ≤ new.reads + length l + 1 → IsFar first reads before new told' after
far-line first reads before old new told told' section after l limit far gives bytes few =
    let here = line-more limit (coming old told) (coming new told') l gives in
    record {
      piece = far.piece ++ (l ++ 10 ∷ []);
      bytes = bytes ∙ ap (λ (s : List ℕ). s ++ (l ++ 10 ∷ [])) far.bytes ∙ append_assoc before far.piece (l ++ 10 ∷ []);
      read = Consumes-trans first (coming old told) (coming new told') far.piece (l ++ 10 ∷ []) far.read here;
      spends = spends-piece reads old.reads new.reads first (coming old told) (coming new told')
          (l ++ 10 ∷ []) far.spends here (omega (arith, few, length-append l (10 ∷ [])));
    }

-- where it stops

short-of : (most many : ℕ) → many + 2 ≤ longest most → IsShort most 0 many
short-of most many short = record { with_idle = omega (arith, short); itself = short }

pub stops-here : (first : Option (List ℕ)) (reads most : ℕ) (before : List ℕ) (lines : Ahead) (told : Option (List ℕ))
    (section : List ℕ) (stop : Result Stop EngineFail) → IsFar first reads before lines told section
    → (length before + 2 ≤ longest most → length section + 2 ≤ longest most)
    → StopsAt (coming lines told) (coming lines told) 0 stop
    → IsPiece most first (coming lines told) reads lines.reads before section stop
stops-here first reads most before lines told section stop far short stops = record {
  piece = far.piece;
  left = coming lines told;
  idle = 0;
  section = far.bytes;
  read = far.read;
  spends = spends-fewer reads lines.reads (lines.reads + 0) first (coming lines told) (coming lines told)
      [] far.spends (Consumes-nil (coming lines told)) (omega arith);
  short = λ few. short-of most (length section) (short few);
  stops = stops;
}

-- what was read then isn't in it
pub stops-before : (first new : Option (List ℕ)) (reads reads' most line : ℕ) (before : List ℕ) (lines : Ahead)
    (told : Option (List ℕ)) (section : List ℕ) (stop : Result Stop EngineFail)
    → IsFar first reads before lines told section
    → length section + 1 ≤ most → lines.reads ≤ reads' + line + 1 → line ≤ max_line
    → StopsAt (coming lines told) new (lines.reads - reads') stop
    → IsPiece most first new reads reads' before section stop
stops-before first new reads reads' most line before lines told section stop far short few limit stops = record {
  piece = far.piece;
  left = coming lines told;
  idle = lines.reads - reads';
  section = far.bytes;
  read = far.read;
  spends = spends-fewer reads lines.reads (reads' + (lines.reads - reads')) first (coming lines told)
      (coming lines told) [] far.spends (Consumes-nil (coming lines told)) (omega arith);
  short = λ none. record { with_idle = omega (arith, short, few, limit); itself = omega (arith, short) };
  stops = stops;
}

-- nor where reading failed
pub stops-failed : (first new : Option (List ℕ)) (reads reads' most line : ℕ) (before : List ℕ) (lines : Ahead)
    (told : Option (List ℕ)) (section after : List ℕ) (stop : Result Stop EngineFail) → IsErr stop
    → IsFar first reads before lines told section
    → after ≡ section → length section + 1 ≤ most → lines.reads ≤ reads' + line + 1 → line ≤ max_line
    → IsPiece most first new reads reads' before after stop
stops-failed first new reads reads' most line before lines told section after (Ok s) failed far same short few limit =
    absurd (false≢true failed)
stops-failed first new reads reads' most line before lines told section after (Err e) failed far same short few limit =
    subst (λ (t : List ℕ). IsPiece most first new reads reads' before t (Err e)) (sym same)
    (stops-before first new reads reads' most line before lines told section (Err e) far short few limit tt)

-- a piece with held lines is short
pub short-held : (most : ℕ) (before old new : List ℕ)
    → (length before + 2 ≤ longest most → length old + 2 ≤ longest most) → (length new ≤ most) ⊎ (new ≡ old)
    → length before + 2 ≤ longest most → length new + 2 ≤ longest most
short-held most before old new short (inl le) few = omega (arith, le)
short-held most before old new short (inr same) few = omega (arith, short few, ap length same)

pub short-line : (most : ℕ) (section after l : List ℕ) → length section + 1 ≤ most → length l ≤ max_line
    → after ≡ section ++ (l ++ 10 ∷ []) → length after + 2 ≤ longest most
short-line most section after l short line same =
    omega (arith, short, line, ap length same, length-append section (l ++ 10 ∷ []), length-append l (10 ∷ []))

pub stops-found : (first : Option (List ℕ)) (reads most : ℕ) (before : List ℕ) (lines : Ahead)
    (told : Option (List ℕ)) (section : List ℕ) (s : Stop) → IsFar first reads before lines told section
    → (length before + 2 ≤ longest most → length section + 2 ≤ longest most) → (s ≡ stop.Section) ⊎ (s ≡ stop.Room)
    → IsPiece most first (coming lines told) reads lines.reads before section (Ok s)
stops-found first reads most before lines told section s far short (inl is) =
    subst (λ t. IsPiece most first (coming lines told) reads lines.reads before section (Ok t)) (sym is)
    (stops-here first reads most before lines told section (Ok stop.Section) far short (refl, refl))
stops-found first reads most before lines told section s far short (inr is) =
    subst (λ t. IsPiece most first (coming lines told) reads lines.reads before section (Ok t)) (sym is)
    (stops-here first reads most before lines told section (Ok stop.Room) far short (refl, refl))

-- at the end of the text
abbrev Last : (first : Option (List ℕ)) → (reads reads' : ℕ) → (piece : List ℕ) → Type 0
Last first reads reads' piece = (left : Option (List ℕ)) × Consumes first left piece
    × Spends reads first (reads' + 1) left × IsAtEnd left

last-known : (xs ys zs piece l : List ℕ) (reads reads' reads'' : ℕ) → Consumes (Some xs) (Some ys) piece
    → Spends reads (Some xs) reads' (Some ys) → ys ≡ l ++ zs → zs ≡ [] → reads' ≤ reads'' + length l + 1
    → Last (Some xs) reads reads'' (piece ++ l)
last-known xs ys zs piece l reads reads' reads'' read spends more ends few = (
  Some zs,
  Consumes-trans (Some xs) (Some ys) (Some zs) piece l read more,
  omega (arith, spends, few, ap length more, length-append l zs),
  ends,
)

last-cut : (first old new : Option (List ℕ)) (reads reads' reads'' limit : ℕ) (piece l : List ℕ)
    → Consumes first old piece → Spends reads first reads' old → Gives limit old Cut l new
    → reads' ≤ reads'' + length l + 1 → Last first reads reads'' (piece ++ l)
last-cut None old new reads reads' reads'' limit piece l read spends gives few = (None, tt, tt, tt)
last-cut (Some xs) None new reads reads' reads'' limit piece l read spends gives few = absurd read
last-cut (Some xs) (Some ys) None reads reads' reads'' limit piece l read spends gives few = absurd gives
last-cut (Some xs) (Some ys) (Some zs) reads reads' reads'' limit piece l read spends gives few =
    last-known xs ys zs piece l reads reads' reads'' read spends (gives.3 ∙ sym (append-nil l)
    ∙ ap (λ (r : List ℕ). l ++ r) (sym gives.4)) gives.4 few

last-end : (first old new : Option (List ℕ)) (reads reads' reads'' limit : ℕ) (piece l : List ℕ)
    → Consumes first old piece → Spends reads first reads' old → Gives limit old End l new
    → reads' ≤ reads'' + length l + 1 → Last first reads reads'' piece
last-end None old new reads reads' reads'' limit piece l read spends gives few = (None, tt, tt, tt)
last-end (Some xs) None new reads reads' reads'' limit piece l read spends gives few = absurd read
last-end (Some xs) (Some ys) None reads reads' reads'' limit piece l read spends gives few = absurd gives
last-end (Some xs) (Some ys) (Some zs) reads reads' reads'' limit piece l read spends gives few =
    subst (λ (p : List ℕ). Last (Some xs) reads reads'' p) (append-nil piece)
    (last-known xs ys zs piece [] reads reads' reads'' read spends (gives.0
    ∙ sym gives.2) gives.2 (omega (arith, few, ap length gives.1)))

module _ (first : Option (List ℕ)) (reads reads' most : ℕ) (before : List ℕ) (lines : Ahead)
    (told new : Option (List ℕ)) (section : List ℕ) (far : IsFar first reads before lines told section)
    (short : length section + 1 ≤ most) (limit : ℕ) (l : List ℕ) (few : lines.reads ≤ reads' + length l + 1) where
  pub stops-cut : (after : List ℕ) → after ≡ section ++ l → length l ≤ max_line
      → Gives limit (coming lines told) Cut l new → IsPiece most first new reads reads' before after (Ok stop.Text)
  stops-cut after bytes line gives =
      let last = last-cut first (coming lines told) new reads lines.reads reads' limit far.piece l far.read far.spends
      gives few in
      let size : length after ≡ length section + length l = omega (arith, ap length bytes, length-append section l) in
      record {
        piece = far.piece ++ l;
        left = last.0;
        idle = 1;
        section = bytes ∙ ap (λ (s : List ℕ). s ++ l) far.bytes ∙ append_assoc before far.piece l;
        read = last.1;
        spends = last.2;
        short = λ none. record {
          with_idle = omega (arith, short, line, size);
          itself =
              omega (arith, short, line, size);
        };
        stops = (omega arith, last.3);
      }

  pub stops-end : Gives limit (coming lines told) End l new
      → IsPiece most first new reads reads' before section (Ok stop.Text)
  stops-end gives =
      let last = last-end first (coming lines told) new reads lines.reads reads' limit far.piece l far.read far.spends
      gives few in
      record {
        piece = far.piece;
        left = last.0;
        idle = 1;
        section = far.bytes;
        read = last.1;
        spends = last.2;
        short = λ none. record { with_idle = omega (arith, short); itself = omega (arith, short) };
        stops = (omega arith, last.3);
      }

-- a line that is too long comes
pub long-left : (limit : ℕ) (old new : Option (List ℕ)) (l : List ℕ) → Gives limit old TooLong l new
    → IfSome old (IsLongerThan limit)
long-left limit None new l gives = tt
long-left limit (Some bytes) None l gives = absurd gives
long-left limit (Some bytes) (Some rest) l gives = gives.0

-- a read fault is due by what was read before too
pub fails-on : (reads reads' : ℕ) (old new : Option (List ℕ)) (f f1 f2 a a1 a2 : ℕ) → FailsDuly reads' new f1 f2 a1 a2
    → Spends reads old reads' new → a1 + reads' ≡ a + reads → f1 ≡ f → FailsDuly reads old f f2 a a2
fails-on reads reads' old new f f1 f2 a a1 a2 fails spends asks quiet told first spent counts =
    subst (λ g. ReadFaultIsDue told g f2 first a2) quiet
    (fails told first (spends_on told old new most_reads reads reads reads' spent (omega arith) spends)
    (omega (arith, asks, counts)))
