-- What a reader has given so far.
use Rattle.std.proofs.Common.{◌≡◌, ◌≢◌, ◌<◌, ◌≤◌, ◌+◌, ℕ, List, [], ◌++◌, length, Option, Some, None, Result, Ok, Err, inl, inr, ap, sym, ◌∙◌, subst, arith, append_assoc, append-nil, length-append}
use Rattle.std.specs.Prelude.{IfSome, IsErrOf}
use Rattle.std.specs.Io.KnownBytes.{Consumes, IsAtEnd, prepend_known}
use Rattle.sgt_names.specs.Limits.{most_reads}
use Rattle.sgt_names.specs.declared.outcome.EngineFail.{EngineFail}
use Rattle.sgt_names.specs.declared.outcome.EngineFail.TheVariants.{Memory, ReadFault}
use Rattle.sgt_devices.specs.Devices.{LeavesKeptReader}
use Rattle.sgt_explain.specs.Watched.{CameBehind}

-- what holds of the text that was taken holds of the bytes told
pub told-of : (told : Option (List ℕ)) (text : List ℕ) (P : List ℕ → Type 0) → IfSome told (λ bytes. text ≡ bytes)
    → P text → IfSome told P
told-of None text P same p = tt
told-of (Some xs) text P same p = subst P same p

-- nothing stands before what comes
pub behind-none : (told : Option (List ℕ)) (P : List ℕ → Type 0) → IfSome (prepend_known [] told) P → IfSome told P
behind-none None P h = tt
behind-none (Some xs) P h = h

-- ---- behind a text that was there

consumes-on : (told mid now : Option (List ℕ)) (came more : List ℕ) → Consumes told mid came → Consumes mid now more
    → Consumes told now (came ++ more)
consumes-on None mid now came more took later = tt
consumes-on (Some xs) None now came more took later = absurd took
consumes-on (Some xs) (Some ys) None came more took later = absurd later
consumes-on (Some xs) (Some ys) (Some zs) came more took later =
    took ∙ ap (λ (t : List ℕ). came ++ t) later ∙ sym (append_assoc came more zs)

pub came-more : (old text new more : List ℕ) (told mid now : Option (List ℕ)) → CameBehind old text told mid
    → Consumes mid now more → new ≡ text ++ more → CameBehind old new told now
came-more old text new more told mid now (came, is, took) later e = (
  came ++ more,
  e ∙ ap (λ (t : List ℕ). t ++ more) is ∙ append_assoc old came more,
  consumes-on told mid now came more took later,
)

-- the text is the front of all
pub came-front : (old text : List ℕ) (told now : Option (List ℕ)) → CameBehind old text told now
    → Consumes (prepend_known old told) now text
came-front old text None now came = tt
came-front old text (Some xs) None came = absurd came.2
came-front old text (Some xs) (Some ys) (came, is, took) =
    ap (λ (t : List ℕ). old ++ t) took ∙ sym (append_assoc old came ys) ∙ ap (λ (t : List ℕ). t ++ ys) (sym is)

-- at the end it is all
pub came-all : (old text : List ℕ) (told now : Option (List ℕ)) → CameBehind old text told now → IsAtEnd now
    → IfSome (prepend_known old told) (λ bytes. text ≡ bytes)
came-all old text None now came ended = tt
came-all old text (Some xs) None came ended = absurd came.2
came-all old text (Some xs) (Some ys) (came, is, took) ended =
    is ∙ ap (λ (t : List ℕ). old ++ t)
    (sym (append-nil came) ∙ sym (took ∙ ap (λ (t : List ℕ). came ++ t) ended))

-- each read took a byte at least
pub came-many : (old text : List ℕ) (told now : Option (List ℕ)) (reads : ℕ) → CameBehind old text told now
    → length old + reads ≤ length text → IfSome told (λ bytes. reads ≤ length bytes)
came-many old text None now reads came few = tt
came-many old text (Some xs) None reads came few = absurd came.2
came-many old text (Some xs) (Some ys) reads (came, is, took) few = omega (
  arith,
  few,
  ap length is,
  ap length took,
  length-append old came,
  length-append came ys,
)

-- ---- a front that was read before

-- it stands before what came behind it
pub told-back : (told now : Option (List ℕ)) (head : List ℕ) (P : List ℕ → Type 0) → Consumes told now head
    → IfSome (prepend_known head now) P → IfSome told P
told-back None now head P came h = tt
told-back (Some xs) None head P came h = absurd came
told-back (Some xs) (Some ys) head P came h = subst P (sym came) h

-- and no reader is left with more than it had
pub long-back : (told now : Option (List ℕ)) (head : List ℕ) (n : ℕ) → Consumes told now head
    → IfSome now (λ bytes. n ≤ length bytes) → IfSome told (λ bytes. n ≤ length bytes)
long-back None now head n came h = tt
long-back (Some xs) None head n came h = absurd came
long-back (Some xs) (Some ys) head n came h = omega (arith, h, ap length came, length-append head ys)

pub kept-back : {A R : Type 0} (tells : R → Option (List ℕ)) (failures : R → ℕ) (result : Result A EngineFail)
    (old mid new : R) (head : List ℕ) → Consumes (tells old) (tells mid) head → failures mid ≡ failures old
    → LeavesKeptReader tells failures result mid new → LeavesKeptReader tells failures result old new
kept-back tells failures result old mid new head came quiet leaves = record {
  due = λ is. elim (leaves.due is) [
    | inl failed ↦ inl (omega (arith, failed, quiet))
    | inr many ↦ inr (long-back (tells old) (tells mid) head most_reads came many)
  ];
  quiet = λ other. leaves.quiet other ∙ quiet;
}

-- ---- a read that failed

abbrev pub SameErr : {A B : Type 0} → Result A EngineFail → Result B EngineFail → Type 0
SameErr (Err e) (Err f) = e ≡ f
SameErr _ _ = ⊥

abbrev fail-in : {A : Type 0} → Result A EngineFail → EngineFail
fail-in (Ok a) = Memory
fail-in (Err e) = e

pub leaves-failed : {A B R : Type 0} (tells : R → Option (List ℕ)) (failures : R → ℕ) (r : Result A EngineFail)
    (s : Result B EngineFail) (old mid new : R) → SameErr r s → failures mid ≡ failures old
    → (r ≢ Err ReadFault → failures new ≡ failures mid) → (IsErrOf r ReadFault → failures mid < failures new)
    → LeavesKeptReader tells failures s old new
leaves-failed tells failures (Err e) (Err f) old mid new same quiet kept due = record {
  due = λ is. inl (omega (arith, due (ap (λ x. Err x) (same ∙ ap fail-in is)), quiet));
  quiet = λ other. kept (λ is. other (ap (λ x. Err x) (sym same ∙ ap fail-in is))) ∙ quiet;
}
leaves-failed tells failures (Ok a) s old mid new same quiet kept due = absurd same
leaves-failed tells failures (Err e) (Ok b) old mid new same quiet kept due = absurd same
