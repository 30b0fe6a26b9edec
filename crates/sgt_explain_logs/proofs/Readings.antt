-- How far logs were read.
use Rattle.std.proofs.Common.{◌≡◌, ℕ, ◌+◌, ◌*◌, ◌≤◌, Bool, List, [], ◌++◌, length, take, drop, Option, Some, None, inl, inr, sym, ap, ◌∙◌, subst, arith, append_assoc, append-nil, length-append}
use Rattle.std.specs.Prelude.{IfSome}
use Rattle.std.specs.Io.KnownBytes.{Consumes}
use Rattle.std.proofs.lemmas.List.{take-append-drop, take-append-le, take-take}
use Rattle.sgt_names.specs.Limits.{max_line}
use Rattle.sgt_notation.specs.Lines.{IsLongerThan}
use Rattle.sgt_notation.specs.Spelling.{HasNoLf, text_of_lines}
use Rattle.sgt_audit.specs.declared.faults.Fault.{Fault}
use Rattle.sgt_certify.specs.Reach.{AreShort, IsJudgedTo, IsWithinRoom}
use Rattle.sgt_certify.proofs.Reached.{short-before}
use Rattle.sgt_certify_faults.specs.Faults.{HasFault, IsFirstFault, lines_of}
use Rattle.sgt_certify_faults.specs.declared.first.FirstFault.{FirstFault}
use Rattle.sgt_explain.proofs.Taken.{told-back}
use Rattle.sgt_explain_logs.specs.Explained.{IsFound, IsOpenHead, IsPeeked}
use Rattle.sgt_explain_logs.specs.Taken.{AreReadOf, BeganInTime, IsCut, IsReadTo, StopsSoon}
use Rattle.sgt_explain_logs.specs.declared.taking.Cut.{Cut}
use Rattle.sgt_explain_logs.specs.declared.taking.Logs.{Logs}
use Rattle.sgt_explain_logs.proofs.Cuts.{cut-lines, cut-more}
use Rattle.sgt_explain_logs.proofs.Heads.{few-bytes}

-- ---- the first fault of a text, by its lines

-- what stands behind them is the front of what follows them
behind-lines : (n : ℕ) (text more : List ℕ) → text ++ more ≡ take n text ++ (drop n text ++ more)
behind-lines n text more =
    ap (λ (t : List ℕ). t ++ more) (sym (take-append-drop n text)) ∙ append_assoc (take n text) (drop n text) more

pub fault-whole : (n : ℕ) (text : List ℕ) (line : ℕ) (f : Fault)
    → ((more : List ℕ) → IsFirstFault (take n text ++ more) line f)
    → (more : List ℕ) → IsFirstFault (text ++ more) line f
fault-whole n text line f first more =
    subst (λ (t : List ℕ). IsFirstFault t line f) (sym (behind-lines n text more)) (first (drop n text ++ more))

longer-more : (size : ℕ) (bytes more : List ℕ) → IsLongerThan size bytes → IsLongerThan size (bytes ++ more)
longer-more size bytes more long = (
  omega (arith, long.0, length-append bytes more),
  subst HasNoLf (sym (take-append-le (size + 1) bytes more (omega (arith, long.0)))) long.1,
)

-- where what stands behind them is too long
pub fault-long : (n : ℕ) (text : List ℕ) (line : ℕ) (f : Fault) → IsLongerThan max_line (drop n text)
    → ((more : List ℕ) → IsLongerThan max_line more → IsFirstFault (take n text ++ more) line f)
    → (more : List ℕ) → IsFirstFault (text ++ more) line f
fault-long n text line f long first more =
    subst (λ (t : List ℕ). IsFirstFault t line f) (sym (behind-lines n text more))
    (first (drop n text ++ more) (longer-more max_line (drop n text) more long))

-- ---- what was read

-- a text that has a fault, whatever follows
pub fault-read : (told now : Option (List ℕ)) (text : List ℕ) (first : FirstFault) → Consumes told now text
    → ((more : List ℕ) → IsFirstFault (text ++ more) first.line first.fault)
    → IfSome told (λ bytes. IsReadTo bytes text (Some first))
fault-read None now text first came has = tt
fault-read (Some bytes) None text first came has = absurd came
fault-read (Some bytes) (Some left) text first came has =
    ((left, came), subst (λ (t : List ℕ). IsFirstFault t first.line first.fault) (sym came) (has left))

pub fault-alone : (text : List ℕ) (first : FirstFault)
    → ((more : List ℕ) → IsFirstFault (text ++ more) first.line first.fault) → IsReadTo text text (Some first)
fault-alone text first has = (
  ([], sym (append-nil text)),
  subst (λ (t : List ℕ). IsFirstFault t first.line first.fault) (append-nil text) (has []),
)

-- no more than there is
pub read-within : (bytes text : List ℕ) (first : Option FirstFault) → IsReadTo bytes text first
    → length text ≤ length bytes
read-within bytes text None same = omega (arith, ap length same)
read-within bytes text (Some first) ((rest, is), has) = omega (arith, ap length is, length-append text rest)

pub long-read : (told : Option (List ℕ)) (logs : Logs) (n : ℕ) → IfSome told (λ bytes. AreReadOf bytes logs)
    → n ≤ length logs.text.items → IfSome told (λ bytes. n ≤ length bytes)
long-read None logs n read long = tt
long-read (Some bytes) logs n read long = omega (arith, long, read-within bytes logs.text.items logs.first read)

-- what was found of a transaction in logs without a fault
pub found-read : (bytes text : List ℕ) (first : Option FirstFault) (asked : Option ℕ) (found : Bool)
    → IsReadTo bytes text first → IsFound text asked found → IsFound bytes asked found
found-read bytes text None asked found same is = subst (λ (t : List ℕ). IsFound t asked found) same is
found-read bytes text (Some first) None found read is = is
found-read bytes text (Some first) (Some tx) found (front, has) is =
    λ faultless. absurd (faultless first.line first.fault has.has)

-- ---- how much was read

-- so many bytes were there before the last read
module _ (bytes lines rest : List ℕ) (judged : ℕ) (is : bytes ≡ lines ++ rest) (short : AreShort lines)
    (all : IsJudgedTo lines judged) (many : ℕ) (few : many ≤ length lines + max_line)
    (room : many ≤ 16 * judged + 67108864) where
  in-time : (left given : ℕ) → length bytes ≡ many + given + left → BeganInTime bytes left given
  in-time left given size = (
    λ n f h.
        let P : List ℕ → Type 0 =
        λ t. (k : ℕ) (g : Fault) (x : HasFault t k g) → judged ≤ length (text_of_lines (lines_of x.front)) in
        omega (arith, subst P (sym is) (all rest) n f h, size, room),
    λ n long.
        let before = short-before lines rest long.front long.more (sym is ∙ long.text) short long.long in
        omega (arith, before, long.counted, few, size),
  )

pub told-time : (told now : Option (List ℕ)) (text lines rest : List ℕ) (judged many given : ℕ)
    → Consumes told now text → text ≡ lines ++ rest → AreShort lines → IsJudgedTo lines judged
    → many + given ≡ length text → many ≤ length lines + max_line → many ≤ 16 * judged + 67108864
    → IfSome told (λ bytes. IfSome now (λ left. BeganInTime bytes (length left) given))
told-time None now text lines rest judged many given came is short all size few room = tt
told-time (Some bytes) None text lines rest judged many given came is short all size few room = absurd came
told-time (Some bytes) (Some left) text lines rest judged many given came is short all size few room =
    in-time bytes lines (rest ++ left) judged
    (came ∙ ap (λ (t : List ℕ). t ++ left) is ∙ append_assoc lines rest left) short all many few room (length left) given
    (omega (arith, ap length came, length-append text left, size))

-- the same of a text that is cut into lines
pub cut-time : (told now : Option (List ℕ)) (text : List ℕ) (cut : Cut) (judged many given : ℕ) → IsCut cut text
    → Consumes told now text → IsJudgedTo (take cut.lines text) judged → many + given ≡ length text
    → many ≤ cut.lines + max_line → many ≤ 16 * judged + 67108864
    → IfSome told (λ bytes. IfSome now (λ left. BeganInTime bytes (length left) given))
cut-time told now text cut judged many given is came all size few room =
    let lines = cut-lines cut text is in
    told-time told now text (take cut.lines text) (drop cut.lines text) judged many given came
    (sym (take-append-drop cut.lines text)) (subst AreShort (sym lines) is.short) all size
    (omega (arith, few, ap length lines, is.counted)) room

-- more comes behind the lines that were judged
pub judged-more : (cut : Cut) (text came new : List ℕ) (judged : ℕ) → IsCut cut text → new ≡ text ++ came
    → IsJudgedTo (take cut.lines text) judged → IsJudgedTo (take cut.lines new) judged
judged-more cut text came new judged is grown all =
    let same : take cut.lines new ≡ take cut.lines text = ap (take cut.lines) grown
    ∙ take-append-le cut.lines text came (omega (arith, is.begun, is.within)) in
    subst (λ (t : List ℕ). IsJudgedTo t judged) (sym same) all

-- more lines were cut, and judged with those before
pub judged-now : (text : List ℕ) (n m judged new : ℕ) → n ≤ m
    → ((before piece : List ℕ) → take m text ≡ before ++ piece → IsJudgedTo before judged → IsJudgedTo (take m text) new)
    → IsJudgedTo (take n text) judged → IsJudgedTo (take m text) new
judged-now text n m judged new le on all =
    on (take n text) (drop n (take m text))
    (sym (take-append-drop n (take m text)) ∙ ap (λ (t : List ℕ). t ++ drop n (take m text)) (take-take n m text le)) all

-- and where so many were there before it, with a line that isn't too long open behind the lines
pub more-time : (told now : Option (List ℕ)) (text came new : List ℕ) (cut : Cut) (judged given : ℕ) → IsCut cut text
    → IsJudgedTo (take cut.lines text) judged → new ≡ text ++ came → length came ≡ given
    → length text ≤ cut.lines + max_line → IsWithinRoom judged cut.lines → Consumes told now new
    → IfSome told (λ bytes. IfSome now (λ left. BeganInTime bytes (length left) given))
more-time told now text came new cut judged given is all grown size few room took =
    cut-time told now new cut judged (length text) given (subst (IsCut cut) (sym grown) (cut-more cut text is came)) took
    (judged-more cut text came new judged is grown all)
    (omega (arith, ap length grown, length-append text came, size)) few (omega (arith, few, room))

-- ---- behind a head that was read before

-- few bytes were there before the last read
few-time : (bytes : List ℕ) (left given : ℕ) → length bytes ≤ 11 + left + given → BeganInTime bytes left given
few-time bytes left given few = (λ n f h. omega (arith, few), λ n long. omega (arith, few))

same-time : (told now : Option (List ℕ)) (given : ℕ) → now ≡ told
    → IfSome told (λ bytes. IfSome now (λ left. BeganInTime bytes (length left) given))
same-time None now given same = tt
same-time (Some bytes) None given same = tt
same-time (Some bytes) (Some left) given same = few-time bytes (length left) given (omega (arith, ap length (one same)))
  where
    one : Some left ≡ Some bytes → left ≡ bytes
    one e = cc

head-time : (told now : Option (List ℕ)) (text before came : List ℕ) (given : ℕ) → Consumes told now text
    → IsOpenHead before → text ≡ before ++ came → length came ≡ given
    → IfSome told (λ bytes. IfSome now (λ left. BeganInTime bytes (length left) given))
head-time None now text before came given took front is size = tt
head-time (Some bytes) None text before came given took front is size = absurd took
head-time (Some bytes) (Some left) text before came given took (second, begins) is size =
    few-time bytes (length left) given (omega (
      arith,
      few-bytes second before begins,
      size,
      ap length took,
      ap length is,
      length-append text left,
      length-append before came,
    ))

pub soon-back : {R : Type 0} (tells : R → Option (List ℕ)) (last : R → ℕ) (old mid new : R) (head : List ℕ)
    → Consumes (tells old) (tells mid) head → IsPeeked old mid head (last mid) → StopsSoon tells last head mid new
    → IfSome (tells old) (λ bytes. IfSome (tells new) (λ left. BeganInTime bytes (length left) (last new)))
soon-back tells last old mid new head came peeked (inr soon) =
    told-back (tells old) (tells mid) head
    (λ bytes. IfSome (tells new) (λ left. BeganInTime bytes (length left) (last new))) came soon
soon-back {R} tells last old mid new head came (inl none) (inl same) =
    subst (λ (r : R). IfSome (tells old) (λ bytes. IfSome (tells r) (λ left. BeganInTime bytes (length left) (last r))))
    (sym same) (same-time (tells old) (tells mid) (last mid) (ap tells none))
soon-back {R} tells last old mid new head came (inr (before, given, front, is, size)) (inl same) =
    subst (λ (r : R). IfSome (tells old) (λ bytes. IfSome (tells r) (λ left. BeganInTime bytes (length left) (last r))))
    (sym same) (head-time (tells old) (tells mid) head before given (last mid) came front is size)
