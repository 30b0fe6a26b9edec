-- The front of a text that its verdict is told of.
use Rattle.std.proofs.Common.{◌≡◌, ◌≢◌, ℕ, ◌+◌, ◌-◌, ◌^◌, ◌<◌, ◌≤◌, List, [], ◌∷◌, ◌++◌, length, take, drop, take_all, Bool, Option, Some, None, Result, Ok, Err, inl, inr, refl, sym, ap, ◌∙◌, subst, subst₂, arith, append_assoc, append-nil, length-append, length-drop}
use Rattle.std.specs.Prelude.{IfSome}
use Rattle.std.specs.Io.KnownBytes.{Consumes, IsAtEnd, prepend_known}
use Rattle.std.proofs.lemmas.List.{drop_all, drop-append-le, drop-drop, length-take-le, take-append-drop, take-append-le}
use Rattle.std.proofs.lemmas.List.Elements.{All-append, All-take}
use Rattle.sgt_names.specs.Limits.{max_line}
use Rattle.sgt_names.proofs.Devices.{tail_whole}
use Rattle.sgt_notation.specs.Spelling.{HasNoLf, text_of_lines}
use Rattle.sgt_notation.proofs.Texts.{lines-long, text-one_line}
use Rattle.sgt_audit.specs.declared.faults.Fault.{Fault}
use Rattle.sgt_audit.specs.declared.faults.FirstFault as found
use Rattle.sgt_audit.specs.declared.kept.Kept.{Kept}
use Rattle.sgt_audit.specs.declared.machine.Machine.{Machine}
use Rattle.sgt_audit.specs.declared.machine.Progress.{Progress}
use Rattle.sgt_audit.specs.declared.verdict.Verdict.{Verdict}
use Rattle.sgt_audit.specs.declared.verdict.Verdict.TheVariants.{Yes, No}
use Rattle.sgt_audit.specs.Faults.{Stage, start, headed, within, complete, Piece, whole, FirstFault, HasNoFault, IsFaultless, Rule, Breaks, bytes_of, lines_so_far, reach, BeginsNoneBehind, ReadsNoFurther}
use Rattle.sgt_audit.specs.Progress.{Stands}
use Rattle.sgt_audit.specs.Verdict.{IsVerdict}
use Rattle.sgt_audit.specs.private.Ending.{EndsWith, IsComplete, limit_of}
use Rattle.sgt_audit.specs.private.NextLine.{Follows}
use Rattle.sgt_audit.specs.private.Stops.{IsJudged}
use Rattle.sgt_audit.proofs.OneFault.{first_fault-excluded, first_fault-one, reach-one}
use Rattle.sgt_audit.proofs.ReaderAtStage.{faultless, piece, piece-long, stop-judged}
use Rattle.sgt_explain.specs.Front.{EndsIn, EndsWithLine, IsFrontOf, ReadsOn, ReadsToFault}
use Rattle.sgt_explain.specs.Watched.{CameBehind, HasGoneOn, HasJudged, IsBehind, IsFaultyLine, IsOfLastRead, MeetsFault}
use Rattle.sgt_explain.specs.declared.front.Watch.{Watch}
use Rattle.sgt_explain.proofs.FaultyText.{lines_so_far-plain}
use Rattle.sgt_explain.proofs.Taken.{behind-none, came-all, came-front, told-back, told-of}

-- ---- two parts of a list

pub drop-front : (xs ys : List ℕ) (n : ℕ) → n ≡ length xs → drop n (xs ++ ys) ≡ ys
drop-front xs ys n e =
    drop-append-le n xs ys (omega (arith, e)) ∙ ap (λ (t : List ℕ). t ++ ys) (drop_all n xs (omega (arith, e)))

pub take-front : (xs ys : List ℕ) (n : ℕ) → n ≡ length xs → take n (xs ++ ys) ≡ xs
take-front xs ys n e = take-append-le n xs ys (omega (arith, e)) ∙ take_all n xs (omega (arith, e))

take-behind : (xs ys : List ℕ) (n m : ℕ) → m ≤ length ys → n ≡ length xs + m → take n (xs ++ ys) ≡ xs ++ take m ys
take-behind xs ys n m le e =
    ap (take n) (ap (λ (k : List ℕ). xs ++ k) (sym (take-append-drop m ys))
    ∙ sym (append_assoc xs (take m ys) (drop m ys)))
    ∙ take-front (xs ++ take m ys) (drop m ys) n
    (omega (arith, e, length-append xs (take m ys), length-take-le m ys le))

-- ---- the lines that were judged

-- what is open stands behind them
pub opened-is : (w : Watch) (text : List ℕ) (b : IsBehind w text) → drop w.judged text ≡ b.opened
opened-is w text b =
    ap (drop w.judged) b.text ∙ drop-front (text_of_lines (lines_so_far b.stage)) b.opened w.judged b.place

-- more may come
pub behind-more : (w : Watch) (text more : List ℕ) → IsBehind w text → IsBehind w (text ++ more)
behind-more w text more b = record {
  stage = b.stage;
  opened = b.opened ++ more;
  stands = b.stands;
  text = ap (λ t. t ++ more) b.text ∙ append_assoc (text_of_lines (lines_so_far b.stage)) b.opened more;
  place = b.place;
  number = b.number;
  begun = b.begun;
  within = omega (arith, b.within, length-append text more);
  short = b.short;
  one = subst HasNoLf
      (sym (take-append-le (w.seen - w.judged) b.opened more
      (omega (
        arith,
        b.begun,
        b.within,
        b.place,
        ap length b.text,
        length-append
            (text_of_lines (lines_so_far b.stage)) b.opened,
      )))) b.one;
}

-- what was looked at of the line, and what stands behind that
opened-parts : (w : Watch) (text : List ℕ) (b : IsBehind w text)
    → b.opened ≡ take (w.seen - w.judged) b.opened ++ drop w.seen text
opened-parts w text b =
    let n = w.seen - w.judged in
    let on : w.judged + n ≡ w.seen = omega (arith, b.begun) in
    let rest : drop n b.opened ≡ drop w.seen text = ap (drop n) (sym (opened-is w text b)) ∙ drop-drop n w.judged text
    ∙ ap (λ (k : ℕ). drop k text) on in
    sym (take-append-drop n b.opened) ∙ ap (λ (t : List ℕ). take n b.opened ++ t) rest

-- no LF in either
opened-plain : (w : Watch) (text : List ℕ) (b : IsBehind w text) → HasNoLf (drop w.seen text) → HasNoLf b.opened
opened-plain w text b none =
    subst HasNoLf (sym (opened-parts w text b))
    (All-append (λ x. x ≢ 10) (take (w.seen - w.judged) b.opened) (drop w.seen text) b.one none)

-- the next LF there ends it
record OpensWith (opened l more : List ℕ) (size : ℕ) : Type 0 where
  pub text : opened ≡ l ++ 10 ∷ more
  pub one : HasNoLf l
  pub long : length l ≡ size

line-opened : (w : Watch) (text : List ℕ) (b : IsBehind w text) (n : ℕ) → n < length (drop w.seen text)
    → HasNoLf (take n (drop w.seen text))
    → drop w.seen text ≡ take n (drop w.seen text) ++ 10 ∷ drop (n + 1) (drop w.seen text)
    → OpensWith b.opened (take (w.seen + n - w.judged) (drop w.judged text)) (drop (n + 1) (drop w.seen text))
    (w.seen + n - w.judged)
line-opened w text b n lt none at =
    let front = take (w.seen - w.judged) b.opened in
    let rest = drop w.seen text in
    let l = front ++ take n rest in
    let room : w.seen ≤ w.judged + length b.opened = omega (
      arith,
      b.within,
      b.place,
      ap length b.text,
      length-append
          (text_of_lines (lines_so_far b.stage)) b.opened,
    ) in
    let size : length l ≡ w.seen + n - w.judged = omega (
      arith,
      b.begun,
      room,
      lt,
      length-append front (take n rest),
      length-take-le (w.seen - w.judged) b.opened (omega (arith, room)),
      length-take-le n rest (omega (arith, lt)),
    ) in
    let is : b.opened ≡ l ++ 10 ∷ drop (n + 1) rest = opened-parts w text b ∙ ap (λ (t : List ℕ). front ++ t) at
    ∙ sym (append_assoc front (take n rest) (10 ∷ drop (n + 1) rest)) in
    let same : l ≡ take (w.seen + n - w.judged) (drop w.judged text) =
    sym (ap (take (w.seen + n - w.judged)) (opened-is w text b ∙ is)
    ∙ take-front l (10 ∷ drop (n + 1) rest) (w.seen + n - w.judged) (sym size)) in
    record {
      text = is ∙ ap (λ (t : List ℕ). t ++ 10 ∷ drop (n + 1) rest) same;
      one = subst HasNoLf same (All-append (λ x. x ≢ 10) front (take n rest) b.one none);
      long = sym (ap length same) ∙ size;
    }

-- a line more, with its LF
line-longer : (xs : List (List ℕ)) (l : List ℕ)
    → length (text_of_lines (xs ++ l ∷ [])) ≡ length (text_of_lines xs) + length l + 1
line-longer xs l =
    let grown = ap length (sym (append-nil (text_of_lines (xs ++ l ∷ []))) ∙ text-one_line xs l []) in
    let cut = length-append (text_of_lines xs) (l ++ 10 ∷ []) in
    let line = length-append l (10 ∷ []) in
    omega (arith, grown, cut, line)

none-open : (l : List ℕ) (n : ℕ) → n ≡ 0 → HasNoLf (take n l)
none-open l n e = subst (λ k. HasNoLf (take k l)) (sym e) (λ k d lt. absurd (omega arith))

-- what an LF was found in, from there on
abbrev pub EndsLine : Watch → List ℕ → ℕ → Type 0
EndsLine w text n = (n < length (drop w.seen text)) × HasNoLf (take n (drop w.seen text))
    × (drop w.seen text ≡ take n (drop w.seen text) ++ 10 ∷ drop (n + 1) (drop w.seen text))

-- the slice that was searched is that
abbrev pub searched : Watch → List ℕ → List ℕ
searched w text = take (length text - w.seen) (drop w.seen text)

pub ends-line : (w : Watch) (text : List ℕ) (n : ℕ) → (n < length (searched w text))
    × HasNoLf (take n (searched w text))
    × (searched w text ≡ take n (searched w text) ++ 10 ∷ drop (n + 1) (searched w text)) → EndsLine w text n
ends-line w text n at =
    subst (λ (t : List ℕ). (n < length t) × HasNoLf (take n t) × (t ≡ take n t ++ 10 ∷ drop (n + 1) t))
    (tail_whole text w.seen) at

pub ends-nowhere : (w : Watch) (text : List ℕ) → HasNoLf (searched w text) → HasNoLf (drop w.seen text)
ends-nowhere w text none = subst HasNoLf (tail_whole text w.seen) none

pub passed-line : (old w : Watch) (text : List ℕ) (n : ℕ) → IsBehind w text → HasGoneOn old w None
    → old.seen < w.seen + n + 1
passed-line old w text n b (inl passed) = omega (arith, passed, b.begun)
passed-line old w text n b (inr same) = omega (arith, same.1)

module _ (w : Watch) (text : List ℕ) (n : ℕ) (b : IsBehind w text) (at : EndsLine w text n) where
  abbrev pub the-line : List ℕ
  the-line = take (w.seen + n - w.judged) (drop w.judged text)

  opens : OpensWith b.opened the-line (drop (n + 1) (drop w.seen text)) (w.seen + n - w.judged)
  opens = line-opened w text b n at.0 at.1 at.2

  -- the line was judged, and has no fault
  pub line-judged : (v : Watch) → v.judged ≡ w.seen + n + 1 → v.number ≡ w.number + 1 → v.seen ≡ v.judged
      → ((s : Stage) → Stands w.machine.progress s → Follows s the-line v.machine.progress None) → IsBehind v text
  line-judged v place number seen follows =
      let t = follows b.stage b.stands in
      let l = the-line in
      let more = drop (n + 1) (drop w.seen text) in
      let grown = line-longer (lines_so_far b.stage) l in
      let all : text ≡ text_of_lines (lines_so_far t.0) ++ more = b.text
      ∙ ap (λ (o : List ℕ). text_of_lines (lines_so_far b.stage) ++ o) opens.text
      ∙ sym (text-one_line (lines_so_far b.stage) l more) ∙ ap (λ ls. text_of_lines ls ++ more) (sym t.2) in
      let ends : v.judged ≡ length (text_of_lines (lines_so_far t.0)) = omega (
        arith,
        place,
        b.place,
        b.begun,
        grown,
        opens.long,
        ap (λ ls. length (text_of_lines ls)) t.2,
      ) in
      record {
        stage = t.0;
        opened = more;
        stands = t.1;
        text = all;
        place = ends;
        number = omega (arith, number, b.number, ap length t.2, length-append (lines_so_far b.stage) (l ∷ []));
        begun = omega (arith, seen);
        within = omega (arith, seen, ends, ap length all, length-append (text_of_lines (lines_so_far t.0)) more);
        short = omega (arith, seen);
        one = none-open more (v.seen - v.judged) (omega (arith, seen));
      }

  -- or it has the first one of the text
  pub line-faulty : (new : Progress) (f : Fault)
      → ((s : Stage) → Stands w.machine.progress s → Follows s the-line new (Some f))
      → MeetsFault text (w.seen + n + 1) w.number f
  line-faulty new f follows = record {
    stage = b.stage;
    line = the-line;
    rest = 10 ∷ drop (n + 1) (drop w.seen text);
    ends = length the-line + 1;
    faultless = faultless w.machine.progress b.stage b.stands;
    text = b.text ∙ ap (λ (o : List ℕ). text_of_lines (lines_so_far b.stage) ++ o) opens.text;
    one = opens.one;
    number = b.number;
    faulty = inl (drop (n + 1) (drop w.seen text), refl, follows b.stage b.stands, refl);
    place = omega (arith, b.place, b.begun, opens.long);
  }

  -- there are numbers for all lines
  pub number-room : w.number ≤ length text
  number-room = omega (arith, b.place, b.number, lines-long (lines_so_far b.stage), b.begun, at.0, length-drop w.seen text)

-- all was looked at, and no line ends there that isn't too long
pub all-seen : (w v : Watch) (text : List ℕ) (limit : ℕ) → IsBehind w text → HasNoLf (drop w.seen text)
    → ((s : Stage) → Stands w.machine.progress s → limit ≡ limit_of s) → length text ≤ w.judged + limit
    → v.machine ≡ w.machine → v.judged ≡ w.judged → v.number ≡ w.number → v.seen ≡ length text
    → HasJudged text v None
all-seen w v text limit b none limits short machine judged number seen = (
  record {
    stage = b.stage;
    opened = b.opened;
    stands = subst (λ (m : Machine). Stands m.progress b.stage) (sym machine) b.stands;
    text = b.text;
    place = judged ∙ b.place;
    number = number ∙ b.number;
    begun = omega (arith, judged, seen, b.begun, b.within);
    within = omega (arith, seen);
    short = omega (arith, seen, judged, short, limits b.stage b.stands);
    one = All-take (λ x. x ≢ 10) (v.seen - v.judged) b.opened (opened-plain w text b none);
  },
  seen,
)

-- ---- a line that is too long

not-headed : (s : Stage) → limit_of s < 2 ^ 64 - 1 → (limit_of s ≡ max_line) × ((second : Bool) → s ≢ headed second)
not-headed start lt = (refl, λ second e. cc)
not-headed (headed second) lt = absurd (omega arith)
not-headed (within second c before) lt = (refl, λ other e. cc)
not-headed (complete second c before) lt = (refl, λ other e. cc)

pub long-faulty : (w : Watch) (text : List ℕ) (limit : ℕ) (f : Fault) → IsBehind w text → HasNoLf (drop w.seen text)
    → ((s : Stage) → Stands w.machine.progress s → limit ≡ limit_of s)
    → w.judged + limit < length text → length text < 2 ^ 64
    → ((s : Stage) (p : Piece) → Stands w.machine.progress s → ((second : Bool) → s ≢ headed second)
    → limit_of s < length (bytes_of p) → Breaks (Rule s p) f) → MeetsFault text (w.judged + (limit + 1)) w.number f
long-faulty w text limit f b none limits long few breaks =
    let is = limits b.stage b.stands in
    let lasts : length text ≡ w.judged + length b.opened = omega (
      arith,
      b.place,
      ap length b.text,
      length-append
          (text_of_lines (lines_so_far b.stage)) b.opened,
    ) in
    let at = not-headed b.stage (omega (arith, is, long, few)) in
    let n = max_line + 1 in
    let cut : length (take n b.opened) ≡ n = length-take-le n b.opened (omega (arith, long, lasts, is, at.0)) in
    record {
      stage = b.stage;
      line = take n b.opened;
      rest = drop n b.opened;
      ends = length (take n b.opened);
      faultless = faultless w.machine.progress b.stage b.stands;
      text = b.text
          ∙ ap (λ (o : List ℕ). text_of_lines (lines_so_far b.stage) ++ o) (sym (take-append-drop n b.opened));
      one = All-take (λ x. x ≢ 10) n b.opened (opened-plain w text b none);
      number = b.number;
      faulty = inr (
        cut,
        λ next more. breaks b.stage next b.stands at.1 (subst (λ (m : ℕ). m < length (bytes_of next)) (sym at.0) more),
        refl,
      );
      place = omega (arith, b.place, cut, is, at.0);
    }

-- ---- the first fault of what the text is the front of

-- it is there, and its line goes on up to there at least
abbrev pub Reaches : List ℕ → (place n : ℕ) → Fault → Type 0
Reaches bytes place n f = (first : FirstFault bytes n f) × (place ≤ reach bytes n f first)

first-line : (s : Stage) (l rest more : List ℕ) (n ends : ℕ) (f : Fault) → IsFaultless s
    → HasNoLf l → n ≡ length (lines_so_far s) + 1 → IsFaultyLine s l rest f ends
    → Reaches (text_of_lines (lines_so_far s) ++ ((l ++ rest) ++ more)) (length (text_of_lines (lines_so_far s)) + ends)
    n f
first-line s l rest more n ends f good none number (inl (behind, is, breaks, at)) =
    let size = length (text_of_lines (lines_so_far s)) in
    let far : size + ends ≤ size + length l + 1 = omega (arith, at) in (
      record {
        stage = s;
        rest = (l ++ rest) ++ more;
        next = whole l;
        text = refl;
        faultless = good;
        number = number;
        comes = (
          behind ++ more,
          ap (λ (r : List ℕ). (l ++ r) ++ more) is ∙ append_assoc l (10 ∷ behind) more,
          none,
        );
        breaks = breaks;
      },
      far,
    )
first-line s l rest more n ends f good none number (inr (size, breaks, at)) =
    let bytes = (l ++ rest) ++ more in
    let same : bytes ≡ l ++ (rest ++ more) = append_assoc l rest more in
    let front : take (max_line + 1) bytes ≡ l =
    ap (take (max_line + 1)) same ∙ take-front l (rest ++ more) (max_line + 1) (sym size) in
    let p = piece bytes in
    let long = piece-long max_line bytes p.0 p.1
    (omega (arith, ap length same, length-append l (rest ++ more), size)) (subst HasNoLf (sym front) none) in
    let before = length (text_of_lines (lines_so_far s)) in
    let far : before + ends ≤ before + length (bytes_of p.0) + 1 = omega (arith, at, size, long) in (
      record {
        stage = s;
        rest = bytes;
        next = p.0;
        text = refl;
        faultless = good;
        number = number;
        comes = p.1;
        breaks = breaks p.0 long;
      },
      far,
    )

pub first-of : (text more : List ℕ) (place n : ℕ) (f : Fault) → MeetsFault text place n f
    → Reaches (text ++ more) place n f
first-of text more place n f m =
    subst₂ (λ (t : List ℕ) (p : ℕ). Reaches t p n f)
    (sym (ap (λ t. t ++ more) m.text ∙ append_assoc (text_of_lines (lines_so_far m.stage)) (m.line ++ m.rest) more))
    (sym m.place) (first-line m.stage m.line m.rest more n m.ends f m.faultless m.one m.number m.faulty)

no_further-of : (text more : List ℕ) (place n : ℕ) (f : Fault) → MeetsFault text place n f
    → ReadsNoFurther (text ++ more) place
no_further-of text more place n f m =
    let here = first-of text more place n f m in
    λ k g other. omega (arith, here.1, reach-one (text ++ more) n k f g here.0 other)

-- ---- the front that ends with its line

-- what of the line is in the front
cut-line : (s : Stage) (l rest : List ℕ) (f : Fault) (ends : ℕ) → IsFaultyLine s l rest f ends
    → (kept : List ℕ) × (take ends (l ++ rest) ≡ l ++ kept) × IsFaultyLine s l kept f ends
    × ((before : List ℕ) (left : List ℕ) → EndsIn before l (before ++ (l ++ kept)) left)
cut-line s l rest f ends (inl (more, is, breaks, at)) = (
  10 ∷ [],
  ap (λ (r : List ℕ). take ends (l ++ r)) is ∙ take-behind l (10 ∷ more) ends 1 (omega arith) at,
  inl ([], refl, breaks, at),
  λ before left. inl refl,
)
cut-line s l rest f ends (inr (size, breaks, at)) = (
  [],
  take-front l rest ends at ∙ sym (append-nil l),
  inr (size, breaks, at),
  λ before left. inr (ap (λ (k : List ℕ). before ++ k) (append-nil l), inr size),
)

ends-within : (s : Stage) (l rest : List ℕ) (f : Fault) (ends : ℕ) → IsFaultyLine s l rest f ends
    → ends ≤ length (l ++ rest)
ends-within s l rest f ends (inl (more, is, breaks, at)) = omega (arith, at, length-append l rest, ap length is)
ends-within s l rest f ends (inr (size, breaks, at)) = omega (arith, at, length-append l rest)

pub cut-there : (text : List ℕ) (place n : ℕ) (f : Fault) → MeetsFault text place n f
    → FirstFault (take place text) n f
    × ((bytes more : List ℕ) → bytes ≡ text ++ more → EndsWithLine bytes n (take place text))
cut-there text place n f m =
    let before = text_of_lines (lines_so_far m.stage) in
    let cut = cut-line m.stage m.line m.rest f m.ends m.faulty in
    let is : take place text ≡ before ++ (m.line ++ cut.0) =
    ap (take place) m.text ∙ take-behind before (m.line ++ m.rest) place m.ends
    (ends-within m.stage m.line m.rest f m.ends m.faulty) m.place
    ∙ ap (λ (k : List ℕ). before ++ k) cut.1 in (
      subst (λ (t : List ℕ). FirstFault t n f)
          (ap (λ (k : List ℕ). before ++ k) (append-nil (m.line ++ cut.0)) ∙ sym is)
          (first-line m.stage m.line cut.0 [] n m.ends f m.faultless m.one m.number cut.2).0,
      λ bytes more all.
          let left = drop place text ++ more in
          record {
            before = lines_so_far m.stage;
            line = m.line;
            rest = left;
            text = all ∙ ap (λ t. t ++ more) (sym (take-append-drop place text))
                ∙ append_assoc (take place text) (drop place text) more;
            whole = lines_so_far-plain m.stage m.faultless;
            one = m.one;
            number = m.number;
            ends = subst (λ (t : List ℕ). EndsIn before m.line t left) (sym is) (cut.3 before left);
          },
    )

-- a reader's bytes have it, of which the text is the front
pub told-there : (told now : Option (List ℕ)) (text : List ℕ) (place n : ℕ) (f : Fault) → Consumes told now text
    → MeetsFault text place n f
    → IfSome told (λ bytes. IsVerdict bytes (No n f) × IsFrontOf bytes (No n f) (take place text))
told-there None now text place n f came m = tt
told-there (Some bytes) None text place n f came m = absurd came
told-there (Some bytes) (Some left) text place n f came m = (
  subst (λ (t : List ℕ). FirstFault t n f) (sym came) (first-of text left place n f m).0,
  (cut-there text place n f m).1 bytes left came,
)

-- so it is of what was cut
pub cut-told : (told now : Option (List ℕ)) (text front : List ℕ) (place n : ℕ) (f : Fault) (v : Verdict)
    → Consumes told now text → MeetsFault text place n f → front ≡ take place text → v ≡ No n f
    → IfSome told (λ bytes. IsVerdict bytes v × IsFrontOf bytes v front)
cut-told told now text front place n f v came m e is =
    subst₂ (λ (t : List ℕ) (u : Verdict). IfSome told (λ bytes. IsVerdict bytes u × IsFrontOf bytes u t)) (sym e) (sym is)
    (told-there told now text place n f came m)

pub cut-verdict : (text front : List ℕ) (place n : ℕ) (f : Fault) (v : Verdict) → MeetsFault text place n f
    → front ≡ take place text → v ≡ No n f → IsVerdict front v
cut-verdict text front place n f v m e is =
    subst₂ (λ (t : List ℕ) (u : Verdict). IsVerdict t u) (sym e) (sym is) (cut-there text place n f m).0

-- ---- how far was read

told-no_further : (told now : Option (List ℕ)) (text : List ℕ) (place n : ℕ) (f : Fault) → Consumes told now text
    → MeetsFault text place n f → IfSome told (λ bytes. ReadsNoFurther bytes place)
told-no_further None now text place n f came m = tt
told-no_further (Some bytes) None text place n f came m = absurd came
told-no_further (Some bytes) (Some left) text place n f came m =
    subst (λ (t : List ℕ). ReadsNoFurther t place) (sym came) (no_further-of text left place n f m)

no-further-than : (told : Option (List ℕ)) (few many : ℕ) → few ≤ many
    → IfSome told (λ bytes. ReadsNoFurther bytes many) → IfSome told (λ bytes. ReadsNoFurther bytes few)
no-further-than None few many le far = tt
no-further-than (Some bytes) few many le far = λ n f first. omega (arith, le, far n f first)

none-behind : (told now : Option (List ℕ)) (text : List ℕ) (place given : ℕ) → Consumes told now text
    → IfSome told (λ bytes. ReadsNoFurther bytes place) → length text < place + given
    → IfSome told (λ bytes. IfSome now (λ left. BeginsNoneBehind bytes (length left) given))
none-behind None now text place given came far lt = tt
none-behind (Some bytes) None text place given came far lt = absurd came
none-behind (Some bytes) (Some left) text place given came far lt =
    λ n f first. omega (arith, far n f first, lt, ap length came, length-append text left)

module _ {R : Type 0} (tells : R → Option (List ℕ)) (asked given : R → ℕ) (before text : List ℕ) (old new : R)
    (reads : ℕ) (many : asked new ≡ asked old + reads) (came : CameBehind before text (tells old) (tells new)) where
  reads-to : (place : ℕ) → IfSome (prepend_known before (tells old)) (λ bytes. ReadsNoFurther bytes place)
      → length text < place + given new → length before + reads ≤ place
      → ReadsToFault tells asked given before old new
  reads-to place far lt few = record {
    none_behind = none-behind (prepend_known before (tells old)) (tells new) text place (given new)
        (came-front before text (tells old) (tells new) came) far lt;
    no_further = no-further-than (prepend_known before (tells old)) (length before + (asked new - asked old)) place
        (omega (arith, many, few)) far;
  }

  -- up to the line that has it
  pub cut-reads : (seen place n : ℕ) (f : Fault)
      → IsOfLastRead old new seen (given new) (length text) (length before) reads → seen < place
      → MeetsFault text place n f → ReadsOn tells asked given before old new
  cut-reads seen place n f (inl same) lt m = inl same
  cut-reads seen place n f (inr (size, few)) lt m =
      inr (reads-to place
      (told-no_further (prepend_known before (tells old)) (tells new) text place n f
      (came-front before text (tells old) (tells new) came) m) (omega (arith, size, lt)) (omega (arith, few, lt)))

  -- or to the end
  pub end-reads : IsAtEnd (tells new) → ReadsNoFurther text (length text + 1) → length before + reads ≤ length text + 1
      → ReadsOn tells asked given before old new
  end-reads ended far few =
      inr (reads-to (length text + 1)
      (told-of (prepend_known before (tells old)) text (λ bytes. ReadsNoFurther bytes (length text + 1))
      (came-all before text (tells old) (tells new) came ended) far) (omega arith) few)

-- where no read was made, none began too late
pub same-behind : (told now : Option (List ℕ)) (given : ℕ) → now ≡ told
    → IfSome told (λ bytes. IfSome now (λ left. BeginsNoneBehind bytes (length left) given))
same-behind None now given same = tt
same-behind (Some bytes) None given same = tt
same-behind (Some bytes) (Some left) given same = λ n f first. omega (arith, ap length (one same))
  where
    one : Some left ≡ Some bytes → left ≡ bytes
    one e = cc

told-none : (told : Option (List ℕ)) (reads : ℕ) → reads ≡ 0 → IfSome told (λ bytes. ReadsNoFurther bytes reads)
told-none None reads none = tt
told-none (Some bytes) reads none = λ n f first. omega (arith, none)

-- behind nothing that is so
module _ {R : Type 0} (tells : R → Option (List ℕ)) (asked given : R → ℕ) (old new : R) where
  pub alone-behind : ReadsOn tells asked given [] old new
      → IfSome (tells old) (λ bytes. IfSome (tells new) (λ left. BeginsNoneBehind bytes (length left) (given new)))
  alone-behind (inl same) = same-behind (tells old) (tells new) (given new) (ap tells same)
  alone-behind (inr to) =
      behind-none (tells old)
      (λ bytes. IfSome (tells new) (λ left. BeginsNoneBehind bytes (length left) (given new))) to.none_behind

  pub alone-further : ReadsOn tells asked given [] old new
      → IfSome (tells old) (λ bytes. ReadsNoFurther bytes (asked new - asked old))
  alone-further (inl same) = told-none (tells old) (asked new - asked old) (omega (arith, ap asked same))
  alone-further (inr to) =
      let nothing : List ℕ = [] in
      let reads = length nothing + (asked new - asked old) in
      no-further-than (tells old) (asked new - asked old) reads (omega arith)
      (behind-none (tells old) (λ bytes. ReadsNoFurther bytes reads) to.no_further)

-- behind a text that was read before, by reads of which the last began early enough
pub reads-back : {R : Type 0} (tells : R → Option (List ℕ)) (asked given : R → ℕ) (old mid new : R) (head : List ℕ)
    → Consumes (tells old) (tells mid) head
    → IfSome (tells old) (λ bytes. IfSome (tells mid) (λ left. BeginsNoneBehind bytes (length left) (given mid)))
    → ReadsOn tells asked given head mid new
    → IfSome (tells old) (λ bytes. IfSome (tells new) (λ left. BeginsNoneBehind bytes (length left) (given new)))
reads-back {R} tells asked given old mid new head came early (inl same) =
    subst (λ (r : R). IfSome (tells old) (λ bytes. IfSome (tells r) (λ left. BeginsNoneBehind bytes
    (length left) (given r)))) (sym same) early
reads-back tells asked given old mid new head came early (inr to) =
    told-back (tells old) (tells mid) head
    (λ bytes. IfSome (tells new) (λ left. BeginsNoneBehind bytes (length left) (given new))) came to.none_behind

-- ---- the end of the text

no-fault : (s : Stage) (bytes : List ℕ) → IsComplete s → IsFaultless s → bytes ≡ text_of_lines (lines_so_far s)
    → HasNoFault bytes
no-fault (complete second c before) bytes done good text = (second, c, before, good, text)
no-fault start bytes done good text = absurd done
no-fault (headed second) bytes done good text = absurd done
no-fault (within second c before) bytes done good text = absurd done

front-whole : (s : Stage) (opened text : List ℕ) (n : ℕ) (j : Result Kept found.FirstFault) (v : Verdict)
    → IsFaultless s → HasNoLf opened → text ≡ text_of_lines (lines_so_far s) ++ opened
    → n ≡ length (lines_so_far s) + 1 → EndsWith s opened n j → IsJudged j text → IsVerdict text v
    → IsFrontOf text v text
front-whole s opened text n j (Yes committed refused withdrawn) good none is number ends judged verdict = refl
front-whole s opened text n (Ok k) (No line f) good none is number ends judged first =
    absurd (first_fault-excluded text line f first (no-fault s text ends.1 good (is
    ∙ ap (λ (o : List ℕ). text_of_lines (lines_so_far s) ++ o) ends.2 ∙ append-nil (text_of_lines (lines_so_far s)))))
front-whole s opened text n (Err there) (No line f) good none is number ends judged first = record {
  before = lines_so_far s;
  line = opened;
  rest = [];
  text = sym (append-nil text);
  whole = lines_so_far-plain s good;
  one = none;
  number = (first_fault-one text line there.line f there.fault first judged).0 ∙ ends.0 ∙ number;
  ends = inr (is, inl refl);
}

pub ended : (w : Watch) (text rest : List ℕ) (j : Result Kept found.FirstFault) (v : Verdict)
    → HasJudged text w None → rest ≡ drop w.judged text
    → ((s : Stage) → Stands w.machine.progress s → length rest ≤ limit_of s → EndsWith s rest w.number j)
    → ((bytes : List ℕ) → IsJudged j bytes → IsVerdict bytes v)
    → IsVerdict text v × IsFrontOf text v text × ReadsNoFurther text (length text + 1)
ended w text rest j v (b, all) same ends verdict =
    let is : rest ≡ b.opened = same ∙ opened-is w text b in
    let size : length text ≡ w.judged + length b.opened = omega (
      arith,
      b.place,
      ap length b.text,
      length-append
          (text_of_lines (lines_so_far b.stage)) b.opened,
    ) in
    let good = faultless w.machine.progress b.stage b.stands in
    let none : HasNoLf b.opened = subst HasNoLf
    (take_all (w.seen - w.judged) b.opened (omega (arith, size, all))) b.one in
    let short : length b.opened ≤ limit_of b.stage = omega (arith, b.short, all, size) in
    let there : EndsWith b.stage b.opened w.number j =
    subst (λ (o : List ℕ). EndsWith b.stage o w.number j) is
    (ends b.stage b.stands (subst (λ (o : List ℕ). length o ≤ limit_of b.stage) (sym is) short)) in
    let at = stop-judged (Some text) w.machine.progress w.number b.opened (length text + 1) j (
      b.stage,
      b.stands,
      short,
      none,
      omega (arith, size, b.place),
      (b.text, b.number),
    ) (λ s stands small. subst (λ (o : List ℕ). EndsWith s o w.number j) is
    (ends s stands (subst (λ (o : List ℕ). length o ≤ limit_of s) (sym is) small))) in (
      verdict text at.0,
      front-whole b.stage b.opened text w.number j v good none b.text b.number there at.0 (verdict text at.0),
      at.2,
    )

-- ---- for the code

pub begun : (w : Watch) → Stands w.machine.progress start → w.judged ≡ 0 → w.seen ≡ 0 → w.number ≡ 1
    → HasJudged [] w None
begun w stands none unseen one = (
  record {
    stage = start;
    opened = [];
    stands = stands;
    text = refl;
    place = none;
    number = one;
    begun = omega (arith, none, unseen);
    within = omega (arith, unseen);
    short = omega (arith, unseen);
    one = none-open [] (w.seen - w.judged) (omega (arith, none, unseen));
  },
  unseen,
)
