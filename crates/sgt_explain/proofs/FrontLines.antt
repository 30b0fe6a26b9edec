-- Lines that stand at the front of what wasn't judged yet.
use Rattle.std.proofs.Common.{◌≡◌, ℕ, ◌+◌, ◌-◌, ◌<◌, ◌≤◌, List, [], ◌∷◌, ◌++◌, length, take, drop, Some, None, inl, inr, refl, sym, ap, ap₂, ◌∙◌, subst, arith, append_assoc, length-append}
use Rattle.std.specs.Prelude.{Option}
use Rattle.std.proofs.lemmas.List.{length-take-le, take-append-drop}
use Rattle.sgt_names.proofs.Devices.{tail_whole}
use Rattle.sgt_notation.specs.Spelling.{HasNoLf, line_text}
use Rattle.sgt_notation.specs.declared.SectionLine.{SectionLine}
use Rattle.sgt_notation.proofs.Short.{line-no_lf}
use Rattle.sgt_audit.specs.declared.faults.Fault.{Fault}
use Rattle.sgt_audit.specs.declared.machine.Progress.{Progress}
use Rattle.sgt_audit.specs.Faults.{Stage}
use Rattle.sgt_audit.specs.Progress.{Stands}
use Rattle.sgt_audit.specs.private.NextLine.{Follows, IsFrontLine}
use Rattle.sgt_audit.proofs.OneFault.{has_lf}
use Rattle.sgt_explain_lines.proofs.Numbering.{line-cut}
use Rattle.sgt_explain.specs.Watched.{HasGoneOn, IsBehind, MeetsFault}
use Rattle.sgt_explain.specs.declared.front.Watch.{Watch}
use Rattle.sgt_explain.proofs.Fronts.{EndsLine, drop-front, ends-line, line-faulty, line-judged, number-room, searched, take-front}

-- ---- a line with its LF at the front of some bytes

-- what stands behind it
front-cut : (bytes : List ℕ) (line : SectionLine) (n : ℕ) → IsFrontLine bytes line n
    → bytes ≡ line_text line ++ 10 ∷ drop n bytes
front-cut bytes line n at =
    sym (take-append-drop n bytes) ∙ ap (λ (t : List ℕ). t ++ drop n bytes) at.reads
    ∙ append_assoc (line_text line) (10 ∷ []) (drop n bytes)

pub front-size : (bytes : List ℕ) (line : SectionLine) (n : ℕ) → IsFrontLine bytes line n
    → n ≡ length (line_text line) + 1
front-size bytes line n at =
    omega (
      arith,
      length-take-le n bytes at.within,
      ap length at.reads,
      length-append (line_text line) (10 ∷ []),
    )

pub front-lf : (bytes : List ℕ) (line : SectionLine) (n : ℕ) → IsFrontLine bytes line n → HasNoLf bytes → ⊥
front-lf bytes line n at none =
    has_lf (line_text line) (drop n bytes) (subst HasNoLf (front-cut bytes line n at) none)

-- its LF is the first
first-lf : (bytes l more : List ℕ) → bytes ≡ l ++ 10 ∷ more → HasNoLf l
    → (length l < length bytes) × HasNoLf (take (length l) bytes)
    × (bytes ≡ take (length l) bytes ++ 10 ∷ drop (length l + 1) bytes)
first-lf bytes l more is one =
    let front : take (length l) bytes ≡ l = ap (take (length l)) is ∙ take-front l (10 ∷ more) (length l) refl in
    let longer : bytes ≡ (l ++ 10 ∷ []) ++ more = is ∙ sym (append_assoc l (10 ∷ []) more) in
    let behind : drop (length l + 1) bytes ≡ more = ap (drop (length l + 1)) longer
    ∙ drop-front (l ++ 10 ∷ []) more (length l + 1) (omega (arith, length-append l (10 ∷ []))) in (
      omega (arith, ap length is, length-append l (10 ∷ more)),
      subst HasNoLf (sym front) one,
      is ∙ ap₂ (λ (t u : List ℕ). t ++ 10 ∷ u) (sym front) (sym behind),
    )

-- ---- the next line, where nothing was looked at of it

module _ (w : Watch) (text : List ℕ) (b : IsBehind w text) (unseen : w.seen ≡ w.judged) (line : SectionLine) (n : ℕ)
    (at : IsFrontLine (searched w text) line n) where
  front-ends : EndsLine w text (length (line_text line))
  front-ends =
      ends-line w text (length (line_text line))
      (first-lf (searched w text) (line_text line) (drop n (searched w text)) (front-cut (searched w text) line n at)
      (line-no_lf line at.is_line))

  front-is : (m : ℕ) → EndsLine w text m → line_text line ≡ take (w.seen + m - w.judged) (drop w.judged text)
  front-is m ends =
      let whole : drop w.seen text ≡ line_text line ++ 10 ∷ drop n (searched w text) =
      sym (tail_whole text w.seen) ∙ front-cut (searched w text) line n at in
      let size : m ≡ w.seen + m - w.judged = omega (arith, unseen) in
      (line-cut (line_text line) (take m (drop w.seen text)) (drop n (searched w text)) (drop (m + 1) (drop w.seen text))
      (drop w.seen text) (line-no_lf line at.is_line) ends.1 whole ends.2).0
      ∙ ap₂ (λ (k p : ℕ). take k (drop p text)) size unseen

  -- there are numbers for all lines
  pub front-room : w.number ≤ length text
  front-room = number-room w text (length (line_text line)) b front-ends

  -- it has no fault
  pub front-judged : (v : Watch) → v.judged ≡ w.judged + n → v.seen ≡ v.judged → v.number ≡ w.number + 1
      → ((s : Stage) → Stands w.machine.progress s → Follows s (line_text line) v.machine.progress None)
      → IsBehind v text
  front-judged v place seen number follows =
      let m = length (line_text line) in
      line-judged w text m b front-ends v (omega (arith, place, unseen, front-size (searched w text) line n at)) number
      seen
      (λ s stands. subst (λ (l : List ℕ). Follows s l v.machine.progress None) (front-is m front-ends) (follows s stands))

  -- or it has the first one of the text
  pub front-faulty : (m : ℕ) → EndsLine w text m → (new : Progress) (f : Fault)
      → ((s : Stage) → Stands w.machine.progress s → Follows s (line_text line) new (Some f))
      → MeetsFault text (w.judged + (m + 1)) w.number f
  front-faulty m ends new f follows =
      let place : w.seen + m + 1 ≡ w.judged + (m + 1) = omega (arith, unseen) in
      subst (λ (p : ℕ). MeetsFault text p w.number f) place
      (line-faulty w text m b ends new f
      (λ s stands. subst (λ (l : List ℕ). Follows s l new (Some f)) (front-is m ends) (follows s stands)))

-- ---- lines that were judged, and more behind them

pub seen-on : (old w : Watch) (text : List ℕ) → IsBehind w text → HasGoneOn old w None → old.seen ≤ w.seen
seen-on old w text b (inl passed) = omega (arith, passed, b.begun)
seen-on old w text b (inr same) = omega (arith, same.1)

pub gone-on : (old w new : Watch) (text : List ℕ) (found : Option Fault) → IsBehind w text → HasGoneOn old w None
    → HasGoneOn w new found → HasGoneOn old new found
gone-on old w new text (Some f) b on passed = omega (arith, passed, seen-on old w text b on)
gone-on old w new text None b on (inl passed) = inl (omega (arith, passed, seen-on old w text b on))
gone-on old w new text None b (inl passed) (inr same) = inl (omega (arith, passed, same.0))
gone-on old w new text None b (inr before) (inr same) = inr (same.0 ∙ before.0, same.1 ∙ before.1)
