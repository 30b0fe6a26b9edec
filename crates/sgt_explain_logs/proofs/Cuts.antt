-- A text that is cut into lines as it comes.
use Rattle.std.proofs.Common.{◌≡◌, ◌≢◌, ℕ, ◌+◌, ◌-◌, ◌<◌, ◌≤◌, List, [], ◌∷◌, ◌++◌, length, take, drop, refl, sym, ap, ◌∙◌, subst, arith, append_assoc, append-nil, length-append}
use Rattle.std.proofs.lemmas.List.{length-take-le, take-append-le}
use Rattle.std.proofs.lemmas.List.Elements.{All-append, All-take}
use Rattle.sgt_names.specs.Limits.{max_line}
use Rattle.sgt_names.proofs.Devices.{tail_whole}
use Rattle.sgt_notation.specs.Lines.{IsLongerThan}
use Rattle.sgt_notation.specs.Spelling.{HasNoLf}
use Rattle.sgt_certify.proofs.Reached.{line-short, short-append}
use Rattle.sgt_explain.proofs.Fronts.{drop-front, take-front}
use Rattle.sgt_explain_logs.specs.Taken.{IsCut}
use Rattle.sgt_explain_logs.specs.declared.taking.Cut.{Cut}

none : HasNoLf []
none = λ k d lt. absurd (omega arith)

regroup : (a b c more : List ℕ)
    → a ++ (b ++ (c ++ 10 ∷ more)) ≡ (a ++ ((b ++ c) ++ 10 ∷ [])) ++ more
regroup a b c more = simp append_assoc

-- nothing is cut yet
pub uncut : (cut : Cut) (bytes : List ℕ) → cut.lines ≡ 0 → cut.seen ≡ 0 → IsCut cut bytes
uncut cut bytes at seen = record {
  lines = [];
  opened = [];
  rest = bytes;
  text = refl;
  short = tt;
  one = none;
  counted = at;
  seen = seen;
  begun = omega (arith, at, seen);
  within = omega (arith, seen);
}

module _ (cut : Cut) (bytes : List ℕ) (is : IsCut cut bytes) where
  pub cut-lines : take cut.lines bytes ≡ is.lines
  cut-lines = ap (take cut.lines) is.text ∙ take-front is.lines (is.opened ++ is.rest) cut.lines is.counted

  cut-open : drop cut.lines bytes ≡ is.opened ++ is.rest
  cut-open = ap (drop cut.lines) is.text ∙ drop-front is.lines (is.opened ++ is.rest) cut.lines is.counted

  pub cut-size : length bytes ≡ length is.lines + (length is.opened + length is.rest)
  cut-size =
      omega (
        arith,
        ap length is.text,
        length-append is.lines (is.opened ++ is.rest),
        length-append is.opened is.rest,
      )

  -- more comes
  pub cut-more : (more : List ℕ) → IsCut cut (bytes ++ more)
  cut-more more = record {
    lines = is.lines;
    opened = is.opened;
    rest = is.rest ++ more;
    text = ap (λ (t : List ℕ). t ++ more) is.text ∙ append_assoc is.lines (is.opened ++ is.rest) more
        ∙ ap (λ (t : List ℕ). is.lines ++ t) (append_assoc is.opened is.rest more);
    short = is.short;
    one = is.one;
    counted = is.counted;
    seen = is.seen;
    begun = is.begun;
    within = omega (arith, is.within, length-append bytes more);
  }

  searched-is : take (length bytes - cut.seen) (drop cut.seen bytes) ≡ is.rest
  searched-is =
      tail_whole bytes cut.seen
      ∙ ap (drop cut.seen) (is.text ∙ sym (append_assoc is.lines is.opened is.rest))
      ∙ drop-front (is.lines ++ is.opened) is.rest cut.seen (is.seen ∙ sym (length-append is.lines is.opened))

-- the first LF of these bytes
abbrev pub IsLfAt : List ℕ → ℕ → Type 0
IsLfAt bytes n = (n < length bytes) × HasNoLf (take n bytes) × (bytes ≡ take n bytes ++ 10 ∷ drop (n + 1) bytes)

-- what was searched
abbrev pub searched : Cut → List ℕ → List ℕ
searched cut bytes = take (length bytes - cut.seen) (drop cut.seen bytes)

module _ (cut : Cut) (bytes : List ℕ) (is : IsCut cut bytes) (n : ℕ) (at : IsLfAt (searched cut bytes) n) where
  line-size : length (is.opened ++ take n (searched cut bytes)) ≡ length is.opened + n
  line-size =
      omega (
        arith,
        length-append is.opened (take n (searched cut bytes)),
        length-take-le n (searched cut bytes) (omega (arith, at.0)),
      )

  line-plain : HasNoLf (is.opened ++ take n (searched cut bytes))
  line-plain = All-append (λ x. x ≢ 10) is.opened (take n (searched cut bytes)) is.one at.1

  rest-is : is.rest ≡ take n (searched cut bytes) ++ 10 ∷ drop (n + 1) (searched cut bytes)
  rest-is = sym (searched-is cut bytes is) ∙ at.2

  pub lf-within : cut.seen + n < length bytes
  lf-within = omega (arith, at.0, ap length (searched-is cut bytes is), cut-size cut bytes is, is.seen)

  -- it ends a line
  pub cut-on : (new : Cut) → cut.seen + n - cut.lines ≤ max_line → new.lines ≡ cut.seen + n + 1
      → new.seen ≡ cut.seen + n + 1 → IsCut new bytes
  cut-on new few place seen =
      let l = take n (searched cut bytes) in
      let more = drop (n + 1) (searched cut bytes) in
      let whole = (is.opened ++ l) ++ 10 ∷ [] in
      let size = line-size in
      let long : length (is.lines ++ whole) ≡ cut.seen + n + 1 = omega (
        arith,
        length-append is.lines whole,
        length-append (is.opened ++ l) (10 ∷ []),
        size,
        is.seen,
      ) in
      record {
        lines = is.lines ++ whole;
        opened = [];
        rest = more;
        text = is.text ∙ ap (λ (r : List ℕ). is.lines ++ (is.opened ++ r)) rest-is
            ∙ regroup is.lines is.opened l more;
        short = short-append is.lines whole is.short
            (line-short (is.opened ++ l) (omega (arith, few, size, is.seen, is.counted)));
        one = none;
        counted = place ∙ sym long;
        seen = omega (arith, seen, long);
        begun = omega (arith, place, seen);
        within = omega (arith, seen, lf-within);
      }

  -- or one that is too long
  pub cut-long : max_line < cut.seen + n - cut.lines → IsLongerThan max_line (drop cut.lines bytes)
  cut-long long =
      let l = is.opened ++ take n (searched cut bytes) in
      let more = drop (n + 1) (searched cut bytes) in
      let size = line-size in
      let text : drop cut.lines bytes ≡ l ++ 10 ∷ more = cut-open cut bytes is
      ∙ ap (λ (r : List ℕ). is.opened ++ r) rest-is
      ∙ sym (append_assoc is.opened (take n (searched cut bytes)) (10 ∷ more)) in
      let room : max_line + 1 ≤ length l = omega (arith, long, size, is.seen, is.counted) in
      subst (IsLongerThan max_line) (sym text) (
        omega (arith, room, length-append l (10 ∷ more)),
        subst HasNoLf (sym (take-append-le (max_line + 1) l (10 ∷ more) room))
            (All-take (λ x. x ≢ 10) (max_line + 1) l line-plain),
      )

-- no LF is left
module _ (cut : Cut) (bytes : List ℕ) (is : IsCut cut bytes) (plain : HasNoLf (searched cut bytes)) where
  opened-plain : HasNoLf (is.opened ++ is.rest)
  opened-plain =
      All-append (λ x. x ≢ 10) is.opened is.rest is.one (subst HasNoLf (searched-is cut bytes is) plain)

  pub cut-ends : (new : Cut) → new.lines ≡ cut.lines → new.seen ≡ length bytes → IsCut new bytes
  cut-ends new same seen = record {
    lines = is.lines;
    opened = is.opened ++ is.rest;
    rest = [];
    text = is.text ∙ ap (λ (t : List ℕ). is.lines ++ t) (sym (append-nil (is.opened ++ is.rest)));
    short = is.short;
    one = opened-plain;
    counted = same ∙ is.counted;
    seen = omega (arith, seen, cut-size cut bytes is, length-append is.opened is.rest);
    begun = omega (arith, same, seen, is.begun, is.within);
    within = omega (arith, seen);
  }

  pub open-long : cut.lines + max_line < length bytes → IsLongerThan max_line (drop cut.lines bytes)
  open-long long =
      subst (IsLongerThan max_line) (sym (cut-open cut bytes is)) (
        omega (arith, long, cut-size cut bytes is, is.counted, length-append is.opened is.rest),
        All-take (λ x. x ≢ 10) (max_line + 1) (is.opened ++ is.rest) opened-plain,
      )
