-- The lines of a history without the operations behind them.
use Rattle.std.proofs.Common.{◌≡◌, ℕ, ◌-◌, ◌<◌, ◌≤◌, List, [], ◌∷◌, length, take, drop, get_or, All, Option, Some, None, refl, sym, ap, ◌∙◌, subst, arith}
use Rattle.std.proofs.lemmas.Option.{get_or_from_slice_get, slice_get-get_or}
use Rattle.std.specs.Prelude.{slice_get}
use Rattle.std.proofs.lemmas.List.{get_or-take, length-take-le, take-append-drop, drop_all}
use Rattle.sgt_history.proofs.Cutting.{cut-append_operations, end_of-within}
use Rattle.sgt_history.specs.Cut.{cut, end_of, EndsRise, EndWithin}
use Rattle.sgt_history.specs.declared.history.Line.{Line}
use Rattle.sgt_history.specs.declared.history.Operation.{Operation}

-- the last of the lines ends last
end_of-last : (from : ℕ) (l : Line) (ls : List Line) (d : Line) → end_of from (l ∷ ls) ≡ (get_or (l ∷ ls) (length ls) d).end
end_of-last from l [] d = refl
end_of-last from l (m ∷ ls) d = end_of-last l.end m ls d

no_none : (lines : List Line) (n : ℕ) (d : Line) → n < length lines → None ≡ slice_get lines n → ⊥
no_none lines n d lt none = let e = none ∙ slice_get-get_or lines n d lt in absurd cc

pub last_end-some : (lines : List Line) (l : Line) → Some l ≡ slice_get lines (length lines - 1)
    → l.end ≡ end_of 0 lines
last_end-some [] l at = absurd cc
last_end-some (m ∷ ls) l at =
    let same : length (m ∷ ls) - 1 ≡ length ls = omega arith in
    let there : slice_get (m ∷ ls) (length ls) ≡ Some l = ap (slice_get (m ∷ ls)) (sym same) ∙ sym at in
    sym (end_of-last 0 m ls l ∙ ap (λ (x : Line). x.end) (get_or_from_slice_get (m ∷ ls) (length ls) l l there))

pub last_end-none : (lines : List Line) → None ≡ slice_get lines (length lines - 1) → 0 ≡ end_of 0 lines
last_end-none [] none = refl
last_end-none (m ∷ ls) none =
    let same : length (m ∷ ls) - 1 ≡ length ls = omega arith in
    absurd (no_none (m ∷ ls) (length ls) m (omega arith) (none ∙ ap (slice_get (m ∷ ls)) same))

pub ends_within : (lines : List Line) → EndsRise lines → EndWithin (end_of 0 lines) lines
ends_within [] rise i d lt = absurd (omega (arith, lt))
ends_within (l ∷ ls) rise i d lt =
    subst (λ n. (get_or (l ∷ ls) i d).end ≤ n) (sym (end_of-last 0 l ls d))
    (rise i (length ls) d (omega (arith, lt)) (omega arith))

module _ (lines : List Line) (ops : List (Operation ℕ ℕ)) (rise : EndsRise lines)
    (within : EndWithin (length ops) lines) where
  abbrev pub kept : List (Operation ℕ ℕ)
  kept = take (end_of 0 lines) ops

  pub kept_length : length kept ≡ end_of 0 lines
  kept_length = length-take-le (end_of 0 lines) ops (end_of-within (length ops) 0 lines (omega arith) within)

  pub kept_within : EndWithin (length kept) lines
  kept_within = subst (λ n. EndWithin n lines) (sym kept_length) (ends_within lines rise)

  pub kept_lines : cut 0 lines kept ≡ cut 0 lines ops
  kept_lines =
      sym (cut-append_operations 0 lines kept (drop (end_of 0 lines) ops) (omega arith) kept_within)
      ∙ ap (cut 0 lines) (take-append-drop (end_of 0 lines) ops)

  pub none_behind : drop (end_of 0 lines) kept ≡ []
  none_behind = drop_all (end_of 0 lines) kept (omega (arith, kept_length))

  pub kept_all : (P : Operation ℕ ℕ → Type 0) → All P ops → All P kept
  kept_all P all i d lt =
      subst P (sym (get_or-take (end_of 0 lines) ops i d (omega (arith, lt, kept_length))))
      (all i d (omega (arith, lt, kept_length, end_of-within (length ops) 0 lines (omega arith) within)))

  pub kept_few : length kept ≤ length ops
  kept_few = omega (arith, kept_length, end_of-within (length ops) 0 lines (omega arith) within)
