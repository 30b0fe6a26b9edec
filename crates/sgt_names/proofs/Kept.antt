-- The first of some bytes, with zeros in place of the others, as it is computed by lanes.
use Rattle.std.proofs.Common.{◌≡◌, ◌≤◌, ℕ, zero, suc, ◌+◌, ◌-◌, List, [], ◌∷◌, ◌++◌, length, take, replicate, map, Bool, cond, refl, ap, ◌∙◌, subst, arith}
use Rattle.std.specs.Prelude.{nat_lt}
use Rattle.std.specs.List.{range_with_len}
use Rattle.std.specs.Simd.Lanes.{sel_l, top}
use Rattle.std.proofs.lemmas.Bool.{lt-ltb, le-ltb}

-- whether the lane of this number is kept
abbrev pub lane : ℕ → ℕ → Bool
lane len i = top 7 (cond (nat_lt i len) 255 0)

-- the lanes from one on
abbrev pub chosen : ℕ → ℕ → List ℕ → List ℕ
chosen len k bytes = sel_l (map (lane len) (range_with_len k (length bytes))) bytes (replicate (length bytes) 0)

none_kept : (len k : ℕ) (bytes : List ℕ) → len ≤ k → chosen len k bytes ≡ replicate (length bytes) 0
none_kept len k [] behind = refl
none_kept len k (b ∷ bs) behind =
    ap (λ (t : Bool). sel_l (top 7 (cond t 255 0) ∷ map (lane len) (range_with_len (k + 1) (length bs))) (b ∷ bs)
    (0 ∷ replicate (length bs) 0)) (le-ltb k len behind)
    ∙ ap (λ (rest : List ℕ). 0 ∷ rest) (none_kept len (k + 1) bs (omega (arith, behind)))

first_kept : (len k d : ℕ) (bytes : List ℕ) → len ≡ k + d
    → chosen len k bytes ≡ take d bytes ++ replicate (length bytes - d) 0
first_kept len k zero bytes is =
    none_kept len k bytes (omega (arith, is))
    ∙ ap (λ (n : ℕ). replicate n 0) (let e : length bytes ≡ length bytes - 0 = omega arith in e)
first_kept len k (suc d) [] is = ap (λ (n : ℕ). replicate n 0) (let e : 0 ≡ 0 - suc d = omega arith in e)
first_kept len k (suc d) (b ∷ bs) is =
    ap (λ (t : Bool). sel_l (top 7 (cond t 255 0) ∷ map (lane len) (range_with_len (k + 1) (length bs))) (b ∷ bs)
    (0 ∷ replicate (length bs) 0)) (lt-ltb k len (omega (arith, is)))
    ∙ ap (λ (rest : List ℕ). b ∷ rest) (first_kept len (k + 1) d bs (omega (arith, is)))
    ∙ ap (λ (n : ℕ). b ∷ (take d bs ++ replicate n 0)) (let e : length bs - d ≡ length (b ∷ bs) - suc d =
    omega arith in e)

-- of sixteen bytes
pub sixteen_kept : (len : ℕ) (bytes : List ℕ) → length bytes ≡ 16
    → sel_l (map (lane len) (range_with_len 0 16)) bytes (replicate 16 0) ≡ take len bytes ++ replicate (16 - len) 0
sixteen_kept len bytes many =
    subst (λ (n : ℕ). sel_l (map (lane len) (range_with_len 0 n)) bytes (replicate n 0) ≡ take len bytes ++ replicate
    (n - len) 0) many
    (first_kept len 0 len bytes (omega arith))
