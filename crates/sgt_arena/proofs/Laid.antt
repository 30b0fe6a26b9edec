-- How the values of an arena lie in its blocks.
use Rattle.std.proofs.Common.{◌≡◌, ℕ, zero, suc, ◌+◌, ◌*◌, ◌<◌, ◌≤◌, List, [], ◌∷◌, ◌++◌, length, drop, set, get_or, replicate, slice_get, refl, sym, ap, ◌∙◌, subst, arith, length-append, length-drop, take_all, take-append-drop}
use Rattle.std.proofs.lemmas.List.{drop-append-le, take-append-le, drop_all, take-set-le, drop-set-lt, drop-set-add}
use Rattle.std.proofs.lemmas.Option.{slice_get_within}
use Rattle.std.proofs.Math.Seq.{take-set-lt}
use Rattle.sgt_arena.specs.Places.{joined, Laid, EmptyFirst, AllEmpty}
use Rattle.sgt_arena.proofs.Places.{before_cut, behind_cut, value_of}

laid_none : (X : Type 0) (n : ℕ) → Laid {X = X} (replicate n []) []
laid_none X zero = refl
laid_none X (suc n) = (refl, laid_none X n)

module _ {X : Type 0} where
  -- the blocks' values are the ones that are laid in them
  pub joined_is : (bs : List (List X)) (xs : List X) → Laid bs xs → joined bs ≡ xs
  joined_is [] xs h = sym h
  joined_is (b ∷ bs) xs h = (λ i. h.0 i ++ joined_is bs (drop 64 xs) h.1 i) ∙ take-append-drop 64 xs

  pub laid_within : (bs : List (List X)) (xs : List X) → Laid bs xs → length xs ≤ 64 * length bs
  laid_within [] xs h = let none = ap length h in omega arith
  laid_within (b ∷ bs) xs h = let rest = laid_within bs (drop 64 xs) h.1 in let long = length-drop 64 xs in omega arith

  -- the value at an index lies in one block
  pub laid_get : (bs : List (List X)) (xs : List X) (q r i : ℕ) → Laid bs xs → q < length bs → r < 64 → i ≡ 64 * q + r
      → slice_get (get_or bs q []) r ≡ slice_get xs i
  laid_get [] xs q r i h within low e = absurd (omega arith)
  laid_get (b ∷ bs) xs zero r i h within low e = let same : r ≡ i = omega arith in ap (λ l. slice_get l r) h.0
      ∙ before_cut 64 r xs low ∙ ap (slice_get xs) same
  laid_get (b ∷ bs) xs (suc q) r i h within low e =
      laid_get bs (drop 64 xs) q r (64 * q + r) h.1 (omega arith) low refl
      ∙ behind_cut 64 (64 * q + r) i xs (omega arith)

  -- one value is written over
  pub laid_set : (bs : List (List X)) (xs : List X) (q r i : ℕ) (w : X) → Laid bs xs → q < length bs → r < 64
      → i ≡ 64 * q + r → Laid (set bs q (set (get_or bs q []) r w)) (set xs i w)
  laid_set [] xs q r i w h within low e = absurd (omega arith)
  laid_set (b ∷ bs) xs zero r i w h within low e =
      let same : r ≡ i = omega arith in (
        (λ k. set (h.0 k) (same k) w) ∙ sym (take-set-lt 64 xs i w (omega arith)),
        subst (Laid bs) (sym (drop-set-lt 64 xs i w (omega arith))) h.1,
      )
  laid_set (b ∷ bs) xs (suc q) r i w h within low e =
      let k = 64 * q + r in let past : i ≡ 64 + k = omega arith in (
        h.0 ∙ sym (take-set-le 64 xs i w (omega arith)),
        subst (Laid (set bs q (set (get_or bs q []) r w))) (sym (ap (λ m. drop 64 (set xs m w)) past
            ∙ drop-set-add 64 xs k w)) (laid_set bs (drop 64 xs) q r k w h.1 (omega arith) low refl),
      )

  -- one value is laid behind the others
  pub laid_push : (bs : List (List X)) (xs : List X) (q r : ℕ) (w : X) → Laid bs xs → q < length bs → r < 64
      → length xs ≡ 64 * q + r → Laid (set bs q (get_or bs q [] ++ w ∷ [])) (xs ++ w ∷ [])
  laid_push [] xs q r w h within low e = absurd (omega arith)
  laid_push (b ∷ bs) xs zero r w h within low e =
      let more = length-append xs (w ∷ []) in (
        ap (λ l. l ++ w ∷ []) (h.0 ∙ take_all 64 xs (omega arith)) ∙ sym (take_all 64 (xs ++ w ∷ []) (omega arith)),
        subst (Laid bs) (drop_all 64 xs (omega arith) ∙ sym (drop_all 64 (xs ++ w ∷ []) (omega arith))) h.1,
      )
  laid_push (b ∷ bs) xs (suc q) r w h within low e =
      let long = length-drop 64 xs in (
        h.0 ∙ sym (take-append-le 64 xs (w ∷ []) (omega arith)),
        subst (Laid (set bs q (get_or bs q [] ++ w ∷ []))) (sym (drop-append-le 64 xs (w ∷ []) (omega arith)))
            (laid_push bs (drop 64 xs) q r w h.1 (omega arith) low (omega arith)),
      )

  -- the block that the next value goes to has room
  pub laid_room : (bs : List (List X)) (xs : List X) (q r : ℕ) → Laid bs xs → q < length bs → r < 64
      → length xs ≡ 64 * q + r → length (get_or bs q []) < 64
  laid_room [] xs q r h within low e = absurd (omega arith)
  laid_room (b ∷ bs) xs zero r h within low e = let all = ap length (h.0 ∙ take_all 64 xs (omega arith)) in omega arith
  laid_room (b ∷ bs) xs (suc q) r h within low e = let long = length-drop 64 xs in
      laid_room bs (drop 64 xs) q r h.1 (omega arith) low (omega arith)

  -- an index of a value is one of its block
  pub laid_index : (bs : List (List X)) (xs : List X) (q r i : ℕ) → Laid bs xs → q < length bs → r < 64
      → i ≡ 64 * q + r → i < length xs → r < length (get_or bs q [])
  laid_index bs xs q r i h within low e lt = let x = value_of xs i lt in
      slice_get_within (get_or bs q []) r x.0 (laid_get bs xs q r i h within low e ∙ x.1)

  -- empty blocks are added
  pub laid_more : (bs : List (List X)) (xs : List X) (n : ℕ) → Laid bs xs → Laid (bs ++ replicate n []) xs
  laid_more [] xs n h = subst (Laid (replicate n [])) (sym h) (laid_none X n)
  laid_more (b ∷ bs) xs n h = (h.0, laid_more bs (drop 64 xs) n h.1)

  pub empty_more : (bs : List (List X)) (n m : ℕ) → m ≡ suc n → EmptyFirst n bs → n < length bs
      → EmptyFirst m (set bs n [])
  empty_more bs n m e h within = subst (λ k. EmptyFirst k (set bs n [])) (sym e) (on bs n h within)
    where
      on : (bs : List (List X)) (n : ℕ) → EmptyFirst n bs → n < length bs → EmptyFirst (suc n) (set bs n [])
      on [] n h within = absurd (omega arith)
      on (b ∷ bs) zero h within = (refl, tt)
      on (b ∷ bs) (suc n) h within = (h.0, on bs n h.1 (omega arith))

  pub empty_all : (bs : List (List X)) (n : ℕ) → EmptyFirst n bs → length bs ≤ n → AllEmpty bs
  empty_all [] n h le = tt
  empty_all (b ∷ bs) zero h le = absurd (omega arith)
  empty_all (b ∷ bs) (suc n) h le = (h.0, empty_all bs n h.1 (omega arith))

  pub empty_last : (bs : List (List X)) (b : List X) → AllEmpty (bs ++ b ∷ []) → AllEmpty bs × (b ≡ [])
  empty_last [] b h = (tt, h.0)
  empty_last (a ∷ bs) b h = let rest = empty_last bs b h.1 in ((h.0, rest.0), rest.1)
