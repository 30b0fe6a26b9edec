-- Lists place by place.
use Rattle.std.proofs.Common.{◌≡◌, ℕ, zero, suc, ◌<◌, List, [], ◌∷◌, ◌++◌, length, map, All, Ok, Err, IfOk, Result, arith, refl, ap, slice_index_or}
use Rattle.std.specs.List.{AllZip, flat_map}
use Rattle.std.proofs.lemmas.List.Elements.{All-append}
use Rattle.sgt_names.proofs.Elements.{if_ok_both}

pub zip_push : {A B : Type 0} (R : A → B → Type 0) (xs : List A) (ys : List B) (x : A) (y : B) → AllZip R xs ys
    → R x y → AllZip R (xs ++ x ∷ []) (ys ++ y ∷ [])
zip_push R [] [] x y h r = (r, tt)
zip_push R [] (b ∷ ys) x y h r = absurd h
zip_push R (a ∷ xs) [] x y h r = absurd h
zip_push R (a ∷ xs) (b ∷ ys) x y h r = (h.0, zip_push R xs ys x y h.1 r)

pub zip_by : {A B : Type 0} (R : A → B → Type 0) (xs : List A) (ys : List B) → length ys ≡ length xs
    → ((i : ℕ) (a : A) (b : B) → i < length xs → R (slice_index_or xs i a) (slice_index_or ys i b)) → AllZip R xs ys
zip_by R [] [] e f = tt
zip_by R [] (y ∷ ys) e f = absurd (omega (arith, e))
zip_by R (x ∷ xs) [] e f = absurd (omega (arith, e))
zip_by R (x ∷ xs) (y ∷ ys) e f =
    (f 0 x y (omega arith), zip_by R xs ys (omega (arith, e)) (λ i a b h. f (suc i) a b (omega (arith, h))))

pub zip_then : {A B C : Type 0} (R : A → B → Type 0) (S : B → C → Type 0) (T : A → C
    → Type 0) (xs : List A) (ys : List B) (zs : List C) → AllZip R xs ys → AllZip S ys zs
    → ((a : A) (b : B) (c : C) → R a b → S b c → T a c) → AllZip T xs zs
zip_then R S T [] [] [] r s f = tt
zip_then R S T [] [] (z ∷ zs) r s f = absurd s
zip_then R S T [] (y ∷ ys) zs r s f = absurd r
zip_then R S T (x ∷ xs) [] zs r s f = absurd r
zip_then R S T (x ∷ xs) (y ∷ ys) [] r s f = absurd s
zip_then R S T (x ∷ xs) (y ∷ ys) (z ∷ zs) r s f = (f x y z r.0 s.0, zip_then R S T xs ys zs r.1 s.1 f)

pub zip_same : {A : Type 0} (R : A → A → Type 0) (xs : List A) → ((a : A) → R a a) → AllZip R xs xs
zip_same R [] f = tt
zip_same R (x ∷ xs) f = (f x, zip_same R xs f)

pub zip_length : {A B : Type 0} (R : A → B → Type 0) (xs : List A) (ys : List B) → AllZip R xs ys
    → length xs ≡ length ys
zip_length R [] [] z = refl
zip_length R [] (y ∷ ys) z = absurd z
zip_length R (x ∷ xs) [] z = absurd z
zip_length R (x ∷ xs) (y ∷ ys) z = ap suc (zip_length R xs ys z.1)

-- the results that are Ok, without it
pub zip_ok : {A B : Type 0} (E : Type 0) (R : A → B → Type 0) (xs : List A) (ys : List B)
    → AllZip (λ x (r : Result B E). IfOk r (R x)) xs (map Ok ys) → AllZip R xs ys
zip_ok E R [] [] z = tt
zip_ok E R [] (y ∷ ys) z = absurd z
zip_ok E R (x ∷ xs) [] z = absurd z
zip_ok E R (x ∷ xs) (y ∷ ys) z = (z.0, zip_ok E R xs ys z.1)

pub all_ok : {B : Type 0} (E : Type 0) (P : B → Type 0) (ys : List B) → All (λ (r : Result B E). IfOk r P) (map Ok ys)
    → All P ys
all_ok E P [] a k d h = absurd (omega (arith, h))
all_ok E P (y ∷ ys) a zero d h = a 0 (Ok d) (omega arith)
all_ok E P (y ∷ ys) a (suc k) d h = all_ok E P ys (λ i r j. a (suc i) r (omega (arith, j))) k d (omega (arith, h))

pub zip_map : {A B C : Type 0} (R : A → C → Type 0) (f : B → C) (xs : List A) (ys : List B)
    → AllZip (λ x y. R x (f y)) xs ys → AllZip R xs (map f ys)
zip_map R f [] [] z = tt
zip_map R f [] (y ∷ ys) z = absurd z
zip_map R f (x ∷ xs) [] z = absurd z
zip_map R f (x ∷ xs) (y ∷ ys) z = (z.0, zip_map R f xs ys z.1)

pub all_flat : {A B : Type 0} (P : B → Type 0) (f : A → List B) (xs : List A) → All (λ x. All P (f x)) xs
    → All P (flat_map f xs)
all_flat P f [] a = λ k d h. absurd (omega (arith, h))
all_flat P f (x ∷ xs) a =
    All-append P (f x) (flat_map f xs) (a 0 x (omega arith)) (all_flat P f xs (λ k d h. a (suc k) d (omega (arith, h))))
