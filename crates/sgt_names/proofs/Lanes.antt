-- From sixteen lanes to the bytes that pass a test.
use Rattle.std.proofs.Common.{◌≡◌, ◌≤◌, ◌<◌, ◌+◌, ◌*◌, ◌%◌, ◌^◌, ℕ, zero, suc, List, [], ◌∷◌, length, take, map, get_or, eqb, leb, cond, Bool, true, false, not, w8, refl, sym, ap, ◌∙◌, arith, inl, inr}
use Rattle.std.specs.Prelude.{◌&&◌, bytes_eq}
use Rattle.std.specs.List.{list_all, prefix_len}
use Rattle.std.proofs.lemmas.Bool.{agree_below, agree_below_at, cases_eq, cases_lt, eq-eqb, ne_eqb, le-leb, lt-leb}
use Rattle.std.proofs.lemmas.List.{length-map}
use Rattle.std.proofs.lemmas.Simd.{map-map, mask_l-mod, first_set_mask_l, length-zip2, tops_compared, zip2_of_maps}
use lib.Lanes.{zip2, mask_l, top}
use Rattle.sgt_names.specs.Stored.{first_set}

-- an operation on two vectors that were computed lane by lane from v
pub joined : (h : ℕ → ℕ → ℕ) (f g : ℕ → ℕ) (v : List ℕ) {a b : List ℕ} → a ≡ map f v → b ≡ map g v
    → zip2 h a b ≡ map (λ x. h (f x) (g x)) v
joined h f g v p q = zip2_of_maps h f g v p q

-- two tests that agree on bytes pass equally many
prefix_same : (p q : ℕ → Bool) (v : List ℕ) → ((k : ℕ) → get_or v k 0 < 256) → agree_below p q 256 ≡ true
    → prefix_len p v ≡ prefix_len q v
prefix_same p q [] fits all = refl
prefix_same p q (x ∷ xs) fits all =
    ap (λ (t : Bool). cond t (1 + prefix_len p xs) 0) (agree_below_at p q 256 x all (fits 0))
    ∙ ap (λ (n : ℕ). cond (q x) (1 + n) 0) (prefix_same p q xs (λ k. fits (suc k)) all)

-- the lowest bit that is set is the first lane that fails q, where the others have none set
pub run_of : (q : ℕ → Bool) (v z : List ℕ) (r : ℕ) → length v ≡ 16 → ((k : ℕ) → get_or v k 0 < 256)
    → r ≡ first_set (mask_l (map (top 7) z) % 2 ^ 64) → (f : ℕ → ℕ) → z ≡ map f v
    → agree_below (λ x. not (top 7 (f x))) q 256 ≡ true → r ≡ prefix_len q v
run_of q v z r long fits found f lanes all =
    let mask = ap (λ l. mask_l l % 2 ^ 64) (ap (map (top 7)) lanes ∙ map-map (top 7) f v)
    ∙ mask_l-mod (map (λ x. top 7 (f x)) v) 64 (omega (arith, length-map v (λ x. top 7 (f x)), long)) in
    found ∙ ap first_set mask ∙ first_set_mask_l (λ x. top 7 (f x)) v 16 long (omega arith)
    ∙ prefix_same (λ x. not (top 7 (f x))) q v fits all

-- ---- so many first bytes

same : (n m : ℕ) → leb (suc n) (1 + m) ≡ leb n m
same n m = elim (cases_lt m n) [
  | inl less ↦ lt-leb (suc n) (1 + m) (omega (arith, less)) ∙ sym (lt-leb n m less)
  | inr most ↦ le-leb (suc n) (1 + m) (omega (arith, most)) ∙ sym (le-leb n m most)
]

step : (t : Bool) (n m : ℕ) (r : Bool) → leb n m ≡ r → leb (suc n) (cond t (1 + m) 0) ≡ (t && r)
step true n m r is = same n m ∙ is
step false n m r is = lt-leb (suc n) 0 (omega arith)

-- all of them pass where no more than pass from the front on
pub front_all : (q : ℕ → Bool) (n : ℕ) (v : List ℕ) → n ≤ length v → leb n (prefix_len q v) ≡ list_all q (take n v)
front_all q zero v le = le-leb 0 (prefix_len q v) (omega arith)
front_all q (suc n) [] le = absurd (omega (arith, le))
front_all q (suc n) (x ∷ xs) le =
    step (q x) n (prefix_len q xs) (list_all q (take n xs)) (front_all q n xs (omega (arith, le)))

-- ---- two vectors

mask_step : (t : Bool) (m : ℕ) → eqb (cond (not t) 1 0 + 2 * m) 0 ≡ (t && eqb m 0)
mask_step true m = elim (cases_eq m 0) [
  | inl none ↦ eq-eqb (0 + 2 * m) 0 (omega (arith, none)) ∙ sym (eq-eqb m 0 none)
  | inr some ↦ ne_eqb (0 + 2 * m) 0 (λ e. some (omega (arith, e))) ∙ sym (ne_eqb m 0 some)
]
mask_step false m = ne_eqb (1 + 2 * m) 0 (λ e. absurd (omega (arith, e)))
