-- Small facts of lists, options, results and truth values that several crates need.
use Rattle.std.proofs.Common.{[], length-append, arith, subst, sym, take, length, ◌∷◌, refl, Some, None, ap, map, Bool, true, false, ◌≢◌, inl, inr, suc, All, ◌-◌, ◌∙◌, zero, ◌<◌, set, ◌⊎◌, Contains, slice_get, IfNone, Result, Ok, Err, OnOk, ◌≤◌, append_assoc, slice_set, ℕ, ◌+◌, List, ◌++◌, Option, ◌≡◌}
use Rattle.std.proofs.lemmas.Bool.{cases_Bool, cases_order, true≢false, cases_eq, ne_eqb}
use Rattle.std.proofs.lemmas.List.{take-append-le, append-nil}
use Rattle.std.proofs.lemmas.Option.{same_Some, slice_get-map}
use Rattle.std.proofs.lemmas.Slice.Eq.{bytes_eq-Decides}
use Rattle.std.specs.Cmp.{nat_cmp_is}
use Rattle.std.specs.Io.KnownBytes.{Consumes, Appends}
use Rattle.std.specs.Ordering.{nat_cmp, is_eq}
use Rattle.std.specs.Prelude.{◌==◌, not, is_some, IfOk, option_map, IfSome, if◌then◌else◌, drop, ◌||◌, OnErr}
use Rattle.std.specs.Result.{is_ok}
use Rattle.std.specs.Str.{bytes_eq}
use Rattle.std.specs.declared.cmp.Ordering.TheVariants.{Equal, Less, Greater}
use Rattle.sgt_names.specs.Device.{AppendsOrForgets, WritesFront}
use Rattle.sgt_names.specs.Name.{Name}

pub empty-length : {A : Type 0} (xs : List A) → length xs ≡ 0 → xs ≡ []
empty-length [] e = refl
empty-length (x ∷ xs) e = absurd (omega arith)

pub none-unless_some : {A : Type 0} (o : Option A) → ((x : A) → o ≡ Some x → ⊥) → o ≡ None
none-unless_some None not = refl
none-unless_some (Some x) not = absurd (not x refl)

pub map-push : {A B : Type 0} (f : A → B) (xs : List A) (a : A) → map f (xs ++ a ∷ []) ≡ map f xs ++ f a ∷ []
map-push f [] a = refl
map-push f (x ∷ xs) a = ap (λ ys. f x ∷ ys) (map-push f xs a)

pub false-unless_true : (b : Bool) → (b ≡ true → ⊥) → b ≡ false
false-unless_true true h = absurd (h refl)
false-unless_true false h = refl

pub bytes_eq-other : (x y : Name) → x ≢ y → bytes_eq x y ≡ false
bytes_eq-other x y other = elim (cases_Bool (bytes_eq x y)) [
  | inl hit ↦ absurd (other ((bytes_eq-Decides x y).0 hit))
  | inr miss ↦ miss
]

pub All-tail : {A : Type 0} (P : A → Type 0) (x : A) (xs : List A) → All P (x ∷ xs) → All P xs
All-tail P x xs all k d within = all (suc k) d (omega arith)

pub nat_cmp-same : (a b : ℕ) → a ≡ b → is_eq (nat_cmp a b) ≡ true
nat_cmp-same a b e = sym (ap is_eq (nat_cmp_is a b Equal e))

pub nat_cmp-other : (k q : ℕ) → k ≢ q → is_eq (nat_cmp k q) ≡ false
nat_cmp-other k q apart =
    elim (cases_order k q) [
      | inl same ↦ absurd (apart same)
      | inr (inl less) ↦ ap is_eq (sym (nat_cmp_is k q Less less))
      | inr (inr more) ↦ ap is_eq (sym (nat_cmp_is k q Greater more))
    ]

pub ne-same : (a b : ℕ) (r : Bool) → r ≡ not (a == b) → r ≡ false → a ≡ b
ne-same a b r is miss =
    elim (cases_eq a b) [
      | inl same ↦ same
      | inr apart ↦ absurd (true≢false (sym (ap not (ne_eqb a b apart)) ∙ sym is ∙ miss))
    ]

pub is_some-some : {A : Type 0} (o : Option A) → is_some o ≡ true → (x : A) × (o ≡ Some x)
is_some-some None h = absurd cc
is_some-some (Some x) h = (x, refl)

pub is_some-none : {A : Type 0} (o : Option A) → is_some o ≡ false → o ≡ None
is_some-none None e = refl
is_some-none (Some x) e = absurd (true≢false e)

pub if_ok_both : {X E : Type 0} (r : Result X E) (P Q R : X → Type 0) → IfOk r P → IfOk r Q
    → ((x : X) → P x → Q x → R x) → IfOk r R
if_ok_both (Ok x) P Q R p q f = f x p q
if_ok_both (Err e) P Q R p q f = tt

pub no_line : (l m : List ℕ) → l ++ 10 ∷ m ≡ [] → ⊥
no_line [] m e = cc
no_line (x ∷ l) m e = cc

pub get-set_here : {A : Type 0} (xs : List A) (n : ℕ) (y : A) → n < length xs → slice_get (set xs n y) n ≡ Some y
get-set_here [] n y lt = absurd (omega arith)
get-set_here (x ∷ xs) zero y lt = refl
get-set_here (x ∷ xs) (suc n) y lt = get-set_here xs n y (omega arith)

pub get_set_elsewhere : {A : Type 0} (xs : List A) (n k : ℕ) (y : A) → k ≢ n → slice_get (set xs n y) k ≡ slice_get xs k
get_set_elsewhere [] n k y apart = refl
get_set_elsewhere (x ∷ xs) zero zero y apart = absurd (apart refl)
get_set_elsewhere (x ∷ xs) zero (suc k) y apart = refl
get_set_elsewhere (x ∷ xs) (suc n) zero y apart = refl
get_set_elsewhere (x ∷ xs) (suc n) (suc k) y apart = get_set_elsewhere xs n k y (λ same. apart (ap suc same))

pub contains-cases : {A : Type 0} (x : A) (xs : List A) (t : A) → Contains (x ∷ xs) t → (x ≡ t) ⊎ Contains xs t
contains-cases x xs t (zero, lt, is) = inl is
contains-cases x xs t (suc k, lt, is) = inr (k, omega arith, is)

pub contains-later : {A : Type 0} (x : A) (xs : List A) (a : A) → Contains xs a → Contains (x ∷ xs) a
contains-later x xs a c = (suc c.0, omega (arith, c.1), c.2)

pub contains-none : {A : Type 0} (t : A) → Contains [] t → ⊥
contains-none t (k, lt, is) = absurd (omega arith)

pub get-push_cases : {A : Type 0} (xs : List A) (x : A) (n : ℕ) (y : A) → slice_get (xs ++ x ∷ []) n ≡ Some y
    → (slice_get xs n ≡ Some y) ⊎ ((n ≡ length xs) × (x ≡ y))
get-push_cases [] x zero y h = inr (refl, same_Some x y h)
get-push_cases [] x (suc n) y h = absurd cc
get-push_cases (z ∷ zs) x zero y h = inl h
get-push_cases (z ∷ zs) x (suc n) y h =
    elim (get-push_cases zs x n y h) [ inl was ↦ inl was | inr new ↦ inr (omega (arith, new.0), new.1) ]

pub get-push_last : {A : Type 0} (xs : List A) (y : A) → slice_get (xs ++ y ∷ []) (length xs) ≡ Some y
get-push_last [] y = refl
get-push_last (x ∷ xs) y = get-push_last xs y

pub get-mapped : {A B : Type 0} (f : A → B) (xs : List A) (n : ℕ) (x : A) → slice_get xs n ≡ Some x
    → slice_get (map f xs) n ≡ Some (f x)
get-mapped f xs n x e = slice_get-map f xs n ∙ ap (option_map f) e

pub some-weaker : {A : Type 0} (o : Option A) (P Q : A → Type 0) → ((a : A) → P a → Q a) → IfSome o P → IfSome o Q
some-weaker (Some a) P Q f p = f a p
some-weaker None P Q f p = tt

pub none-weaker : {A : Type 0} (o : Option A) (P Q : Type 0) → (P → Q) → IfNone o P → IfNone o Q
none-weaker None P Q f h = f h
none-weaker (Some x) P Q f h = tt

pub bool_cases : (b : Bool) → (b ≡ true) ⊎ (b ≡ false)
bool_cases true = inl refl
bool_cases false = inr refl

pub ok-taken : {T E : Type 0} (r : Result T E) (new a b : List ℕ) → new ≡ (if is_ok r then a else b) → OnOk r (new ≡ a)
ok-taken (Ok v) new a b e = e
ok-taken (Err x) new a b e = tt

pub take-front : {A : Type 0} (fs bs : List A) → take (length fs) (fs ++ bs) ≡ fs
take-front [] bs = refl
take-front (a ∷ fs) bs = ap (λ xs. a ∷ xs) (take-front fs bs)

pub drop-front : {A : Type 0} (fs bs : List A) → drop (length fs) (fs ++ bs) ≡ bs
drop-front [] bs = refl
drop-front (a ∷ fs) bs = drop-front fs bs

pub length-take_within : {A : Type 0} (n : ℕ) (xs : List A) → n ≤ length xs → length (take n xs) ≡ n
length-take_within zero xs le = refl
length-take_within (suc n) [] le = absurd (omega (arith, le))
length-take_within (suc n) (x ∷ xs) le = ap suc (length-take_within n xs (omega (arith, le)))

pub front-longer : (old new : Option (List ℕ)) (a b : List ℕ) → WritesFront old new a → WritesFront old new (a ++ b)
front-longer old new a b front =
    let lt = front.1 in (
      front.0,
      let long = length-append a b in omega (arith, lt, long),
      subst (AppendsOrForgets old new) (sym (take-append-le front.0 a b (omega (arith, lt)))) front.2,
    )

pub appends_then : (old mid new : Option (List ℕ)) (a b : List ℕ) → Appends old mid a → AppendsOrForgets mid new b
    → AppendsOrForgets old new (a ++ b)
appends_then None mid new a b first later = tt
appends_then (Some xs) None new a b first later = absurd first
appends_then (Some xs) (Some ys) None a b first later = tt
appends_then (Some xs) (Some ys) (Some zs) a b first later = later ∙ ap (λ (t : List ℕ). t ++ b) first
    ∙ append_assoc xs a b

pub or_cases : (a b : Bool) → (a || b) ≡ true → (a ≡ true) ⊎ (b ≡ true)
or_cases true b h = inl refl
or_cases false b h = inr h

pub or_right : (a : Bool) → (a || true) ≡ true
or_right true = refl
or_right false = refl

pub consumes_none : (told : Option (List ℕ)) → Consumes told told []
consumes_none None = tt
consumes_none (Some xs) = refl

pub take-behind : (xs ys : List ℕ) (m : ℕ) → take (length xs + m) (xs ++ ys) ≡ xs ++ take m ys
take-behind [] ys m = ap (λ k. take k ys) (omega arith)
take-behind (x ∷ xs) ys m = let e : suc (length xs) + m ≡ suc (length xs + m) = omega arith in
    ap (λ k. take k (x ∷ (xs ++ ys))) e ∙ ap (λ zs. x ∷ zs) (take-behind xs ys m)

pub two-parts : (old a one two new : List ℕ) → a ≡ old ++ one → new ≡ a ++ two → new ≡ old ++ (one ++ two)
two-parts old a one two new e f = f ∙ ap (λ t. t ++ two) e ∙ append_assoc old one two

pub get-slice_set_other : {A : Type 0} (xs : List A) (i j : ℕ) (v : A) → (j ≡ i → ⊥)
    → slice_get (slice_set xs i v) j ≡ slice_get xs j
get-slice_set_other [] i j v h = refl
get-slice_set_other (x ∷ xs) zero zero v h = absurd (h refl)
get-slice_set_other (x ∷ xs) zero (suc j) v h = refl
get-slice_set_other (x ∷ xs) (suc i) zero v h = refl
get-slice_set_other (x ∷ xs) (suc i) (suc j) v h = get-slice_set_other xs i j v (λ e. h (ap suc e))

pub get-slice_set_same : {A : Type 0} (xs : List A) (i : ℕ) (v : A) → i < length xs
    → slice_get (slice_set xs i v) i ≡ Some v
get-slice_set_same [] i v h = absurd (omega arith)
get-slice_set_same (x ∷ xs) zero v h = refl
get-slice_set_same (x ∷ xs) (suc i) v h = get-slice_set_same xs i v (omega arith)

pub length-slice_set : {A : Type 0} (xs : List A) (i : ℕ) (v : A) → length (slice_set xs i v) ≡ length xs
length-slice_set [] i v = refl
length-slice_set (x ∷ xs) zero v = refl
length-slice_set (x ∷ xs) (suc i) v = ap suc (length-slice_set xs i v)

pub appends_none : (told : Option (List ℕ)) → Appends told told []
appends_none None = tt
appends_none (Some xs) = sym (append-nil xs)

pub front-second : (old mid new : Option (List ℕ)) (a b : List ℕ) → Appends old mid a → WritesFront mid new b
    → WritesFront old new (a ++ b)
front-second old mid new a b first front =
    let lt = front.1 in (
      length a + front.0,
      let long = length-append a b in omega (arith, lt, long),
      subst (AppendsOrForgets old new) (sym (take-behind a b front.0))
          (appends_then old mid new a (take front.0 b) first front.2),
    )

pub three-parts : (old a b one two three new : List ℕ) → a ≡ old ++ one → b ≡ a ++ two → new ≡ b ++ three
    → new ≡ old ++ (one ++ (two ++ three))
three-parts old a b one two three new e f g = two-parts old a one (two ++ three) new e (two-parts a b two three new f g)

pub front-tried : {T E : Type 0} (r : Result T E) (old mid new : Option (List ℕ)) (a b : List ℕ) → Appends old mid a
    → OnErr r (WritesFront mid new b) → OnErr r (WritesFront old new (a ++ b))
front-tried (Ok t) old mid new a b first front = tt
front-tried (Err e) old mid new a b first front = front-second old mid new a b first front

pub four-parts : (old a b c one two three four new : List ℕ) → a ≡ old ++ one → b ≡ a ++ two → c ≡ b ++ three
    → new ≡ c ++ four
    → new ≡ old ++ (one ++ (two ++ (three ++ four)))
four-parts old a b c one two three four new e f g h =
    two-parts old a one (two ++ (three ++ four)) new e (three-parts a b c two three four new f g h)
