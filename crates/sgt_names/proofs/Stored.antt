-- A name as it is kept, in sixteen bytes with zeros behind it, and as a text.
use Rattle.std.proofs.Common.{◌≡◌, ◌≤◌, ◌<◌, ℕ, zero, suc, add-one, ◌+◌, ◌-◌, List, [], ◌∷◌, ◌++◌, length, take, replicate, set, get_or, true, false, refl, sym, ap, ap₂, ◌∙◌, subst, arith, inl, inr, All, Bool, cond}
use Rattle.std.specs.Prelude.{◌&&◌, ◌||◌, ◌==◌, nat_le}
use Rattle.std.specs.List.{list_all, prefix_len, take_while, AllByRecursion}
use Rattle.std.specs.Ordering.{nat_cmp, ordering_then}
use Rattle.std.specs.declared.cmp.Ordering.TheVariants.{Less, Greater}
use Rattle.std.specs.Cmp.{nat_cmp_is}
use Rattle.std.specs.Cmp.Lexicographic.{slice_cmp}
use Rattle.std.specs.Str.{IsUtf8}
use Rattle.std.proofs.Math.Seq.{take-suc, set-append_seam}
use Rattle.std.proofs.lemmas.Bool.{and_from, and_parts, or_left, or_cases, leb-true, le-leb, eqb-true}
use Rattle.std.proofs.lemmas.List.{append_assoc, length-take-le}
use Rattle.std.proofs.lemmas.List.Sums.{take_while-cons}
use Rattle.std.proofs.lemmas.List.Folds.{list_all-append}
use Rattle.std.proofs.lemmas.List.Elements.{All-tail, All-from_recursion}
use Rattle.std.proofs.lemmas.Str.{IsUtf8-from_ascii}
use Rattle.std.proofs.lemmas.Str.Ascii.{IsAscii-from_all}
use Rattle.sgt_names.specs.Name.{Name, IsName, SpellsFront, is_name_byte, is_small_letter}
use Rattle.sgt_names.specs.Stored.{BeginsName, AreNameBytes, IsStored, is_positive, name_of, padded_name}
use Rattle.sgt_names.specs.declared.item.Item.TheInside.{Inside}
use Rattle.sgt_names.proofs.Lanes.{front_all}
use Rattle.sgt_names.proofs.Places.{All_at}

-- ---- bytes with zeros behind them

-- no zero
abbrev pub IsByte : ℕ → Type 0
IsByte c = 0 < c

-- zeros don't change what stands in front of them
pub front : (xs : List ℕ) (k : ℕ) → All IsByte xs → take_while is_positive (xs ++ replicate k 0) ≡ xs
front [] zero all = refl
front [] (suc k) all = refl
front (zero ∷ xs) k all = absurd (omega (arith, All_at IsByte (zero ∷ xs) 0 0 all refl))
front (suc x ∷ xs) k all = take_while-cons is_positive (suc x) (xs ++ replicate k 0)
    ∙ ap (λ (t : List ℕ). suc x ∷ t) (front xs k (All-tail IsByte (suc x) xs all))

-- with zeros up to one length, they stand in the same order
pub padded-order : (xs ys : List ℕ) (i j : ℕ) → All IsByte xs → All IsByte ys → length xs + i ≡ length ys + j
    → slice_cmp nat_cmp (xs ++ replicate i 0) (ys ++ replicate j 0) ≡ slice_cmp nat_cmp xs ys
padded-order [] [] zero zero ax ay same = refl
padded-order [] [] zero (suc j) ax ay same = absurd (omega (arith, same))
padded-order [] [] (suc i) zero ax ay same = absurd (omega (arith, same))
padded-order [] [] (suc i) (suc j) ax ay same = padded-order [] [] i j ax ay (omega (arith, same))
padded-order [] (zero ∷ ys) i j ax ay same = absurd (omega (arith, All_at IsByte (zero ∷ ys) 0 0 ay refl))
padded-order [] (suc y ∷ ys) zero j ax ay same = refl
padded-order [] (suc y ∷ ys) (suc i) j ax ay same =
    ap (λ o. ordering_then o (slice_cmp nat_cmp (replicate i 0) (ys ++ replicate j 0)))
    (sym (nat_cmp_is 0 (suc y) Less (omega arith)))
padded-order (zero ∷ xs) [] i j ax ay same = absurd (omega (arith, All_at IsByte (zero ∷ xs) 0 0 ax refl))
padded-order (suc x ∷ xs) [] i zero ax ay same = refl
padded-order (suc x ∷ xs) [] i (suc j) ax ay same =
    ap (λ o. ordering_then o (slice_cmp nat_cmp (xs ++ replicate i 0) (replicate j 0)))
    (sym (nat_cmp_is (suc x) 0 Greater (omega arith)))
padded-order (x ∷ xs) (y ∷ ys) i j ax ay same =
    ap (ordering_then (nat_cmp x y)) (padded-order xs ys i j (All-tail IsByte x xs ax) (All-tail IsByte y ys ay)
    (omega (arith, same)))

-- ---- names are such bytes

pub name_byte-positive : (c : ℕ) → is_name_byte c ≡ true → 0 < c
name_byte-positive c h = elim (or_cases (is_small_letter c || (nat_le 48 c && nat_le c 57)) (c == 95) h) [
  | inl two ↦ elim (or_cases (is_small_letter c) (nat_le 48 c && nat_le c 57) two) [
    | inl letter ↦ let least = leb-true 97 c (and_parts (nat_le 97 c) (nat_le c 122) letter).0 in omega arith
    | inr digit ↦ let least = leb-true 48 c (and_parts (nat_le 48 c) (nat_le c 57) digit).0 in omega arith
  ]
  | inr line ↦ let is = eqb-true c 95 line in omega arith
]

names-bytes : (cs : List ℕ) → list_all is_name_byte cs ≡ true → All IsByte cs
names-bytes cs h = All-from_recursion IsByte cs (each cs h)
  where
    each : (cs : List ℕ) → list_all is_name_byte cs ≡ true → AllByRecursion IsByte cs
    each [] h = tt
    each (c ∷ cs) h = let both = and_parts (is_name_byte c) (list_all is_name_byte cs) h in
        (name_byte-positive c both.0, each cs both.1)

-- a name begins as one, and has bytes of names alone
pub name-parts : (n : Name) → IsName n → BeginsName n × AreNameBytes n
name-parts [] is = absurd is
name-parts (c ∷ cs) is =
    let first =
    or_left (is_small_letter c || (nat_le 48 c && nat_le c 57)) (c == 95)
    (or_left (is_small_letter c) (nat_le 48 c && nat_le c 57) is.0) in
    (is.0, (omega (arith, is.2), and_from (is_name_byte c) (list_all is_name_byte cs) first is.1))

pub name-from_parts : (n : Name) → BeginsName n → AreNameBytes n → IsName n
name-from_parts [] begins are = absurd begins
name-from_parts (c ∷ cs) begins are = (
  begins,
  (and_parts (is_name_byte c) (list_all is_name_byte cs) are.1).1,
  omega (arith, are.0),
)

pub name-bytes : (n : Name) → IsName n → All IsByte n
name-bytes n is = names-bytes n (name-parts n is).1.1

pub name-length : (n : Name) → IsName n → length n ≤ 16
name-length n is = (name-parts n is).1.0

-- ---- a name that is kept

-- one more byte is tried
pub passed-next : (bytes : List ℕ) (at : ℕ) → at < length bytes → list_all is_name_byte (take at bytes) ≡ true
    → is_name_byte (get_or bytes at 0) ≡ true → list_all is_name_byte (take (at + 1) bytes) ≡ true
passed-next bytes at within before here =
    ap (list_all is_name_byte) (ap (λ (n : ℕ). take n bytes) (add-one at) ∙ take-suc bytes at 0 within)
    ∙ list_all-append is_name_byte (take at bytes) (get_or bytes at 0 ∷ [])
    ∙ and_from (list_all is_name_byte (take at bytes)) (is_name_byte (get_or bytes at 0) && true) before
    (and_from _ true here refl)

-- and is kept
pub kept-next : (bytes padded : List ℕ) (at : ℕ) → at < length bytes → length bytes ≤ 16
    → padded ≡ take at bytes ++ replicate (16 - at) 0
    → set padded at (get_or bytes at 0) ≡ take (at + 1) bytes ++ replicate (16 - (at + 1)) 0
kept-next bytes padded at within few is =
    let left : 16 - at ≡ suc (16 - (at + 1)) = omega (arith, within, few) in
    let len = length-take-le at bytes (omega (arith, within)) in
    let x = get_or bytes at 0 in
    let behind = replicate (16 - (at + 1)) 0 in
    ap (λ (l : List ℕ). set l at x) (is ∙ ap (λ (n : ℕ). take at bytes ++ replicate n 0) left)
    ∙ ap (λ (n : ℕ). set (take at bytes ++ 0 ∷ behind) n x) (sym len)
    ∙ set-append_seam (take at bytes) 0 behind x
    ∙ sym (append_assoc (take at bytes) (x ∷ []) behind)
    ∙ ap (λ (l : List ℕ). l ++ behind) (sym (ap (λ (n : ℕ). take n bytes) (add-one at) ∙ take-suc bytes at 0 within))

pub stored-bytes : (n padded : Name) → IsName n → padded ≡ padded_name n → take_while is_positive padded ≡ n
stored-bytes n padded is kept = ap (take_while is_positive) kept ∙ front n (16 - length n) (name-bytes n is)

-- a name with zeros behind it is stored
pub stored-name : (n padded : Name) → IsName n → padded ≡ padded_name n → IsStored (record { bytes = padded })
stored-name n padded is kept =
    let same = stored-bytes n padded is kept in
    record {
      name = subst IsName (sym same) is;
      zeros = kept ∙ ap padded_name (sym same);
    }

-- the first bytes, where they are a name
pub front-padded : (bytes kept : List ℕ) (len : ℕ) → length bytes ≡ 16 → len ≤ 16
    → kept ≡ take len bytes ++ replicate (16 - len) 0 → kept ≡ padded_name (take len bytes)
front-padded bytes kept len many few is =
    is ∙ ap (λ (n : ℕ). take len bytes ++ replicate (16 - n) 0)
    (sym (length-take-le len bytes (omega (arith, many, few))))

pub front-is_name : (bytes : List ℕ) (len : ℕ) → length bytes ≡ 16 → len ≤ 16 → BeginsName (take len bytes)
    → list_all is_name_byte (take len bytes) ≡ true → IsName (take len bytes)
front-is_name bytes len many few begins all =
    let long = length-take-le len bytes (omega (arith, many, few)) in
    name-from_parts (take len bytes) begins (omega (arith, long, few), all)

-- ---- the longest name at the front

leading-begins : (bytes : List ℕ) → BeginsName bytes → BeginsName (take (prefix_len is_name_byte bytes) bytes)
leading-begins [] begins = absurd begins
leading-begins (c ∷ cs) begins =
    let first =
    or_left (is_small_letter c || (nat_le 48 c && nat_le c 57)) (c == 95)
    (or_left (is_small_letter c) (nat_le 48 c && nat_le c 57) begins) in
    let step : prefix_len is_name_byte (c ∷ cs) ≡ 1 + prefix_len is_name_byte cs =
    ap (λ (t : Bool). cond t (1 + prefix_len is_name_byte cs) 0) first in
    let more : prefix_len is_name_byte (c ∷ cs) ≡ suc (prefix_len is_name_byte cs) = omega (arith, step) in
    subst (λ (n : ℕ). BeginsName (take n (c ∷ cs))) (sym more) begins

some-letters : (b : Bool) (n : ℕ) → (cond b (1 + n) 0 ≡ 0 → ⊥) → b ≡ true
some-letters true n some = refl
some-letters false n some = absurd (some refl)

no-letters : (b : Bool) (n : ℕ) → cond b (1 + n) 0 ≡ 0 → b ≡ true → ⊥
no-letters true n none is = absurd (omega (arith, none))
no-letters false n none is = cc is

-- a name begins with some letters
pub letters-begin : (bytes : List ℕ) (n : ℕ) → n ≡ prefix_len is_small_letter bytes → (n ≡ 0 → ⊥) → BeginsName bytes
letters-begin [] n is some = absurd (some is)
letters-begin (c ∷ cs) n is some =
    some-letters (is_small_letter c) (prefix_len is_small_letter cs) (λ none. some (is ∙ none))

pub no-letters-front : (bytes : List ℕ) (n len : ℕ) → n ≡ prefix_len is_small_letter bytes → n ≡ 0
    → SpellsFront bytes len → ⊥
no-letters-front bytes n zero is none spells = spells.1
no-letters-front [] n (suc len) is none spells = spells.1
no-letters-front (c ∷ cs) n (suc len) is none spells =
    no-letters (is_small_letter c) (prefix_len is_small_letter cs) (sym is ∙ none) spells.1.0

counted : (b : Bool) (m n : ℕ) → m ≤ n → cond b (1 + m) 0 ≤ suc n
counted true m n le = omega (arith, le)
counted false m n le = omega (arith, le)

within-length : (bytes : List ℕ) → prefix_len is_name_byte bytes ≤ length bytes
within-length [] = omega arith
within-length (c ∷ cs) = counted (is_name_byte c) (prefix_len is_name_byte cs) (length cs) (within-length cs)

-- how far it reaches
pub leading-most : (bytes : List ℕ) (len : ℕ) → length bytes ≡ 16 → len ≡ prefix_len is_name_byte bytes → len ≤ 16
leading-most bytes len many is = let within = within-length bytes in omega (arith, within, many, is)

pub leading-is_name : (bytes : List ℕ) (len : ℕ) → length bytes ≡ 16 → BeginsName bytes
    → len ≡ prefix_len is_name_byte bytes → IsName (take len bytes)
leading-is_name bytes len many begins is =
    let few = leading-most bytes len many is in
    let all = sym (front_all is_name_byte len bytes (omega (arith, few, many)))
    ∙ le-leb len (prefix_len is_name_byte bytes) (omega (arith, is)) in
    front-is_name bytes len many few (subst (λ (n : ℕ). BeginsName (take n bytes)) (sym is)
    (leading-begins bytes begins)) all

pub leading-spells : (bytes : List ℕ) (len : ℕ) → length bytes ≡ 16 → BeginsName bytes
    → len ≡ prefix_len is_name_byte bytes → SpellsFront bytes len
leading-spells bytes len many begins is = let few = leading-most bytes len many is in
    (omega (arith, few, many), leading-is_name bytes len many begins is)

-- stored names stand in the order of their bytes
pub stored-order : (a b : Inside) → IsStored a → IsStored b
    → slice_cmp nat_cmp a.bytes b.bytes ≡ slice_cmp nat_cmp (name_of a) (name_of b)
stored-order a b ha hb =
    let la = name-length (name_of a) ha.name in
    let lb = name-length (name_of b) hb.name in
    ap₂ (slice_cmp nat_cmp) ha.zeros hb.zeros
    ∙ padded-order (name_of a) (name_of b) (16 - length (name_of a)) (16 - length (name_of b)) (name-bytes _ ha.name)
    (name-bytes _ hb.name) (omega (arith, la, lb))

-- a name is ASCII, so a text
small-low : (c : ℕ) → is_small_letter c ≡ true → c < 128
small-low c h = let most = leb-true c 122 (and_parts (nat_le 97 c) (nat_le c 122) h).1 in omega arith

pub name_byte-low : (c : ℕ) → is_name_byte c ≡ true → c < 128
name_byte-low c h = elim (or_cases (is_small_letter c || (nat_le 48 c && nat_le c 57)) (c == 95) h) [
  | inl two ↦ elim (or_cases (is_small_letter c) (nat_le 48 c && nat_le c 57) two) [
    | inl letter ↦ small-low c letter
    | inr digit ↦ let most = leb-true c 57 (and_parts (nat_le 48 c) (nat_le c 57) digit).1 in omega arith
  ]
  | inr line ↦ let is = eqb-true c 95 line in omega arith
]

bytes-low : (cs : List ℕ) → list_all is_name_byte cs ≡ true → AllByRecursion (λ b. b < 128) cs
bytes-low [] h = tt
bytes-low (c ∷ cs) h = let both = and_parts (is_name_byte c) (list_all is_name_byte cs) h in
    (name_byte-low c both.0, bytes-low cs both.1)

pub name-utf8 : (name : Name) → IsName name → IsUtf8 name
name-utf8 [] is = absurd is
name-utf8 (c ∷ cs) is =
    IsUtf8-from_ascii (c ∷ cs)
    (IsAscii-from_all (c ∷ cs) (All-from_recursion (λ b. b < 128) (c ∷ cs) (small-low c is.0, bytes-low cs is.1)))
