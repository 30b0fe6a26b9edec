-- The escapes in the text of a string.
use Rattle.std.proofs.Common.{◌≡◌, ℕ, ◌+◌, ◌*◌, ◌/◌, ◌%◌, ◌<◌, ◌≤◌, ◌==◌, ◌||◌, List, [], ◌∷◌, ◌++◌, length, take, drop, get_or, inl, inr, ◌⊎◌, sym, ap, ◌∙◌, subst, arith, append_assoc}
use Rattle.std.proofs.lemmas.Bool.{cases_eq, cases_lt, cond_both, cond-true, eqb-true, lt-ltb, or_cases}
use Rattle.std.specs.Char.{digit_char}
use Rattle.std.proofs.lemmas.List.{append-nil}
use Rattle.json.specs.Print.{escape, escape_byte, escape_letter}
use Rattle.json.proofs.Printed.Strings.{escape_byte_plain}
use Rattle.sgt_check.specs.Key.{letter_byte}

-- what is said of 0, of the bytes that are escaped by themselves, and of each letter, is said of any escape's letter
by_letter : (x : ℕ) (P : ℕ → Type 0) → (x ≡ 34 → P 34) → (x ≡ 92 → P 92) → (x ≡ 8 → P 98) → (x ≡ 12 → P 102)
    → (x ≡ 10 → P 110) → (x ≡ 13 → P 114) → (x ≡ 9 → P 116) → P 0 → P (escape_letter x)
by_letter x P quote slash b f n r t none =
    cond_both ((x == 34) || (x == 92)) x _ P
    (λ e. elim (or_cases (x == 34) (x == 92) e) [
      | inl q ↦ subst P (sym (eqb-true x 34 q)) (quote (eqb-true x 34 q))
      | inr s ↦ subst P (sym (eqb-true x 92 s)) (slash (eqb-true x 92 s))
    ])
    (λ _. cond_both (x == 8) 98 _ P (λ e. b (eqb-true x 8 e))
    (λ _. cond_both (x == 12) 102 _ P (λ e. f (eqb-true x 12 e))
    (λ _. cond_both (x == 10) 110 _ P (λ e. n (eqb-true x 10 e))
    (λ _. cond_both (x == 13) 114 _ P (λ e. r (eqb-true x 13 e))
    (λ _. cond_both (x == 9) 116 0 P (λ e. t (eqb-true x 9 e)) (λ _. none))))))

letter-back : (x : ℕ) → 0 < escape_letter x → letter_byte (escape_letter x) ≡ x
letter-back x =
    by_letter x (λ l. 0 < l → letter_byte l ≡ x) (λ e _. sym e) (λ e _. sym e) (λ e _. sym e) (λ e _. sym e) (λ e _. sym e)
    (λ e _. sym e)
    (λ e _. sym e) (λ z. absurd (omega (arith, z)))

letter-not_u : (x : ℕ) → escape_letter x ≡ 117 → ⊥
letter-not_u x =
    by_letter x (λ l. l ≡ 117 → ⊥) (λ _ e. omega (arith, e)) (λ _ e. omega (arith, e)) (λ _ e. omega (arith, e))
    (λ _ e. omega (arith, e))
    (λ _ e. omega (arith, e)) (λ _ e. omega (arith, e)) (λ _ e. omega (arith, e)) (λ e. omega (arith, e))

-- what stands behind a backslash: the letter of a short escape, or four digits
pub record IsShort (x : ℕ) (text rest : List ℕ) : Type 0 where
  pub letter : ℕ
  pub other : letter ≡ 117 → ⊥
  pub byte : letter_byte letter ≡ x
  pub is : text ≡ letter ∷ rest

pub record IsLong (x : ℕ) (text rest : List ℕ) : Type 0 where
  pub small : x < 32
  pub is : text ≡ 117 ∷ 48 ∷ 48 ∷ digit_char (x / 16) ∷ digit_char (x % 16) ∷ rest

tail_of : {a b : ℕ} {s t : List ℕ} → a ∷ s ≡ b ∷ t → s ≡ t
tail_of e = ap (drop 1) e

head_of : {a b : ℕ} {s t : List ℕ} → a ∷ s ≡ b ∷ t → a ≡ b
head_of e = ap (λ (l : List ℕ). get_or l 0 0) e

short-byte : (x : ℕ) → 0 < escape_letter x → escape_byte x ≡ 92 ∷ escape_letter x ∷ []
unfolding escape_byte
short-byte x some = cond-true _ _ _ (lt-ltb 0 (escape_letter x) some)

long-byte : (x : ℕ) → escape_letter x ≡ 0 → x < 32
    → escape_byte x ≡ 92 ∷ 117 ∷ 48 ∷ 48 ∷ digit_char (x / 16) ∷ digit_char (x % 16) ∷ []
unfolding escape_byte
long-byte x none small = rw none (cond-true _ _ _ (lt-ltb x 32 small))

module _ (x : ℕ) (text rest : List ℕ) (is : 92 ∷ text ≡ escape_byte x ++ rest) where
  short : 0 < escape_letter x → IsShort x text rest
  short some = record {
    letter = escape_letter x;
    other = letter-not_u x;
    byte = letter-back x some;
    is = tail_of (is ∙ ap (λ (l : List ℕ). l ++ rest) (short-byte x some));
  }

  long : escape_letter x ≡ 0 → x < 32 → IsLong x text rest
  long none small = record {
    small = small;
    is = tail_of (is ∙ ap (λ (l : List ℕ). l ++ rest) (long-byte x none small));
  }

  none-letter : (escape_letter x ≡ 0) → (x ≡ 34 → ⊥) × (x ≡ 92 → ⊥)
  none-letter e = (λ q. absurd (omega (arith, sym e ∙ ap escape_letter q)), λ s. absurd (omega (arith, sym e ∙ ap escape_letter s)))

  pub behind_backslash : IsShort x text rest ⊎ IsLong x text rest
  behind_backslash = elim (cases_eq (escape_letter x) 0) [
    | inl none ↦ elim (cases_lt x 32) [
      | inl small ↦ inr (long none small)
      | inr large ↦
          let bare = none-letter none in
          let plain = escape_byte_plain x bare.0 bare.1 large in
          absurd (bare.1 (sym (head_of (is ∙ ap (λ (l : List ℕ). l ++ rest) plain))))
    ]
    | inr some ↦ inl (short (omega (arith, some)))
  ]

-- what stands in front without a backslash is the byte itself
pub bare_front : (x y : ℕ) (text rest : List ℕ) → (y ≡ 92 → ⊥) → y ∷ text ≡ escape_byte x ++ rest
    → (y ≡ x) × (text ≡ rest)
bare_front x y text rest other is = elim (cases_eq (escape_letter x) 0) [
  | inl none ↦
      elim (cases_lt x 32) [
        | inl small ↦ absurd (other (head_of (is ∙ ap (λ (l : List ℕ). l ++ rest) (long-byte x none small))))
        | inr large ↦
            let plain = escape_byte_plain x (λ q. absurd (omega (arith, sym none ∙ ap escape_letter q)))
            (λ s. absurd (omega (arith, sym none ∙ ap escape_letter s))) large in
            let whole = is ∙ ap (λ (l : List ℕ). l ++ rest) plain in (head_of whole, tail_of whole)
      ]
  | inr some ↦ absurd (other (head_of (is ∙ ap (λ (l : List ℕ). l ++ rest) (short-byte x (omega (arith, some))))))
]

-- nothing is no escape
pub no_escape : (x : ℕ) (rest : List ℕ) → [] ≡ escape_byte x ++ rest → ⊥
no_escape x rest is = elim (cases_eq (escape_letter x) 0) [
  | inl none ↦
      elim (cases_lt x 32) [
        | inl small ↦ no_cons (is ∙ ap (λ (l : List ℕ). l ++ rest) (long-byte x none small))
        | inr large ↦
            no_cons (is ∙ ap (λ (l : List ℕ). l ++ rest)
            (escape_byte_plain x (λ q. absurd (omega (arith, sym none ∙ ap escape_letter q)))
            (λ s. absurd (omega (arith, sym none ∙ ap escape_letter s))) large))
      ]
  | inr some ↦ no_cons (is ∙ ap (λ (l : List ℕ). l ++ rest) (short-byte x (omega (arith, some))))
]
  where
    no_cons : {a : ℕ} {s : List ℕ} → [] ≡ a ∷ s → ⊥
    no_cons e = absurd (omega (arith, ap length e))

pub no_escape_in : (text : List ℕ) → length text ≡ 0 → (x : ℕ) (rest : List ℕ) → text ≡ escape_byte x ++ rest → ⊥
no_escape_in [] none x rest is = no_escape x rest is
no_escape_in (y ∷ text) none x rest is = absurd (omega (arith, none))

-- ---- what is read behind a backslash

pub none_behind : (text : List ℕ) → length text ≡ 0 → (x : ℕ) (rest : List ℕ) → 92 ∷ text ≡ escape_byte x ++ rest → ⊥
none_behind text none x rest is = elim (behind_backslash x text rest is) [
  | inl s ↦ absurd (omega (arith, none, ap length s.is))
  | inr l ↦ absurd (omega (arith, none, ap length l.is))
]

pub short_behind : (text more : List ℕ) (letter : ℕ) → text ≡ letter ∷ more → (letter ≡ 117 → ⊥) → (x : ℕ)
    (rest : List ℕ)
    → 92 ∷ text ≡ escape_byte x ++ rest → (letter_byte letter ≡ x) × (more ≡ rest)
short_behind text more letter here other x rest is = elim (behind_backslash x text rest is) [
  | inl s ↦
      let e = sym here ∙ s.is in (ap letter_byte (head_of e) ∙ s.byte, tail_of e)
  | inr l ↦ absurd (other (head_of (sym here ∙ l.is)))
]

pub few_behind : (text more : List ℕ) (letter : ℕ) → text ≡ letter ∷ more → letter ≡ 117 → length more < 4 → (x : ℕ)
    (rest : List ℕ)
    → 92 ∷ text ≡ escape_byte x ++ rest → ⊥
few_behind text more letter here u few x rest is = elim (behind_backslash x text rest is) [
  | inl s ↦ absurd (s.other (sym (head_of (sym here ∙ s.is)) ∙ u))
  | inr l ↦ absurd (omega (arith, few, ap length (tail_of (sym here ∙ l.is))))
]

-- the last two of the four digits behind a u are those of the byte
pub record AreDigits (x : ℕ) (digits back rest : List ℕ) : Type 0 where
  pub small : x < 32
  pub high : get_or digits 2 0 ≡ digit_char (x / 16)
  pub low : get_or digits 3 0 ≡ digit_char (x % 16)
  pub behind : back ≡ rest

pub digits_behind : (text more digits back : List ℕ) (letter : ℕ) → text ≡ letter ∷ more → letter ≡ 117
    → digits ≡ take 4 more
    → back ≡ drop 4 more → (x : ℕ) (rest : List ℕ) → 92 ∷ text ≡ escape_byte x ++ rest → AreDigits x digits back rest
digits_behind text more digits back letter here u front after x rest is = elim (behind_backslash x text rest is) [
  | inl s ↦ absurd (s.other (sym (head_of (sym here ∙ s.is)) ∙ u))
  | inr l ↦
      let e = tail_of (sym here ∙ l.is) in
      let d = front ∙ ap (take 4) e in
      record {
        small = l.small;
        high = ap (λ (ds : List ℕ). get_or ds 2 0) d;
        low = ap (λ (ds : List ℕ). get_or ds 3 0) d;
        behind = after ∙ ap (drop 4) e;
      }
]

pub digits_byte : (x high low : ℕ) → x < 32 → high ≡ x / 16 → low ≡ x % 16
    → ((high * 16) % 256 + low) % 256 ≡ x
digits_byte x high low small h l = omega (arith, small, h, l)

pub high_below : (x : ℕ) → x < 32 → x / 16 < 16
high_below x small = omega (arith, small)

pub low_below : (x : ℕ) → x % 16 < 16
low_below x = omega arith

-- ---- the bytes of a string

pub unescaped_next : (s left bytes : List ℕ) (byte : ℕ) (rest : List ℕ)
    → (more : List ℕ) × (s ≡ bytes ++ more) × (left ≡ escape more) → length rest + 1 ≤ length left
    → ((x : ℕ) (r : List ℕ) → left ≡ escape_byte x ++ r → (byte ≡ x) × (rest ≡ r))
    → (more : List ℕ) × (s ≡ (bytes ++ byte ∷ []) ++ more) × (rest ≡ escape more)
unescaped_next s left bytes byte rest ([], e, is) fewer front = absurd (omega (arith, fewer, ap length is))
unescaped_next s left bytes byte rest (x ∷ more, e, is) fewer front =
    let f = front x (escape more) is in (
      more,
      e ∙ ap (λ (y : ℕ). bytes ++ y ∷ more) (sym f.0) ∙ sym (append_assoc bytes (byte ∷ []) more),
      f.1,
    )

pub unescaped_end : (s left bytes : List ℕ) → (more : List ℕ) × (s ≡ bytes ++ more) × (left ≡ escape more)
    → ((x : ℕ) (r : List ℕ) → left ≡ escape_byte x ++ r → ⊥) → bytes ≡ s
unescaped_end s left bytes ([], e, is) none = sym (e ∙ append-nil bytes)
unescaped_end s left bytes (x ∷ more, e, is) none = absurd (none x (escape more) is)
