-- Texts that are found stay found, where one more comes in.
use Rattle.std.proofs.Common.{suc, zero, ◌≡◌, ◌⊎◌, inl, inr, ⊎_elim, ℕ, ◌+◌, ◌-◌, ◌<◌, ◌≤◌, List, [], ◌∷◌, ◌++◌, length, slice_get, slice_set, Some, None, cond, Bool, true, false, refl, ap, sym, ◌∙◌, subst, arith, length-append}
use Rattle.std.specs.Int.Bits.{bit_and}
use Rattle.std.specs.Ordering.{is_eq, match_ordering, nat_cmp}
use Rattle.std.specs.declared.cmp.Ordering.{Ordering}
use Rattle.std.specs.declared.cmp.Ordering.TheVariants.{Less, Equal, Greater}
use Rattle.std.specs.BTreeMap.{insert_entry, get_by}
use Rattle.std.specs.Cmp.Lexicographic.{slice_cmp}
use Rattle.std.specs.Global.{Vec}
use Rattle.std.specs.Map.{lookup}
use Rattle.std.proofs.lemmas.Map.Lookups.{exact_bytes}
use Rattle.std.proofs.lemmas.Map.Text.{is_eq-slice_cmp}
use Rattle.std.proofs.lemmas.Slice.Eq.{bytes_eq-Decides}
use Rattle.std.specs.Str.{bytes_eq}
use Rattle.std.proofs.lemmas.Option.{slice_get_within}
use Rattle.std.proofs.lemmas.Bool.{cases_lt}
use Rattle.sgt_history.specs.Serial.{StandOnce}
use Rattle.sgt_history_text.specs.declared.table.Place.TheVariants.{Free, Crowded}
use Rattle.sgt_history_text.specs.Table.{start_of, probe, More, number_in, AreKnown, AreFound, EndsAt, IsBesides, IsNew, IsPassed, IsPlaced, IsTable, IsTaken, KeepsOthers}
use Rattle.sgt_names.proofs.Elements.{get-push_cases, get-push_last, get-slice_set_other, get-slice_set_same, length-slice_set}

-- ---- lists

pub get-push_before : {A : Type 0} (xs : List A) (y : A) (i : ℕ) → i < length xs
    → slice_get (xs ++ y ∷ []) i ≡ slice_get xs i
get-push_before [] y i h = absurd (omega arith)
get-push_before (x ∷ xs) y zero h = refl
get-push_before (x ∷ xs) y (suc i) h = get-push_before xs y i (omega arith)

pub once-push : {A : Type 0} (xs : List A) (y : A) → StandOnce xs → ((n : ℕ) → slice_get xs n ≡ Some y → ⊥)
    → StandOnce (xs ++ y ∷ [])
once-push xs y once new i j x e f =
    ⊎_elim
    (λ g. ⊎_elim (λ h. once i j x g h) (λ h. absurd (new i (g ∙ ap Some (sym h.1)))) (get-push_cases xs y j x f))
    (λ g. ⊎_elim (λ h. absurd (new j (h ∙ ap Some (sym g.1)))) (λ h. g.0 ∙ sym h.0) (get-push_cases xs y j x f))
    (get-push_cases xs y i x e)

-- ---- a slot that was free

different : (n m : ℕ) → Some (suc n) ≡ Some m → m ≡ 0 → ⊥
different n m e z = absurd cc

module _ (slots : List ℕ) (slot value : ℕ) (free : slice_get slots slot ≡ Some 0) where
  pub probe-set : (text : List ℕ) (try : ℕ) → probe (slice_set slots slot value) text try ≡ probe slots text try
  probe-set text try = ap (λ n. bit_and (start_of text + try) (n - 1)) (length-slice_set slots slot value)

  -- a number stays where it is
  taken-set : (place n : ℕ) → slice_get slots place ≡ Some (suc n)
      → slice_get (slice_set slots slot value) place ≡ Some (suc n)
  taken-set place n e =
      get-slice_set_other slots slot place value (λ same. different n 0 (sym e ∙ ap (slice_get slots) same
      ∙ free) refl) ∙ e

  there-set : (text : List ℕ) (try n : ℕ) → slice_get slots (probe slots text try) ≡ Some (suc n)
      → slice_get (slice_set slots slot value) (probe (slice_set slots slot value) text try) ≡ Some (suc n)
  there-set text try n e = ap (slice_get (slice_set slots slot value)) (probe-set text try)
      ∙ taken-set (probe slots text try) n e

  passed-set : (names : List (List ℕ)) (text : List ℕ) (try : ℕ) → IsPassed names slots text try
      → IsPassed names (slice_set slots slot value) text try
  passed-set names text try p =
      record { number = p.number; known = p.known; taken = there-set text try p.number p.taken; other = p.other }

  placed-set : (names : List (List ℕ)) (text : List ℕ) (number : ℕ) → IsPlaced names slots text number
      → IsPlaced names (slice_set slots slot value) text number
  placed-set names text number p = record {
    try = p.try;
    soon = p.soon;
    there = there-set text p.try number p.there;
    passed = λ k h. passed-set names text k (p.passed k h);
  }

  besides-set : (more : More) (text : List ℕ) (number : ℕ) → IsBesides slots more text number
      → IsBesides (slice_set slots slot value) more text number
  besides-set more text number b = record {
    crowded = λ try h. (let t = b.crowded try h in (t.0, there-set text try t.0 t.1));
    there = b.there;
  }

  pub found-set : (count : ℕ) (names : List (List ℕ)) (more : More) → AreFound count names slots more
      → AreFound count names (slice_set slots slot value) more
  found-set count names more found number text h there =
      ⊎_elim (λ p. inl (placed-set names text number p)) (λ b. inr (besides-set more text number b))
      (found number text h there)

  pub known-set : (count : ℕ) → AreKnown count slots → value ≤ count → AreKnown count (slice_set slots slot value)
  known-set count known le place number e =
      ⊎_elim
      (λ (same : place ≡ slot). (let there =
      sym (get-slice_set_same slots slot value (slice_get_within slots slot 0 free))
      ∙ ap (slice_get (slice_set slots slot value)) (sym same) ∙ e in
      let n : value ≡ suc number = cc in omega arith))
      (λ (apart : place ≡ slot → ⊥). known place number (sym (get-slice_set_other slots slot place value apart) ∙ e))
      (decided place slot)
    where
      decided : (a b : ℕ) → (a ≡ b) ⊎ (a ≡ b → ⊥)
      decided a b =
          ⊎_elim (λ (h : a < b). inr (λ e. omega arith))
          (λ (h : b ≤ a). ⊎_elim (λ (k : b < a). inr (λ e. omega arith)) (λ (k : a ≤ b). inl (omega arith))
          (cases_lt b a)) (cases_lt a b)

  -- the new number is found there
  pub placed_here : (names : List (List ℕ)) (text : List ℕ) (number try : ℕ) → value ≡ suc number → try < 64
      → slot ≡ probe slots text try
      → ((k : ℕ) → k < try → IsPassed names slots text k) → IsPlaced names (slice_set slots slot value) text number
  placed_here names text number try e soon at passed = record {
    try = try;
    soon = soon;
    there = ap (slice_get (slice_set slots slot value)) (probe-set text try ∙ sym at)
        ∙ get-slice_set_same slots slot value (slice_get_within slots slot 0 free) ∙ ap Some e;
    passed = λ k h. passed-set names text k (passed k h);
  }

-- ---- a text more

module _ (names : List (List ℕ)) (text : List ℕ) where
  passed-push : (slots other : List ℕ) (try : ℕ) → IsPassed names slots other try
      → IsPassed (names ++ text ∷ []) slots other try
  passed-push slots other try p = record {
    number = p.number;
    known = omega (arith, p.known, length-append names (text ∷ []));
    taken = p.taken;
    other = λ e. p.other (sym (get-push_before names text p.number p.known) ∙ e);
  }

  placed-push : (slots other : List ℕ) (number : ℕ) → IsPlaced names slots other number
      → IsPlaced (names ++ text ∷ []) slots other number
  placed-push slots other number p = record {
    try = p.try;
    soon = p.soon;
    there = p.there;
    passed =
        λ k h. passed-push slots other k (p.passed k h);
  }

  pub found-push : (count : ℕ) (slots : List ℕ) (more : More) → count ≤ length names → AreFound count names slots more
      → AreFound count (names ++ text ∷ []) slots more
  found-push count slots more le found number other h there =
      ⊎_elim (λ p. inl (placed-push slots other number p)) (λ b. inr b)
      (found number other h (sym (get-push_before names text number (omega arith)) ∙ there))

  pub known-push : (slots : List ℕ) → AreKnown (length names) slots → AreKnown (length (names ++ text ∷ [])) slots
  known-push slots known slot number e = omega (arith, known slot number e, length-append names (text ∷ []))

  pub passed_all-push : (slots other : List ℕ) (most : ℕ) → ((k : ℕ) → k < most → IsPassed names slots other k)
      → (k : ℕ) → k < most → IsPassed (names ++ text ∷ []) slots other k
  passed_all-push slots other most passed k h = passed-push slots other k (passed k h)

-- found below, and the next
pub found-next : (count : ℕ) (names : List (List ℕ)) (slots : List ℕ) (more : More) (text : List ℕ)
    → AreFound count names slots more
    → slice_get names count ≡ Some text → IsPlaced names slots text count ⊎ IsBesides slots more text count
    → AreFound (suc count) names slots more
found-next count names slots more text found there one number other h e =
    ⊎_elim (λ (below : number < count). found number other below e)
    (λ (k : count ≤ number). (let same : number ≡ count = omega arith in
    let texts : Some other ≡ Some text = sym e ∙ ap (slice_get names) same ∙ there in
    let is : text ≡ other = cc in
    subst (λ n. IsPlaced names slots other n ⊎ IsBesides slots more other n) (sym same)
    (subst (λ t. IsPlaced names slots t count ⊎ IsBesides slots more t count) is one)))
    (cases_lt number count)

-- ---- what the tries tell

numbers_meet : (slots : List ℕ) (place n m : ℕ) → slice_get slots place ≡ Some (suc n)
    → slice_get slots place ≡ Some m → m ≡ suc n
numbers_meet slots place n m e f = cc

-- where they end at a free slot, no text is this one
pub new_from_free : (names : List (List ℕ)) (slots : List ℕ) (more : More) (text : List ℕ) (slot : ℕ)
    → IsTable names slots more
    → EndsAt names slots text (Free slot) → IsNew names text
new_from_free names slots more text slot t (try, soon, at, free, passed) n there =
    let at_try = ap (slice_get slots) (sym at) ∙ free in
    ⊎_elim
    (λ (p : IsPlaced names slots text n).
    ⊎_elim (λ (early : p.try < try). (let k = passed p.try early in
    let same : suc n ≡ suc k.number = numbers_meet slots _ k.number (suc n) k.taken p.there in
    k.other (ap (slice_get names) (omega arith) ∙ there)))
    (λ (late : try ≤ p.try).
    ⊎_elim (λ (before : try < p.try). (let k = p.passed try before in different k.number 0 (sym k.taken ∙ at_try) refl))
    (λ (not : p.try ≤ try). (let e : p.try ≡ try = omega arith in
    different n 0 (sym p.there ∙ ap (λ k. slice_get slots (probe slots text k)) e ∙ at_try) refl))
    (cases_lt try p.try))
    (cases_lt p.try try))
    (λ (b : IsBesides slots more text n). (let k = b.crowded try soon in different k.0 0 (sym k.1 ∙ at_try) refl))
    (t.found n text (slice_get_within names n text there) there)

-- where all are taken, it has its number in the map, if it has one
pub new_from_crowded : (names : List (List ℕ)) (slots : List ℕ) (more : More) (text : List ℕ) → IsTable names slots more
    → EndsAt names slots text Crowded → ((n : ℕ) → number_in more text ≡ Some n → slice_get names n ≡ Some text → ⊥)
    → IsNew names text
new_from_crowded names slots more text t passed none n there =
    ⊎_elim
    (λ (p : IsPlaced names slots text n). (let k = passed p.try p.soon in
    let same : suc n ≡ suc k.number = numbers_meet slots _ k.number (suc n) k.taken p.there in
    k.other (ap (slice_get names) (omega arith) ∙ there)))
    (λ (b : IsBesides slots more text n). none n b.there there)
    (t.found n text (slice_get_within names n text there) there)

-- ---- a table with one more text

pub table-with_slot : (names : List (List ℕ)) (slots : List ℕ) (more : More) (text : List ℕ) (slot : ℕ)
    → length names + 1 < 4294967296 → IsTable names slots more
    → EndsAt names slots text (Free slot) → IsTable (names ++ text ∷ []) (slice_set slots slot (length names + 1)) more
table-with_slot names slots more text slot few t (try, soon, at, free, passed) =
    let new = new_from_free names slots more text slot t (try, soon, at, free, passed) in
    let longer : length (names ++ text ∷ []) ≡ suc (length names) = omega (arith, length-append names (text ∷ [])) in
    let value = length names + 1 in
    let next : value ≡ suc (length names) = omega arith in
    let found = found-set slots slot value free (length names) (names ++ text ∷ []) more
    (found-push names text (length names) slots more (omega arith) t.found) in
    let here = placed_here slots slot value free (names ++ text ∷ []) text (length names) try next soon at
    (passed_all-push names text slots text try passed) in
    record {
      some = omega (arith, t.some, length-slice_set slots slot value);
      few = omega arith;
      once = once-push names text t.once new;
      known = known-set slots slot value free _ (known-push names text slots t.known) (omega arith);
      found = subst (λ n. AreFound n (names ++ text ∷ []) (slice_set slots slot value) more) (sym longer)
          (found-next (length names) (names ++ text ∷ []) (slice_set slots slot value) more text found
          (get-push_last names text) (inl here));
    }

-- ---- a map with one more text

abbrev compared : Vec ℕ → Vec ℕ → Ordering
compared x y = slice_cmp nat_cmp x.items y.items

-- the test by which a text is looked up
abbrev is_of : List ℕ → Vec ℕ → Bool
is_of text key = is_eq (slice_cmp nat_cmp text key.items)

module _ (text : List ℕ) (key : Vec ℕ) (value : ℕ) (apart : is_of text key ≡ false) where
  by_order : (e : Vec ℕ × ℕ) (es : List (Vec ℕ × ℕ))
      → lookup (is_of text) (insert_entry compared es key value) ≡ lookup (is_of text) es
      → (o : Ordering) → compared key e.0 ≡ o
      → lookup (is_of text) (match_ordering o ((key, value) ∷ e ∷ es) ((e.0, value) ∷ es)
      (e ∷ insert_entry compared es key value)) ≡ lookup (is_of text) (e ∷ es)
  by_order e es more Less is = ap (λ b. cond b (Some value) (lookup (is_of text) (e ∷ es))) apart
  by_order e es more Equal is =
      let other : is_of text e.0 ≡ false =
      ap (λ l. is_eq (slice_cmp nat_cmp text l)) (sym (exact_bytes key.items e.0.items is)) ∙ apart in
      ap (λ b. cond b (Some value) (lookup (is_of text) es)) other
      ∙ sym (ap (λ b. cond b (Some e.1) (lookup (is_of text) es)) other)
  by_order e es more Greater is = ap (λ l. cond (is_of text e.0) (Some e.1) l) more

  lookup-insert_other : (es : List (Vec ℕ × ℕ))
      → lookup (is_of text) (insert_entry compared es key value) ≡ lookup (is_of text) es
  lookup-insert_other [] = ap (λ b. cond b (Some value) None) apart
  lookup-insert_other (e ∷ es) = by_order e es (lookup-insert_other es) (compared key e.0) refl

is_of-false : (text : List ℕ) (key : Vec ℕ) → (key.items ≡ text → ⊥) → is_of text key ≡ false
is_of-false text key apart =
    let same = is_eq-slice_cmp text key.items in
    let decides = bytes_eq-Decides text key.items in
    same ∙ not_true (bytes_eq text key.items) (λ e. apart (sym (decides.0 e)))
  where
    not_true : (b : Bool) → (b ≡ true → ⊥) → b ≡ false
    not_true true h = absurd (h refl)
    not_true false h = refl

-- other texts keep their numbers
pub number-insert_other : (text : List ℕ) (key : Vec ℕ) (value : ℕ) (old new : More)
    → new.entries ≡ insert_entry compared old.entries key value
    → (key.items ≡ text → ⊥) → number_in new text ≡ number_in old text
number-insert_other text key value old new e apart =
    ap (lookup (is_of text)) e ∙ lookup-insert_other text key value (is_of-false text key apart) old.entries

besides-keep : (slots : List ℕ) (old new : More) (fresh text : List ℕ) (number : ℕ) → KeepsOthers old new fresh
    → (text ≡ fresh → ⊥) → IsBesides slots old text number → IsBesides slots new text number
besides-keep slots old new fresh text number keeps apart b = record {
  crowded = b.crowded;
  there = keeps text apart
      ∙ b.there;
}

-- texts that were found are found still
pub found-keep : (count : ℕ) (names : List (List ℕ)) (slots : List ℕ) (old new : More) (fresh : List ℕ)
    → KeepsOthers old new fresh
    → ((number : ℕ) → number < count → slice_get names number ≡ Some fresh → ⊥) → AreFound count names slots old
    → AreFound count names slots new
found-keep count names slots old new fresh keeps apart found number text h there =
    ⊎_elim (λ p. inl p)
    (λ b. inr (besides-keep slots old new fresh text number keeps (λ is. apart number h (there ∙ ap Some is)) b))
    (found number text h there)

pub taken_from_passed : (names : List (List ℕ)) (slots text : List ℕ) → EndsAt names slots text Crowded → (try : ℕ)
    → try < 64 → IsTaken slots text try
taken_from_passed names slots text passed try h = let p = passed try h in (p.number, p.taken)

-- a table whose map has one more text, which its names don't have yet
pub table-keep : (names : List (List ℕ)) (slots : List ℕ) (old new : More) (text : List ℕ) → KeepsOthers old new text
    → IsNew names text
    → IsTable names slots old → IsTable names slots new
table-keep names slots old new text keeps fresh t = record {
  some = t.some;
  few = t.few;
  once = t.once;
  known = t.known;
  found = found-keep (length names) names slots old new text keeps (λ n h there. fresh n there) t.found;
}

pub table-with_besides : (names : List (List ℕ)) (slots : List ℕ) (new : More) (text : List ℕ)
    → length names + 1 < 4294967296 → IsTable names slots new → IsNew names text
    → EndsAt names slots text Crowded → number_in new text ≡ Some (length names)
    → IsTable (names ++ text ∷ []) slots new
table-with_besides names slots new text few t fresh passed there =
    let longer : length (names ++ text ∷ []) ≡ suc (length names) = omega (arith, length-append names (text ∷ [])) in
    record {
      some = t.some;
      few = omega arith;
      once = once-push names text t.once fresh;
      known = known-push names text slots t.known;
      found = subst (λ n. AreFound n (names ++ text ∷ []) slots new) (sym longer)
          (found-next (length names) (names ++ text ∷ []) slots new text
          (found-push names text (length names) slots new (omega arith) t.found) (get-push_last names text)
          (inr (record { crowded = taken_from_passed names slots text passed; there = there })));
    }

-- ---- one of the names that there are is placed

pub found-placed : (count : ℕ) (names : List (List ℕ)) (slots : List ℕ) (more : More) (text : List ℕ) (number : ℕ)
    → StandOnce names
    → slice_get names count ≡ Some text → AreFound count names slots more → slice_get names number ≡ Some text
    → IsPlaced names slots text number
    → AreFound (count + 1) names slots more
found-placed count names slots more text number once there found at p =
    let same = once number count text at there in
    subst (λ n. AreFound n names slots more) (omega arith)
    (found-next count names slots more text found there (inl (subst (IsPlaced names slots text) same p)))

pub found-with_slot : (count : ℕ) (names : List (List ℕ)) (slots : List ℕ) (more : More) (text : List ℕ) (slot : ℕ)
    → slice_get names count ≡ Some text → AreFound count names slots more → EndsAt names slots text (Free slot)
    → AreFound (count + 1) names (slice_set slots slot (count + 1)) more
found-with_slot count names slots more text slot there found (try, soon, at, free, passed) =
    let value = count + 1 in
    let next : value ≡ suc count = omega arith in
    subst (λ n. AreFound n names (slice_set slots slot value) more) (sym next)
    (found-next count names (slice_set slots slot value) more text
    (found-set slots slot value free count names more found) there
    (inl (placed_here slots slot value free names text count try next soon at passed)))

pub found-with_besides : (count : ℕ) (names : List (List ℕ)) (slots : List ℕ) (old new : More) (text : List ℕ)
    → StandOnce names
    → slice_get names count ≡ Some text → KeepsOthers old new text → AreFound count names slots old
    → EndsAt names slots text Crowded
    → number_in new text ≡ Some count → AreFound (count + 1) names slots new
found-with_besides count names slots old new text once there keeps found passed is =
    let apart : (n : ℕ) → n < count → slice_get names n ≡ Some text
    → ⊥ = λ n h e. (let same = once n count text e there in omega arith) in
    subst (λ n. AreFound n names slots new) (omega arith)
    (found-next count names slots new text (found-keep count names slots old new text keeps apart found) there
    (inr (record { crowded = taken_from_passed names slots text passed; there = is })))
