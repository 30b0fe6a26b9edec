-- Options of a check, word by word.
use Rattle.std.proofs.Common.{◌≡◌, ◌<◌, ◌+◌, ◌∷◌, ◌++◌, ◌↔◌, ◌∙◌, ℕ, zero, suc, All, Any, Bool, true, false, IsTrue, List, Option, Some, None, [], Global, String, ap, arith, codes, get_or, inl, inr, length, map, refl, string_bytes, subst, sym, take}
use Rattle.std.specs.Prelude.{IfNone}
use Rattle.std.proofs.lemmas.List.{get_or-map, length-map, map_more}
use Rattle.std.proofs.lemmas.List.Elements.{All-get_or, All-nil, All-push}
use Rattle.std.proofs.lemmas.List.Quantifiers.{Any-push}
use Rattle.sgt_line.specs.declared.name.CommandName.TheVariants as command
use Rattle.sgt_command_line.specs.Check.{Has, IsCheckOption, SaysCheck}
use Rattle.sgt_command_line.specs.Words.{Says, command_of}
use Rattle.sgt_command_line.specs.declared.check.CheckWanted.{CheckWanted}
use Rattle.sgt_command_line.specs.declared.choice.Choice.{Choice}
use Rattle.sgt_command_line.specs.declared.choice.Choice.TheVariants.{Check}

module _ {A : Type 0} (P : A → Type 0) where
  any_later : (x : A) (xs : List A) → Any P xs → Any P (x ∷ xs)
  any_later x xs (k, y, within, at, holds) = (suc k, y, omega (arith, within), at, holds)

  any_more : (xs : List A) (x : A) → Any P xs → Any P (xs ++ (x ∷ []))
  any_more [] x (k, y, within, at, holds) = absurd (omega (arith, within))
  any_more (z ∷ zs) x (zero, y, within, at, holds) = (zero, y, omega arith, at, holds)
  any_more (z ∷ zs) x (suc k, y, within, at, holds) =
      any_later z _ (any_more zs x (k, y, omega (arith, within), at, holds))

  any_before : (xs : List A) (x : A) → (P x → ⊥) → Any P (xs ++ (x ∷ [])) → Any P xs
  any_before [] x other (zero, y, within, at, holds) = absurd (other (subst P (sym at) holds))
  any_before [] x other (suc k, y, within, at, holds) = absurd (omega (arith, within))
  any_before (z ∷ zs) x other (zero, y, within, at, holds) = (zero, y, omega arith, at, holds)
  any_before (z ∷ zs) x other (suc k, y, within, at, holds) =
      any_later z _ (any_before zs x other (k, y, omega (arith, within), at, holds))

module _ (w word : List ℕ) (options : List (List ℕ)) where
  -- the last word is it
  is_last : word ≡ w → IsTrue true ↔ Has w (options ++ (word ∷ []))
  is_last is = (λ yes. Any-push (λ o. o ≡ w) options word is, λ has. refl)

  -- the last word is another one
  is_other : (b : Bool) → (word ≡ w → ⊥) → IsTrue b ↔ Has w options → IsTrue b ↔ Has w (options ++ (word ∷ []))
  is_other b other both = (
    λ yes. any_more (λ o. o ≡ w) options word (both.0 yes),
    λ has. both.1 (any_before (λ o. o ≡ w) options word other has),
  )

-- no two options are of one length
apart : (v w word : List ℕ) → word ≡ v → (length v ≡ length w → ⊥) → word ≡ w → ⊥
apart v w word is other too = other (ap length (sym is ∙ too))

module _ (options : List (List ℕ)) (told : CheckWanted) (word : List ℕ) (says : SaysCheck options told) where
  pub with_order : word ≡ codes "--order" → SaysCheck (options ++ (word ∷ [])) (record told { order = true })
  with_order is = record {
    known = All-push IsCheckOption options word says.known (inl (inl is));
    order = is_last (codes "--order") word options is;
    real_time = is_other (codes "--real-time") word options told.real_time (apart _ _ word is (λ e. omega (arith, e))) says.real_time;
    sessions = is_other (codes "--sessions") word options told.sessions (apart _ _ word is (λ e. omega (arith, e))) says.sessions;
  }

  pub with_real_time : word ≡ codes "--real-time" → SaysCheck (options ++ (word ∷ [])) (record told { real_time = true })
  with_real_time is = record {
    known = All-push IsCheckOption options word says.known (inl (inr is));
    order = is_other (codes "--order") word options told.order (apart _ _ word is (λ e. omega (arith, e))) says.order;
    real_time = is_last (codes "--real-time") word options is;
    sessions = is_other (codes "--sessions") word options told.sessions (apart _ _ word is (λ e. omega (arith, e))) says.sessions;
  }

  pub with_sessions : word ≡ codes "--sessions" → SaysCheck (options ++ (word ∷ [])) (record told { sessions = true })
  with_sessions is = record {
    known = All-push IsCheckOption options word says.known (inr is);
    order = is_other (codes "--order") word options told.order (apart _ _ word is (λ e. omega (arith, e))) says.order;
    real_time = is_other (codes "--real-time") word options told.real_time (apart _ _ word is (λ e. omega (arith, e))) says.real_time;
    sessions = is_last (codes "--sessions") word options is;
  }

module _ (words : List (String Global)) (n : ℕ) (x : String Global) (within : n < length words)
    (at : x ≡ get_or words n x) where
  -- the words with one more
  pub words_more : map string_bytes (take n words) ++ (string_bytes x ∷ []) ≡ map string_bytes (take (n + 1) words)
  words_more = ap (λ (w : String Global). map string_bytes (take n words) ++ (string_bytes w ∷ [])) at
      ∙ sym (map_more string_bytes words n x within)

  -- a word that is no option
  pub no_option : (IsCheckOption (string_bytes x) → ⊥) → All IsCheckOption (map string_bytes words) → ⊥
  no_option other all =
      let here : get_or (map string_bytes words) n (string_bytes x) ≡ string_bytes x =
      get_or-map string_bytes words n x (string_bytes x) within ∙ ap string_bytes (sym at) in
      other (subst IsCheckOption here (All-get_or IsCheckOption (map string_bytes words) n (string_bytes x)
      (omega (arith, within, length-map words string_bytes)) all))

-- a word that is none of the options
pub neither : (word : List ℕ) → (word ≡ codes "--order" → ⊥) → (word ≡ codes "--real-time" → ⊥) → (word ≡ codes "--sessions" → ⊥) → IsCheckOption word → ⊥
neither word a b c (inl (inl is)) = a is
neither word a b c (inl (inr is)) = b is
neither word a b c (inr is) = c is

-- what holds at all holds where nothing is found
pub on_none : {A : Type 0} (o : Option A) (P : Type 0) → P → IfNone o P
on_none None P p = p
on_none (Some a) P p = tt

-- a thing is wanted or not, as its word stands there or not
same : (a b : Bool) (S : Type 0) → IsTrue a ↔ S → IsTrue b ↔ S → a ≡ b
same true true S one other = refl
same true false S one other = absurd (let bad = other.1 (one.0 refl) in cc)
same false true S one other = absurd (let bad = one.1 (other.0 refl) in cc)
same false false S one other = refl

-- the options say one thing
pub checked : (options : List (List ℕ)) (told : CheckWanted) → SaysCheck options told → (choice : Choice)
    → command_of choice ≡ command.Check
    → Says options choice → Some (Check told) ≡ Some choice
checked options told says (Check wanted) is wants =
    let order = same told.order wanted.order _ says.order wants.order in
    let real_time = same told.real_time wanted.real_time _ says.real_time wants.real_time in
    let sessions = same told.sessions wanted.sessions _ says.sessions wants.sessions in
    ap (λ (x : Bool). Some (Check (record { order = x; real_time = told.real_time; sessions = told.sessions }))) order
    ∙ ap (λ (x : Bool). Some (Check (record { order = wanted.order; real_time = x; sessions = told.sessions })))
    real_time
    ∙ ap (λ (x : Bool). Some (Check (record { order = wanted.order; real_time = wanted.real_time; sessions = x })))
    sessions
checked options told says choice is wants = absurd cc
