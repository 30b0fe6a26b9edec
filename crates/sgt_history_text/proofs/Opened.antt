-- Objects and arrays that stand open within one another, the outermost first, and how they are passed over.
use Rattle.std.proofs.Common.{◌≡◌, Bool, true, false, List, [], ◌∷◌, ◌++◌, Some, None, refl, sym, subst}
use Rattle.json.specs.Token.{Token, begin_object, begin_array}
use Rattle.json.specs.Json.{Json}
use Rattle.json.specs.Tree.{json_tokens}
use Rattle.sgt_history_text.specs.Shallow.{Closes, Enters, IsFront, NoValue, bracket}
use Rattle.sgt_history_text.proofs.Fronts.{front_array, front_object, front_scalar}

-- all are closed there
abbrev pub AllClose : List Bool → List Token → List Token → Type 0
AllClose [] ts rest = ts ≡ rest
AllClose (b ∷ bs) ts rest = (mid : List Token) × AllClose bs ts mid × Closes b mid rest

all_on : (bs : List Bool) (b : Bool) (ts rest : List Token) → AllClose (bs ++ b ∷ []) ts rest
    → (mid : List Token) × Closes b ts mid × AllClose bs mid rest
all_on [] b ts rest (mid, e, c) = (rest, subst (λ t. Closes b t rest) (sym e) c, refl)
all_on (a ∷ bs) b ts rest (mid, all, c) = let k = all_on bs b ts mid all in (k.0, k.1, (mid, k.2, c))

all_back : (bs : List Bool) (b : Bool) (ts mid rest : List Token) → Closes b ts mid → AllClose bs mid rest
    → AllClose (bs ++ b ∷ []) ts rest
all_back [] b ts mid rest c e = (ts, refl, subst (λ t. Closes b ts t) e c)
all_back (a ∷ bs) b ts mid rest c (m, all, d) = (m, all_back bs b ts mid m c all, d)

-- what was open first is closed exactly where all that is open now are
pub record Skips (first : Bool) (start : List Token) (open_now : List Bool) (now : List Token) : Type 0 where
  pub on : (rest : List Token) → AllClose open_now now rest → Closes first start rest
  pub back : (rest : List Token) → Closes first start rest → AllClose open_now now rest

module _ (first : Bool) (start : List Token) where
  pub skips_first : Skips first start (first ∷ []) start
  skips_first = record {
    on = λ rest (mid, e, c). subst (λ t. Closes first t rest) (sym e) c;
    back = λ rest c. (start, refl, c);
  }

  module _ (bs : List Bool) (b : Bool) (old : List Token) (skips : Skips first start (bs ++ b ∷ []) old) where
    pub skips_closed : (new : List Token) → Enters b old new (Some true) → Skips first start bs new
    skips_closed new enters = record {
      on = λ rest all. skips.on rest (all_back bs b old new rest ((enters new).1 refl) all);
      back = λ rest c. (let k = all_on bs b old rest (skips.back rest c) in
          subst (λ t. AllClose bs t rest) (sym ((enters k.0).0 k.1)) k.2);
    }

    pub skips_fails : (new : List Token) → Enters b old new None → (rest : List Token) → Closes first start rest → ⊥
    skips_fails new enters rest c = let k = all_on bs b old rest (skips.back rest c) in enters k.0 k.1

    module _ (mid : List Token) (enters : Enters b old mid (Some false)) where
      pub skips_no_value : NoValue mid → (rest : List Token) → Closes first start rest → ⊥
      skips_no_value none rest c =
          let k = all_on bs b old rest (skips.back rest c) in
          let v = (enters k.0).0 k.1 in none v.0 v.1

      value_on : (now rest : List Token) → IsFront mid now → AllClose (bs ++ b ∷ []) now rest → Closes first start rest
      value_on now rest front all =
          let k = all_on bs b now rest all in
          skips.on rest (all_back bs b old k.0 rest ((enters k.0).1 (now, front, k.1)) k.2)

      value_back : (rest : List Token) → Closes first start rest → (now : List Token) × IsFront mid now
          × AllClose (bs ++ b ∷ []) now rest
      value_back rest c =
          let k = all_on bs b old rest (skips.back rest c) in
          let v = (enters k.0).0 k.1 in (v.0, v.1, all_back bs b v.0 k.0 rest v.2 k.2)

      pub skips_scalar : (new : List Token) (i : Json) → mid ≡ json_tokens i ++ new
          → Skips first start (bs ++ b ∷ []) new
      skips_scalar new i e = record {
        on = λ rest all. value_on new rest (i, e) all;
        back = λ rest c. (let k = value_back rest c in
            subst (λ t. AllClose (bs ++ b ∷ []) t rest) (sym ((front_scalar i mid new k.0 e).0 k.1)) k.2);
      }

      pub skips_object : (new : List Token) → mid ≡ begin_object ∷ new
          → Skips first start ((bs ++ b ∷ []) ++ true ∷ []) new
      skips_object new e = record {
        on = λ rest all. (let k = all_on (bs ++ b ∷ []) true new rest all in
            value_on k.0 rest (subst (λ t. IsFront t k.0) (sym e) ((front_object new k.0).1 k.1)) k.2);
        back = λ rest c. (let k = value_back rest c in
            all_back (bs ++ b ∷ []) true new k.0 rest ((front_object new k.0).0 (subst (λ t. IsFront t k.0) e k.1))
            k.2);
      }

      pub skips_array : (new : List Token) → mid ≡ begin_array ∷ new
          → Skips first start ((bs ++ b ∷ []) ++ false ∷ []) new
      skips_array new e = record {
        on = λ rest all. (let k = all_on (bs ++ b ∷ []) false new rest all in
            value_on k.0 rest (subst (λ t. IsFront t k.0) (sym e) ((front_array new k.0).1 k.1)) k.2);
        back = λ rest c. (let k = value_back rest c in
            all_back (bs ++ b ∷ []) false new k.0 rest ((front_array new k.0).0 (subst (λ t. IsFront t k.0) e k.1))
            k.2);
      }

      pub skips_bracket : (new : List Token) (x : Bool) → mid ≡ bracket x ∷ new
          → Skips first start ((bs ++ b ∷ []) ++ x ∷ []) new
      skips_bracket new true e = skips_object new e
      skips_bracket new false e = skips_array new e

  pub skips_end : (now : List Token) → Skips first start [] now → Closes first start now
  skips_end now skips = skips.on now refl
