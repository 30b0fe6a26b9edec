-- A line whose object was read, or that is no object.
use Rattle.std.proofs.Common.{◌≡◌, Bool, true, false, List, [], ◌∷◌, ◌++◌, Option, Some, None, sym, ap, ◌∙◌, subst}
use Rattle.std.specs.Prelude.{is_some, MatchOption}
use Rattle.std.proofs.lemmas.Bool.{false≢true}
use Rattle.std.proofs.lemmas.List.{append-nil}
use Rattle.json.specs.Token.{Token, begin_object, begin_array}
use Rattle.json.specs.Json.{Json, Members, object}
use Rattle.json.specs.Reads.{token_of}
use Rattle.json.specs.Tree.{json_tokens, members_tokens}
use Rattle.json.specs.declared.token.Token as token
use Rattle.sgt_names.proofs.Lists.{tails}
use Rattle.sgt_history_text.specs.Shallow.{Closes, IsScalar, NoValue, bracket}
use Rattle.sgt_history_text.proofs.Fronts.{same_front}

brackets : (ts us : List Token) → begin_array ∷ ts ≡ begin_object ∷ us → ⊥
brackets ts us e = absurd cc

pub no_tokens : (t : Token) (ts : List Token) → t ∷ ts ≡ [] → ⊥
no_tokens t ts e = cc

-- with nothing behind it
alone : (ts : List Token) (j : Json) → ts ≡ json_tokens j → ts ≡ json_tokens j ++ []
alone ts j e = e ∙ sym (append-nil (json_tokens j))

pub none_first : (ts : List Token) (ms : Members) → NoValue ts → ts ≡ json_tokens (object ms) → ⊥
none_first ts ms none e = none [] (object ms, alone ts (object ms) e)

pub scalar_first : (ts new : List Token) (j : Json) (ms : Members) → (ts ≡ json_tokens j ++ new) × IsScalar j
    → ts ≡ json_tokens (object ms) → ⊥
scalar_first ts new j ms (is, s) e =
    subst IsScalar (same_front j (object ms) new [] (sym is ∙ alone ts (object ms) e)).0 s

module _ (ts mid : List Token) (first : ts ≡ begin_object ∷ mid) where
  members_are : (ms : Members) → ts ≡ json_tokens (object ms) → Closes true mid []
  members_are ms e =
      (ms, tails begin_object begin_object mid (members_tokens ms ++ []) (sym first ∙ alone ts (object ms) e))

  pub no_members_first : (ms : Members) → ((rest : List Token) → Closes true mid rest → ⊥)
      → ts ≡ json_tokens (object ms) → ⊥
  no_members_first ms none e = none [] (members_are ms e)

  module _ (ns : Members) (new : List Token) (read : mid ≡ members_tokens ns ++ new) where
    whole : ts ≡ json_tokens (object ns) ++ new
    whole = first ∙ ap (λ l. begin_object ∷ l) read

    pub more_behind : (ms : Members) (r : Option token.Token) (after : List Token) → true ≡ is_some r
        → MatchOption r ((new ≡ []) × (after ≡ [])) (λ t. new ≡ token_of t ∷ after) → ts ≡ json_tokens (object ms) → ⊥
    more_behind ms None after some next e = false≢true (sym some)
    more_behind ms (Some t) after some next e =
        no_tokens (token_of t) after (sym next
        ∙ (same_front (object ns) (object ms) new [] (sym whole ∙ alone ts (object ms) e)).1)

    pub none_behind : (r : Option token.Token) (after : List Token) → false ≡ is_some r
        → MatchOption r ((new ≡ []) × (after ≡ [])) (λ t. new ≡ token_of t ∷ after) → ts ≡ json_tokens (object ns)
    none_behind None after none next = whole ∙ ap (λ l. json_tokens (object ns) ++ l) next.0
        ∙ append-nil (json_tokens (object ns))
    none_behind (Some t) after none next = absurd (false≢true none)

-- what stands first is a bracket, and an object's
pub opens_object : (ts mid : List Token) (b : Bool) → ts ≡ bracket b ∷ mid → b ≡ true → ts ≡ begin_object ∷ mid
opens_object ts mid b e is = e ∙ ap (λ k. bracket k ∷ mid) is
