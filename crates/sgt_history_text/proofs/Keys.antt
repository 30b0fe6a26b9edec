-- The texts of ids: one token each, and found among others.
use Rattle.std.proofs.Common.{◌≡◌, ℕ, ◌+◌, ◌<◌, List, [], ◌∷◌, ◌++◌, Option, Some, None, map, length, slice_get, take, refl, sym, ap, ◌∙◌, subst, arith}
use Rattle.std.specs.Prelude.{All, MatchOption, is_some, true, false}
use Rattle.std.proofs.lemmas.Bool.{false≢true}
use Rattle.std.proofs.lemmas.Option.{slice_get_within}
use Rattle.json.specs.Json.{Json, null, boolean, number, string, array, object}
use Rattle.json.specs.Lex.{tokens}
use Rattle.json.specs.Reads.{token_of}
use Rattle.json.specs.Token.{Token}
use Rattle.json.specs.Token as spec
use Rattle.json.specs.Tree.{HasNumbers, json_tokens}
use Rattle.json.specs.declared.token.Token as token
use Rattle.sgt_names.proofs.Lists.{map_at, tails, take_next}
use Rattle.sgt_names.proofs.Places.{All_at, slice_get-take}
use Rattle.sgt_history.specs.Serial.{StandOnce}
use Rattle.sgt_history_text.specs.Built.{AreKept}
use Rattle.sgt_history_text.specs.Ids.{AreIds, IsFoundAs, IsNoKey}
use Rattle.sgt_history_text.specs.Line.{IsTextOf}
use Rattle.sgt_history_text.specs.Name.{IsId, compact}
use Rattle.sgt_history_text.specs.Table.{IsInterned, IsNew, More, number_in}
use Rattle.sgt_history_text.specs.declared.table.Interned.{Interned}
use Rattle.sgt_history_text.specs.declared.table.Interned.TheVariants.{Old, New}
use Rattle.sgt_history_text.proofs.Kept.{kept_at, kept_new, key_numbers}
use Rattle.sgt_history_text.proofs.Trees.{same_tokens}
use Rattle.sgt_history_text.proofs.Fronts.{heads_are}
use Rattle.sgt_history_text.proofs.Objects.{no_tokens}

-- ---- one token

-- the token of an id
record IsToken (id : Json) : Type 0 where
  t : Token
  is : json_tokens id ≡ t ∷ []
  key : IsNoKey t → ⊥

token-of : (id : Json) → IsId id → IsToken id
token-of null k = absurd k
token-of (boolean b) k = absurd k
token-of (number s) k = record { t = spec.number s; is = refl; key = λ n. n }
token-of (string s) k = record { t = spec.string s; is = refl; key = λ n. n }
token-of (array js) k = absurd k
token-of (object ms) k = absurd k

module _ (ts : List Token) (id : Json) (is : IsId id) (text : ts ≡ json_tokens id) where
  pub no_token : ts ≡ [] → ⊥
  no_token none = let k = token-of id is in no_tokens k.t [] (sym k.is ∙ sym text ∙ none)

  module _ (t : Token) (new : List Token) (first : ts ≡ t ∷ new) where
    pub no_key : IsNoKey t → ⊥
    no_key none =
        let k = token-of id is in
        k.key (subst IsNoKey (heads_are t k.t new [] (sym first ∙ text ∙ k.is)) none)

    pub none_more : new ≡ []
    none_more = let k = token-of id is in tails t k.t new [] (sym first ∙ text ∙ k.is)

pub more_behind : (ts new : List Token) (t : Token) (id : Json) → IsId id → ts ≡ t ∷ new
    → (r : Option token.Token) (after : List Token) → true ≡ is_some r
    → MatchOption r ((new ≡ []) × (after ≡ [])) (λ u. new ≡ token_of u ∷ after) → ts ≡ json_tokens id → ⊥
more_behind ts new t id is first None after some next text = false≢true (sym some)
more_behind ts new t id is first (Some u) after some next text =
    no_tokens (token_of u) after (sym next ∙ none_more ts id is text t new first)

pub none_behind : (ts new : List Token) (t : Token) (j : Json) → ts ≡ t ∷ new → json_tokens j ≡ t ∷ []
    → (r : Option token.Token) (after : List Token)
    → false ≡ is_some r → MatchOption r ((new ≡ []) × (after ≡ [])) (λ u. new ≡ token_of u ∷ after) → ts ≡ json_tokens j
none_behind ts new t j first is None after none next = first ∙ ap (λ l. t ∷ l) next.0 ∙ sym is
none_behind ts new t j first is (Some u) after none next = absurd (false≢true none)

-- ---- among others

-- a line is a text of one value
pub same_text : (i j : Json) (line : List ℕ) → IsTextOf line i → IsTextOf line j → i ≡ j
same_text i j line a b = same_tokens i j (sym a.tokens_are ∙ b.tokens_are)

kept : (texts : List (List ℕ)) (ids : List Json) → AreIds texts ids → AreKept texts ids
kept texts ids are = record {
  texts_are = are.texts_are;
  once = are.once;
  writable = λ n j at. key_numbers 1 256 j (All_at IsId ids n j are.each at);
}

-- no two texts of ids are equal
pub texts-once : (texts : List (List ℕ)) (ids : List Json) → AreIds texts ids → StandOnce texts
texts-once texts ids are i j x at at' =
    let is = map_at compact ids i x (sym (ap (λ l. slice_get l i) are.texts_are) ∙ at) in
    let numbers = key_numbers 1 256 is.0 (All_at IsId ids i is.0 are.each is.1) in
    are.once i j is.0 is.1 (kept_at texts ids is.0 (kept texts ids are) numbers j (at' ∙ ap Some (sym is.2)))

module _ (texts : List (List ℕ)) (ids : List Json) (are : AreIds texts ids) (line text : List ℕ) (j : Json)
    (is : IsTextOf line j)
    (numbers : HasNumbers j) (same : text ≡ compact j) where
  pub found : (r : Option ℕ) → MatchOption r (IsNew texts text) (λ n. slice_get texts n ≡ Some text)
      → IsFoundAs ids line r
  found None new = λ n id at line_is.
      let one : id ≡ j = same_text id j line line_is is in
      kept_new texts ids j (kept texts ids are) numbers (subst (λ t. IsNew texts t) same new) n (at ∙ ap Some one)
  found (Some n) at = (j, kept_at texts ids j (kept texts ids are) numbers n (at ∙ ap Some same), is)

-- the next text more
pub interned-next : (names old new : List (List ℕ)) (n : ℕ) (text : List ℕ) (r : Interned) → StandOnce names
    → old ≡ take n names → slice_get names n ≡ Some text
    → IsInterned old text r new → new ≡ take (n + 1) names
interned-next names old new n text (Old k) once is at (there, same) =
    let before = slice_get-take names n k text (sym (ap (λ l. slice_get l k) is) ∙ there) in
    absurd (omega (arith, before.0, once k n text before.1 at))
interned-next names old new n text (New k) once is at (last, more, fresh) =
    more ∙ ap (λ l. l ++ text ∷ []) is ∙ sym (take_next names n text at)

-- what the map told of a text that no slot has
pub besides-known : (names : List (List ℕ)) (text : List ℕ) (r : Option ℕ) (more : More)
    → (((n : ℕ) → number_in more text ≡ Some n → slice_get names n ≡ Some text → ⊥) → IsNew names text)
    → MatchOption r ((n : ℕ) → number_in more text ≡ Some n → slice_get names n ≡ Some text
    → ⊥) (λ n. slice_get names n ≡ Some text)
    → MatchOption r (IsNew names text) (λ n. slice_get names n ≡ Some text)
besides-known names text None more new told = new told
besides-known names text (Some n) more new told = told
