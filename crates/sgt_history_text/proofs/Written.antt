-- Tokens between two places: one part behind another, with a gap in front, with none.
use Rattle.std.proofs.Common.{◌≡◌, ℕ, ◌≤◌, Bool, true, false, cond, List, [], ◌∷◌, ◌++◌, length, map, refl, sym, ap, ap₂, ◌∙◌, subst, append_assoc}
use Rattle.std.proofs.lemmas.List.{map-append}
use Rattle.json.specs.Json.{Json, null, boolean, number, string, array, object}
use Rattle.json.specs.Print.{begins, ends, print_from, separator, token_text}
use Rattle.json.specs.Spaced.{AreGaps, print_spaced}
use Rattle.json.specs.Token.{Token}
use Rattle.json.specs.Token as token
use Rattle.json.specs.Tree.{json_tokens}
use Rattle.json.proofs.Printed.Tokens.{IsGap-append}
use Rattle.sgt_notation.specs.Private.{Spans}
use Rattle.sgt_history_text.specs.Name.{IsKey, IsValue, compact}
use Rattle.sgt_history_text.specs.Written.{AreWritten, IsLead, ended_by}
use Rattle.sgt_history_text.proofs.PlainTexts.{spans_then}

-- ---- none

pub spans_none : (bytes : List ℕ) (at : ℕ) → at ≤ length bytes → Spans bytes at [] at
spans_none bytes at within = record { within = within; reads = refl }

pub written_none : (bytes : List ℕ) (at : ℕ) (c : Bool) → at ≤ length bytes → AreWritten bytes at c [] at
unfolding print_spaced
written_none bytes at c within = record { spaced = []; gaps = tt; tokens_are = refl; text = spans_none bytes at within }

pub lead_none : (bytes : List ℕ) (at : ℕ) → at ≤ length bytes → IsLead bytes at false at
lead_none bytes at within = record { gap = []; is_gap = tt; text = spans_none bytes at within }

pub lead_comma : (bytes : List ℕ) (a b d : ℕ) → Spans bytes a (44 ∷ []) b → IsLead bytes b false d → IsLead bytes a true d
lead_comma bytes a b d comma lead = record {
  gap = lead.gap;
  is_gap = lead.is_gap;
  text = spans_then bytes (44 ∷ []) lead.gap a b d comma lead.text;
}

-- ---- one part behind another

print_append : (c : Bool) (ps qs : List (List ℕ × Token))
    → print_spaced c (ps ++ qs) ≡ print_spaced c ps ++ print_spaced (ended_by c (map (λ p. p.1) ps)) qs
unfolding print_spaced
print_append c [] qs = refl
print_append c (p ∷ ps) qs =
    let rest = print_spaced (ends p.1) ps in
    let more = print_spaced (ended_by (ends p.1) (map (λ p. p.1) ps)) qs in
    ap (λ t. separator c p.1 ++ (p.0 ++ (token_text p.1 ++ t))) (print_append (ends p.1) ps qs)
    ∙ sym (append_assoc (separator c p.1) _ more
    ∙ ap (λ t. separator c p.1 ++ t) (append_assoc p.0 _ more
    ∙ ap (λ t. p.0 ++ t) (append_assoc (token_text p.1) rest more)))

gaps_append : (ps qs : List (List ℕ × Token)) → AreGaps ps → AreGaps qs → AreGaps (ps ++ qs)
gaps_append [] qs h k = k
gaps_append (p ∷ ps) qs h k = (h.0, gaps_append ps qs h.1 k)

pub written_then : (bytes : List ℕ) (a b d : ℕ) (c : Bool) (ts us : List Token) → AreWritten bytes a c ts b
    → AreWritten bytes b (ended_by c ts) us d → AreWritten bytes a c (ts ++ us) d
written_then bytes a b d c ts us first second = record {
  spaced = first.spaced ++ second.spaced;
  gaps = gaps_append first.spaced second.spaced first.gaps second.gaps;
  tokens_are = map-append (λ p. p.1) first.spaced second.spaced
      ∙ ap₂ (λ xs ys. xs ++ ys) first.tokens_are second.tokens_are;
  text = subst (λ t. Spans bytes a t d) (sym (print_append c first.spaced second.spaced))
      (spans_then bytes _ _ a b d first.text
      (subst (λ e. Spans bytes b (print_spaced (ended_by c e) second.spaced) d) (sym first.tokens_are) second.text));
}

-- ---- a gap in front

separator_begins : (c : Bool) (t : Token) → begins t ≡ true → separator c t ≡ cond c (44 ∷ []) []
separator_begins true t is = ap (λ b. cond b (44 ∷ []) []) is
separator_begins false t is = refl

led_spaced : (bytes : List ℕ) (k a b : ℕ) (c : Bool) (t : Token) (ts : List Token) (spaced : List (List ℕ × Token))
    → AreGaps spaced → map (λ p. p.1) spaced ≡ t ∷ ts → Spans bytes a (print_spaced false spaced) b
    → begins t ≡ true → IsLead bytes k c a → AreWritten bytes k c (t ∷ ts) b
unfolding print_spaced
led_spaced bytes k a b c t ts [] gaps e text is lead = absurd (cc)
led_spaced bytes k a b c t ts ((g, u) ∷ ps) gaps e text is lead =
    let same : u ≡ t = cc in
    let rest = token_text u ++ print_spaced (ends u) ps in
    let comma = cond c (44 ∷ []) [] in
    record {
      spaced = (lead.gap ++ g, u) ∷ ps;
      gaps = (IsGap-append lead.gap g lead.is_gap gaps.0, gaps.1);
      tokens_are = e;
      text = subst (λ x. Spans bytes k x b)
          (append_assoc comma lead.gap (g ++ rest)
          ∙ ap (λ x. comma ++ x) (sym (append_assoc lead.gap g rest))
          ∙ ap (λ x. x ++ ((lead.gap ++ g) ++ rest)) (sym (separator_begins c u (ap begins same ∙ is))))
          (spans_then bytes (comma ++ lead.gap) (g ++ rest) k a b lead.text text);
    }

pub led : (bytes : List ℕ) (k a b : ℕ) (c : Bool) (t : Token) (ts : List Token) → begins t ≡ true
    → IsLead bytes k c a → AreWritten bytes a false (t ∷ ts) b → AreWritten bytes k c (t ∷ ts) b
led bytes k a b c t ts is lead w = led_spaced bytes k a b c t ts w.spaced w.gaps w.tokens_are w.text is lead

-- ---- no gaps

bare_text : (c : Bool) (ts : List Token) → print_spaced c (map (λ t. ([], t)) ts) ≡ print_from c ts
unfolding print_spaced print_from
bare_text c [] = refl
bare_text c (t ∷ ts) = ap (λ x. separator c t ++ (token_text t ++ x)) (bare_text (ends t) ts)

bare_gaps : (ts : List Token) → AreGaps (map (λ t. ([], t)) ts)
bare_gaps [] = tt
bare_gaps (t ∷ ts) = (tt, bare_gaps ts)

bare_tokens : (ts : List Token) → map (λ (p : List ℕ × Token). p.1) (map (λ t. ([], t)) ts) ≡ ts
bare_tokens [] = refl
bare_tokens (t ∷ ts) = ap (λ us. t ∷ us) (bare_tokens ts)

pub written_bare : (bytes : List ℕ) (a b : ℕ) (c : Bool) (ts : List Token) → Spans bytes a (print_from c ts) b
    → AreWritten bytes a c ts b
written_bare bytes a b c ts text = record {
  spaced = map (λ t. ([], t)) ts;
  gaps = bare_gaps ts;
  tokens_are = bare_tokens ts;
  text = subst (λ x. Spans bytes a x b) (sym (bare_text c ts)) text;
}

-- a closing bracket
pub closes_array : (bytes : List ℕ) (a b : ℕ) (c : Bool) → Spans bytes a (93 ∷ []) b
    → AreWritten bytes a c (token.end_array ∷ []) b
unfolding print_from
closes_array bytes a b true text = written_bare bytes a b true (token.end_array ∷ []) text
closes_array bytes a b false text = written_bare bytes a b false (token.end_array ∷ []) text

pub closes_object : (bytes : List ℕ) (a b : ℕ) (c : Bool) → Spans bytes a (125 ∷ []) b
    → AreWritten bytes a c (token.end_object ∷ []) b
unfolding print_from
closes_object bytes a b true text = written_bare bytes a b true (token.end_object ∷ []) text
closes_object bytes a b false text = written_bare bytes a b false (token.end_object ∷ []) text

-- ---- keys and values

module _ (bytes : List ℕ) (k a b : ℕ) (c : Bool) (lead : IsLead bytes k c a) where
  pub led_key : (least most : ℕ) (j : Json) → IsKey least most j → Spans bytes a (compact j) b
      → AreWritten bytes k c (json_tokens j) b
  led_key least most null h text = absurd h
  led_key least most (boolean v) h text = absurd h
  led_key least most (number s) h text =
      led bytes k a b c (token.number s) [] refl lead (written_bare bytes a b false (token.number s ∷ []) text)
  led_key least most (string s) h text =
      led bytes k a b c (token.string s) [] refl lead (written_bare bytes a b false (token.string s ∷ []) text)
  led_key least most (array js) h text = absurd h
  led_key least most (object ms) h text = absurd h

  pub led_value : (j : Json) → IsValue j → Spans bytes a (compact j) b → AreWritten bytes k c (json_tokens j) b
  led_value null h text =
      led bytes k a b c token.null [] refl lead (written_bare bytes a b false (token.null ∷ []) text)
  led_value (boolean v) h text =
      led bytes k a b c (token.boolean v) [] refl lead (written_bare bytes a b false (token.boolean v ∷ []) text)
  led_value (number s) h text =
      led bytes k a b c (token.number s) [] refl lead (written_bare bytes a b false (token.number s ∷ []) text)
  led_value (string s) h text =
      led bytes k a b c (token.string s) [] refl lead (written_bare bytes a b false (token.string s ∷ []) text)
  led_value (array js) h text = absurd h
  led_value (object ms) h text = absurd h

pub ended_key : (c : Bool) (least most : ℕ) (j : Json) → IsKey least most j → ended_by c (json_tokens j) ≡ true
ended_key c least most null h = absurd h
ended_key c least most (boolean v) h = absurd h
ended_key c least most (number s) h = refl
ended_key c least most (string s) h = refl
ended_key c least most (array js) h = absurd h
ended_key c least most (object ms) h = absurd h
