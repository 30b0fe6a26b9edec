-- Tokens as they are written between two places, with spaces in front of them.
use Rattle.std.specs.Prelude.{◌≡◌, ℕ, Bool, List, [], ◌∷◌, ◌++◌, cond, fold, map}
use Rattle.json.specs.Print.{ends}
use Rattle.json.specs.Spaced.{AreGaps, IsGap, print_spaced}
use Rattle.json.specs.Token.{Token}
use Rattle.sgt_notation.specs.Private.{Spans}

-- the tokens leave a value just ended, or one had ended and there are no more
abbrev pub ended_by : Bool → List Token → Bool
ended_by after_value ts = fold (λ _ t. ends t) after_value ts

-- a gap stands between the places, behind a comma where a value has ended
pub record IsLead (bytes : List ℕ) (from : ℕ) (after_value : Bool) (to : ℕ) : Type 0 where
  pub gap : List ℕ
  pub is_gap : IsGap gap
  pub text : Spans bytes from (cond after_value (44 ∷ []) [] ++ gap) to

-- the tokens stand between the places, each with a gap in front, behind its comma
pub record AreWritten (bytes : List ℕ) (from : ℕ) (after_value : Bool) (ts : List Token) (to : ℕ) : Type 0 where
  pub spaced : List (List ℕ × Token)
  pub gaps : AreGaps spaced
  pub tokens_are : map (λ p. p.1) spaced ≡ ts
  pub text : Spans bytes from (print_spaced after_value spaced) to
