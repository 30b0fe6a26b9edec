-- A line with its number among a text.
use Rattle.std.proofs.Common.{◌≡◌, ℕ, List, [], ◌++◌, codes, sym, subst, ap, ◌∙◌, append_assoc}
use Rattle.std.proofs.lemmas.List.{append-nil}
use Rattle.sgt_explain_lines.specs.Told.{bar, Adds, ShowsNumbered, ShowsLine}

-- a text behind another that was written behind the old one
pub adds-more : (old a new : List ℕ) → Adds old a → Adds a new → Adds old new
adds-more old a new first more = (
  first.0 ++ more.0,
  more.1 ∙ ap (λ t. t ++ more.0) first.1
      ∙ append_assoc old first.0 more.0,
)

adds-nil : (old new : List ℕ) → Adds (old ++ []) new → Adds old new
adds-nil old new adds = (adds.0, adds.1 ∙ ap (λ t. t ++ adds.0) (append-nil old))

-- words, a line with its number, and more
pub shows-line : (words : List ℕ) (n : ℕ) (line given old a b new : List ℕ) → Adds (old ++ words) a → given ≡ line
    → ShowsNumbered n given a b → Adds b new
    → ShowsLine words n line old new
shows-line words n line given old a b new begins same there more =
    record {
      upto = a;
      until = b;
      begins = begins;
      there = subst (λ l. ShowsNumbered n l a b) same there;
      goes_on =
          more;
    }

-- words, a text with the line, and more
pub shows-among : (words : List ℕ) (n : ℕ) (line old a b new : List ℕ) → Adds (old ++ words) a
    → ShowsLine [] n line a b → Adds b new → ShowsLine words n line old new
shows-among words n line old a b new begins s more =
    record {
      upto = s.upto;
      until = s.until;
      begins = adds-more (old ++ words) a s.upto begins (adds-nil a s.upto s.begins);
      there = s.there;
      goes_on = adds-more s.until b new s.goes_on more;
    }

nil-twice : (t : List ℕ) → t ≡ (t ++ []) ++ []
nil-twice t = sym (append-nil t) ∙ sym (append-nil (t ++ []))

-- the line alone
pub shows-alone : (n : ℕ) (line given old b new : List ℕ) → given ≡ line → ShowsNumbered n given old b → Adds b new
    → ShowsLine [] n line old new
shows-alone n line given old b new same there more =
    record {
      upto = old;
      until = b;
      begins = ([], nil-twice old);
      there =
          subst (λ l. ShowsNumbered n l old b) same there;
      goes_on = more;
    }

-- more behind the line
pub shows-more : (words : List ℕ) (n : ℕ) (line old a new : List ℕ) → ShowsLine words n line old a → Adds a new
    → ShowsLine words n line old new
shows-more words n line old a new s more =
    record {
      upto = s.upto;
      until = s.until;
      begins = s.begins;
      there = s.there;
      goes_on =
          adds-more s.until a new s.goes_on more;
    }

-- a line with its number adds to a text
pub numbered-adds : (n : ℕ) (line old new : List ℕ) → ShowsNumbered n line old new → Adds old new
numbered-adds n line old new s = (bar n ++ (s.0 ++ codes "\n"), s.2)

pub numbered-as : (n m : ℕ) (given line old new : List ℕ) → n ≡ m → given ≡ line → ShowsNumbered n given old new
    → ShowsNumbered m line old new
numbered-as n m given line old new same is s =
    subst (λ k. ShowsNumbered k line old new) same (subst (λ l. ShowsNumbered n l old new) is s)
