-- Counting the decisions of each kind.
use Rattle.std.proofs.Common.{◌≡◌, ℕ, ◌+◌, ◌<◌, ◌≤◌, Bool, true, false, List, length, take, get_or, sym, ap, ◌∙◌, arith}
use Rattle.std.specs.Prelude.{count_by}
use Rattle.std.proofs.lemmas.List.{length-take}
use Rattle.std.proofs.lemmas.List.Sums.{count_by-le-length, count_by_more_no, count_by_more_yes}
use mir.Val.{bool_byte}

module _ {A : Type 0} (p : A → Bool) (xs : List A) (i n : ℕ) (lt : i < length xs)
    (so_far : n ≡ count_by p (take i xs)) where
  -- one more element
  pub count-next : (x : A) (r : Bool) (m : ℕ) → x ≡ get_or xs i x → r ≡ p x → m ≡ bool_byte r
      → n + m ≡ count_by p (take (i + 1) xs)
  count-next x true m at is one = omega (arith, one, so_far, count_by_more_yes p xs i x lt (ap p (sym at) ∙ sym is))
  count-next x false m at is none = omega (arith, none, so_far, count_by_more_no p xs i x lt (ap p (sym at) ∙ sym is))

  -- the count is no more than there are
  pub count-few : (x : A) (r : Bool) (m : ℕ) → x ≡ get_or xs i x → r ≡ p x → m ≡ bool_byte r → n + m ≤ length xs
  count-few x r m at is one = omega (
    arith,
    lt,
    count-next x r m at is one,
    count_by-le-length p (take (i + 1) xs),
    length-take (i + 1) xs,
  )
