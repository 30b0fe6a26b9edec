-- How far an input was read, against all that its reader told.
use Rattle.std.proofs.Common.{◌≡◌, ℕ, ◌+◌, ◌<◌, ◌≤◌, List, [], ◌∷◌, ◌++◌, length, take, drop, Option, Some, None, IfSome, append_assoc, refl, sym, ap, ◌∙◌, subst, arith, inl, inr}
use Rattle.std.specs.Prelude.{⊤, Bool, true, false}
use Rattle.std.proofs.lemmas.List.{append-nil, length-append, length-take, take-append-drop}
use Rattle.sgt_names.specs.Limits.{max_line}
use Rattle.sgt_notation.specs.Spelling.{HasNoLf, text_of_lines}
use Rattle.sgt_notation.specs.Lines.{Ahead, Gives, GaveNext, Spends, Stream, coming, most_left, passed}
use Rattle.sgt_notation.specs.declared.fault.NotationFault.{NotationFault}
use Rattle.sgt_notation.specs.declared.fault.NotationFault.TheVariants.{NotALine, TooLong as Long}
use Rattle.sgt_notation.specs.declared.lines.Next.TheVariants.{Line, Cut, TooLong, End}
use Rattle.sgt_input.specs.declared.reading.Stop.TheVariants as stop
use Rattle.sgt_input.specs.Stopping.{IsStop}
use Rattle.sgt_input.specs.Taking.{TakesFront, TakesLine}
use Rattle.sgt_input.specs.Unreadable.{Blocks, IsFirstUnreadable}
use Rattle.sgt_notation.proofs.Texts.{spends_on, text-one_line}

-- the bytes are these lines and then what comes
abbrev pub IsRest : List (List ℕ) → Option (List ℕ) → Option (List ℕ) → Type 0
IsRest lines None coming = ⊤
IsRest lines (Some bytes) None = ⊥
IsRest lines (Some bytes) (Some rest) = bytes ≡ text_of_lines lines ++ rest

-- so much was taken, and this is the number of the next line
pub record Goes (begins took : List (List ℕ) → Type 0) (told coming : Option (List ℕ)) (n : ℕ) : Type 0 where
  pub lines : List (List ℕ)
  pub begun : begins lines
  pub taken : took lines
  pub rest : IsRest lines told coming
  pub number : n ≡ length lines + 1

-- nothing was taken yet
rest-empty : (told : Option (List ℕ)) (ahead : Ahead) → ahead.held ≡ [] → IsRest [] told (coming ahead told)
rest-empty None ahead fresh = tt
rest-empty (Some bytes) ahead fresh = ap (λ (held : List ℕ). held ++ bytes) (sym fresh)

pub nothing-taken : (begins took : List (List ℕ) → Type 0) (told : Option (List ℕ)) (ahead : Ahead) → begins []
    → took [] → ahead.held ≡ []
    → Goes begins took told (coming ahead told) 1
nothing-taken begins took told ahead begun taken fresh =
    record { lines = []; begun = begun; taken = taken; rest = rest-empty told ahead fresh; number = refl }

-- ---- the reads

-- ---- after a line

rest-line : (xs : List (List ℕ)) (limit : ℕ) (told old new : Option (List ℕ)) (l : List ℕ) → IsRest xs told old
    → Gives limit old Line l new
    → IsRest (xs ++ l ∷ []) told new
rest-line xs limit None old new l rest gives = tt
rest-line xs limit (Some bytes) None new l rest gives = absurd rest
rest-line xs limit (Some bytes) (Some os) None l rest gives = absurd gives
rest-line xs limit (Some bytes) (Some os) (Some ns) l rest gives =
    rest ∙ ap (λ (t : List ℕ). text_of_lines xs ++ t) gives.2 ∙ sym (text-one_line xs l ns)

pub after-line : (begins took took' : List (List ℕ) → Type 0) (told : Option (List ℕ)) (limit n : ℕ)
    (old new : Option (List ℕ)) (l : List ℕ)
    (goes : Goes begins took told old n) → Gives limit old Line l new
    → begins (goes.lines ++ l ∷ []) × took' (goes.lines ++ l ∷ [])
    → Goes begins took' told new (n + 1)
after-line begins took took' told limit n old new l goes gives takes =
    record {
      lines = goes.lines ++ l ∷ [];
      begun = takes.0;
      taken = takes.1;
      rest = rest-line goes.lines limit told old new l goes.rest gives;
      number = omega (arith, goes.number, length-append goes.lines (l ∷ []));
    }

-- no line more was taken
pub still-goes : (begins took took' : List (List ℕ) → Type 0) (told coming : Option (List ℕ)) (n : ℕ) (held : List ℕ)
    (front : Option ℕ)
    → ((k : ℕ) → front ≡ Some k → ⊥) → ((lines : List (List ℕ)) → begins lines → took lines
    → TakesFront begins took' lines held front)
    → Goes begins took told coming n → Goes begins took' told coming n
still-goes begins took took' told coming n held None none takes goes =
    record {
      lines = goes.lines;
      begun = goes.begun;
      taken = takes goes.lines goes.begun goes.taken;
      rest = goes.rest;
      number = goes.number;
    }
still-goes begins took took' told coming n held (Some k) none takes goes = absurd (none k refl)

-- a line that is held whole, and is passed over with its LF
gives-held : (ahead : Ahead) (told : Option (List ℕ)) (line : List ℕ) (m : ℕ) → HasNoLf line → length line ≤ max_line
    → ahead.held ≡ line ++ 10 ∷ drop m ahead.held
    → Gives max_line (coming ahead told) Line line (coming (passed m ahead) told)
gives-held ahead None line m none short text = tt
gives-held ahead (Some bytes) line m none short text =
    (none, short, ap (λ (t : List ℕ). t ++ bytes) text ∙ append_assoc line (10 ∷ drop m ahead.held) bytes)

-- the reads and the bytes that are left, beside the line's number and what the source counts
abbrev pub Counts : (told rest : Option (List ℕ)) (ahead : Ahead) (n failures failed asks asked : ℕ) → Type 0
Counts told rest ahead n failures failed asks asked = (failures ≡ failed) × Spends 4294967295 told ahead.reads rest
    × (n + most_left ahead ≤ 281474976710656) × (asks + ahead.reads ≡ asked + 4294967295)

goes-passed : (begins took took' : List (List ℕ) → Type 0) (told rest : Option (List ℕ)) (ahead new : Ahead)
    (line : List ℕ) (m n failures failed asks asked : ℕ)
    → new ≡ passed m ahead → ahead.held ≡ line ++ 10 ∷ drop m ahead.held → HasNoLf line → length line ≤ max_line
    → (goes : Goes begins took told (coming ahead rest) n)
    → begins (goes.lines ++ line ∷ []) × took' (goes.lines ++ line ∷ [])
    → Counts told rest ahead n failures failed asks asked → Goes begins took' told (coming new rest) (n + 1)
    × Counts told rest new (n + 1) failures failed asks asked
goes-passed begins took took' told rest ahead new line m n failures failed asks asked is text none short goes takes
    (quiet, spends, few, counted) =
    let P : Ahead → Type 0 = λ a. Goes begins took' told (coming a rest) (n + 1)
    × Counts told rest a (n + 1) failures failed asks asked in
    let less : length (drop m ahead.held) + 1 ≤ length ahead.held =
    omega (arith, ap length text, length-append line (10 ∷ drop m ahead.held)) in
    subst P (sym is) (
      after-line begins took took' told max_line n (coming ahead rest) (coming (passed m ahead) rest) line goes
          (gives-held ahead rest line m none short text) takes,
      (quiet, spends, omega (arith, few, less), counted),
    )

-- the line at the front of what is held was taken
pub front-passed : (begins took took' : List (List ℕ) → Type 0) (told rest : Option (List ℕ)) (ahead new : Ahead)
    (held : List ℕ) (front : Option ℕ) (m n failures failed asks asked : ℕ)
    → held ≡ ahead.held → front ≡ Some m → new ≡ passed m ahead → ((lines : List (List ℕ)) → begins lines → took lines
    → TakesFront begins took' lines held front)
    → Goes begins took told (coming ahead rest) n → Counts told rest ahead n failures failed asks asked
    → Goes begins took' told (coming new rest) (n + 1) × Counts told rest new (n + 1) failures failed asks asked
front-passed begins took took' told rest ahead new held front m n failures failed asks asked same is on takes goes
    counts =
    let at : TakesFront begins took' goes.lines held (Some m) =
    subst (λ r. TakesFront begins took' goes.lines held r) is (takes goes.lines goes.begun goes.taken) in
    by (subst (λ (t : List ℕ). TakesFront begins took' goes.lines t (Some m)) same at)
  where
    by : TakesFront begins took' goes.lines ahead.held (Some m) → Goes begins took' told (coming new rest) (n + 1)
        × Counts told rest new (n + 1) failures failed asks asked
    by (line, within, at, none, short, begun, taken) =
        let text = sym (take-append-drop m ahead.held) ∙ ap (λ (t : List ℕ). t ++ drop m ahead.held) at
        ∙ append_assoc line (10 ∷ []) (drop m ahead.held) in
        goes-passed begins took took' told rest ahead new line m n failures failed asks asked on text none short goes
        (begun, taken) counts

-- the first LF of what is held stands there
abbrev pub StandsAt : List ℕ → ℕ → Type 0
StandsAt held k = (k < length held) × HasNoLf (take k held) × (held ≡ take k held ++ 10 ∷ drop (k + 1) held)

-- the line up to the LF was taken
pub line-passed : (begins took took' : List (List ℕ) → Type 0) (told rest : Option (List ℕ)) (ahead new : Ahead)
    (held lent : List ℕ) (taken : Bool) (k n failures failed asks asked : ℕ)
    → held ≡ ahead.held → lent ≡ ahead.held → StandsAt held k → k ≤ max_line → taken ≡ true → new ≡ passed (k + 1) ahead
    → ((lines : List (List ℕ)) → begins lines → took lines → TakesLine begins took' lines (take k lent) taken)
    → Goes begins took told (coming ahead rest) n → Counts told rest ahead n failures failed asks asked
    → Goes begins took' told (coming new rest) (n + 1) × Counts told rest new (n + 1) failures failed asks asked
line-passed begins took took' told rest ahead new held lent taken k n failures failed asks asked same also stands
    short is on takes goes counts =
    let at = subst (λ (t : List ℕ). StandsAt t k) same stands in
    let take-at = subst (λ (t : List ℕ). TakesLine begins took' goes.lines (take k t) true) also
    (subst (λ b. TakesLine begins took' goes.lines (take k lent) b) is (takes goes.lines goes.begun goes.taken)) in
    goes-passed begins took took' told rest ahead new (take k ahead.held) (k + 1) n failures failed asks asked on at.2
    at.1 (omega (arith, short, length-take k ahead.held)) goes take-at counts

-- the line that was read was taken
pub next-passed : (begins took took' : List (List ℕ) → Type 0) (told : Option (List ℕ)) (old new : Stream)
    (line lent : List ℕ) (taken : Bool) (n failed asks asks' asked : ℕ)
    → GaveNext max_line old Line line new → lent ≡ line → taken ≡ true
    → asks' + new.ahead.reads ≡ asks + old.ahead.reads
    → ((lines : List (List ℕ)) → begins lines → took lines → TakesLine begins took' lines lent taken)
    → Goes begins took told (coming old.ahead old.told) n
    → Counts told old.told old.ahead n old.failures failed asks asked
    → Goes begins took' told (coming new.ahead new.told) (n + 1)
    × Counts told new.told new.ahead (n + 1) new.failures failed asks' asked
next-passed begins took took' told old new line lent taken n failed asks asks' asked gave same is read takes goes
    (quiet, spends, few, counted) =
    let at = subst (λ (t : List ℕ). TakesLine begins took' goes.lines t true) same
    (subst (λ b. TakesLine begins took' goes.lines lent b) is (takes goes.lines goes.begun goes.taken)) in (
      after-line begins took took' told max_line n (coming old.ahead old.told) (coming new.ahead new.told) line goes
          gave.gives at,
      (
        gave.quiet ∙ quiet,
        spends_on told old.told new.told 4294967295 old.ahead.reads new.ahead.reads spends gave.spends,
        omega (arith, few, gave.falls refl),
        omega (arith, read, counted),
      ),
    )

-- ---- a line that can't be read

module _ (begins took : List (List ℕ) → Type 0) where
  stops-at : (told coming : Option (List ℕ)) (n : ℕ) (f : NotationFault) (goes : Goes begins took told coming n)
      → IfSome coming (λ rest. Blocks begins goes.lines rest f)
      → IfSome told (λ bytes. IsFirstUnreadable begins bytes n f)
  stops-at None coming n f goes blocks = tt
  stops-at (Some bytes) None n f goes blocks = absurd goes.rest
  stops-at (Some bytes) (Some rest) n f goes blocks =
      record {
        before = goes.lines;
        rest = rest;
        text = goes.rest;
        begun = goes.begun;
        number = goes.number;
        blocks =
            blocks;
      }

  line-blocks : (old new : Option (List ℕ)) (lines : List (List ℕ)) (l : List ℕ) → Gives max_line old Line l new
      → (begins (lines ++ l ∷ []) → ⊥)
      → IfSome old (λ rest. Blocks begins lines rest NotALine)
  line-blocks None new lines l gives not = tt
  line-blocks (Some xs) None lines l gives not = absurd gives
  line-blocks (Some xs) (Some ys) lines l gives not =
      inl (record { line = l; more = ys; text = gives.2; none = gives.0; short = gives.1; not = not })

  pub stops-line : (took' : List (List ℕ) → Type 0) (told : Option (List ℕ)) (n : ℕ) (old new : Option (List ℕ))
      (l : List ℕ)
      (goes : Goes begins took told old n) → Gives max_line old Line l new → (begins (goes.lines ++ l ∷ []) → ⊥)
      → IsStop begins took' told (stop.Unreadable n NotALine)
  stops-line took' told n old new l goes gives not =
      (λ same. absurd cc, stops-at told old n NotALine goes (line-blocks old new goes.lines l gives not))

  -- the line up to the LF isn't taken
  pub line-stops : (took' : List (List ℕ) → Type 0) (told rest : Option (List ℕ)) (ahead : Ahead) (held lent : List ℕ)
      (taken : Bool) (k n : ℕ)
      → held ≡ ahead.held → lent ≡ ahead.held → StandsAt held k → k ≤ max_line → taken ≡ false
      → ((lines : List (List ℕ)) → begins lines → took lines → TakesLine begins took' lines (take k lent) taken)
      → Goes begins took told (coming ahead rest) n → IsStop begins took' told (stop.Unreadable n NotALine)
  line-stops took' told rest ahead held lent taken k n same also stands short is takes goes =
      let at = subst (λ (t : List ℕ). StandsAt t k) same stands in
      let not = subst (λ (t : List ℕ). TakesLine begins took' goes.lines (take k t) false) also
      (subst (λ b. TakesLine begins took' goes.lines (take k lent) b) is (takes goes.lines goes.begun goes.taken)) in
      stops-line took' told n (coming ahead rest) (coming (passed (k + 1) ahead) rest) (take k ahead.held) goes
      (gives-held ahead rest (take k ahead.held) (k + 1) at.1 (omega (arith, short, length-take k ahead.held)) at.2) not

  cut-blocks : (old new : Option (List ℕ)) (lines : List (List ℕ)) (l : List ℕ) → Gives max_line old Cut l new
      → IfSome old (λ rest. Blocks begins lines rest NotALine)
  cut-blocks None new lines l gives = tt
  cut-blocks (Some xs) None lines l gives = absurd gives
  cut-blocks (Some xs) (Some ys) lines l gives =
      let P : List ℕ → Type 0 = λ t. Blocks begins lines t NotALine in
      subst P (sym gives.3)
      (inr (record { none = gives.0; short = gives.2; empty = λ e. absurd (omega (arith, gives.1, ap length e)) }))

  pub stops-cut : (told : Option (List ℕ)) (n : ℕ) (old new : Option (List ℕ)) (l : List ℕ)
      → Goes begins took told old n
      → Gives max_line old Cut l new → IsStop begins took told (stop.Unreadable n NotALine)
  stops-cut told n old new l goes gives =
      (λ same. absurd cc, stops-at told old n NotALine goes (cut-blocks old new goes.lines l gives))

  long-blocks : (old new : Option (List ℕ)) (lines : List (List ℕ)) (l : List ℕ) → Gives max_line old TooLong l new
      → IfSome old (λ rest. Blocks begins lines rest Long)
  long-blocks None new lines l gives = tt
  long-blocks (Some xs) None lines l gives = absurd gives
  long-blocks (Some xs) (Some ys) lines l gives = gives.0

  pub stops-long : (told : Option (List ℕ)) (n : ℕ) (old new : Option (List ℕ)) (l : List ℕ)
      → Goes begins took told old n
      → Gives max_line old TooLong l new → IsStop begins took told (stop.Unreadable n Long)
  stops-long told n old new l goes gives =
      (λ same. absurd cc, stops-at told old n Long goes (long-blocks old new goes.lines l gives))

  -- ---- the end

  no-lines : {A : Type 0} (xs : List A) → length xs ≡ 0 → xs ≡ []
  no-lines [] e = refl
  no-lines (x ∷ xs) e = absurd (omega arith)

  end-blocks : (old new : Option (List ℕ)) (lines : List (List ℕ)) (l : List ℕ) → length lines ≡ 0
      → Gives max_line old End l new
      → IfSome old (λ rest. Blocks begins lines rest NotALine)
  end-blocks None new lines l none gives = tt
  end-blocks (Some xs) None lines l none gives = absurd gives
  end-blocks (Some xs) (Some ys) lines l none gives =
      let P : List ℕ → Type 0 = λ t. Blocks begins lines t NotALine in
      subst P (sym gives.0)
      (inr (record {
        none = λ k d less. absurd (omega arith);
        short = omega arith;
        empty =
            λ e. no-lines lines none;
      }))

  pub stops-empty : (told : Option (List ℕ)) (n : ℕ) (old new : Option (List ℕ)) (l : List ℕ)
      → Goes begins took told old n → n ≤ 1
      → Gives max_line old End l new → IsStop begins took told (stop.Unreadable n NotALine)
  stops-empty told n old new l goes first gives =
      let number = goes.number in
      (λ same. absurd cc, stops-at told old n NotALine goes (end-blocks old new goes.lines l (omega arith) gives))

  end-text : (told old new : Option (List ℕ)) (lines : List (List ℕ)) (l : List ℕ) → IsRest lines told old
      → Gives max_line old End l new
      → IfSome told (λ bytes. bytes ≡ text_of_lines lines)
  end-text None old new lines l rest gives = tt
  end-text (Some bytes) None new lines l rest gives = absurd rest
  end-text (Some bytes) (Some xs) None lines l rest gives = absurd gives
  end-text (Some bytes) (Some xs) (Some ys) lines l rest gives =
      rest ∙ ap (λ (t : List ℕ). text_of_lines lines ++ t) gives.0 ∙ append-nil (text_of_lines lines)

  pub stops-end : (told : Option (List ℕ)) (n : ℕ) (old new : Option (List ℕ)) (l : List ℕ)
      → Goes begins took told old n → 1 < n
      → Gives max_line old End l new → IsStop begins took told stop.Ended
  stops-end told n old new l goes more gives =
      let number = goes.number in
      record {
        lines = goes.lines;
        some = λ none. omega (arith, number, more, ap length none);
        begun = goes.begun;
        taken = goes.taken;
        text = end-text told old new goes.lines l goes.rest gives;
      }

-- ---- all reads
