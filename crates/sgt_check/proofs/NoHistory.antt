-- A text with a line that can't be read spells no history.
use Rattle.std.proofs.Common.{◌≡◌, ◌≢◌, ℕ, suc, Bool, true, false, Option, None, ◌+◌, ◌<◌, ◌≤◌, List, [], ◌∷◌, ◌++◌, Some, length, take, refl, sym, ap, ap₂, ◌∙◌, subst, arith, inl, inr, ◌⊎◌, append_assoc, append-nil, Contains}
use Rattle.std.specs.List.{AllByRecursion}
use Rattle.std.specs.Prelude.{IsTrue, slice_get}
use Rattle.std.proofs.lemmas.Option.{slice_get_within}
use Rattle.json.specs.Json.{Json}
use Rattle.sgt_names.proofs.Places.{All_at, Contains_at, slice_get-take_at}
use Rattle.sgt_names.proofs.Lists.{front_at, middle_at}
use Rattle.sgt_notation.specs.Lines.{IsLongerThan}
use Rattle.sgt_notation.specs.Spelling.{HasNoLf, text_of_lines}
use Rattle.sgt_notation.proofs.OneSpelling.{HasNot, cut_at_byte}
use Rattle.sgt_history.specs.Serial.{StandOnce}
use Rattle.sgt_history.specs.Transaction.{Transaction}
use Rattle.sgt_history_time.specs.declared.times.Times.{Times}
use Rattle.sgt_history_text.specs.Line.{IsLine}
use Rattle.sgt_history_text.specs.Moment.{AreEntries, AreTold, HasSession, HasTimes, IsEntry, IsLineWith, Tell}
use Rattle.sgt_history_text.specs.Text.{Blocks, IsFirstUnreadable, IsInFront, SpellEach, Spells, longest_line}
use Rattle.sgt_history_text.specs.declared.fault.LineFault.{LineFault}
use Rattle.sgt_history_text.specs.declared.fault.LineFault.TheVariants.{NotALine, TooLong, IdAgain}
use Rattle.sgt_history_text.specs.declared.wanted.Wanted.{Wanted}
use Rattle.sgt_check.specs.Answer.{neither}
use Rattle.sgt_check.proofs.OneLine.{line-one}
use Rattle.sgt_check.proofs.OneHistory.{Whole, each-one, no_lf_in, spelled-no_lf, whole}
use Rattle.sgt_names.proofs.Elements.{no_line}
use Rattle.sgt_notation.proofs.Texts.{line_front, has_no_lf}

-- ---- behind the lines before

record Behind (before xs : List (List ℕ)) (r rest : List ℕ) : Type 0 where
  pub more : List (List ℕ)
  pub is : xs ≡ before ++ more
  pub rest_is : rest ≡ text_of_lines more ++ r

behind : (before xs : List (List ℕ)) (r rest : List ℕ) → AllByRecursion (HasNot 10) before
    → AllByRecursion (HasNot 10) xs → HasNot 10 r
    → text_of_lines xs ++ r ≡ text_of_lines before ++ rest → Behind before xs r rest
behind [] xs r rest h g hr e = record { more = xs; is = refl; rest_is = sym e }
behind (b ∷ bs) [] r rest h g hr e =
    absurd (no_lf_in b (text_of_lines bs ++ rest) (subst (HasNot 10) (e ∙ line_front b bs rest) hr))
behind (b ∷ bs) (x ∷ xs) r rest h g hr e =
    let cut = cut_at_byte 10 x b (text_of_lines xs ++ r) (text_of_lines bs ++ rest) g.0 h.0 (sym (line_front x xs r)
    ∙ e ∙ line_front b bs rest) in
    let more = behind bs xs r rest h.1 g.1 hr cut.1 in
    record {
      more = more.more;
      is = ap₂ (λ (z : List ℕ) (zs : List (List ℕ)). z ∷ zs) cut.0 more.is;
      rest_is =
          more.rest_is;
    }

-- what is in line_front of the rest: nothing, or a line
abbrev Leads : List (List ℕ) → List ℕ → Type 0
Leads [] rest = rest ≡ []
Leads (m ∷ ms) rest = ((more : List ℕ) × (rest ≡ m ++ 10 ∷ more)) ⊎ ((rest ≡ m) × (m ≢ []))

leads-whole : (more : List (List ℕ)) (r rest : List ℕ) → rest ≡ text_of_lines more ++ r → r ≡ [] → Leads more rest
leads-whole [] r rest e none = e ∙ none
leads-whole (m ∷ ms) r rest e none = inl (text_of_lines ms ++ r, e ∙ line_front m ms r)

leads-last : (more : List (List ℕ)) (r rest : List ℕ) → rest ≡ text_of_lines more ++ r → r ≢ []
    → Leads (more ++ r ∷ []) rest
leads-last [] r rest e some = inr (e, some)
leads-last (m ∷ ms) r rest e some = inl (text_of_lines ms ++ r, e ∙ line_front m ms r)

in-front-one : (line m rest : List ℕ) → IsInFront line rest → HasNot 10 m
    → ((more : List ℕ) × (rest ≡ m ++ 10 ∷ more)) ⊎ ((rest ≡ m) × (m ≢ [])) → m ≡ line
in-front-one line m rest f none (inl (more, is)) = elim f.there [
  | inl (more', is') ↦ (cut_at_byte 10 m line more more' none (has_no_lf line f.none) (sym is ∙ is')).0
  | inr (is', some) ↦ absurd (no_lf_in m more (subst (HasNot 10) (sym is' ∙ is) (has_no_lf line f.none)))
]
in-front-one line m rest f none (inr (is, some)) = elim f.there [
  | inl (more', is') ↦ absurd (no_lf_in line more' (subst (HasNot 10) (sym is ∙ is') none))
  | inr (is', some') ↦ sym is ∙ is'
]

in-front-some : (line rest : List ℕ) → IsInFront line rest → rest ≡ [] → ⊥
in-front-some line rest f none = elim f.there [
  | inl (more, is) ↦ no_line line more (sym is ∙ none)
  | inr (is, some) ↦ some (sym is ∙ none)
]

-- ---- lines that tell what is wanted

-- the lines spell the transactions, and each tells what is wanted of it
abbrev EachWith : Wanted → List (List ℕ) → List Json → List (Transaction Json Json) → Type 0
EachWith w [] [] [] = Unit {0}
EachWith w [] [] (t ∷ ts) = ⊥
EachWith w [] (id ∷ ids) ts = ⊥
EachWith w (line ∷ lines) [] ts = ⊥
EachWith w (line ∷ lines) (id ∷ ids) [] = ⊥
EachWith w (line ∷ lines) (id ∷ ids) (t ∷ ts) =
    HasNoLf line × (length line ≤ longest_line) × IsLineWith w line id t × EachWith w lines ids ts

entry_there : {E : Type 0} (Is : E → Type 0) (commits : Bool) (e : Option E) → IsEntry Is commits e → IsTrue commits
    → (x : E) × Is x
entry_there Is true None is c = absurd is
entry_there Is true (Some x) is c = (x, is)
entry_there Is false e is c = absurd cc

record TellsFirst {E : Type 0} (Has : List ℕ → E → Type 0) (wanted : Bool) (line : List ℕ) (lines : List (List ℕ))
    (t : Transaction Json Json)
    (ts : List (Transaction Json Json)) : Type 0 where
  pub rest : List (Option E)
  pub here : IsTrue wanted → IsTrue t.commits → (x : E) × Has line x
  pub behind : AreTold Has wanted lines ts rest

tells-first : {E : Type 0} (Has : List ℕ → E → Type 0) (wanted : Bool) (line : List ℕ) (lines : List (List ℕ))
    (t : Transaction Json Json)
    (ts : List (Transaction Json Json)) (es : List (Option E)) → AreTold Has wanted (line ∷ lines) (t ∷ ts) es
    → TellsFirst Has wanted line lines t ts
tells-first Has true line lines t ts [] are = absurd are
tells-first Has true line lines t ts (e ∷ es) are =
    record { rest = es; here = λ wanted c. entry_there (Has line) t.commits e are.0 c; behind = are.1 }
tells-first Has false line lines t ts es are = record { rest = []; here = λ wanted. absurd cc; behind = refl }

each-with : (w : Wanted) (lines : List (List ℕ)) (ids : List Json) (h : List (Transaction Json Json))
    (times : List (Option Times)) (sessions : List (Option Json))
    → SpellEach lines ids h → AreTold HasTimes w.real_time lines h times
    → AreTold HasSession w.sessions lines h sessions → EachWith w lines ids h
each-with w [] [] [] times sessions s timed sessioned = tt
each-with w [] [] (t ∷ ts) times sessions s timed sessioned = absurd s
each-with w [] (id ∷ ids) ts times sessions s timed sessioned = absurd s
each-with w (line ∷ lines) [] ts times sessions s timed sessioned = absurd s
each-with w (line ∷ lines) (id ∷ ids) [] times sessions s timed sessioned = absurd s
each-with w (line ∷ lines) (id ∷ ids) (t ∷ ts) times sessions s timed sessioned =
    let one = tells-first HasTimes w.real_time line lines t ts times timed in
    let two = tells-first HasSession w.sessions line lines t ts sessions sessioned in (
      s.0,
      s.1,
      record { line_is = s.2; timed = one.here; sessioned = two.here },
      each-with w lines ids ts one.rest two.rest s.3 one.behind two.behind,
    )

each-spell : (w : Wanted) (lines : List (List ℕ)) (ids : List Json) (h : List (Transaction Json Json))
    → EachWith w lines ids h → SpellEach lines ids h
each-spell w [] [] [] s = tt
each-spell w [] [] (t ∷ ts) s = absurd s
each-spell w [] (id ∷ ids) ts s = absurd s
each-spell w (line ∷ lines) [] ts s = absurd s
each-spell w (line ∷ lines) (id ∷ ids) [] s = absurd s
each-spell w (line ∷ lines) (id ∷ ids) (t ∷ ts) s = (s.0, s.1, s.2.line_is, each-spell w lines ids ts s.3)

-- ---- what is spelled before, and behind

record Split (w : Wanted) (xs ys : List (List ℕ)) (ids : List Json) : Type 0 where
  pub one : List Json
  pub two : List Json
  pub h : List (Transaction Json Json)
  pub k : List (Transaction Json Json)
  pub ids_are : ids ≡ one ++ two
  pub before : EachWith w xs one h
  pub behind : EachWith w ys two k

split : (w : Wanted) (xs ys : List (List ℕ)) (ids : List Json) (h : List (Transaction Json Json))
    → EachWith w (xs ++ ys) ids h → Split w xs ys ids
split w [] ys ids h s = record { one = []; two = ids; h = []; k = h; ids_are = refl; before = tt; behind = s }
split w (x ∷ xs) ys [] h s = absurd s
split w (x ∷ xs) ys (id ∷ ids) [] s = absurd s
split w (x ∷ xs) ys (id ∷ ids) (t ∷ h) s =
    let rest = split w xs ys ids h s.3 in
    record {
      one = id ∷ rest.one;
      two = rest.two;
      h = t ∷ rest.h;
      k = rest.k;
      ids_are = ap (λ (zs : List Json). id ∷ zs) rest.ids_are;
      before = (s.0, s.1, s.2, rest.before);
      behind = rest.behind;
    }

-- ---- no fault of the line

not-longer : (m rest : List ℕ) → length m ≤ longest_line → ((more : List ℕ) × (rest ≡ m ++ 10 ∷ more))
    ⊎ ((rest ≡ m) × (m ≢ [])) → IsLongerThan longest_line rest → ⊥
not-longer m rest short (inl (more, is)) long =
    let at = middle_at m 10 more in
    let there = slice_get-take_at (m ++ 10 ∷ more) (longest_line + 1) (length m) 10 (omega (arith, short)) at in
    All_at (λ b. b ≢ 10) (take (longest_line + 1) (m ++ 10 ∷ more)) (length m) 10
    (subst (λ (bytes : List ℕ). HasNoLf (take (longest_line + 1) bytes)) is long.1) there refl
not-longer m rest short (inr (is, some)) long = omega (arith, short, long.0, ap (λ (bytes : List ℕ). length bytes) is)

-- the line in line_front of the rest, if there is one, has none of the faults
none-blocks : (w : Wanted) (ys : List (List ℕ)) (rest : List ℕ) (ids one two : List Json)
    (k : List (Transaction Json Json)) → Leads ys rest → EachWith w ys two k
    → StandOnce (one ++ two) → ids ≡ one → (fault : LineFault) → Blocks w ids rest fault → ⊥
none-blocks w [] rest ids one two k none s once same NotALine (line, f, never) = in-front-some line rest f none
none-blocks w [] rest ids one two k none s once same TooLong (long, no_lf) =
    omega (arith, long, ap (λ (bytes : List ℕ). length bytes) none)
none-blocks w [] rest ids one two k none s once same IdAgain (line, id, t, f, is, again) =
    in-front-some line rest f none
none-blocks w (m ∷ ms) rest ids one [] k leads s once same fault blocks = absurd s
none-blocks w (m ∷ ms) rest ids one (id' ∷ two) [] leads s once same fault blocks = absurd s
none-blocks w (m ∷ ms) rest ids one (id' ∷ two) (t' ∷ k) leads s once same NotALine (line, f, never) =
    never id' t' (subst (λ (l : List ℕ). IsLineWith w l id' t') (in-front-one line m rest f (has_no_lf m s.0) leads)
    s.2)
none-blocks w (m ∷ ms) rest ids one (id' ∷ two) (t' ∷ k) leads s once same TooLong long =
    not-longer m rest s.1 leads long
none-blocks w (m ∷ ms) rest ids one (id' ∷ two) (t' ∷ k) leads s once same IdAgain (line, id, t, f, is, again) =
    let here = subst (λ (l : List ℕ). IsLine l id' t') (in-front-one line m rest f (has_no_lf m s.0) leads)
    s.2.line_is in
    let id_is = (line-one line id' id t' t here is.line_is).0 in
    let at = Contains_at one id (subst (λ (js : List Json). Contains js id) same again) in
    let first = front_at one (id' ∷ two) at.0 id at.1 in
    let second = middle_at one id' two ∙ ap (λ (j : Json). Some j) id_is in
    let place = once at.0 (length one) id first second in
    omega (arith, place, slice_get_within one at.0 id at.1)

-- where a line can't be read the bytes spell no history whose lines tell what is wanted
pub unreadable-none : (w : Wanted) (bytes : List ℕ) (number : ℕ) (fault : LineFault) (ids : List Json)
    (h : List (Transaction Json Json))
    (times : List (Option Times)) (sessions : List (Option Json)) → IsFirstUnreadable w bytes number fault
    → (s : Spells bytes ids h) → Tell w s.lines h times sessions → ⊥
unreadable-none w bytes number fault ids h times sessions a s tell =
    let all = whole s.lines bytes (spelled-no_lf s.lines ids h s.spell) s.are_lines in
    let b = behind a.before all.xs all.r a.rest (spelled-no_lf a.before a.ids a.h a.spell) all.no_lf all.none
    (sym all.bytes_are ∙ a.text) in
    elim all.lines_are [
      | inl (none, is) ↦ never b.more (is ∙ b.is) (leads-whole b.more all.r a.rest b.rest_is none)
      | inr (some, is) ↦
          never (b.more ++ all.r ∷ []) (is ∙ ap (λ (zs : List (List ℕ)). zs ++ all.r ∷ []) b.is
          ∙ append_assoc a.before b.more (all.r ∷ []))
          (leads-last b.more all.r a.rest b.rest_is some)
    ]
  where
    each : EachWith w s.lines ids h
    each = each-with w s.lines ids h times sessions s.spell tell.timed tell.sessioned

    never : (ys : List (List ℕ)) → s.lines ≡ a.before ++ ys → Leads ys a.rest → ⊥
    never ys is leads =
        let parts = split w a.before ys ids h (subst (λ (ls : List (List ℕ)). EachWith w ls ids h) is each) in
        none-blocks w ys a.rest a.ids parts.one parts.two parts.k leads parts.behind
        (subst (λ (js : List Json). StandOnce js) parts.ids_are s.apart)
        (each-one a.before a.ids parts.one a.h parts.h a.spell
        (each-spell w a.before parts.one parts.h parts.before)).0 fault a.blocks

-- nor any, where nothing is wanted
pub none-told : (bytes : List ℕ) (number : ℕ) (fault : LineFault) (ids : List Json) (h : List (Transaction Json Json))
    → IsFirstUnreadable neither bytes number fault
    → Spells bytes ids h → ⊥
none-told bytes number fault ids h a s =
    unreadable-none neither bytes number fault ids h [] [] a s (record { timed = refl; sessioned = refl })
