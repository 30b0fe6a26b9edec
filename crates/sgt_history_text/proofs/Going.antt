-- How far a reader was read, against all that it told.
use Rattle.std.proofs.Common.{◌≡◌, ◌≢◌, ℕ, ◌+◌, ◌<◌, ◌≤◌, suc, List, [], ◌∷◌, ◌++◌, length, Option, Some, None, IfSome, append_assoc, refl, sym, ap, ◌∙◌, subst, arith, inl, inr}
use Rattle.std.specs.Prelude.{⊤}
use Rattle.std.proofs.lemmas.List.{append-nil}
use Rattle.json.specs.Json.{Json}
use Rattle.sgt_names.specs.Limits.{most_reads}
use Rattle.sgt_notation.specs.Spelling.{HasNoLf, text_of_lines}
use Rattle.sgt_notation.specs.Lines.{Ahead, Gives, MetReadFault, ReadFaultIsDue, Spends, Stream, coming}
use Rattle.sgt_notation.specs.declared.lines.Next.TheVariants.{Line, Cut, TooLong as Long, End}
use Rattle.sgt_history.specs.Transaction.{Transaction}
use Rattle.sgt_history_text.specs.Built.{AreMoments, IsBuilt, IsTaken}
use Rattle.sgt_history_text.specs.Line.{IsLine}
use Rattle.sgt_history_text.specs.Reading.{IsStop, stop_of}
use Rattle.sgt_history_text.specs.Text.{AreLines, Blocks, IsFirstUnreadable, IsInFront, SpellEach, Spells, longest_line}
use Rattle.sgt_history_text.specs.declared.building.Builder.{Builder}
use Rattle.sgt_history_text.specs.declared.fault.LineFault.{LineFault}
use Rattle.sgt_history_text.specs.declared.fault.LineFault.TheVariants.{NotALine, TooLong, IdAgain}
use Rattle.sgt_history_text.specs.declared.moments.Moments.{Moments}
use Rattle.sgt_history_text.specs.declared.reading.Stop.TheVariants.{Ended, At}
use Rattle.sgt_history_text.specs.declared.wanted.Wanted.{Wanted}
use Rattle.sgt_notation.proofs.Texts.{text-append, all-spent, spends-none, spends_on, text-one_line, fault-met}

-- ---- lines

each-push : (lines : List (List ℕ)) (ids : List Json) (h : List (Transaction Json Json)) (l : List ℕ) (id : Json)
    (t : Transaction Json Json)
    → SpellEach lines ids h → HasNoLf l → length l ≤ longest_line → IsLine l id t
    → SpellEach (lines ++ l ∷ []) (ids ++ id ∷ []) (h ++ t ∷ [])
each-push [] [] [] l id t e none short is = (none, short, is, tt)
each-push [] [] (u ∷ us) l id t e none short is = absurd e
each-push [] (i ∷ is') us l id t e none short is = absurd e
each-push (k ∷ ks) [] us l id t e none short is = absurd e
each-push (k ∷ ks) (i ∷ is') [] l id t e none short is = absurd e
each-push (k ∷ ks) (i ∷ is') (u ∷ us) l id t e none short is =
    (e.0, e.1, e.2, each-push ks is' us l id t e.3 none short is)

each-length : (lines : List (List ℕ)) (ids : List Json) (h : List (Transaction Json Json)) → SpellEach lines ids h
    → length lines ≡ length ids
each-length [] [] [] e = refl
each-length [] [] (u ∷ us) e = absurd e
each-length [] (i ∷ is) us e = absurd e
each-length (k ∷ ks) [] us e = absurd e
each-length (k ∷ ks) (i ∷ is) [] e = absurd e
each-length (k ∷ ks) (i ∷ is) (u ∷ us) e = ap suc (each-length ks is us e.3)

pub each-same : (lines : List (List ℕ)) (ids : List Json) (h : List (Transaction Json Json)) → SpellEach lines ids h
    → length ids ≡ length h
each-same [] [] [] e = refl
each-same [] [] (u ∷ us) e = absurd e
each-same [] (i ∷ is) us e = absurd e
each-same (k ∷ ks) [] us e = absurd e
each-same (k ∷ ks) (i ∷ is) [] e = absurd e
each-same (k ∷ ks) (i ∷ is) (u ∷ us) e = ap suc (each-same ks is us e.3)

-- ---- how far

-- the bytes are these lines and then what comes
abbrev pub IsRest : List (List ℕ) → Option (List ℕ) → Option (List ℕ) → Type 0
IsRest lines None coming = ⊤
IsRest lines (Some bytes) None = ⊥
IsRest lines (Some bytes) (Some rest) = bytes ≡ text_of_lines lines ++ rest

-- so much was read
pub record Goes (w : Wanted) (told coming : Option (List ℕ)) (b : Builder) (m : Moments) : Type 0 where
  pub lines : List (List ℕ)
  pub ids : List Json
  pub h : List (Transaction Json Json)
  pub spell : SpellEach lines ids h
  pub built : IsBuilt b ids h []
  pub moments : AreMoments w m lines h
  pub rest : IsRest lines told coming

rest-empty : (told : Option (List ℕ)) (ahead : Ahead) → ahead.held ≡ [] → IsRest [] told (coming ahead told)
rest-empty None ahead fresh = tt
rest-empty (Some bytes) ahead fresh = ap (λ (held : List ℕ). held ++ bytes) (sym fresh)

pub goes-none : (w : Wanted) (told : Option (List ℕ)) (ahead : Ahead) (b : Builder) (m : Moments) → IsBuilt b [] [] []
    → AreMoments w m [] [] → ahead.held ≡ []
    → Goes w told (coming ahead told) b m
goes-none w told ahead b m built moments fresh =
    record {
      lines = [];
      ids = [];
      h = [];
      spell = tt;
      built = built;
      moments = moments;
      rest =
          rest-empty told ahead fresh;
    }

rest-line : (xs : List (List ℕ)) (limit : ℕ) (told old new : Option (List ℕ)) (l : List ℕ) → IsRest xs told old
    → Gives limit old Line l new
    → IsRest (xs ++ l ∷ []) told new
rest-line xs limit None old new l rest gives = tt
rest-line xs limit (Some bytes) None new l rest gives = absurd rest
rest-line xs limit (Some bytes) (Some os) None l rest gives = absurd gives
rest-line xs limit (Some bytes) (Some os) (Some ns) l rest gives =
    rest ∙ ap (λ (t : List ℕ). text_of_lines xs ++ t) gives.2 ∙ sym (text-one_line xs l ns)

pub goes-line : (w : Wanted) (told old new : Option (List ℕ)) (b b' : Builder) (m m' : Moments) (l : List ℕ)
    (goes : Goes w told old b m) → HasNoLf l
    → length l ≤ longest_line → Gives longest_line old Line l new → IsTaken w goes.lines goes.ids goes.h l b' m' None
    → Goes w told new b' m'
goes-line w told old new b b' m m' l goes none short gives (id, t, is, fresh, built, moments) = record {
  lines = goes.lines ++ l ∷ [];
  ids = goes.ids ++ id ∷ [];
  h = goes.h ++ t ∷ [];
  spell = each-push goes.lines goes.ids goes.h l id t goes.spell none short is;
  built = built;
  moments = moments;
  rest = rest-line goes.lines longest_line told old new l goes.rest gives;
}

-- ---- the end

end-lines : (lines : List (List ℕ)) (told old new : Option (List ℕ)) (l : List ℕ) → IsRest lines told old
    → Gives longest_line old End l new
    → IfSome told (λ bytes. AreLines lines bytes)
end-lines lines None old new l rest gives = tt
end-lines lines (Some bytes) None new l rest gives = absurd rest
end-lines lines (Some bytes) (Some xs) None l rest gives = absurd gives
end-lines lines (Some bytes) (Some xs) (Some ys) l rest gives =
    inl (rest ∙ ap (λ (t : List ℕ). text_of_lines lines ++ t) gives.0 ∙ append-nil (text_of_lines lines))

spelled : (w : Wanted) (told : Option (List ℕ)) (lines : List (List ℕ)) (ids : List Json)
    (h : List (Transaction Json Json)) (b : Builder) (m : Moments)
    → SpellEach lines ids h → IsBuilt b ids h [] → AreMoments w m lines h → IfSome told (λ bytes. AreLines lines bytes)
    → IfSome told (λ bytes. (spells : Spells bytes ids h) × AreMoments w m spells.lines h)
spelled w None lines ids h b m each built moments are = tt
spelled w (Some bytes) lines ids h b m each built moments are =
    (record { lines = lines; are_lines = are; spell = each; apart = built.ids_kept.once }, moments)

pub stops-end : (w : Wanted) (told old new : Option (List ℕ)) (b : Builder) (m : Moments) (l : List ℕ)
    → Goes w told old b m → Gives longest_line old End l new
    → IsStop w told b m Ended
stops-end w told old new b m l goes gives = (
  goes.ids,
  goes.h,
  goes.built,
  spelled w told goes.lines goes.ids goes.h b m goes.spell goes.built goes.moments
      (end-lines goes.lines told old new l goes.rest gives),
)

pub some_byte : (l : List ℕ) → 0 < length l → l ≢ []
some_byte l h e = omega (arith, ap length e)

cut-lines : (lines : List (List ℕ)) (told old new : Option (List ℕ)) (l : List ℕ) → IsRest lines told old
    → Gives longest_line old Cut l new
    → IfSome told (λ bytes. AreLines (lines ++ l ∷ []) bytes)
cut-lines lines None old new l rest gives = tt
cut-lines lines (Some bytes) None new l rest gives = absurd rest
cut-lines lines (Some bytes) (Some xs) None l rest gives = absurd gives
cut-lines lines (Some bytes) (Some xs) (Some ys) l rest gives = inr (record {
  front = lines;
  last = l;
  lines_are = refl;
  some_byte = some_byte l gives.1;
  bytes_are = rest ∙ ap (λ (t : List ℕ). text_of_lines lines ++ t) gives.3;
})

-- ---- a line that can't be read

-- the line was read from the front
abbrev pub InFront : List ℕ → Option (List ℕ) → Type 0
InFront l old = IfSome old (λ rest. IsInFront l rest)

front-line : (old new : Option (List ℕ)) (l : List ℕ) → HasNoLf l → length l ≤ longest_line
    → Gives longest_line old Line l new → InFront l old
front-line None new l none short gives = tt
front-line (Some xs) None l none short gives = absurd gives
front-line (Some xs) (Some ys) l none short gives = record { none = none; short = short; there = inl (ys, gives.2) }

front-cut : (old new : Option (List ℕ)) (l : List ℕ) → HasNoLf l → length l ≤ longest_line
    → Gives longest_line old Cut l new → InFront l old
front-cut None new l none short gives = tt
front-cut (Some xs) None l none short gives = absurd gives
front-cut (Some xs) (Some ys) l none short gives =
    record { none = none; short = short; there = inr (gives.3, some_byte l gives.1) }

taken-blocks : (w : Wanted) (lines : List (List ℕ)) (ids : List Json) (h : List (Transaction Json Json)) (b : Builder)
    (m : Moments) (l : List ℕ)
    (fault : LineFault) (old : Option (List ℕ)) → InFront l old
    → IsTaken w lines ids h l b m (Some fault) → IfSome old (λ rest. Blocks w ids rest fault)
taken-blocks w lines ids h b m l fault None front taken = tt
taken-blocks w lines ids h b m l NotALine (Some rest) front taken = (l, front, taken)
taken-blocks w lines ids h b m l TooLong (Some rest) front taken = absurd taken
taken-blocks w lines ids h b m l IdAgain (Some rest) front (id, t, is, again) = (l, id, t, front, is, again)

long-blocks : (w : Wanted) (ids : List Json) (old new : Option (List ℕ)) (l : List ℕ)
    → Gives longest_line old Long l new
    → IfSome old (λ rest. Blocks w ids rest TooLong)
long-blocks w ids None new l gives = tt
long-blocks w ids (Some xs) None l gives = absurd gives
long-blocks w ids (Some xs) (Some ys) l gives = gives.0

module _ (w : Wanted) (told old : Option (List ℕ)) (b : Builder) (m : Moments) (n : ℕ) (goes : Goes w told old b m)
    (number : n ≡ length goes.ids + 1) where
  stops-at : (told old : Option (List ℕ)) (fault : LineFault) → IsRest goes.lines told old
      → IfSome old (λ rest. Blocks w goes.ids rest fault)
      → IfSome told (λ bytes. IsFirstUnreadable w bytes n fault)
  stops-at None old fault rest blocks = tt
  stops-at (Some bytes) None fault rest blocks = absurd rest
  stops-at (Some bytes) (Some xs) fault rest blocks = record {
    before = goes.lines;
    ids = goes.ids;
    h = goes.h;
    times = m.times.items;
    sessions = goes.moments.sessions;
    rest = xs;
    text = rest;
    spell = goes.spell;
    tell = goes.moments.tell;
    apart = goes.built.ids_kept.once;
    number_is = number ∙ ap (λ k. k + 1) (sym (each-length goes.lines goes.ids goes.h goes.spell));
    blocks = blocks;
  }

  pub stops-line : (new : Option (List ℕ)) (b' : Builder) (m' : Moments) (l : List ℕ) (fault : LineFault) → HasNoLf l
      → length l ≤ longest_line
      → Gives longest_line old Line l new → IsTaken w goes.lines goes.ids goes.h l b' m' (Some fault)
      → IsStop w told b' m' (At n fault)
  stops-line new b' m' l fault none short gives taken =
      stops-at told old fault goes.rest (taken-blocks w goes.lines goes.ids goes.h b' m' l fault old
      (front-line old new l none short gives) taken)

  pub stops-long : (new : Option (List ℕ)) (l : List ℕ) → Gives longest_line old Long l new
      → IsStop w told b m (At n TooLong)
  stops-long new l gives = stops-at told old TooLong goes.rest (long-blocks w goes.ids old new l gives)

  pub stops-cut : (new : Option (List ℕ)) (b' : Builder) (m' : Moments) (l : List ℕ) (fault : Option LineFault)
      → HasNoLf l → length l ≤ longest_line
      → Gives longest_line old Cut l new → IsTaken w goes.lines goes.ids goes.h l b' m' fault
      → IsStop w told b' m' (stop_of n fault)
  stops-cut new b' m' l (Some fault) none short gives taken =
      stops-at told old fault goes.rest (taken-blocks w goes.lines goes.ids goes.h b' m' l fault old
      (front-cut old new l none short gives) taken)
  stops-cut new b' m' l None none short gives (id, t, is, fresh, built, moments) = (
    goes.ids ++ id ∷ [],
    goes.h ++ t ∷ [],
    built,
    spelled w told (goes.lines ++ l ∷ []) (goes.ids ++ id ∷ []) (goes.h ++ t ∷ []) b' m'
        (each-push goes.lines goes.ids goes.h l id t goes.spell none short is) built
        moments (cut-lines goes.lines told old new l goes.rest gives),
  )

-- ---- the reads
