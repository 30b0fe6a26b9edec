-- Small facts of texts, entries and readers that several crates need.
use Rattle.std.proofs.Common.{[], length-append, ◌-◌, IfSome, None, length, ◌≤◌, sym, refl, ◌≢◌, ◌≡◌, ℕ, ◌+◌, List, ◌∷◌, ◌++◌, ap, ◌∙◌, append_assoc, Option, subst, arith, inl, inr, Some}
use Rattle.std.proofs.lemmas.List.{append-nil}
use Rattle.std.proofs.lemmas.List.Elements.{recursion_from_All}
use Rattle.std.specs.declared.cmp.Ordering.{Ordering}
use Rattle.std.specs.declared.cmp.Ordering.TheVariants.{Greater, Equal, Less}
use Rattle.sgt_names.specs.Entry.{item_of, Clash}
use Rattle.sgt_names.specs.Limits.{most_reads}
use Rattle.sgt_names.specs.Name.{Name}
use Rattle.sgt_names.specs.declared.entry.Entry.{Entry}
use Rattle.sgt_names.specs.declared.entry.Kind.{Kind}
use Rattle.sgt_names.specs.declared.entry.Kind.TheVariants.{Wr, Rw, Ww}
use Rattle.sgt_notation.proofs.Decidable.{Decidable}
use Rattle.sgt_notation.proofs.DecidableEntries.{reads-item, writes-item}
use Rattle.sgt_notation.proofs.OneSpelling.{HasNot}
use Rattle.sgt_notation.specs.Lines.{MetReadFault, ReadFaultIsDue, Spends, Stream}
use Rattle.sgt_notation.specs.Spelling.{HasNoLf, text_of_lines}

pub has_no_lf : (l : List ℕ) → HasNoLf l → HasNot 10 l
has_no_lf l h = recursion_from_All (λ b. b ≢ 10) l h

pub text-append : (xs ys : List (List ℕ)) → text_of_lines (xs ++ ys) ≡ text_of_lines xs ++ text_of_lines ys
text-append [] ys = refl
text-append (x ∷ xs) ys = ap (λ (t : List ℕ). (x ++ 10 ∷ []) ++ t) (text-append xs ys)
    ∙ sym (append_assoc (x ++ 10 ∷ []) (text_of_lines xs) (text_of_lines ys))

pub all-spent : (told new : Option (List ℕ)) → Spends 4294967295 told 0 new
    → IfSome told (λ bytes. most_reads ≤ length bytes)
all-spent None new spends = tt
all-spent (Some xs) None spends = absurd spends
all-spent (Some xs) (Some ys) spends = let all : 4294967295 ≤ length xs = omega arith in all

pub decidable-Less : (o : Ordering) → Decidable (o ≡ Less)
decidable-Less Less = inl refl
decidable-Less Equal = inr (λ e. cc)
decidable-Less Greater = inr (λ e. cc)

pub line_front : (l : List ℕ) (ls : List (List ℕ)) (rest : List ℕ)
    → text_of_lines (l ∷ ls) ++ rest ≡ l ++ 10 ∷ (text_of_lines ls ++ rest)
line_front l ls rest = simp append_assoc

pub first_line : (l : List ℕ) (ls : List (List ℕ)) → text_of_lines (l ∷ ls) ≡ l ++ 10 ∷ text_of_lines ls
first_line l ls = append_assoc l (10 ∷ []) (text_of_lines ls)

pub lines-long : (ls : List (List ℕ)) → length ls ≤ length (text_of_lines ls)
lines-long [] = omega arith
lines-long (l ∷ ls) =
    let more = lines-long ls in
    let one = length-append l (10 ∷ []) in
    let all = length-append (l ++ 10 ∷ []) (text_of_lines ls) in
    omega (arith, more, one, all)

pub spends-none : (told : Option (List ℕ)) (a b : ℕ) → b ≡ a → Spends a told b told
spends-none None a b same = tt
spends-none (Some xs) a b same = omega arith

pub spends_on : (told mid new : Option (List ℕ)) (a b c : ℕ) → Spends a told b mid → Spends b mid c new
    → Spends a told c new
spends_on None mid new a b c first later = tt
spends_on (Some xs) None new a b c first later = absurd first
spends_on (Some xs) (Some ys) None a b c first later = absurd later
spends_on (Some xs) (Some ys) (Some zs) a b c first later = omega arith

pub text-one_line : (xs : List (List ℕ)) (l rest : List ℕ)
    → text_of_lines (xs ++ l ∷ []) ++ rest ≡ text_of_lines xs ++ (l ++ 10 ∷ rest)
text-one_line xs l rest =
    ap (λ (t : List ℕ). t ++ rest) (text-append xs (l ∷ []))
    ∙ append_assoc (text_of_lines xs) (text_of_lines (l ∷ [])) rest
    ∙ ap (λ (t : List ℕ). text_of_lines xs ++ t) (ap (λ (t : List ℕ). t ++ rest) (append-nil (l ++ 10 ∷ []))
    ∙ append_assoc l (10 ∷ []) rest)

pub fault-met : (told : Option (List ℕ)) (failures asked asked' reads : ℕ) (old new : Stream) (line : List ℕ)
    → old.failures ≡ failures → Spends 4294967295 told reads old.told → old.ahead.reads ≡ reads
    → asked' + new.ahead.reads ≡ asked + 4294967295 → MetReadFault old line new
    → ReadFaultIsDue told failures new.failures asked asked'
fault-met told failures asked asked' reads old new line quiet spends same counts met =
    elim met.cause [
      | inl failed ↦ inl (omega (arith, failed.0, quiet))
      | inr spent ↦ inr (
        omega (arith, spent.0, counts),
        all-spent told new.told (spends_on told old.told new.told 4294967295 reads 0 spends
            (subst (λ (n : ℕ). Spends n old.told 0 new.told) same spent.2)),
      )
    ]

pub clash_items : (kind : Kind) (x : Name) (e f : Entry) → Clash kind x e f
    → (item_of e ≡ Some x) × (item_of f ≡ Some x)
clash_items Wr x e f h = (writes-item x e h.0, reads-item x f h.1)
clash_items Rw x e f h = (reads-item x e h.0, writes-item x f h.1)
clash_items Ww x e f h = (writes-item x e h.0, writes-item x f h.1)
