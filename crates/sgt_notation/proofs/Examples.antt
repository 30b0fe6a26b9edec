-- The definitions of spellings and of lines, shown on examples.
use Rattle.std.proofs.Common.{◌≡◌, ◌≢◌, inl, inr, ℕ, ◌-◌, ◌^◌, List, [], ◌∷◌, ◌++◌, subst, Option, Some, None, refl, ap, arith, length, lit<}
use Rattle.std.specs.Prelude.{codes}
use Rattle.std.specs.Fmt.{digits}
use Rattle.sgt_notation.specs.Spelling.{entry_text, line_text, text_of_lines, IsTx, IsValue, IsSite}
use Rattle.sgt_names.specs.Name.{IsName}
use Rattle.sgt_names.specs.declared.entry.Entry.TheVariants.{Read, Write, Add, Want, WantAdd, Commit, Refuse, Withdraw}
use Rattle.std.proofs.lemmas.List.Elements.{All-from_recursion, recursion_from_All}
use Rattle.sgt_notation.specs.Lines.{Ahead, Failed, GaveNext, Gives, IsLongerThan, IsNext, IsSpent, Leaves, MetReadFault, SpendsNext, Stream, WantedMemory, stream}
use Rattle.sgt_notation.specs.Reading.{Refuses}
use Rattle.sgt_notation.specs.declared.fault.NotationFault.TheVariants.{NotALine, TooLong, Memory}
use Rattle.sgt_notation.specs.declared.lines.Next.TheVariants as next
use Rattle.sgt_notation.specs.declared.SectionLine.TheVariants.{Site, Initial, Logged, Final, End}

-- ---- each kind of line

pub read-is : entry_text (Read 12 (codes "x_1") 5) ≡ codes "r12[x_1]=5"
unfolding digits
read-is = refl

pub write-is : entry_text (Write 1 (codes "x") 0) ≡ codes "w1[x]=0"
unfolding digits
write-is = refl

pub want-is : entry_text (Want 2 (codes "y") 18446744073709551615) ≡ codes "p2[y]=18446744073709551615"
unfolding digits
want-is = refl

pub add-is : entry_text (Add 1 (codes "x") 3) ≡ codes "d1[x]=3"
unfolding digits
add-is = refl

pub asked_add-is : entry_text (WantAdd 2 (codes "x") 8) ≡ codes "q2[x]=8"
unfolding digits
asked_add-is = refl

pub commit-is : entry_text (Commit 4294967295) ≡ codes "c4294967295"
unfolding digits
commit-is = refl

pub refuse-is : entry_text (Refuse 2) ≡ codes "n2"
unfolding digits
refuse-is = refl

pub withdraw-is : entry_text (Withdraw 30) ≡ codes "a30"
unfolding digits
withdraw-is = refl

pub site-is : line_text (Site 63) ≡ codes "site 63"
unfolding digits
site-is = refl

pub item-is : line_text (Initial (record { item = codes "x"; value = 5 })) ≡ codes "item x=5"
unfolding digits
item-is = refl

pub logged-is : line_text (Logged (Read 1 (codes "x") 5)) ≡ codes "r1[x]=5"
unfolding digits
logged-is = refl

pub final-is : line_text (Final (record { item = codes "x"; value = 6 })) ≡ codes "final x=6"
unfolding digits
final-is = refl

pub end-is : line_text End ≡ codes "end"
end-is = refl

pub text-is : text_of_lines (codes "c1" ∷ [] ∷ codes "end" ∷ []) ≡ 99 ∷ 49 ∷ 10 ∷ 10 ∷ 101 ∷ 110 ∷ 100 ∷ 10 ∷ []
text-is = refl

-- ---- the least and the greatest numbers

pub no_tx_0 : IsTx 0 → ⊥
no_tx_0 h = omega (arith, h.0)

pub tx_1 : IsTx 1
tx_1 = (omega arith, lit< tt)

pub tx_greatest : IsTx 4294967295
tx_greatest = (omega arith, lit< tt)

pub no_tx_above : IsTx 4294967296 → ⊥
no_tx_above h = omega (arith, h.1)

pub value_greatest : IsValue 18446744073709551615
value_greatest = lit< tt

pub no_value_above : IsValue 18446744073709551616 → ⊥
no_value_above h = omega (arith, h)

pub site_0 : IsSite 0
site_0 = lit< tt

pub site_greatest : IsSite 63
site_greatest = lit< tt

pub no_site_above : IsSite 64 → ⊥
no_site_above h = omega (arith, h)

-- ---- a name has sixteen bytes at most

pub name_longest : IsName (codes "abcdefghij_23456")
name_longest = (refl, refl, lit< tt)

pub no_name_longer : IsName (codes "abcdefghij_234567") → ⊥
no_name_longer h = omega (arith, h.2)

-- ---- what the relations of a reader exclude

-- a byte is lost
pub no_byte_lost : Leaves (Some (97 ∷ 98 ∷ [])) (97 ∷ []) (Some []) → ⊥
no_byte_lost h = let sizes = ap length h in absurd (omega (arith, sizes))

-- what is left is no longer told
pub not_forgotten : Gives 6 (Some []) next.End [] None → ⊥
not_forgotten h = h

-- two reads gave one byte, and a line came
pub no_read_for_nothing : SpendsNext next.Line 5 (Some (97 ∷ 10 ∷ [])) 3 (Some (10 ∷ [])) → ⊥
no_read_for_nothing h = omega (arith, h)

-- want of memory is no refusal of a line
pub never_memory : (line : List ℕ) → Refuses line Memory → ⊥
never_memory line h = h

-- too long a line is told as that, and no other is
pub too_long-no_other : (line : List ℕ) → length line ≡ 1048577 → Refuses line NotALine → ⊥
too_long-no_other line long h = omega (arith, long, h)

pub longest-not_too_long : (line : List ℕ) → length line ≡ 1048576 → Refuses line TooLong → ⊥
longest-not_too_long line long h = omega (arith, long, h)

-- a line that fits is no longer than the buffer: only more bytes, with no LF up to there, are
pub fits-not_longer : IsLongerThan 2 (97 ∷ 98 ∷ 10 ∷ 99 ∷ []) → ⊥
fits-not_longer h = (recursion_from_All (λ b. b ≢ 10) (97 ∷ 98 ∷ 10 ∷ []) h.1).1.1.0 refl

pub all-not_longer : IsLongerThan 2 (97 ∷ 98 ∷ []) → ⊥
all-not_longer h = omega (arith, h.0)

pub one_more-longer : IsLongerThan 2 (97 ∷ 98 ∷ 99 ∷ [])
one_more-longer = (
  lit< tt,
  All-from_recursion (λ b. b ≢ 10) (97 ∷ 98 ∷ 99 ∷ []) (
    (λ h. absurd (omega arith)),
    ((λ h. absurd (omega arith)), ((λ h. absurd (omega arith)), tt)),
  ),
)

-- a failure that isn't there, or whose read isn't counted
pub unfailed-not_failed : Failed (stream (record { held = []; reads = 5 }) None 7)
    (stream (record { held = []; reads = 4 }) None 7) → ⊥
unfailed-not_failed h = omega (arith, h.0)

pub uncounted-not_failed : Failed (stream (record { held = []; reads = 5 }) None 7)
    (stream (record { held = []; reads = 5 }) None 8) → ⊥
uncounted-not_failed h = omega (arith, h.1)

-- a read is left, or the source failed
pub one_left-not_spent : IsSpent (stream (record { held = []; reads = 1 }) None 7)
    (stream (record { held = []; reads = 1 }) None 7) → ⊥
one_left-not_spent h = omega (arith, h.0)

pub failed-not_spent : IsSpent (stream (record { held = []; reads = 0 }) None 7)
    (stream (record { held = []; reads = 0 }) None 8) → ⊥
failed-not_spent h = omega (arith, h.1)

-- a line of two bytes fits a buffer with room for two
pub fitting-not_wanted : (old new : Stream) → new.ahead.held ≡ 10 ∷ [] → WantedMemory 9 2 old (97 ∷ 98 ∷ []) new → ⊥
fitting-not_wanted old new held w =
    let long = subst (λ (h : List ℕ). IsLongerThan 2 ((97 ∷ 98 ∷ []) ++ h)) held w.read in
    (recursion_from_All (λ b. b ≢ 10) (97 ∷ 98 ∷ 10 ∷ []) long.1).1.1.0 refl

-- ---- what a call excludes, whatever else is so of it

-- a byte of too long a line is lost
pub too_long-loses_none : IsNext 1 (97 ∷ 98 ∷ []) next.TooLong (97 ∷ []) [] → ⊥
too_long-loses_none h = let sizes = ap length h.1 in absurd (omega (arith, sizes))

-- bytes behind a line with no LF
pub cut-all : IsNext 6 (97 ∷ []) next.Cut (97 ∷ []) (98 ∷ []) → ⊥
cut-all h = let sizes = ap length h.4 in absurd (omega (arith, sizes))

-- two reads met the end, or one with no byte came before
pub end-one_read : SpendsNext next.End 5 (Some []) 3 (Some []) → ⊥
end-one_read h = omega (arith, h)

pub cut-one_read : SpendsNext next.Cut 5 (Some (97 ∷ [])) 2 (Some []) → ⊥
cut-one_read h = omega (arith, h)

-- what the source has left is forgotten
pub spent-told : SpendsNext next.Line 5 (Some (97 ∷ 10 ∷ [])) 4 None → ⊥
spent-told h = h

abbrev held_a : Ahead
held_a = record { held = 97 ∷ 10 ∷ []; reads = 5 }

abbrev nothing_held : Ahead
nothing_held = record { held = []; reads = 5 }

-- a failure during a call that told what comes next
pub failed-not_given : (line : List ℕ) → GaveNext 6 (stream held_a None 7) next.Line line (stream nothing_held None 8)
    → ⊥
failed-not_given line h = omega (arith, h.quiet)

-- a line that takes nothing from what is ahead
pub still-not_given : (line : List ℕ) → GaveNext 6 (stream held_a None 7) next.Line line (stream held_a None 7) → ⊥
still-not_given line h = omega (arith, h.falls refl)

-- an end, or a cut line, that was met by no counted read
pub uncounted_end-not_given : (line : List ℕ)
    → GaveNext 6 (stream nothing_held None 7) next.End line (stream nothing_held None 7) → ⊥
uncounted_end-not_given line h = omega (arith, h.ended (inr refl))

pub uncounted_cut-not_given : (line : List ℕ)
    → GaveNext 6 (stream nothing_held None 7) next.Cut line (stream nothing_held None 7) → ⊥
uncounted_cut-not_given line h = omega (arith, h.ended (inl refl))

-- too long a line, with no limit
pub unlimited-not_too_long : (old new : Stream) (line : List ℕ) → GaveNext (2 ^ 64 - 1) old next.TooLong line new → ⊥
unlimited-not_too_long old new line h = h.unlimited refl refl

-- a held byte that is lost by a failing read, or that is still held behind it
pub lost-no_fault : MetReadFault (stream held_a (Some []) 7) (97 ∷ []) (stream nothing_held (Some []) 8) → ⊥
lost-no_fault h = let sizes = ap length h.left in absurd (omega (arith, sizes))

pub kept-no_fault : (old : Stream) (line : List ℕ) (told : Option (List ℕ))
    → MetReadFault old line (stream held_a told 8) → ⊥
kept-no_fault old line told h = let sizes = ap length h.held in absurd (omega (arith, sizes))

-- the source did not fail, and there are reads left
pub no_cause-no_fault : (line : List ℕ) → MetReadFault (stream held_a None 7) line (stream nothing_held None 7) → ⊥
no_cause-no_fault line h = elim h.cause [
  | inl failed ↦ absurd (omega (arith, failed.0))
  | inr spent ↦ absurd (omega (arith, spent.0))
]

-- room for all that the limit allows, a failure, a lost byte, and what comes is no longer than the room
pub roomy-not_wanted : (old new : Stream) (line : List ℕ) → WantedMemory 2 2 old line new → ⊥
roomy-not_wanted old new line w = omega (arith, w.short)

pub failed-not_wanted : (line : List ℕ) → WantedMemory 9 2 (stream held_a None 7) line (stream nothing_held None 8) → ⊥
failed-not_wanted line w = omega (arith, w.quiet)

pub lost-not_wanted : WantedMemory 9 2 (stream held_a (Some []) 7) (97 ∷ []) (stream nothing_held (Some []) 7) → ⊥
lost-not_wanted w = let sizes = ap length w.left in absurd (omega (arith, sizes))

pub short-not_wanted : (new : Stream) (line : List ℕ) → WantedMemory 9 2 (stream held_a (Some []) 7) line new → ⊥
short-not_wanted new line w = omega (arith, w.wanted.0)

-- a line over the limit
pub over_limit-no_line : IsNext 1 (97 ∷ 98 ∷ 10 ∷ []) next.Line (97 ∷ 98 ∷ []) [] → ⊥
over_limit-no_line h = omega (arith, h.1)

-- a line of no bytes that had no LF
pub nothing-no_cut : IsNext 6 [] next.Cut [] [] → ⊥
nothing-no_cut h = omega (arith, h.1)
