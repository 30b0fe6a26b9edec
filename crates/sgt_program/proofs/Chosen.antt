-- What was chosen is what the words ask for.
use Rattle.std.proofs.Common.{◌≡◌, ◌⊎◌, ◌∙◌, ℕ, Bool, true, false, not, List, ◌∷◌, Result, Ok, Err, inl, inr, ap, sym, subst}
use Rattle.sgt_line.specs.declared.name.CommandName.TheVariants as command
use Rattle.sgt_command_line.specs.Words.{AsksFor, KeepsInput, NamesKeeper, command_of}
use Rattle.sgt_command_line.specs.declared.choice.Choice.{Choice}
use Rattle.sgt_command_line.specs.declared.choice.Choice.TheVariants.{Audit, AuditWith, Certify, Check, Draw, DrawWith, Explain, Replay, Rule, Run, Serial}
use Rattle.sgt_program.specs.Commands.{LeavesUnread}
use Rattle.sgt_command_line.specs.declared.choice.NoChoice.{NoChoice}
use Rattle.sgt_command_line.specs.declared.choice.NoChoice.TheVariants.{Help, Usage, Bare, Memory}

abbrev chosen : Result Choice NoChoice → Choice
chosen (Ok choice) = choice
chosen (Err refusal) = Audit

-- what is known of the one choice is known of the other
pub same_choice : (r : Result Choice NoChoice) (x y : Choice) (P : Choice → Type 0) → r ≡ Ok x → r ≡ Ok y → P x → P y
same_choice r x y P is_x is_y p =
    let same : x ≡ y = ap chosen (sym is_x ∙ is_y) in
    subst P same p

abbrev is_chosen : Result Choice NoChoice → Bool
is_chosen (Ok choice) = true
is_chosen (Err refusal) = false

-- and so it is where memory might have been wanting
pub same_asked : (r : Result Choice NoChoice) (x y : Choice) (P : Choice → Type 0) (Q : Type 0) → r ≡ Ok x
    → (r ≡ Ok y) ⊎ ((r ≡ Err Memory) × Q) → P x → P y
same_asked r x y P Q is either p = elim either [
  | inl is_y ↦ same_choice r x y P is is_y p
  | inr e ↦ (let bad : true ≡ false = sym (ap is_chosen is) ∙ ap is_chosen e.0 in cc)
]

abbrev pub is_memory : NoChoice → Bool
is_memory (Help text) = false
is_memory (Usage text) = false
is_memory Bare = false
is_memory Memory = true

abbrev is_refusal : Result Choice NoChoice → Bool
is_refusal (Ok choice) = false
is_refusal (Err refusal) = not (is_memory refusal)

-- words that ask for a command are refused for want of memory alone
pub no_refusal : (r : Result Choice NoChoice) (x : Choice) (refusal : NoChoice) (Q : Type 0)
    → (r ≡ Ok x) ⊎ ((r ≡ Err Memory) × Q)
    → r ≡ Err refusal → is_memory refusal ≡ false → ⊥
no_refusal r x refusal Q either is other =
    let refused : is_refusal r ≡ true = ap is_refusal is ∙ ap not other in
    elim either [
      | inl e ↦ (let bad : false ≡ true = sym (ap is_refusal e) ∙ refused in cc)
      | inr e ↦ (let bad : false ≡ true = sym (ap is_refusal e.0) ∙ refused in cc)
    ]

-- and that comes of a run
pub of_a_run : (r : Result Choice NoChoice) (x : Choice) (Q : Type 0) → (r ≡ Ok x) ⊎ ((r ≡ Err Memory) × Q)
    → r ≡ Err Memory → Q
of_a_run r x Q either is = elim either [
  | inl e ↦ (let bad : true ≡ false = sym (ap is_chosen e) ∙ ap is_chosen is in absurd cc)
  | inr e ↦ e.1
]

-- who asks for what a command that keeps its input gives names such a command
pub names_keeper : (words : List (List ℕ)) (choice : Choice) → AsksFor words choice → KeepsInput (command_of choice)
    → NamesKeeper words
names_keeper words choice (inl none) is =
    let audit : KeepsInput command.Audit = subst (λ c. KeepsInput (command_of c)) none.1 is in
    elim audit [
      | inl e ↦ cc
      | inr e ↦ cc
    ]
names_keeper words choice (inr (options, named, says)) is = (command_of choice, is, (options, named))

-- where nothing is read for any words, nothing is for these
pub left_unread : (choice : Choice) (Unread : Type 0) → Unread → LeavesUnread choice Unread
left_unread Audit Unread is = tt
left_unread (AuditWith workers) Unread is = tt
left_unread Serial Unread is = tt
left_unread Replay Unread is = tt
left_unread Certify Unread is = tt
left_unread (Explain asked) Unread is = tt
left_unread (Rule topic) Unread is = is
left_unread Draw Unread is = tt
left_unread (DrawWith tx is_dot) Unread is = tt
left_unread (Check wanted) Unread is = tt
left_unread (Run workers tries) Unread is = tt
