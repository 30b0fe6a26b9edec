-- The numbers of a run's options, as clap finds them.
use Rattle.std.proofs.Common.{◌≡◌, ◌∙◌, ℕ, true, List, [], Option, Some, None, Ok, Err, inl, inr, ap, refl, sym, subst, codes, unwrap_or}
use Rattle.clap.specs.Words.{App, FailsBy, HasMatchesOf, Text, fault_of, found_of, is_simple, is_simple_and_free, kind_of, matches_of, one_of, one_text}
use Rattle.clap.specs.declared.error.Error.{Error}
use Rattle.clap.specs.declared.error.kind.ErrorKind.TheVariants.{OutOfMemory}
use Rattle.clap.specs.declared.parser.matches.ArgMatches.{ArgMatches}
use Rattle.clap.proofs.OnLiterals.{clap_on_literals}
use Rattle.clap.proofs.WalkLemmas.{one_text-rows}
use Rattle.sgt_command_line.specs.Options.{ReadsNumber, SaysRun, run_line}
use Rattle.sgt_command_line.specs.declared.choice.Choice.TheVariants.{Run}
use Rattle.sgt_command_line.specs.private.Found.{FindsRun}

pub line_is_free : is_simple_and_free run_line ≡ true
unfolding clap_on_literals
line_is_free = refl

line_is_simple : is_simple run_line ≡ true
unfolding clap_on_literals
line_is_simple = refl

-- what the getters read is what the words say
pub found_said : (app : App) (words : List Text) (m : ArgMatches) (name : Text) → app ≡ run_line
    → HasMatchesOf app words m
    → one_text (found_of m) name ≡ one_of name (matches_of run_line words)
found_said app words m name is matches =
    let rows = matches (ap is_simple is ∙ line_is_simple) in
    one_text-rows (found_of m) name ∙ ap (one_of name) (rows.0 ∙ ap (λ a. matches_of a words) is)

-- clap took the words
pub taken : (T : Type 0) (app : App) (words : List Text) (x : T) → app ≡ run_line
    → (is_simple_and_free app ≡ true → FailsBy {T = T} (fault_of app words) (Ok x)) → fault_of run_line words ≡ []
taken T app words x is kinds = ap (λ a. fault_of a words) (sym is) ∙ kinds (ap is_simple_and_free is ∙ line_is_free)

-- what the getters read of words that clap took is what they say
pub says : (app : App) (words : List Text) (m : ArgMatches) (workers tries : ℕ) → app ≡ run_line
    → HasMatchesOf app words m
    → (is_simple_and_free app ≡ true → FailsBy {T = ArgMatches} (fault_of app words) (Ok m))
    → FindsRun m workers tries → SaysRun words workers tries
says app words m workers tries is matches kinds found = record {
  taken = taken ArgMatches app words m is kinds;
  by_workers = subst (λ o. ReadsNumber o workers) (found_said app words m (codes "workers") is matches) found.by_workers;
  by_tries = subst (λ o. ReadsNumber o tries) (found_said app words m (codes "tries") is matches) found.by_tries;
  some_workers = found.some_workers;
  some_tries = found.some_tries;
}

-- and the other way round
pub finds : (app : App) (words : List Text) (m : ArgMatches) (workers tries : ℕ) → app ≡ run_line
    → HasMatchesOf app words m
    → SaysRun words workers tries → FindsRun m workers tries
finds app words m workers tries is matches said = record {
  by_workers = subst (λ o. ReadsNumber o workers) (sym (found_said app words m (codes "workers") is matches)) said.by_workers;
  by_tries = subst (λ o. ReadsNumber o tries) (sym (found_said app words m (codes "tries") is matches)) said.by_tries;
  some_workers = said.some_workers;
  some_tries = said.some_tries;
}

-- where clap has no fault to find, only memory is wanting
pub wants_memory : (T : Type 0) (app : App) (words : List Text) (e : Error) → app ≡ run_line
    → (is_simple_and_free app ≡ true → FailsBy {T = T} (fault_of app words) (Err e)) → fault_of run_line words ≡ []
    → kind_of e ≡ OutOfMemory
wants_memory T app words e is kinds none =
    let at : FailsBy {T = T} [] (Err e) =
    subst (λ k. FailsBy {T = T} k (Err e)) (ap (λ a. fault_of a words) is
    ∙ none) (kinds (ap is_simple_and_free is ∙ line_is_free)) in
    elim at [
      | inl memory ↦ memory
      | inr other ↦ absurd other
    ]

-- what was found once is what is found
pub same_numbers : (r : Option (ℕ × ℕ)) (a b c d : ℕ) → r ≡ Some (a, b) → r ≡ Some (c, d) → Run a b ≡ Run c d
same_numbers r a b c d first second =
    let same : (a, b) ≡ (c, d) = ap (λ o. unwrap_or o (0, 0)) (sym first ∙ second) in
    ap (λ (p : ℕ × ℕ). Run p.0 p.1) same

pub not_found : (o : Option ℕ) (n : ℕ) → o ≡ None → o ≡ Some n → ⊥
not_found o n none some =
    let bad : ◌≡◌ {A = Option ℕ} None (Some n) = sym none ∙ some in
    cc
