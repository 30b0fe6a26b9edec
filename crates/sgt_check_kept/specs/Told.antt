-- What is told of a numbered history.
use Rattle.std.specs.Prelude.{◌≡◌, ◌⊎◌, ℕ, List, ◌++◌}
use Rattle.sgt_names.specs.declared.outcome.Outcome.{Outcome}
use Rattle.sgt_names.specs.declared.outcome.Outcome.TheVariants.{Yes, No, Unreadable}
use Rattle.sgt_history.specs.declared.named.Graph.TheVariants.{Whole}
use Rattle.sgt_history.specs.Conflicts.{HasCycle}
use Rattle.sgt_history.specs.Flaws.{IsFaultless}
use Rattle.sgt_history.specs.Transaction.{Transaction}
use Rattle.sgt_history_kept.specs.declared.asked.Asked.{Asked}
use Rattle.sgt_history_kept.specs.Least.{IsLeastKeeping}
use Rattle.sgt_history_kept.specs.Sooner.{IsCycleKeeping}
use Rattle.sgt_history_time.specs.Serializable.{AreOfCommitted, ServesKeeping}
use Rattle.sgt_check.specs.Rank.{AreRanks}
use Rattle.sgt_check.specs.Text.{aborted_of, committed_of, counts_text, order_part}
use Rattle.sgt_check.specs.Told.{IsCyclicTold, IsFaultyTold, spelled, text_at}
use Rattle.sgt_check.specs.declared.options.Options.{Options}
use Rattle.sgt_check_kept.specs.Link.{AreLinksAlong}
use Rattle.sgt_check_kept.specs.Text.{kept_text}
use Rattle.sgt_check_kept.specs.declared.link.Link.{Link}
use Rattle.sgt_check_kept.specs.declared.setting.Setting.{Setting}

-- what is asked is of committed transactions
pub record AreAsked (h : List (Transaction ℕ ℕ)) (a : Asked) : Type 0 where
  pub timed : AreOfCommitted h a.times.items
  pub sessioned : AreOfCommitted h a.sessions.items

-- by ranks of items whose names have these texts
abbrev pub AreLinked : (texts : List (List ℕ)) → List (Transaction ℕ ℕ) → Asked → List ℕ → List Link → Type 0
AreLinked texts h a lines links = (ranks : List ℕ) × AreRanks texts ranks × AreLinksAlong h a ranks lines links

pub record IsKeptSerialTold (options : Options) (s : Setting) (h : List (Transaction ℕ ℕ)) (text : List ℕ) : Type 0
  where
    pub order : List ℕ
    pub keeps : ServesKeeping h s.asked.times.items s.asked.sessions.items order
    pub least : IsLeastKeeping h s.asked.times.items s.asked.sessions.items order
    pub text_is : text ≡ counts_text (committed_of h) (aborted_of h) ++ order_part options.order (spelled s.naming) order

pub record IsLinksTold (s : Setting) (h : List (Transaction ℕ ℕ)) (text : List ℕ) : Type 0 where
  pub faultless : IsFaultless h
  pub alone : HasCycle h Whole → ⊥
  pub lines : List ℕ
  pub cycle : IsCycleKeeping h s.asked.times.items s.asked.sessions.items lines
  pub links : List Link
  pub along : AreLinked s.naming.items h s.asked lines links
  pub text_is : text ≡ kept_text (spelled s.naming) (text_at s.sessions) links

abbrev pub IsKeptTold : Options → Setting → List (Transaction ℕ ℕ) → Outcome → List ℕ → Type 0
IsKeptTold options s h Yes text = IsKeptSerialTold options s h text
IsKeptTold options s h No text = IsFaultyTold s.naming h text ⊎ (IsCyclicTold s.naming h text ⊎ IsLinksTold s h text)
IsKeptTold options s h Unreadable text = ⊥
