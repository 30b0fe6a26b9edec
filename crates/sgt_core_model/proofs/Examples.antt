-- Worked runs: the replies, the logs and the decisions that small lists of events lead to. Each is computed from the
-- model, through the proof that every list of events has a run.
use Rattle.std.proofs.Common.{◌≡◌, ℕ, List, [], ◌∷◌, refl}
use Rattle.std.specs.Prelude.{codes, map}
use Rattle.sgt_names.specs.Name.{Name}
use Rattle.sgt_names.specs.declared.entry.Entry.{Entry}
use Rattle.sgt_names.specs.declared.entry.Entry.TheVariants as entry
use Rattle.sgt_names.specs.declared.entry.Holding.{Holding}
use Rattle.sgt_bundle.specs.declared.certificate.Decision.{Decision}
use Rattle.sgt_bundle.specs.declared.certificate.Decision.TheVariants as decision
use Rattle.sgt_certifier.specs.Certifier.{Install, certificate_of}
use Rattle.sgt_notation.specs.declared.event.Event.{Event}
use Rattle.sgt_notation.specs.declared.event.Event.TheVariants.{Begin, Read, Put, Add, Gather, Decide, Install as Write, Commit, Withdraw, Close}
use Rattle.sgt_core_model.specs.declared.reply.Reply.{Reply}
use Rattle.sgt_core_model.specs.declared.reply.Reply.TheVariants.{Begun, Value, Kept, Gathered, Yes, No, Installed, Closed}
use Rattle.sgt_core_model.specs.Core.{finals_of, items_at}
use Rattle.sgt_core_model.specs.Runs.{changed_by}
use Rattle.sgt_core_model.proofs.Faults.{told_by, allowed_or_refused}
use Rattle.sgt_core_model.proofs.Going.{commits_so, refuses_so, verdict_by, verdict, looked, valued_by, reads_site, reads, decides, goes_on}
use Rattle.sgt_core_model.proofs.Committing.{gather_all, write_all, finishes, commits}
use Rattle.sgt_core_model.proofs.Total.{part-answered, allowed-answered, answered, plays, played}

-- ---- words

-- the sites' items, and what happened there
pub record Played : Type 0 where
  pub replies : List Reply
  pub log : ℕ → List Entry
  pub finals : ℕ → List ℕ
  pub decisions : List Decision
  pub installs : List Install

unfoldable pub play : List (List Holding) → List Event → Played
unfolding told_by allowed_or_refused commits_so refuses_so verdict_by verdict looked valued_by reads_site reads
    decides goes_on gather_all write_all finishes commits part-answered allowed-answered answered plays played
play items events =
    let r = played items events in
    let c = r.1 in
    record {
      replies = r.0;
      log = c.entries;
      finals = λ s. map (λ (h : Holding). h.value) (finals_of (items_at c s) (c.entries s));
      decisions = (certificate_of c.certifier 1).decisions;
      installs = c.certifier.installs;
    }

abbrev pub x : Name
x = codes "x"

abbrev pub y : Name
y = codes "y"

abbrev pub holds : Name → ℕ → Holding
holds item value = record { item = item; value = value }

-- one site with x=5 and y=2; x=5 and y=2 at two sites; x=5 alone
abbrev pub both : List (List Holding)
both = (holds x 5 ∷ holds y 2 ∷ []) ∷ []

abbrev pub apart : List (List Holding)
apart = (holds x 5 ∷ []) ∷ (holds y 2 ∷ []) ∷ []

abbrev pub single : List (List Holding)
single = (holds x 5 ∷ []) ∷ []

-- ---- the only cycle that two transactions at one site can make

abbrev only_cycle_there_is : Played
only_cycle_there_is =
    play both (Begin ∷ Begin ∷ Read 1 0 x ∷ Read 2 0 y ∷ Put 1 0 y 7 ∷ Put 2 0 x 8 ∷ Commit 1 ∷ Commit 2 ∷ [])

only_cycle_there_is-replies : only_cycle_there_is.replies ≡ Begun 1 ∷ Begun 2 ∷ Value 5 ∷ Value 2 ∷ Kept ∷ Kept ∷ Yes
    ∷ No ∷ []
unfolding play
only_cycle_there_is-replies = refl

only_cycle_there_is-log : only_cycle_there_is.log 0 ≡ entry.Read 1 x 5 ∷ entry.Read 2 y 2 ∷ entry.Write 1 y 7
    ∷ entry.Commit 1 ∷ entry.Want 2 x 8 ∷ entry.Refuse 2 ∷ []
unfolding play
only_cycle_there_is-log = refl

only_cycle_there_is-finals : only_cycle_there_is.finals 0 ≡ 5 ∷ 7 ∷ []
unfolding play
only_cycle_there_is-finals = refl

only_cycle_there_is-installs : only_cycle_there_is.installs ≡ (record { tx = 1; site = 0; items = y ∷ [] }) ∷ []
unfolding play
only_cycle_there_is-installs = refl

-- ---- a rank moves after its commit, and ranks continue in the next window

abbrev rank_moves_after_commit : Played
rank_moves_after_commit = play both (Begin ∷ Begin ∷ Read 1 0 x ∷ Put 2 0 x 6 ∷ Commit 2 ∷ Put 1 0 y 3 ∷ Commit 1 ∷ [])

rank_moves_after_commit-log : rank_moves_after_commit.log 0
    ≡ entry.Read 1 x 5 ∷ entry.Write 2 x 6 ∷ entry.Commit 2 ∷ entry.Write 1 y 3 ∷ entry.Commit 1 ∷ []
unfolding play
rank_moves_after_commit-log = refl

rank_moves_after_commit-decisions : rank_moves_after_commit.decisions ≡ decision.Commit 2 1 ∷ decision.Commit 1 0 ∷ []
unfolding play
rank_moves_after_commit-decisions = refl

rank_moves_after_commit-finals : rank_moves_after_commit.finals 0 ≡ 6 ∷ 3 ∷ []
unfolding play
rank_moves_after_commit-finals = refl

abbrev ranks_continue_after_close : Played
ranks_continue_after_close =
    play both (Begin ∷ Begin ∷ Read 1 0 x ∷ Put 2 0 x 6 ∷ Commit 2 ∷ Put 1 0 y 3 ∷ Commit 1 ∷ Close ∷ Begin ∷ Put 3 0
    x 9 ∷ Commit 3 ∷ Close ∷ [])

ranks_continue_after_close-replies : ranks_continue_after_close.replies ≡ Begun 1 ∷ Begun 2 ∷ Value 5 ∷ Kept ∷ Yes
    ∷ Kept ∷ Yes ∷ Closed 2 ∷ Begun 3 ∷ Kept ∷ Yes ∷ Closed 3 ∷ []
unfolding play
ranks_continue_after_close-replies = refl

ranks_continue_after_close-decisions : ranks_continue_after_close.decisions ≡ decision.Commit 2 1 ∷ decision.Commit 1
    0 ∷ decision.Commit 3 2 ∷ []
unfolding play
ranks_continue_after_close-decisions = refl

-- ---- a reader torn by an install: it reads at one site behind the block, at the other before it

abbrev reader_torn_by_install : Played
reader_torn_by_install = play apart
    (Begin ∷ Begin ∷ Put 1 0 x 6 ∷ Put 1 1 y 3 ∷ Gather 1 0 ∷ Gather 1 1 ∷ Decide 1 ∷ Write 1 0 ∷ Read 2 0 x
    ∷ Read 2 1 y ∷ Write 1 1 ∷ Commit 2 ∷ [])

reader_torn_by_install-replies : reader_torn_by_install.replies
    ≡ Begun 1 ∷ Begun 2 ∷ Kept ∷ Kept ∷ Gathered ∷ Gathered ∷ Yes ∷ Installed ∷ Value 6 ∷ Value 2 ∷ Installed ∷ No ∷ []
unfolding play
reader_torn_by_install-replies = refl

reader_torn_by_install-first : reader_torn_by_install.log 0 ≡ entry.Write 1 x 6 ∷ entry.Commit 1 ∷ entry.Read 2 x 6
    ∷ entry.Refuse 2 ∷ []
unfolding play
reader_torn_by_install-first = refl

reader_torn_by_install-second : reader_torn_by_install.log 1 ≡ entry.Read 2 y 2 ∷ entry.Write 1 y 3 ∷ entry.Commit 1
    ∷ entry.Refuse 2 ∷ []
unfolding play
reader_torn_by_install-second = refl

-- ---- others read while a step is open, and between two blocks of it

abbrev three : List (List Holding)
three = (holds x 5 ∷ []) ∷ (holds y 2 ∷ []) ∷ (holds (codes "z") 1 ∷ []) ∷ []

abbrev read_in_step_as_replay : Played
read_in_step_as_replay = play three
    (Begin ∷ Begin ∷ Read 1 2 (codes "z") ∷ Read 2 1 y ∷ Put 1 0 x 6 ∷ Gather 1 0 ∷ Gather 1 2 ∷ Decide 1 ∷ Read 2 0 x ∷ Write 1 0 ∷ Write 1 2 ∷ Commit 2 ∷ [])

read_in_step_as_replay-replies : read_in_step_as_replay.replies
    ≡ Begun 1 ∷ Begun 2 ∷ Value 1 ∷ Value 2 ∷ Kept ∷ Gathered ∷ Gathered ∷ Yes ∷ Value 5 ∷ Installed ∷ Installed ∷ Yes
    ∷ []
unfolding play
read_in_step_as_replay-replies = refl

read_in_step_as_replay-log : read_in_step_as_replay.log 0 ≡ entry.Read 2 x 5 ∷ entry.Write 1 x 6 ∷ entry.Commit 1
    ∷ entry.Commit 2 ∷ []
unfolding play
read_in_step_as_replay-log = refl

read_in_step_as_replay-decisions : read_in_step_as_replay.decisions ≡ decision.Commit 1 1 ∷ decision.Commit 2 0 ∷ []
unfolding play
read_in_step_as_replay-decisions = refl

-- an install is noted with the items that it changes there
read_in_step_as_replay-installs : read_in_step_as_replay.installs
    ≡ record { tx = 1; site = 0; items = x ∷ [] } ∷ record { tx = 1; site = 2; items = [] } ∷ record {
      tx = 2;
      site =
          0;
      items = [];
    }
    ∷ record { tx = 2; site = 1; items = [] } ∷ []
unfolding play
read_in_step_as_replay-installs = refl

-- a read between two blocks, of items on both sides of it
abbrev one_item : Name → ℕ → List Holding
one_item item value = holds item value ∷ []

abbrev five : List (List Holding)
five = one_item x 5 ∷ one_item (codes "u") 0 ∷ one_item y 2 ∷ one_item (codes "a") 0 ∷ one_item (codes "b") 0 ∷ []

abbrev read_between_blocks_as_replay : Played
read_between_blocks_as_replay = play five
    (Begin ∷ Begin ∷ Read 1 3 (codes "a") ∷ Read 2 4 (codes "b") ∷ Put 1 0 x 6 ∷ Put 1 1 (codes "u") 1 ∷ Put 1 2 y 3
    ∷ Gather 1 0 ∷ Gather 1 1 ∷ Gather 1 2 ∷ Gather 1 3 ∷ Decide 1 ∷ Write 1 0 ∷ Write 1 1 ∷ Read 2 0 x ∷ Read 2 2 y
    ∷ Write 1 2 ∷ Write 1 3
    ∷ Commit 2 ∷ [])

read_between_blocks_as_replay-replies : read_between_blocks_as_replay.replies
    ≡ Begun 1 ∷ Begun 2 ∷ Value 0 ∷ Value 0 ∷ Kept ∷ Kept ∷ Kept ∷ Gathered ∷ Gathered ∷ Gathered ∷ Gathered ∷ Yes
    ∷ Installed ∷ Installed
    ∷ Value 6 ∷ Value 2 ∷ Installed ∷ Installed ∷ No ∷ []
unfolding play
read_between_blocks_as_replay-replies = refl

read_between_blocks_as_replay-log : read_between_blocks_as_replay.log 0
    ≡ entry.Write 1 x 6 ∷ entry.Commit 1 ∷ entry.Read 2 x 6 ∷ entry.Refuse 2 ∷ []
unfolding play
read_between_blocks_as_replay-log = refl

-- ---- its own write is read back and not logged; a transaction that touches nothing ends with its decision

abbrev own_write_and_empty_transaction : Played
own_write_and_empty_transaction =
    play single (Begin ∷ Put 1 0 x 6 ∷ Read 1 0 x ∷ Commit 1 ∷ Begin ∷ Commit 2 ∷ Begin ∷ Decide 3 ∷ Close ∷ [])

own_write_and_empty_transaction-replies : own_write_and_empty_transaction.replies ≡ Begun 1 ∷ Kept ∷ Value 6 ∷ Yes
    ∷ Begun 2 ∷ Yes ∷ Begun 3 ∷ Yes ∷ Closed 3 ∷ []
unfolding play
own_write_and_empty_transaction-replies = refl

own_write_and_empty_transaction-log : own_write_and_empty_transaction.log 0 ≡ entry.Write 1 x 6 ∷ entry.Commit 1 ∷ []
unfolding play
own_write_and_empty_transaction-log = refl

-- ---- a kept read is read again, and not logged again; a withdrawal; blocks by rising name; a later write in
-- the stead of an earlier one

abbrev withdrawn : Played
withdrawn =
    play both (Begin ∷ Read 1 0 x ∷ Read 1 0 x ∷ Put 1 0 y 3 ∷ Withdraw 1 ∷ Begin ∷ Put 2 0 y 4 ∷ Put 2 0 x 1
    ∷ Put 2 0 y 9 ∷ Commit 2 ∷ [])

withdrawn-log : withdrawn.log 0 ≡ entry.Read 1 x 5 ∷ entry.Withdraw 1 ∷ entry.Write 2 x 1 ∷ entry.Write 2 y 9
    ∷ entry.Commit 2 ∷ []
unfolding play
withdrawn-log = refl

withdrawn-decisions : withdrawn.decisions ≡ decision.Withdraw 1 ∷ decision.Commit 2 0 ∷ []
unfolding play
withdrawn-decisions = refl

-- ---- increments

-- two increments are in no conflict, and sum up
abbrev increments_commute : Played
increments_commute =
    play single (Begin ∷ Begin ∷ Add 1 0 x 3 ∷ Add 2 0 x 4 ∷ Commit 2 ∷ Commit 1 ∷ Begin ∷ Read 3 0 x ∷ Commit 3 ∷ [])

increments_commute-replies : increments_commute.replies ≡ Begun 1 ∷ Begun 2 ∷ Kept ∷ Kept ∷ Yes ∷ Yes ∷ Begun 3
    ∷ Value 12 ∷ Yes ∷ []
unfolding play
increments_commute-replies = refl

increments_commute-log : increments_commute.log 0
    ≡ entry.Add 2 x 4 ∷ entry.Commit 2 ∷ entry.Add 1 x 3 ∷ entry.Commit 1 ∷ entry.Read 3 x 12 ∷ entry.Commit 3 ∷ []
unfolding play
increments_commute-log = refl

increments_commute-decisions : increments_commute.decisions ≡ decision.Commit 2 0 ∷ decision.Commit 1 1
    ∷ decision.Commit 3 2 ∷ []
unfolding play
increments_commute-decisions = refl

-- a read with the private increment behind it; another increment; on a write; in the stead of one
abbrev read_after_own_increment : Played
read_after_own_increment = play single
    (Begin ∷ Add 1 0 x 3 ∷ Read 1 0 x ∷ Add 1 0 x 4 ∷ Read 1 0 x ∷ Commit 1 ∷ Begin ∷ Put 2 0 x 7 ∷ Add 2 0 x 1
    ∷ Read 2 0 x ∷ Commit 2 ∷ [])

read_after_own_increment-replies : read_after_own_increment.replies ≡ Begun 1 ∷ Kept ∷ Value 8 ∷ Kept ∷ Value 12 ∷ Yes
    ∷ Begun 2 ∷ Kept ∷ Kept ∷ Value 8 ∷ Yes ∷ []
unfolding play
read_after_own_increment-replies = refl

read_after_own_increment-log : read_after_own_increment.log 0 ≡ entry.Read 1 x 5 ∷ entry.Add 1 x 7 ∷ entry.Commit 1
    ∷ entry.Write 2 x 8 ∷ entry.Commit 2 ∷ []
unfolding play
read_after_own_increment-log = refl

read_after_own_increment-changes : changed_by 2 (read_after_own_increment.log 0) ≡ x ∷ []
unfolding play
read_after_own_increment-changes = refl

-- increments make the same cycle as writes do with reads
abbrev only_cycle_with_increments : Played
only_cycle_with_increments =
    play both (Begin ∷ Begin ∷ Read 1 0 x ∷ Read 2 0 y ∷ Add 1 0 y 7 ∷ Add 2 0 x 8 ∷ Commit 1 ∷ Commit 2 ∷ [])

only_cycle_with_increments-replies : only_cycle_with_increments.replies ≡ Begun 1 ∷ Begun 2 ∷ Value 5 ∷ Value 2 ∷ Kept
    ∷ Kept ∷ Yes ∷ No ∷ []
unfolding play
only_cycle_with_increments-replies = refl

only_cycle_with_increments-log : only_cycle_with_increments.log 0
    ≡ entry.Read 1 x 5 ∷ entry.Read 2 y 2 ∷ entry.Add 1 y 7 ∷ entry.Commit 1 ∷ entry.WantAdd 2 x 8 ∷ entry.Refuse 2 ∷ []
unfolding play
only_cycle_with_increments-log = refl

only_cycle_with_increments-finals : only_cycle_with_increments.finals 0 ≡ 5 ∷ 9 ∷ []
unfolding play
only_cycle_with_increments-finals = refl
