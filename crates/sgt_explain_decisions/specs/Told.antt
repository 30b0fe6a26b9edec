-- How decisions are told, and two entries that stand against the ranks.
use Rattle.std.specs.Prelude.{List, ◌++◌, ℕ, codes, decimal}
use Rattle.sgt_names.specs.Entry.{tx_of}
use Rattle.sgt_bundle.specs.declared.certificate.Decision.{Decision}
use Rattle.sgt_bundle.specs.declared.certificate.Decision.TheVariants.{Commit, Refuse, Withdraw}
use Rattle.sgt_explain_lines.specs.Told.{noted_line, verb_text, kind_text}
use Rattle.sgt_explain_decisions.specs.declared.order.Ranked.{Ranked}
use Rattle.sgt_explain_decisions.specs.declared.order.RanksShown.{RanksShown}

-- what a decision does
abbrev pub decision_text : ℕ → Decision → List ℕ
decision_text n (Commit tx rank) = codes "decision " ++ (decimal n ++ (codes " commits " ++ (decimal tx ++ (codes " with rank " ++ decimal rank))))
decision_text n (Refuse tx walk) = codes "decision " ++ (decimal n ++ (codes " refuses " ++ decimal tx))
decision_text n (Withdraw tx) = codes "decision " ++ (decimal n ++ (codes " withdraws " ++ decimal tx))

abbrev pub no_decision_text : ℕ → List ℕ
no_decision_text tx = codes "transaction " ++ (decimal tx ++ codes " has no decision in the certificate\n")

abbrev pub ranked_text : Ranked → List ℕ
ranked_text r = noted_line r.logged ++ (codes "transaction " ++ (decimal (tx_of r.logged.entry) ++ (codes " has rank "
    ++ (decimal r.rank ++ (codes " (decision " ++ (decimal r.number ++ codes ")\n"))))))

abbrev pub both_ranked : RanksShown → List ℕ
both_ranked s = ranked_text s.first ++ ranked_text s.second

-- which conflict they are in, and what it asks of the ranks
abbrev pub first_deed : RanksShown → List ℕ
first_deed s = decimal (tx_of s.first.logged.entry) ++ (codes " " ++ (verb_text s.first.logged.entry ++ (codes " " ++ (s.item
    ++ (codes " of site " ++ (decimal s.site ++ codes " "))))))

abbrev pub second_deed : RanksShown → List ℕ
second_deed s = codes "before " ++ (decimal (tx_of s.second.logged.entry) ++ (codes " " ++ (verb_text s.second.logged.entry
    ++ (codes " it (" ++ (kind_text s.kind ++ codes "): ")))))

abbrev pub rank_wish : RanksShown → List ℕ
rank_wish s = decimal (tx_of s.first.logged.entry) ++ codes " has to have the smaller rank\n"

abbrev pub ranks_wanted : RanksShown → List ℕ
ranks_wanted s = first_deed s ++ (second_deed s ++ rank_wish s)

abbrev pub rank_order_head : List ℕ
rank_order_head = codes "RankOrder: two operations in conflict stand against the ranks\n"

abbrev pub rank_order_text : RanksShown → List ℕ
rank_order_text s = rank_order_head ++ (both_ranked s ++ ranks_wanted s)
