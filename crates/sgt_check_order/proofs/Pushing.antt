-- Texts that are put one behind another.
use Rattle.std.proofs.Common.{◌≡◌, ℕ, List, ◌++◌}
use Rattle.sgt_check.proofs.Pushing.{five, two}

pub seven : (o a b c d e f g s t u v w x y : List ℕ) → s ≡ o ++ a → t ≡ s ++ b → u ≡ t ++ c → v ≡ u ++ d → w ≡ v ++ e
    → x ≡ w ++ f → y ≡ x ++ g
    → y ≡ o ++ (a ++ (b ++ (c ++ (d ++ (e ++ (f ++ g))))))
seven o a b c d e f g s t u v w x y e1 e2 e3 e4 e5 e6 e7 =
    two o a (b ++ (c ++ (d ++ (e ++ (f ++ g))))) s y e1
    (two s b (c ++ (d ++ (e ++ (f ++ g)))) t y e2 (five t c d e f g u v w x y e3 e4 e5 e6 e7))
