-- A text grows part by part.
use Rattle.std.proofs.Common.{◌≡◌, ℕ, zero, suc, ◌≤◌, List, [], ◌∷◌, ◌++◌, length, take, refl, ap, ◌∙◌, append_assoc}
use Rattle.std.proofs.lemmas.List.{take_all}
use Rattle.report.specs.Text.{Grows}

-- what was cut off makes no room for what comes next
cut_once : (n : ℕ) (a b : List ℕ) → take n (take n a ++ b) ≡ take n (a ++ b)
cut_once zero a b = refl
cut_once (suc n) [] b = refl
cut_once (suc n) (x ∷ a) b = ap (λ l. x ∷ l) (cut_once n a b)

pub then : {a x b y c : List ℕ} → Grows a x b → Grows b y c → Grows a (x ++ y) c
then {a} {x} {b} {y} {c} p q =
    record { text = q.text ∙ ap (λ l. take 160 (l ++ y)) p.text ∙ cut_once 160 (a ++ x) y ∙ ap (take 160) (append_assoc a x y) }

-- nothing of a short text is cut off
pub whole : {a x b : List ℕ} → a ≡ [] → Grows a x b → length x ≤ 160 → b ≡ x
whole {a} {x} {b} none g short = g.text ∙ ap (λ l. take 160 (l ++ x)) none ∙ take_all 160 x short
