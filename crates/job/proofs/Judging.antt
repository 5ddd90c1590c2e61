-- Which jobs are refused, and what the first line says.
use Rattle.std.proofs.Common.{◌≡◌, ℕ, ◌-◌, ◌<◌, ◌≤◌, true, false, ltb, List, [], ◌∷◌, length, get_or, sym, zero-add, arith}
use Rattle.std.proofs.lemmas.Bool.{lt-ltb, le-ltb, le-leb, and_from, or_left, or_right, or_from, not_from_true, not_from_false}
use Rattle.word.specs.Symbols.{among}
use Rattle.word.specs.Text.{worth}
use Rattle.job.specs.Jobs.{is_digit_to_8, is_refused, line_after}

pub refused_long : (job : List ℕ) → 65_536 < length job → is_refused job ≡ true
refused_long job h = or_left _ _ (lt-ltb 65_536 (length job) h)

pub refused_whole : (job : List ℕ) → among 10 job ≡ false → is_refused job ≡ true
refused_whole job e = or_right (ltb 65_536 (length job)) _ (or_left _ _ (not_from_false _ e))

pub accepted : (job : List ℕ) → length job ≤ 65_536 → among 10 job ≡ true → is_digit_to_8 (line_after 0 job) ≡ true → is_refused job ≡ false
accepted job short found digit = or_from _ _ (le-ltb 65_536 (length job) short) (or_from _ _ (not_from_true _ found) (not_from_true _ digit))

pub digit_alone : (line : List ℕ) → length line ≡ 1 → 48 ≤ get_or line 0 0 → get_or line 0 0 ≤ 56 → is_digit_to_8 line ≡ true
digit_alone [] e low high = absurd (omega arith)
digit_alone (d ∷ []) e low high = and_from _ _ (le-leb 48 d low) (le-leb d 56 high)
digit_alone (d ∷ b ∷ bs) e low high = absurd (omega arith)

pub worth_alone : (line : List ℕ) → length line ≡ 1 → get_or line 0 0 - 48 ≡ worth line
worth_alone [] e = absurd (omega arith)
worth_alone (d ∷ []) e = sym (zero-add (d - 48))
worth_alone (d ∷ b ∷ bs) e = absurd (omega arith)
