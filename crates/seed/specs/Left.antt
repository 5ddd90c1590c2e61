-- What a seed still tells, part way through its text. Internal.
use Rattle.std.specs.Prelude.{ℕ, suc, true, false, List, length, drop, nat_lt}
use Rattle.word.specs.Words.{Meaning}
use Rattle.seed.specs.Seeds.{cut, reads, stopped}

-- from the byte `at` on, after n modules, with d brackets open
abbrev pub left : List ℕ → ℕ → ℕ → ℕ → Meaning
left text at n d = record {
  told = elim (nat_lt 65_536 (length text)) [ true ↦ stopped 20 1 | false ↦ reads d (suc n) (cut false (drop at text)) ];
  opened = d;
  generation = 0;
}
