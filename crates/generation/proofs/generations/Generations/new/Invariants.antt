use Rattle.std.proofs.Common.{◌≡◌, ◌+◌, drop}
use Rattle.books.specs.Kinds.{closed_book}
use Rattle.generation.specs.Grown.{grown}
use Rattle.generation.specs.Layers.{stacked}
use Rattle.generation.proofs.generations.Generations.new.Given as goal

-- so many generations as turns were taken
abbrev pub invariant-loop : goal.invariant-loop
invariant-loop g l =
    let means = g.S.Source.means in
    (stacked l.generations.book (drop l.generations.top l.generations.layers) (means l.generations.below) ≡ grown l.counter (closed_book l.fn.book) (means l.fn.below))
    × (l.generations.top + l.counter ≡ 8)
    × (l.generations.book ≡ l.fn.book)
