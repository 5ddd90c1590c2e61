use Rattle.std.proofs.Common.{◌≡◌, ◌-◌, ◌≤◌, List, ◌++◌, map, drop}
use Rattle.word.specs.Symbols.{Symbol}
use Rattle.word.specs.Records.{symbol_of}
use Rattle.books.specs.Kinds.{closed_book}
use Rattle.generation.specs.Stream.{scan}
use Rattle.generation.proofs.rewriter.Rewriter.look.Given as goal

-- the look so far is undecided, whatever comes behind what is held
abbrev pub invariant-loop-module : goal.invariant-loop-module
invariant-loop-module l =
    let ignored = (closed_book l.book).ignored in
    (l.depth ≤ l.module-index)
    × ((t : List Symbol) → scan ignored 64 0 (map symbol_of l.module-items ++ t) ≡ scan ignored (64 - l.module-index) l.depth (map symbol_of (drop l.module-index l.module-items) ++ t))
