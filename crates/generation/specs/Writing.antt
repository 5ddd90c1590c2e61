-- Internal. What is told is written to places that are lent, as far as what is held goes. Whatever the source below means, as long
-- as that fits what is known to come.
use Rattle.std.specs.Prelude.{◌≡◌, ℕ, ◌+◌, ◌<◌, List, [], ◌∷◌, length, drop, Some, None, Ok, Err, Option, Result}
use Rattle.word.specs.declared.fault.Fault.{Fault}
use Rattle.word.specs.declared.module.Module.{Module}
use Rattle.word.specs.Symbols.{Symbol}
use Rattle.word.specs.Words.{Ending, clean, broken, Meaning}
use Rattle.word.specs.Records.{symbol_of, Tells, Drew, DrawsSome}
use Rattle.books.specs.declared.closed_book.ClosedBook.{ClosedBook}
use Rattle.books.specs.Kinds.{closed_book}
use Rattle.generation.specs.declared.beyond.Beyond.{Beyond}
use Rattle.generation.specs.declared.beyond.Beyond.TheVariants.{Unread}
use Rattle.generation.specs.declared.rewriter.Rewriter.{Rewriter}
use Rattle.generation.specs.declared.rewriter.write.Step.{Step}
use Rattle.generation.specs.declared.rewriter.write.Step.TheVariants as step
use Rattle.generation.specs.Generations.{found}
use Rattle.generation.specs.Stream.{scan}
use Rattle.generation.specs.Windows.{in_window, flow, Fits}
use Rattle.generation.specs.Looking.{Looks}
use Rattle.generation.specs.Rewriting.{pending, left_in, part_of, part_in, Sound}

-- more may come, and the window has room for it
abbrev pub Wants : Rewriter → Beyond → Type 0
Wants r x = (x ≡ Unread) × (length (in_window r.window) < 65)

-- what a look behind the module in hand comes to, or none where that is not settled
abbrev pub Sees : ClosedBook → Rewriter → Beyond → Option (Result (Option Module) Fault) → Type 0
Sees b r x None = Wants r x
Sees b r x (Some a) =
    Sound a
    × ((m : Meaning) → Fits x m → Looks (found r.generation r.place 30) (scan (closed_book b).ignored 64 0 (drop 1 (flow r.window m).modules)) m.told.ending a)

-- the right neighbour of the module s in hand, as far as its outcome needs it, or none where that is not settled
abbrev pub Seeks : ClosedBook → Rewriter → Symbol → Beyond → Option (Result (Option Module) Fault) → Type 0
Seeks b r s x None = Wants r x
Seeks b r s x (Some a) =
    Sound a
    × ((m : Meaning) → Fits x m → r.generation ≡ m.generation → (w : List Symbol) → (flow r.window m).modules ≡ s ∷ w → part_of b r s a ≡ part_in b r m s w)

-- the end of the window and the number of the word below stay
abbrev pub Steady : Rewriter → Rewriter → Type 0
Steady r r' = (r'.window.last ≡ r.window.last) × (r'.generation ≡ r.generation)

-- the window ends where a source goes on that means m, and its number is the one of the word below
pub record Meets (r : Rewriter) (m : Meaning) : Type 0 where
  pub joined : r.window.last.brackets ≡ m.opened
  pub numbered : r.generation ≡ m.generation

-- over whatever source there may be, as far as r knows
abbrev pub Over : Rewriter → Beyond → (Meaning → Type 0) → Type 0
Over r x P = (m : Meaning) → Fits x m → r.generation ≡ m.generation → P m

-- nothing is left to tell but the ending
abbrev pub Ends : Meaning → Ending → Type 0
Ends s e = (s.told.modules ≡ []) × (s.told.ending ≡ e)

-- a fault that is not yet found counts as a turn
abbrev pub to_come : Option Fault → ℕ
to_come None = 1
to_come (Some f) = 0

-- no more turns than this are taken before more is read
abbrev pub turns_left : Rewriter → ℕ
turns_left r = length (in_window r.window) + to_come r.fault

-- the module x in hand is passed over and told
pub record Copied (b : ClosedBook) (r : Rewriter) (x : Module) (r' : Rewriter) : Type 0 where
  pub steady : Steady r r'
  pub fewer : turns_left r' < turns_left r
  pub none_pending : pending r' ≡ []
  pub told : (m : Meaning) → r.generation ≡ m.generation → Tells (left_in b r m) (symbol_of x ∷ []) (left_in b r' m)

abbrev pub Copies : ClosedBook → Rewriter → Option Module → Rewriter → Type 0
Copies b r None r' = r' ≡ r
Copies b r (Some x) r' = Copied b r x r'

abbrev pub Advances : ClosedBook → Rewriter → Beyond → Step → Rewriter → Type 0
Advances b r x step.Taken r' = Steady r r' × (turns_left r' < turns_left r) × Over r x (λ m. left_in b r' m ≡ left_in b r m)
Advances b r x step.Hungry r' = (r' ≡ r) × Wants r x
Advances b r x step.Over r' = (r' ≡ r) × Over r x (λ m. Ends (left_in b r m) clean)
Advances b r x (step.Broken f) r' = (r' ≡ r) × Over r x (λ m. Ends (left_in b r m) (broken f))

abbrev pub Writes : ClosedBook → Rewriter → List Module → Beyond → Result (Option ℕ) Fault → List Module → Rewriter → Type 0
Writes b r places x (Ok (Some n)) places' r' = Steady r r' × Over r x (λ m. Drew (left_in b r m) places n places' (left_in b r' m))
Writes b r places x (Ok None) places' r' = Steady r r' × Wants r' x × (places' ≡ places) × Over r x (λ m. left_in b r' m ≡ left_in b r m)
Writes b r places x (Err f) places' r' = Steady r r' × Over r x (λ m. DrawsSome (left_in b r m) places (Err f) places' (left_in b r' m))
