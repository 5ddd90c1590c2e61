-- Internal. What a generation has still to tell, in every state.
use Rattle.std.specs.Prelude.{◌≡◌, ℕ, ◌+◌, ◌<◌, ◌≤◌, true, cond, List, [], ◌∷◌, ◌++◌, map, length, take, drop, Some, None, Ok, Err, Option, Result}
use Rattle.std.specs.Option.{option_map}
use Rattle.word.specs.declared.fault.Fault.{Fault}
use Rattle.word.specs.declared.module.Module.{Module}
use Rattle.word.specs.Symbols.{Symbol, is_bracket}
use Rattle.word.specs.Words.{broken, Told, Meaning, after, depth, in_bounds}
use Rattle.word.specs.Records.{symbol_of}
use Rattle.books.specs.declared.closed_book.ClosedBook.{ClosedBook}
use Rattle.books.specs.Outcomes.{becomes}
use Rattle.books.specs.Few.{modules_in, symbols_in}
use Rattle.books.specs.Kinds.{closed_book}
use Rattle.generation.specs.declared.rewriter.Rewriter.{Rewriter}
use Rattle.generation.specs.Generations.{next, Part, adds, stops, added, worked}
use Rattle.generation.specs.Stream.{Table, passed, onward, turn, streamed}
use Rattle.generation.specs.Tables.{table}
use Rattle.word.specs.Spans.{spans}
use Rattle.generation.specs.Windows.{in_window, flow, Kept}

-- what is worked out already
abbrev pub pending : Rewriter → List Symbol
pending r = map symbol_of (drop r.told (modules_in r.growth))

-- the rest of the result behind n modules, from position i and depth d on, where t flows in
abbrev pub telling : Option Fault → ClosedBook → ℕ → Told → ℕ → ℕ → ℕ → Table Symbol → Told
telling (Some f) b g t n i d lefts = record { modules = []; ending = broken f }
telling None b g t n i d lefts = streamed (closed_book b) g t.ending n i d lefts t.modules

-- what is told over a word of generation g, where d brackets are open before it: some modules, then the rest
abbrev pub in_all : ℕ → ℕ → List Symbol → Told → Meaning
in_all g d v t = record { told = record { modules = v ++ t.modules; ending = t.ending }; opened = d; generation = next g }

-- what is still to tell by the book b over a source that means m
abbrev pub left_in : ClosedBook → Rewriter → Meaning → Meaning
left_in b r m =
    in_all m.generation r.opened.brackets (pending r)
    (telling r.fault b m.generation (flow r.window m) r.produced r.place r.window.first.brackets (table r.lefts))

-- the outcome of the module s, by what is found on its right
module _ (b : ClosedBook) (r : Rewriter) (s : Symbol) where
  abbrev pub with_right : Option Symbol → Part
  with_right o = worked r.generation r.produced r.place r.window.first.brackets s (becomes (table r.lefts r.window.first.brackets) s o (closed_book b).rules)

  abbrev pub by_right : Result (Option Module) Fault → Part
  by_right (Ok o) = with_right (option_map symbol_of o)
  by_right (Err f) = stops f

  abbrev pub part_of : Result (Option Module) Fault → Part
  part_of x = cond (is_bracket s.letter) (added r.generation r.produced r.place (s ∷ [])) (by_right x)

-- the answer of the code to a part: the modules w are written, which lead from d to e, or a fault in bounds is found
abbrev pub Answers : ℕ → ℕ → ℕ → Part → Result (Unit {0}) Fault → List Symbol → Type 0
Answers n d e p (Ok u) w = (p ≡ adds w) × (spans d w e ≡ true) × (n + length w ≤ 16_000_000)
Answers n d e p (Err f) w = (p ≡ stops f) × (in_bounds (broken f) ≡ true)

-- a passed-up fault is in bounds
abbrev pub Sound : Result (Option Module) Fault → Type 0
Sound (Ok o) = Unit {0}
Sound (Err f) = in_bounds (broken f) ≡ true

-- the part of the module s, where the word below means m and the modules w come behind s
abbrev pub part_in : ClosedBook → Rewriter → Meaning → Symbol → List Symbol → Part
part_in b r m s w =
    turn (closed_book b) m.generation (flow r.window m).ending r.produced r.place r.window.first.brackets (table r.lefts r.window.first.brackets) s w

-- all but the window stays
pub record Reads (r r' : Rewriter) : Type 0 where
  pub generation_stays : r'.generation ≡ r.generation
  pub lefts_stay : r'.lefts ≡ r.lefts
  pub made_stays : r'.produced ≡ r.produced
  pub place_stays : r'.place ≡ r.place
  pub pending_stays : pending r' ≡ pending r
  pub opened_stays : r'.opened ≡ r.opened
  pub fault_stays : r'.fault ≡ r.fault

-- something may be read from below: what flows stays, and all but the window does
pub record ReadsOn (r : Rewriter) (m : Meaning) (r' : Rewriter) (m' : Meaning) : Type 0 where
  pub reads : Reads r r'
  pub kept : Kept r.window m r'.window m'

-- nothing is read of a word of generation g, and d brackets are open
pub record Begins (g d : ℕ) (r : Rewriter) : Type 0 where
  pub generation_is : r.generation ≡ g
  pub none_held : in_window r.window ≡ []
  pub first_is : r.window.first.brackets ≡ d
  pub last_is : r.window.last.brackets ≡ d
  pub none_left : table r.lefts ≡ (λ e. None)
  pub none_made : r.produced ≡ 0
  pub at_start : r.place ≡ 0
  pub none_pending : pending r ≡ []
  pub opened_is : r.opened.brackets ≡ d
  pub no_fault : r.fault ≡ None

-- all but what is pending stays
pub record Stays (r r' : Rewriter) : Type 0 where
  pub generation_stays : r'.generation ≡ r.generation
  pub window_stays : r'.window ≡ r.window
  pub lefts_stay : r'.lefts ≡ r.lefts
  pub made_stays : r'.produced ≡ r.produced
  pub place_stays : r'.place ≡ r.place

-- a part is worked out, which leads to e; nothing of it is pending yet
pub record Worked (p : Part) (e : ℕ) (r : Rewriter) (x : Result (Unit {0}) Fault) (r' : Rewriter) : Type 0 where
  pub stays : Stays r r'
  pub opened_stays : r'.opened ≡ r.opened
  pub fault_stays : r'.fault ≡ r.fault
  pub none_pending : pending r' ≡ []
  pub answers : Answers r.produced r.window.first.brackets e p x (symbols_in r'.growth)

-- the first n of what is pending are told, into the first n places
pub record TellsSome (r : Rewriter) (places : List Module) (n : ℕ) (places' : List Module) (r' : Rewriter) : Type 0 where
  pub stays : Stays r r'
  pub fault_stays : r'.fault ≡ r.fault
  pub told : pending r ≡ map symbol_of (take n places') ++ pending r'
  pub opened : r'.opened.brackets ≡ depth r.opened.brackets (map symbol_of (take n places')) (length (map symbol_of (take n places')))
  pub fits : n ≤ length places
  pub behind : drop n places' ≡ drop n places
  pub all : n < length places → pending r' ≡ []

-- by the book b the module x in hand is passed over, and the modules v are pending
pub record Passes (b : ClosedBook) (r : Rewriter) (x : Module) (v : List Symbol) (r' : Rewriter) : Type 0 where
  pub generation_stays : r'.generation ≡ r.generation
  pub popped : in_window r.window ≡ x ∷ in_window r'.window
  pub deeper : r'.window.first.brackets ≡ after r.window.first.brackets (symbol_of x)
  pub last_stays : r'.window.last ≡ r.window.last
  pub noted : table r'.lefts ≡ passed (closed_book b).ignored r.window.first.brackets (symbol_of x) (symbol_of x) (table r.lefts)
  pub made : r'.produced ≡ r.produced + length v
  pub onwards : r'.place ≡ onward r.place
  pub now_pending : pending r' ≡ v
  pub opened_stays : r'.opened ≡ r.opened
  pub fault_stays : r'.fault ≡ r.fault

-- what follows from the part of the module x in hand
abbrev pub Turned : ClosedBook → Rewriter → Module → Part → Rewriter → Type 0
Turned b r x (adds v) r' = Passes b r x v r'
Turned b r x (stops f) r' = (r'.fault ≡ Some f) × (pending r' ≡ pending r) × (r'.opened ≡ r.opened) × (r'.window ≡ r.window) × (r'.generation ≡ r.generation)
