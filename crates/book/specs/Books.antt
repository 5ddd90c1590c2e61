-- Books: rules in the order in which they are tried, and ignored letters. A book does not know in which order its lines came.
use Rattle.std.specs.Prelude.{◌≡◌, ℕ, Bool, false, cond, ◌&&◌, ◌||◌, ◌⊎◌, List, [], ◌∷◌, Some, None, Option, ◌==◌, nat_lt}
use Rattle.word.specs.Symbols.{among}
use Rattle.book.specs.Rules.{Form, Rule}

-- both sides, left only, right only, none
abbrev pub rank : Option Form → Option Form → ℕ
rank (Some l) (Some r) = 0
rank (Some l) None = 1
rank None (Some r) = 2
rank None None = 3

abbrev pub rank_of : Rule → ℕ
rank_of u = rank u.before u.behind

-- a rule goes before another: by rank, and within a rank the smaller printed number
abbrev pub precedes : Rule → Rule → Bool
precedes u v = nat_lt (rank_of u) (rank_of v) || (rank_of u == rank_of v && nat_lt u.number v.number)

-- a rule put where it belongs
abbrev pub with_rule : Rule → List Rule → List Rule
with_rule u [] = u ∷ []
with_rule u (v ∷ vs) = cond (precedes u v) (u ∷ v ∷ vs) (v ∷ with_rule u vs)

-- u is one of some rules
abbrev pub Among : Rule → List Rule → Type 0
Among u [] = ⊥
Among u (v ∷ vs) = (u ≡ v) ⊎ Among u vs

pub record Book : Type 0 where
  pub rules : List Rule
  pub ignored : ℕ → Bool

abbrev pub empty : Book
empty = record { rules = []; ignored = λ c. false }

-- what a line adds: a rule, or ignored letters
pub data Entry : Type 0 where
  rule : Rule → Entry
  ignores : List ℕ → Entry

abbrev pub with_entry : Entry → Book → Book
with_entry (rule u) b = record { rules = with_rule u b.rules; ignored = b.ignored }
with_entry (ignores cs) b = record { rules = b.rules; ignored = λ c. among c cs || b.ignored c }

-- the book of some entries, loaded one after the other
abbrev pub loaded : List Entry → Book → Book
loaded [] b = b
loaded (e ∷ es) b = loaded es (with_entry e b)

-- no two rules have one printed number
abbrev pub Differs : Entry → Entry → Type 0
Differs (rule u) (rule v) = u.number ≡ v.number → ⊥
Differs (rule u) (ignores cs) = Unit {0}
Differs (ignores cs) e = Unit {0}

abbrev pub DiffersAll : Entry → List Entry → Type 0
DiffersAll e [] = Unit {0}
DiffersAll e (d ∷ ds) = Differs e d × DiffersAll e ds

abbrev pub Distinct : List Entry → Type 0
Distinct [] = Unit {0}
Distinct (e ∷ es) = DiffersAll e es × Distinct es

-- the same entries in another order
pub data Reordered : List Entry → List Entry → Type 0 where
  none : Reordered [] []
  keep : {e : Entry} {es ds : List Entry} → Reordered es ds → Reordered (e ∷ es) (e ∷ ds)
  swap : {d e : Entry} {es : List Entry} → Reordered (d ∷ e ∷ es) (e ∷ d ∷ es)
  then : {es ds cs : List Entry} → Reordered es ds → Reordered ds cs → Reordered es cs

-- THE LAW OF LOADING: the same accepted lines in any order make the same book
abbrev pub AnyOrder : Type 0
AnyOrder = (es ds : List Entry) → Reordered es ds → Distinct es → loaded es empty ≡ loaded ds empty
