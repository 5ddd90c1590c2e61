-- What the text of a seed tells.
use Rattle.std.specs.Prelude.{ℕ, suc, ◌-◌, Bool, true, false, cond, ◌&&◌, ◌||◌, List, [], ◌∷◌, length, take, ℤ, pos, neg_ℤ, Some, None, Option, ◌==◌, nat_le, nat_lt, slice_index}
use Rattle.std.specs.Option.{option_map}
use Rattle.word.specs.Symbols.{Symbol, is_letter, is_bracket, is_open, is_close, all_in_range}
use Rattle.word.specs.Text.{number, glued, split}
use Rattle.word.specs.Words.{clean, broken, Told, Meaning, after}

-- The bytes of each module: one byte and, where a `(` follows it, all that stands on to the next `)`.
abbrev pub cut : Bool → List ℕ → List (List ℕ)
cut inside [] = []
cut true (b ∷ bs) = elim (b == 41) [ true ↦ (b ∷ []) ∷ cut false bs | false ↦ glued b (cut true bs) ]
cut false (b ∷ []) = (b ∷ []) ∷ []
cut false (b ∷ c ∷ bs) = elim (c == 40) [ true ↦ glued b (cut true (c ∷ bs)) | false ↦ (b ∷ []) ∷ cut false (c ∷ bs) ]

abbrev pub with_sign : Bool → ℕ → ℤ
with_sign true n = neg_ℤ (pos n)
with_sign false n = pos n

-- a parameter: an optional `-`, and a number of 1 to 7 digits
abbrev pub integer : List ℕ → Option ℤ
integer [] = None
integer (b ∷ bs) = elim (b == 45) [ true ↦ option_map (with_sign true) (number bs) | false ↦ option_map (with_sign false) (number (b ∷ bs)) ]

-- one more parameter before others, if all are parameters
abbrev pub prefixed : Option ℤ → Option (List ℤ) → Option (List ℤ)
prefixed None o = None
prefixed (Some z) o = option_map (λ zs. z ∷ zs) o

abbrev pub integers : List (List ℕ) → Option (List ℤ)
integers [] = Some []
integers (p ∷ ps) = prefixed (integer p) (integers ps)

abbrev pub at_most_3 : Option (List ℤ) → Option (List ℤ)
at_most_3 None = None
at_most_3 (Some zs) = cond (nat_le (length zs) 3) (Some zs) None

-- 1 to 3 parameters, split by commas
abbrev pub parameters : List ℕ → Option (List ℤ)
parameters list = at_most_3 (integers (split 44 list))

-- what stands before a `)` at the end
abbrev pub closed : List ℕ → Option (List ℕ)
closed bs = cond (slice_index bs (length bs - 1) == 41) (Some (take (length bs - 1) bs)) None

abbrev pub bare : ℕ → Symbol
bare b = record { letter = b; params = [] }

abbrev pub with_list : ℕ → Option (List ℕ) → Option Symbol
with_list b None = None
with_list b (Some list) = option_map (λ zs. record { letter = b; params = zs }) (parameters list)

-- The module of its bytes, by the form: a bare letter or bracket, or a letter and a list of parameters in parentheses.
abbrev pub form : List ℕ → Option Symbol
form [] = None
form (b ∷ []) = cond (is_bracket b || is_letter b) (Some (bare b)) None
form (b ∷ c ∷ bs) = cond (is_letter b) (with_list b (closed bs)) None

-- a module, or the cause of a fault
pub data Outcome : Type 0 where
  tells : Symbol → Outcome
  wrong : ℕ → Outcome

-- with d brackets open: 23 `]` with none open, 24 `[` with 32 open
abbrev pub bracketed : ℕ → Symbol → Outcome
bracketed d s = cond (is_close s.letter && d == 0) (wrong 23) (cond (is_open s.letter && nat_le 32 d) (wrong 24) (tells s))

-- before that: 21 not by the form, 22 a parameter out of range
abbrev pub judged : ℕ → Option Symbol → Outcome
judged d None = wrong 21
judged d (Some s) = cond (all_in_range s.params) (bracketed d s) (wrong 22)

abbrev pub outcome : ℕ → List ℕ → Outcome
outcome d own = judged d (form own)

-- a word that stops before the module at a place, in a fault of generation 0
abbrev pub stopped : ℕ → ℕ → Told
stopped cause place = record { modules = []; ending = broken (record { cause = cause; generation = 0; place = place }) }

abbrev pub onto : Symbol → Told → Told
onto s t = record { modules = s ∷ t.modules; ending = t.ending }

-- The modules from a place on, with d brackets open: those before the first fault; 25 where the text ends with a bracket open.
abbrev pub reads : ℕ → ℕ → List (List ℕ) → Told
reads d place [] = elim (d == 0) [ true ↦ record { modules = []; ending = clean } | false ↦ stopped 25 place ]
reads d place (own ∷ rest) = elim (outcome d own) [ wrong cause ↦ stopped cause place | tells s ↦ onto s (reads (after d s) (suc place) rest) ]

-- a text of over 65,536 bytes tells nothing but fault 20
abbrev pub told_by : List ℕ → Told
told_by text = elim (nat_lt 65_536 (length text)) [ true ↦ stopped 20 1 | false ↦ reads 0 1 (cut false text) ]

abbrev pub seeded : List ℕ → Meaning
seeded text = record { told = told_by text; opened = 0; generation = 0 }
