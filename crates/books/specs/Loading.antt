-- Loading: what a book answers to a line, and what it holds after any list of lines.
use Rattle.std.specs.Prelude.{◌≡◌, ℕ, zero, suc, ◌<◌, ◌≤◌, true, cond, ◌⊎◌, List, [], ◌∷◌, length, ◌==◌}
use Rattle.word.specs.Symbols.{among}
use Rattle.book.specs.Rules.{Rule}
use Rattle.book.specs.Books.{Entry, rule, ignores}
use Rattle.lines.specs.Reading.{Says, Unspelt}
use Rattle.book.specs.Books.{Among, Book, empty, with_entry}
use Rattle.books.specs.Refused.{refused}

-- a line is taken: it is short and by the grammar, nothing speaks against what it says, and the book has that from now on
pub record Taken (bytes : List ℕ) (b b' : Book) : Type 0 where
  pub short : length bytes ≤ 200
  pub entry : Entry
  pub says : Says bytes entry
  pub free : refused b entry ≡ 0
  pub after : b' ≡ with_entry entry b

-- a line by the grammar is refused for the first reason that speaks against what it says
pub record TurnedDown (bytes : List ℕ) (b : Book) (n : ℕ) : Type 0 where
  pub short : length bytes ≤ 200
  pub entry : Entry
  pub says : Says bytes entry
  pub reason : refused b entry ≡ n

-- The line with these bytes gets the answer n from the book b, which is b' then. 0 is taken; any other number is a refusal, and
-- alters nothing: 1 over 200 bytes, 2 not by the grammar, from 3 on what speaks against a line that is.
abbrev pub Loads : List ℕ → Book → ℕ → Book → Type 0
Loads bytes b zero b' = Taken bytes b b'
Loads bytes b (suc zero) b' = (200 < length bytes) × (b' ≡ b)
Loads bytes b (suc (suc zero)) b' = ((length bytes ≤ 200) × Unspelt bytes) × (b' ≡ b)
Loads bytes b (suc (suc (suc n))) b' = TurnedDown bytes b (suc (suc (suc n))) × (b' ≡ b)

-- a line that was offered to a book, and the answer that it got
pub record Offer : Type 0 where
  pub line : List ℕ
  pub answer : ℕ

-- lines offered one after the other take the book b to b'
abbrev pub Run : Book → List Offer → Book → Type 0
Run b [] b' = b' ≡ b
Run b (o ∷ os) b' = (m : Book) × (Loads o.line b o.answer m × Run m os b')

-- the lines that were taken
abbrev pub taken : List Offer → List (List ℕ)
taken [] = []
taken (o ∷ os) = cond (o.answer == 0) (o.line ∷ taken os) (taken os)

-- one of some lines says e
abbrev pub Said : Entry → List (List ℕ) → Type 0
Said e [] = ⊥
Said e (l ∷ ls) = Says l e ⊎ Said e ls

-- the same elements in another order
pub data Reordered {A : Type 0} : List A → List A → Type 0 where
  none : Reordered [] []
  keep : {x : A} {xs ys : List A} → Reordered xs ys → Reordered (x ∷ xs) (x ∷ ys)
  swap : {x y : A} {xs : List A} → Reordered (x ∷ y ∷ xs) (y ∷ x ∷ xs)
  then : {xs ys zs : List A} → Reordered xs ys → Reordered ys zs → Reordered xs zs

-- THE LAW OF LOADING, of every list of lines offered to a new book
pub record Law : Type 0 where
  -- the same lines taken in any order make the same book, whatever was refused between them
  pub any_order :
      (os ps : List Offer) (b c : Book) → Run empty os b → Run empty ps c → Reordered (taken os) (taken ps) → b ≡ c
  -- a book has the rules of the lines taken, and no others
  pub has_rules : (os : List Offer) (b : Book) → Run empty os b → (u : Rule) → Said (rule u) (taken os) → Among u b.rules
  pub only_rules : (os : List Offer) (b : Book) → Run empty os b → (u : Rule) → Among u b.rules → Said (rule u) (taken os)
  -- a book ignores the letters that the lines taken name, and no others
  pub has_letters :
      (os : List Offer) (b : Book) → Run empty os b → (c : ℕ) (cs : List ℕ) → among c cs ≡ true → Said (ignores cs) (taken os) → b.ignored c ≡ true
  pub only_letters :
      (os : List Offer) (b : Book) → Run empty os b → (c : ℕ) → b.ignored c ≡ true → (cs : List ℕ) × ((among c cs ≡ true) × Said (ignores cs) (taken os))
