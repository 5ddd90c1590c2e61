-- The law of loading.
use Rattle.std.proofs.Common.{◌≡◌, ℕ, zero, suc, ◌+◌, Bool, true, false, cond, ◌||◌, eqb, ltb, leb, ◌⊎◌, List, [], ◌∷◌, length, sym, refl, ap, ◌∙◌, subst, inl, inr, arith}
use Rattle.std.proofs.lemmas.Bool.{cond-false, both_ways, ne_eqb, or_cases, cases_eq}
use Rattle.word.specs.Symbols.{among}
use Rattle.book.specs.Rules.{Rule}
use Rattle.book.specs.Books.{Entry, rule, ignores}
use Rattle.rules.specs.Places.{places_of}
use Rattle.rules.specs.Wrong.{wrong}
use Rattle.rules.proofs.Judging.{wrong_none, wrong_some}
use Rattle.lines.specs.Reading.{Says}
use Rattle.book.proofs.Recovered.{one_meaning}
use Rattle.book.specs.Books.{Among, Book, empty, with_rule, with_entry, loaded, DiffersAll, Distinct}
use Rattle.books.specs.Refused.{holds_number, code_places, no_place, refused}
use Rattle.books.specs.Loading.{Loads, Offer, Run, taken, Said, Reordered, none, keep, swap, then, Law}
use Rattle.book.specs.Books as book
use Rattle.book.specs.Label.{Holds as HoldsRule}
use Rattle.book.proofs.Loading.{reordered}
use Rattle.book.proofs.Winning.{in_new, in_old, in_book, from_book}
use Rattle.books.proofs.Placing.{past}
use Rattle.books.proofs.Sorting.{apart}

-- entries in another order, in the words of the book's own law
in_order : {es ds : List Entry} → Reordered es ds → book.Reordered es ds
in_order none = book.none
in_order (keep r) = book.keep (in_order r)
in_order swap = book.swap
in_order (then p q) = book.then (in_order p) (in_order q)

-- e is one of some entries
abbrev Holds : Entry → List Entry → Type 0
Holds e [] = ⊥
Holds e (d ∷ ds) = (d ≡ e) ⊎ Holds e ds

rule_of : (u : Rule) (es : List Entry) → Holds (rule u) es → HoldsRule u es
rule_of u [] h = h
rule_of u (e ∷ es) (inl q) = inl q
rule_of u (e ∷ es) (inr h) = inr (rule_of u es h)

of_rule : (u : Rule) (es : List Entry) → HoldsRule u es → Holds (rule u) es
of_rule u [] h = h
of_rule u (e ∷ es) (inl q) = inl q
of_rule u (e ∷ es) (inr h) = inr (of_rule u es h)

-- the letters of a book are those of its entries
ignored_still : (es : List Entry) (b : Book) (c : ℕ) → b.ignored c ≡ true → (loaded es b).ignored c ≡ true
ignored_still [] b c h = h
ignored_still (rule u ∷ es) b c h = ignored_still es (with_entry (rule u) b) c h
ignored_still (ignores cs ∷ es) b c h = ignored_still es (with_entry (ignores cs) b) c (either (among c cs))
  where
    either : (x : Bool) → (x || b.ignored c) ≡ true
    either true = refl
    either false = h

ignored_in : (es : List Entry) (b : Book) (c : ℕ) (cs : List ℕ) → among c cs ≡ true → Holds (ignores cs) es → (loaded es b).ignored c ≡ true
ignored_in [] b c cs a h = absurd h
ignored_in (rule u ∷ es) b c cs a (inl e) = let z : ◌≡◌ {A = ℕ} 0 1 = cc in absurd (omega arith)
ignored_in (rule u ∷ es) b c cs a (inr h) = ignored_in es (with_entry (rule u) b) c cs a h
ignored_in (ignores ds ∷ es) b c cs a (inl e) =
    let same : ds ≡ cs = cc in
    ignored_still es (with_entry (ignores ds) b) c (ap (λ (x : Bool). x || b.ignored c) (ap (among c) same ∙ a))
ignored_in (ignores ds ∷ es) b c cs a (inr h) = ignored_in es (with_entry (ignores ds) b) c cs a h

abbrev Named : ℕ → List Entry → Type 0
Named c es = (cs : List ℕ) × ((among c cs ≡ true) × Holds (ignores cs) es)

ignored_from : (es : List Entry) (b : Book) (c : ℕ) → (loaded es b).ignored c ≡ true → Named c es ⊎ (b.ignored c ≡ true)
ignored_from [] b c h = inr h
ignored_from (rule u ∷ es) b c h = go (ignored_from es (with_entry (rule u) b) c h)
  where
    go : Named c es ⊎ (b.ignored c ≡ true) → Named c (rule u ∷ es) ⊎ (b.ignored c ≡ true)
    go (inl n) = inl (n.0, (n.1.0, inr n.1.1))
    go (inr k) = inr k
ignored_from (ignores cs ∷ es) b c h = go (ignored_from es (with_entry (ignores cs) b) c h)
  where
    here : (among c cs ≡ true) ⊎ (b.ignored c ≡ true) → Named c (ignores cs ∷ es) ⊎ (b.ignored c ≡ true)
    here (inl a) = inl (cs, (a, inl refl))
    here (inr k) = inr k

    go : Named c es ⊎ ((among c cs || b.ignored c) ≡ true) → Named c (ignores cs ∷ es) ⊎ (b.ignored c ≡ true)
    go (inl n) = inl (n.0, (n.1.0, inr n.1.1))
    go (inr k) = here (or_cases (among c cs) (b.ignored c) k)

-- lines, and what each says
abbrev Spell : List (List ℕ) → List Entry → Type 0
Spell [] [] = Unit {0}
Spell [] (e ∷ es) = ⊥
Spell (l ∷ ls) [] = ⊥
Spell (l ∷ ls) (e ∷ es) = Says l e × Spell ls es

says_once : (l : List ℕ) (d e : Entry) → Says l d → Says l e → d ≡ e
says_once l d e s t = sym s.meant ∙ one_meaning.lines s.tree t.tree (s.spelt ∙ sym t.spelt) ∙ t.meant

spell_once : (ls : List (List ℕ)) (ds es : List Entry) → Spell ls ds → Spell ls es → ds ≡ es
spell_once [] [] [] s t = refl
spell_once [] [] (e ∷ es) s t = absurd t
spell_once [] (d ∷ ds) es s t = absurd s
spell_once (l ∷ ls) [] es s t = absurd s
spell_once (l ∷ ls) (d ∷ ds) [] s t = absurd t
spell_once (l ∷ ls) (d ∷ ds) (e ∷ es) s t = λ i. says_once l d e s.0 t.0 i ∷ spell_once ls ds es s.1 t.1 i

moved : {ls ks : List (List ℕ)} → Reordered ls ks → (es : List Entry) → Spell ls es → (ds : List Entry) × (Reordered es ds × Spell ks ds)
moved none [] s = ([], (none, tt))
moved none (e ∷ es) s = absurd s
moved (keep r) [] s = absurd s
moved (keep r) (e ∷ es) s = let m = moved r es s.1 in (e ∷ m.0, (keep m.1.0, (s.0, m.1.1)))
moved swap [] s = absurd s
moved swap (e ∷ []) s = absurd s.1
moved swap (d ∷ e ∷ es) s = (e ∷ d ∷ es, (swap, (s.1.0, (s.0, s.1.1))))
moved (then p q) es s = let m = moved p es s in let n = moved q m.0 m.1.1 in (n.0, (then m.1.0 n.1.0, n.1.1))

held_said : (ls : List (List ℕ)) (es : List Entry) → Spell ls es → (e : Entry) → Holds e es → Said e ls
held_said [] [] s e h = absurd h
held_said [] (d ∷ ds) s e h = absurd s
held_said (l ∷ ls) [] s e h = absurd h
held_said (l ∷ ls) (d ∷ ds) s e (inl q) = inl (subst (Says l) q s.0)
held_said (l ∷ ls) (d ∷ ds) s e (inr h) = inr (held_said ls ds s.1 e h)

said_held : (ls : List (List ℕ)) (es : List Entry) → Spell ls es → (e : Entry) → Said e ls → Holds e es
said_held [] es s e h = absurd h
said_held (l ∷ ls) [] s e h = absurd s
said_held (l ∷ ls) (d ∷ ds) s e (inl t) = inl (says_once l d e s.0 t)
said_held (l ∷ ls) (d ∷ ds) s e (inr h) = inr (said_held ls ds s.1 e h)

-- a rule that is taken has a new number
abbrev New : Entry → Book → Type 0
New (rule u) b = holds_number u.number b.rules ≡ false
New (ignores cs) b = Unit {0}

nothing_wrong : (u : Rule) (n : ℕ) → wrong u n ≡ 0 → n ≡ 0
nothing_wrong u n h = go (cases_eq (wrong u 0) 0)
  where
    go : (wrong u 0 ≡ 0) ⊎ (wrong u 0 ≡ 0 → ⊥) → n ≡ 0
    go (inl e) = sym (wrong_none u n e) ∙ h
    go (inr f) = absurd (f (sym (wrong_some u n f) ∙ h))

is_new : (e : Entry) (b : Book) → refused b e ≡ 0 → New e b
is_new (rule u) b h =
    (past (holds_number u.number b.rules) 10 (cond (leb 48 (length b.rules)) 12 (cond (ltb 1_024 (code_places b.rules + places_of u)) 13 0)) (nothing_wrong u (no_place b u) h)).0
is_new (ignores cs) b h = tt

abbrev Fresh : List Entry → Book → Type 0
Fresh [] b = Unit {0}
Fresh (e ∷ es) b = New e b × Fresh es (with_entry e b)

fresh_apart : (es : List Entry) (b : Book) → Fresh es b → Distinct es × ((x : Rule) → Among x b.rules → DiffersAll (rule x) es)
fresh_apart [] b f = (tt, λ x i. tt)
fresh_apart (rule u ∷ es) b f =
    let ih = fresh_apart es (with_entry (rule u) b) f.1 in
    ((ih.1 u (in_new u b.rules), ih.0), λ x i. (λ q. apart u.number b.rules f.0 x i (sym q), ih.1 x (in_old u x b.rules i)))
fresh_apart (ignores cs ∷ es) b f =
    let ih = fresh_apart es (with_entry (ignores cs) b) f.1 in
    ((all_differ es, ih.0), λ x i. (tt, ih.1 x i))
  where
    all_differ : (ds : List Entry) → DiffersAll (ignores cs) ds
    all_differ [] = tt
    all_differ (d ∷ ds) = (tt, all_differ ds)

-- what a run comes to
record Entries (ls : List (List ℕ)) (b b' : Book) : Type 0 where
  entries : List Entry
  spelt : Spell ls entries
  made : b' ≡ loaded entries b
  fresh : Fresh entries b

entries_of : (os : List Offer) (b b' : Book) → Run b os b' → Entries (taken os) b b'
entries_of [] b b' r = record { entries = []; spelt = tt; made = r; fresh = tt }
entries_of (o ∷ os) b b' r = go o.answer r.1.0 (entries_of os r.0 b' r.1.1)
  where
    m : Book
    m = r.0

    skipped : (n : ℕ) → m ≡ b → Entries (taken os) m b' → Entries (cond (eqb (suc n) 0) (o.line ∷ taken os) (taken os)) b b'
    skipped n q x =
        let t = cond-false (eqb (suc n) 0) (o.line ∷ taken os) (taken os) (ne_eqb (suc n) 0 (λ e. omega arith)) in
        subst (λ (ls : List (List ℕ)). Entries ls b b') (sym t) (subst (λ (z : Book). Entries (taken os) z b') q x)

    go : (n : ℕ) → Loads o.line b n m → Entries (taken os) m b' → Entries (cond (eqb n 0) (o.line ∷ taken os) (taken os)) b b'
    go zero t x = record {
      entries = t.entry ∷ x.entries;
      spelt = (t.says, x.spelt);
      made = x.made ∙ ap (loaded x.entries) t.after;
      fresh = (is_new t.entry b t.free, subst (Fresh x.entries) t.after x.fresh);
    }
    go (suc zero) t x = skipped 0 t.1 x
    go (suc (suc zero)) t x = skipped 1 t.1 x
    go (suc (suc (suc n))) t x = skipped (suc (suc n)) t.1 x

from_none : {A : Type 0} {B : Type 0} → A ⊎ B → (B → ⊥) → A
from_none (inl a) f = a
from_none (inr b) f = absurd (f b)

module _ (os : List Offer) (b : Book) (r : Run empty os b) where
  e : Entries (taken os) empty b
  e = entries_of os empty b r

  has_rules : (u : Rule) → Said (rule u) (taken os) → Among u b.rules
  has_rules u h = subst (λ (z : Book). Among u z.rules) (sym e.made) (in_book e.entries empty u (inl (rule_of u e.entries (said_held (taken os) e.entries e.spelt (rule u) h))))

  only_rules : (u : Rule) → Among u b.rules → Said (rule u) (taken os)
  only_rules u h = held_said (taken os) e.entries e.spelt (rule u) (of_rule u e.entries (from_none (from_book e.entries empty u (subst (λ (z : Book). Among u z.rules) e.made h)) (λ n. n)))

  has_letters : (c : ℕ) (cs : List ℕ) → among c cs ≡ true → Said (ignores cs) (taken os) → b.ignored c ≡ true
  has_letters c cs a h = ap (λ (z : Book). z.ignored c) e.made ∙ ignored_in e.entries empty c cs a (said_held (taken os) e.entries e.spelt (ignores cs) h)

  only_letters : (c : ℕ) → b.ignored c ≡ true → (cs : List ℕ) × ((among c cs ≡ true) × Said (ignores cs) (taken os))
  only_letters c h =
      let n = from_none (ignored_from e.entries empty c (sym (ap (λ (z : Book). z.ignored c) e.made) ∙ h)) (λ q. both_ways false refl q) in
      (n.0, (n.1.0, held_said (taken os) e.entries e.spelt (ignores n.0) n.1.1))

any_order : (os ps : List Offer) (b c : Book) → Run empty os b → Run empty ps c → Reordered (taken os) (taken ps) → b ≡ c
any_order os ps b c r s p =
    let x = entries_of os empty b r in
    let y = entries_of ps empty c s in
    let m = moved p x.entries x.spelt in
    x.made
    ∙ reordered (in_order m.1.0) (fresh_apart x.entries empty x.fresh).0 empty
    ∙ ap (λ (ds : List Entry). loaded ds empty) (spell_once (taken ps) m.0 y.entries m.1.1 y.spelt)
    ∙ sym y.made

pub law : Law
law = record { any_order = any_order; has_rules = has_rules; only_rules = only_rules; has_letters = has_letters; only_letters = only_letters }
