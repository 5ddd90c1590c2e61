-- Bytes put over others.
use Rattle.std.proofs.Common.{◌≡◌, ℕ, suc, ◌+◌, ◌≤◌, List, [], ◌∷◌, ◌++◌, length, take, drop, set, decimal, sym, refl, ap, ◌∙◌, append_assoc, arith}
use Rattle.std.proofs.lemmas.List.{length-set, length-take, length-append, take_at, take-append-drop}
use Rattle.std.proofs.lemmas.List.Edits.{sets, sets-eq}
use Rattle.text.specs.Texts.{over, Puts}

over-is_sets : (at : ℕ) (a old : List ℕ) → over at a old ≡ sets old at a
over-is_sets at [] old = refl
over-is_sets at (b ∷ bs) old =
    let next : at + 1 ≡ suc at = omega arith in
    over-is_sets (at + 1) bs (set old at b) ∙ ap (λ k. sets (set old at b) k bs) next

pub length-over : (at : ℕ) (a old : List ℕ) → length (over at a old) ≡ length old
length-over at [] old = refl
length-over at (b ∷ bs) old = length-over (at + 1) bs (set old at b) ∙ length-set old at b

over-append : (at n : ℕ) (a b old : List ℕ) → n ≡ at + length a → over n b (over at a old) ≡ over at (a ++ b) old
over-append at n [] b old e = let here : n ≡ at = omega arith in ap (λ k. over k b old) here
over-append at n (x ∷ a) b old e = over-append (at + 1) n a b (set old at x) (omega arith)

over-parts : (at : ℕ) (a old : List ℕ) → at + length a ≤ length old → over at a old ≡ take at old ++ a ++ drop (at + length a) old
over-parts at a old h = over-is_sets at a old ∙ sets-eq a old at h

take-over : (at n : ℕ) (a old : List ℕ) → n ≡ at + length a → n ≤ length old → take n (over at a old) ≡ take at old ++ a
take-over at n a old e h =
    let front = length-take at old in
    let both = length-append (take at old) a in
    ap (take n) (over-parts at a old (omega arith)) ∙ take_at (take at old ++ a) (drop (at + length a) old) n (omega arith)

pub puts_byte : (at b : ℕ) (old : List ℕ) → Puts at (b ∷ []) old (at + 1) (set old at b)
puts_byte at b old = record { bytes = refl; behind = omega arith }

-- what is put behind a text is put with it
pub puts_next : (at n m : ℕ) (a b old mid new : List ℕ) → Puts at a old n mid → Puts n b mid m new → Puts at (a ++ b) old m new
puts_next at n m a b old mid new p q = record {
  bytes = q.bytes ∙ ap (over n b) p.bytes ∙ over-append at n a b old p.behind;
  behind = omega (arith, p.behind, q.behind, length-append a b);
}

pub puts_as : (at n : ℕ) (a b old new : List ℕ) → a ≡ b → Puts at a old n new → Puts at b old n new
puts_as at n a b old new e p = record {
  bytes = p.bytes ∙ ap (λ t. over at t old) e;
  behind = p.behind ∙ ap (λ t. at + length t) e;
}

-- the bytes up to the place behind what is put
pub puts_front : (at n : ℕ) (a old new : List ℕ) → Puts at a old n new → n ≤ length old → take n new ≡ take at old ++ a
puts_front at n a old new p h = ap (take n) p.bytes ∙ take-over at n a old p.behind h

-- bytes that end at a place, where nothing else has changed
over-from_end : (start end : ℕ) (a old new : List ℕ)
    → start + length a ≡ end → end ≤ length old → drop start new ≡ a ++ drop end old → take start new ≡ take start old → new ≡ over start a old
over-from_end start end a old new e h behind before =
    sym (take-append-drop start new) ∙ (λ i. before i ++ behind i) ∙ (λ i. take start old ++ (a ++ drop (sym e i) old))
    ∙ sym (append_assoc (take start old) a (drop (start + length a) old))
    ∙ sym (over-parts start a old (omega arith))

-- digits that are written from their end
pub puts_digits : (at count start n m : ℕ) (old new : List ℕ)
    → m ≡ n → count ≡ length (decimal n) → start + length (decimal m) ≡ at + count → at + count ≤ length old
    → drop start new ≡ decimal m ++ drop (at + count) old → take start new ≡ take start old → Puts at (decimal n) old (at + count) new
puts_digits at count start n m old new same long from fits behind before =
    let here : start ≡ at = omega (arith, from, long, ap (λ k. length (decimal k)) same) in
    record {
      bytes = over-from_end start (at + count) (decimal m) old new from fits behind before ∙ (λ i. over (here i) (decimal (same i)) old);
      behind = omega (arith, long);
    }
