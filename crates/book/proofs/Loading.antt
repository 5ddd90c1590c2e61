-- The same entries in any order make the same book.
use Rattle.std.proofs.Common.{◌≡◌, ℕ, Bool, true, false, ◌||◌, List, sym, refl, ap, ◌∙◌}
use mathlib.Core.Path.{fun_ext}
use Rattle.word.specs.Symbols.{among}
use Rattle.book.specs.Rules.{Rule}
use Rattle.book.specs.Books.{Book, empty, Entry, rule, ignores, with_entry, loaded, Differs, DiffersAll, Distinct, Reordered, none, keep, swap, then, AnyOrder}
use Rattle.book.proofs.Ordering.{commute}

or_swap : (x y z : Bool) → (x || (y || z)) ≡ (y || (x || z))
or_swap true true z = refl
or_swap true false z = refl
or_swap false y z = refl

pub two_entries : (d e : Entry) (b : Book) → Differs d e → with_entry e (with_entry d b) ≡ with_entry d (with_entry e b)
two_entries (rule u) (rule v) b n = ap (λ (l : List Rule). record { rules = l; ignored = b.ignored }) (commute u v n b.rules)
two_entries (rule u) (ignores cs) b n = refl
two_entries (ignores cs) (rule v) b n = refl
two_entries (ignores cs) (ignores ds) b n =
    ap (λ (f : ℕ → Bool). record { rules = b.rules; ignored = f }) (fun_ext (λ c. or_swap (among c ds) (among c cs) (b.ignored c)))

pub differs_sym : (d e : Entry) → Differs d e → Differs e d
differs_sym (rule u) (rule v) n = λ q. n (sym q)
differs_sym (rule u) (ignores cs) n = tt
differs_sym (ignores cs) (rule v) n = tt
differs_sym (ignores cs) (ignores ds) n = tt

differs_moved : (e : Entry) {es ds : List Entry} → Reordered es ds → DiffersAll e es → DiffersAll e ds
differs_moved e none h = tt
differs_moved e (keep r) h = (h.0, differs_moved e r h.1)
differs_moved e swap h = (h.1.0, (h.0, h.1.1))
differs_moved e (then p q) h = differs_moved e q (differs_moved e p h)

distinct_moved : {es ds : List Entry} → Reordered es ds → Distinct es → Distinct ds
distinct_moved none h = tt
distinct_moved (keep {e = x} r) h = (differs_moved x r h.0, distinct_moved r h.1)
distinct_moved (swap {d = x} {e = y}) h = ((differs_sym x y h.0.0, h.1.0), (h.0.1, h.1.1))
distinct_moved (then p q) h = distinct_moved q (distinct_moved p h)

pub reordered : {es ds : List Entry} → Reordered es ds → Distinct es → (b : Book) → loaded es b ≡ loaded ds b
reordered none h b = refl
reordered (keep {e = x} r) h b = reordered r h.1 (with_entry x b)
reordered (swap {d = x} {e = y} {es = zs}) h b = ap (loaded zs) (two_entries x y b h.0.0)
reordered (then p q) h b = reordered p h b ∙ reordered q (distinct_moved p h) b

pub any_order : AnyOrder
any_order es ds r h = reordered r h empty
