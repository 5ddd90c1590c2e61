-- One draw from a generation: what is still to tell.
use Rattle.std.proofs.Common.{◌≡◌, ℕ, ◌<◌, List, [], ◌∷◌, ◌++◌, map, length, get_or, take, drop, Some, None, Option, Result, sym, refl, ap, ◌∙◌, arith, append_assoc}
use Rattle.word.specs.declared.fault.Fault.{Fault}
use Rattle.word.specs.declared.module.Module.{Module}
use Rattle.word.specs.Symbols.{Symbol}
use Rattle.word.specs.Words.{Ending, broken, Told, Meaning, Lawful}
use Rattle.word.specs.Records.{symbol_of, Tells}
use Rattle.books.specs.declared.closed_book.ClosedBook.{ClosedBook}
use Rattle.books.specs.Kinds.{closed_book}
use Rattle.generation.specs.declared.window.Window.{Window}
use Rattle.generation.specs.declared.rewriter.Rewriter.{Rewriter}
use Rattle.generation.specs.Generations.{Part, adds, stops, generated}
use Rattle.generation.specs.Tables.{table}
use Rattle.generation.specs.Windows.{in_window, flow}
use Rattle.generation.specs.Rewriting.{pending, telling, in_all, left_in, part_of, part_in, ReadsOn, TellsSome, Begins, Turned}
use Rattle.generation.specs.Writing.{to_come, turns_left, Ends}
use Rattle.generation.proofs.Agreement.{streams_agree}
use Rattle.generation.proofs.Onwards.{come, turned_on}
use Rattle.generation.proofs.Passing.{in_hand}

-- where nothing is read yet
pub begins_as : (b : ClosedBook) (m : Meaning) → Lawful m → (r : Rewriter) (g d : ℕ) → Begins g d r → g ≡ m.generation → d ≡ m.opened → left_in b r m ≡ generated (closed_book b) m
begins_as b m l r g d h number depth =
    (λ k.
    in_all m.generation ((h.opened_is ∙ depth) k) (h.none_pending k)
    (telling (h.no_fault k) b m.generation (flows k) (h.none_made k) (h.at_start k) ((h.first_is ∙ depth) k) (h.none_left k)))
    ∙ ap (in_all m.generation m.opened []) (streams_agree (closed_book b) m l)
  where
    flows : flow r.window m ≡ m.told
    flows = λ k. record { modules = map symbol_of (h.none_held k) ++ m.told.modules; ending = m.told.ending }

-- some modules are told
pub tells_some : (b : ClosedBook) (r r' : Rewriter) (m : Meaning) (places places' : List Module) (n : ℕ) → TellsSome r places n places' r' → Tells (left_in b r m) (map symbol_of (take n places')) (left_in b r' m)
tells_some b r r' m places places' n h = record {
  modules = (λ k. h.told k ++ (same k).modules) ∙ append_assoc (map symbol_of (take n places')) (pending r') (left r').modules;
  ending = sym (ap (λ (t : Told). t.ending) same);
  opened = h.opened;
  generation = refl;
}
  where
    left : Rewriter → Told
    left x = telling x.fault b m.generation (flow x.window m) x.produced x.place x.window.first.brackets (table x.lefts)

    same : telling r.fault b m.generation (flow r.window m) r.produced r.place r.window.first.brackets (table r.lefts) ≡ telling r'.fault b m.generation (flow r'.window m) r'.produced r'.place r'.window.first.brackets (table r'.lefts)
    same = sym (λ k. telling (h.fault_stays k) b m.generation (flow (h.stays.window_stays k) m) (h.stays.made_stays k) (h.stays.place_stays k) (h.stays.window_stays k).first.brackets (table (h.stays.lefts_stay k)))

-- reading from below alters nothing
pub reads_same : (b : ClosedBook) (r r' : Rewriter) (m m' : Meaning) → ReadsOn r m r' m' → left_in b r' m' ≡ left_in b r m
reads_same b r r' m m' h = λ k.
    in_all (h.kept.number_stays k) (h.reads.opened_stays k).brackets (h.reads.pending_stays k)
    (telling (h.reads.fault_stays k) b (h.kept.number_stays k) (h.kept.flows k) (h.reads.made_stays k) (h.reads.place_stays k) (h.kept.first_stays k).brackets (table (h.reads.lefts_stay k)))

-- the end of what is held stays in its place, whatever the part
pub turned_keeps : (b : ClosedBook) (r : Rewriter) (x : Module) (p : Part) (r' : Rewriter) → Turned b r x p r' → (r'.window.last ≡ r.window.last) × (r'.generation ≡ r.generation)
turned_keeps b r x (adds v) r' h = (h.last_stays, h.generation_stays)
turned_keeps b r x (stops f) r' (fault-is, pends, opens, windows, numbers) = (λ k. (windows k).last, numbers)

-- a turn less is left
turned_fewer : (b : ClosedBook) (r : Rewriter) (x : Module) (p : Part) (r' : Rewriter) → r.fault ≡ None → Turned b r x p r' → turns_left r' < turns_left r
turned_fewer b r x (adds v) r' none h = omega (arith, ap length h.popped, ap to_come h.fault_stays)
turned_fewer b r x (stops f) r' none (fault-is, pends, opens, windows, numbers) =
    omega (arith, ap (λ (w : Window). length (in_window w)) windows, ap to_come fault-is, ap to_come none)

-- From r, where nothing is pending and no fault is found, the module x in hand is taken, by what is found on its right.
module _ (b : ClosedBook) (r v : Rewriter) (none : pending r ≡ []) (no_fault : r.fault ≡ None) (x : Module) (is : x ≡ get_or (in_window r.window) 0 x) (some : 0 < length (in_window r.window)) (y : Result (Option Module) Fault) (turned : Turned b r x (part_of b r (symbol_of x) y) v) where
  hand : in_window r.window ≡ x ∷ drop 1 (in_window r.window)
  hand = in_hand (in_window r.window) x is some

  -- what is still to tell stays the same
  pub same_left : (m : Meaning) → ((w : List Symbol) → (flow r.window m).modules ≡ symbol_of x ∷ w → part_of b r (symbol_of x) y ≡ part_in b r m (symbol_of x) w) → left_in b v m ≡ left_in b r m
  same_left m part =
      let rest = drop 1 (in_window r.window) in
      let here = part (come b r v m x rest none no_fault hand) (ap (λ l. map symbol_of l ++ m.told.modules) hand) in
      turned_on b r v m x rest none no_fault hand (part_of b r (symbol_of x) y) (sym here) turned

  pub fewer : turns_left v < turns_left r
  fewer = turned_fewer b r x (part_of b r (symbol_of x) y) v no_fault turned

-- nothing is held: what is left is how the word below ends
pub none_left : (b : ClosedBook) (r : Rewriter) (m : Meaning) (e : Ending) → pending r ≡ [] → r.fault ≡ None → in_window r.window ≡ [] → m.told.modules ≡ [] → m.told.ending ≡ e → Ends (left_in b r m) e
none_left b r m e none no_fault empty over ends =
    let t : telling r.fault b m.generation (flow r.window m) r.produced r.place r.window.first.brackets (table r.lefts) ≡ record { modules = []; ending = e } =
    λ k. telling (no_fault k) b m.generation (record { modules = map symbol_of (empty k) ++ over k; ending = ends k }) r.produced r.place r.window.first.brackets (table r.lefts) in
    ((λ k. none k ++ (t k).modules), ap (λ (x : Told). x.ending) t)

-- a fault is found: it is what is left
pub fault_left : (b : ClosedBook) (r : Rewriter) (m : Meaning) (f : Fault) → pending r ≡ [] → r.fault ≡ Some f → Ends (left_in b r m) (broken f)
fault_left b r m f none found =
    let t : telling r.fault b m.generation (flow r.window m) r.produced r.place r.window.first.brackets (table r.lefts) ≡ record { modules = []; ending = broken f } =
    λ k. telling (found k) b m.generation (flow r.window m) r.produced r.place r.window.first.brackets (table r.lefts) in
    ((λ k. none k ++ (t k).modules), ap (λ (x : Told). x.ending) t)
