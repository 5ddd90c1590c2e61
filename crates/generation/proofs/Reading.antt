-- A layer reads on below.
use Rattle.std.proofs.Common.{◌≡◌, true, sym, refl, ◌∙◌, subst, ℕ, ◌+◌, ◌-◌, ◌<◌, ◌≤◌, List, ◌∷◌, length, drop, set, ap, arith}
use Rattle.std.proofs.lemmas.List.{drop-set}
use Rattle.word.specs.declared.depth.Depth.{Depth}
use Rattle.word.specs.Words.{Ending, in_bounds, Meaning, Lawful}
use Rattle.word.specs.Spans.{spans}
use Rattle.books.specs.declared.closed_book.ClosedBook.{ClosedBook}
use Rattle.books.specs.Kinds.{closed_book}
use Rattle.generation.specs.declared.window.Window.{Window}
use Rattle.generation.specs.declared.beyond.Beyond.{Beyond}
use Rattle.generation.specs.declared.beyond.Beyond.TheVariants.{Unread, End, Broken}
use Rattle.generation.specs.declared.rewriter.Rewriter.{Rewriter}
use Rattle.generation.specs.Windows.{Fits, Sure, Refilled}
use Rattle.generation.specs.Generations.{generated}
use Rattle.generation.specs.Layers.{stacked}
use Rattle.generation.specs.Rewriting.{pending, left_in, Begins}
use Rattle.generation.specs.Writing.{Steady, Meets, Over}
use Rattle.generation.proofs.Drawing.{begins_as, reads_same}

-- a fault that ends a lawful word is one that may
pub sure : (x : Beyond) (m : Meaning) → Fits x m → Lawful m → Sure x
sure Unread m h l = tt
sure End m h l = tt
sure (Broken f) m h l = subst (λ (e : Ending). in_bounds e ≡ true) h.1 l.ending

-- with another window, which begins as deep
abbrev pub with_window : (r : Rewriter) (w : Window) → w.first ≡ r.window.first → Rewriter
with_window r w first = record {
  generation = r.generation;
  window = w;
  lefts = r.lefts;
  produced = r.produced;
  place = r.place;
  growth = r.growth;
  stack = r.stack;
  told = r.told;
  opened = r.opened;
  fault = r.fault;
  few = r.few;
  inside = r.inside;
  counted = r.counted;
  joined = subst (λ (d : Depth). spans r.opened.brackets (pending r) d.brackets ≡ true) (sym first) r.joined;
  bounds = r.bounds;
}

-- r became s without reading, which then reads from m to m'
module _ (b : ClosedBook) (r s : Rewriter) (m m' : Meaning) (x y : Beyond) (w : Window) (steady : Steady r s) (same : Over r x (λ n. left_in b s n ≡ left_in b r n)) (fits : Fits x m) (meets : Meets r m) (filled : Refilled s.window m y w m') where
  abbrev pub then : Rewriter
  then = with_window s w filled.kept.first_stays

  pub still_left : left_in b then m' ≡ left_in b r m
  still_left =
      reads_same b s then m m'
      (record {
        reads = record { generation_stays = refl; lefts_stay = refl; made_stays = refl; place_stays = refl; pending_stays = refl; opened_stays = refl; fault_stays = refl };
        kept = filled.kept;
      })
      ∙ same m fits meets.numbered

  pub still_meets : Meets then m'
  still_meets = record { joined = filled.meets; numbered = steady.1 ∙ meets.numbered ∙ sym filled.kept.number_stays }

-- a layer that has read nothing yet, on top of others
pub one_more
    : (b : ClosedBook) (layers : List Rewriter) (top : ℕ) (m : Meaning) (r : Rewriter) (g d : ℕ)
    → 0 < top
    → top ≤ length layers
    → Lawful (stacked b (drop top layers) m)
    → Begins g d r
    → g ≡ (stacked b (drop top layers) m).generation
    → d ≡ (stacked b (drop top layers) m).opened
    → stacked b (drop (top - 1) (set layers (top - 1) r)) m ≡ generated (closed_book b) (stacked b (drop top layers) m)
one_more b layers top m r g d some within lawful begins number depth =
    let next : top - 1 + 1 ≡ top = omega arith in
    let above : drop (top - 1) (set layers (top - 1) r) ≡ r ∷ drop top layers = drop-set layers (top - 1) r (omega arith) ∙ ap (λ i. r ∷ drop i layers) next in
    ap (λ (l : List Rewriter). stacked b l m) above ∙ begins_as b (stacked b (drop top layers) m) lawful r g d begins number depth
