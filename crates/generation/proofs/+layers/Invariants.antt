use Rattle.std.proofs.Common.{◌≡◌, ◌+◌, ◌*◌, length}
use Rattle.generation.specs.Windows.{Fits, Sure}
use Rattle.generation.specs.Rewriting.{left_in}
use Rattle.generation.specs.Writing.{Meets}
use Rattle.generation.specs.Layers.{stacked, Chained}
use Rattle.generation.proofs.Wrote.{to_learn}
use Rattle.generation.proofs.+layers.Given as goal

abbrev pub «decreases-layers::draw_from» : goal.«decreases-layers::draw_from»
«decreases-layers::draw_from» g l = 3 * length l.layers.now

abbrev pub «decreases-window::Window::refill» : goal.«decreases-window::Window::refill»
«decreases-window::Window::refill» g l = 3 * length l.below.now + 1

abbrev pub «decreases-layers::draw_over» : goal.«decreases-layers::draw_over»
«decreases-layers::draw_over» g l = 3 * length l.below.now + 2

-- nothing is told yet, and what is known of what comes is true
abbrev pub «invariant-layers::draw_over-loop-count» : goal.«invariant-layers::draw_over-loop-count»
«invariant-layers::draw_over-loop-count» g l =
    let means = g.S.Source.means in
    (left_in l.book l.top (stacked l.book l.below (means l.source)) ≡ left_in l.book l.initial.top (stacked l.book l.initial.below (means l.initial.source)))
    × (l.places ≡ l.initial.places)
    × (length l.below ≡ length l.initial.below)
    × Fits l.beyond (stacked l.book l.below (means l.source))
    × Sure l.beyond
    × Meets l.top (stacked l.book l.below (means l.source))
    × Chained l.book l.below (means l.source)

abbrev pub «decreases-layers::draw_over-loop-count» : goal.«decreases-layers::draw_over-loop-count»
«decreases-layers::draw_over-loop-count» g l = 2 * length (stacked l.book l.below (g.S.Source.means l.source)).told.modules + to_learn l.beyond
