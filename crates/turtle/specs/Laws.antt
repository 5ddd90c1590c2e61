-- The laws of turning.
use Rattle.std.specs.Prelude.{◌≡◌, ℕ, ◌<◌, pos}
use Rattle.turtle.specs.Vectors.{dot}
use Rattle.turtle.specs.Turns.{faces, rotated, oriented, reoriented}
use Rattle.turtle.specs.declared.turn.Turn.{Turn}
use Rattle.turtle.specs.declared.turn.Turn.TheVariants.{Left, Right, Down, Up, RollLeft, RollRight, About}

pub record Turning : Type 0 where
  -- an orientation has one number
  pub numbered : (n : ℕ) → n < 24 → oriented (faces n) ≡ n
  -- ahead and left stay off each other's axis
  pub apart : (n : ℕ) → n < 24 → dot (faces n).ahead (faces n).left ≡ pos 0
  -- each turn leads from an orientation to an orientation
  pub known : (t : Turn) (n : ℕ) → n < 24 → reoriented t n < 24
  pub ruled : (t : Turn) (n : ℕ) → n < 24 → faces (reoriented t n) ≡ rotated t (faces n)
  -- four equal turns are none
  pub four : (t : Turn) (n : ℕ) → n < 24 → reoriented t (reoriented t (reoriented t (reoriented t n))) ≡ n
  -- `+` then `-`, `&` then `^`, `\` then `/`, and `|` twice are none
  pub left_right : (n : ℕ) → n < 24 → reoriented Right (reoriented Left n) ≡ n
  pub down_up : (n : ℕ) → n < 24 → reoriented Up (reoriented Down n) ≡ n
  pub rolls : (n : ℕ) → n < 24 → reoriented RollRight (reoriented RollLeft n) ≡ n
  pub about_twice : (n : ℕ) → n < 24 → reoriented About (reoriented About n) ≡ n
  -- from home
  pub home_left : reoriented Left 9 ≡ 5
  pub home_down : reoriented Down 9 ≡ 21
