-- What the answers of the code say of a deed.
use Rattle.std.specs.Prelude.{ℕ, Ok, Err, Result}
use Rattle.turtle.specs.Deeds.{Deed, goes, draws, breaks}
use Rattle.turtle.specs.Stances.{stance_of, stroke_of}
use Rattle.turtle.specs.declared.pose.Pose.{Pose}
use Rattle.turtle.specs.declared.act.Act.{Act}
use Rattle.turtle.specs.declared.act.Act.TheVariants.{Goes, Draws}
use Rattle.turtle.specs.declared.act.Limit.{Limit}
use Rattle.turtle.specs.declared.act.Limit.TheVariants.{TooLong, OutOfBounds}

abbrev pub cause_of : Limit → ℕ
cause_of TooLong = 41
cause_of OutOfBounds = 42

abbrev pub deed_of : Result Act Limit → Deed
deed_of (Ok (Goes p)) = goes (stance_of p)
deed_of (Ok (Draws s p)) = draws (stroke_of s) (stance_of p)
deed_of (Err e) = breaks (cause_of e)

-- the same of a step that is not drawn
abbrev pub step_of : Result Pose Limit → Deed
step_of (Ok p) = goes (stance_of p)
step_of (Err e) = breaks (cause_of e)
