-- What a text holds, what is put over some bytes, and what is written out of a text.
use Rattle.std.specs.Prelude.{◌≡◌, ℕ, ◌+◌, ◌*◌, ◌≤◌, List, [], ◌∷◌, ◌++◌, length, take, slice_set, Result, IsOk}
use Rattle.std.specs.Fmt.{IsPlainFormatter, HasWritten}
use Rattle.std.specs.declared.fmt.Formatter.{Formatter}
use Rattle.std.specs.declared.fmt.Error.{Error}
use Rattle.text.specs.declared.text.Text.{Text}

abbrev pub held : Text → List ℕ
held t = take t.len t.bytes

-- 64 modules more have room, whatever they are: none is written with more than 29 bytes
abbrev pub HasRoom : Text → Type 0
HasRoom t = length (held t) + 64 * 29 ≤ 4096

-- bytes, one after the other, over those that stand from a place on
abbrev pub over : ℕ → List ℕ → List ℕ → List ℕ
over at [] old = old
over at (b ∷ bs) old = over (at + 1) bs (slice_set old at b)

-- a text is put at a place of some bytes, over what stood there, and next is the place behind it
pub record Puts (at : ℕ) (text old : List ℕ) (next : ℕ) (new : List ℕ) : Type 0 where
  pub bytes : new ≡ over at text old
  pub behind : next ≡ at + length text

-- where the formatter is plain and nothing fails, what was held is now written or still held, in this order
abbrev pub Passes : {W : Type 0} → (W → List ℕ → W → Type 0) → Formatter W → Result (Unit {0}) Error → List ℕ → List ℕ → Formatter W → Type 0
Passes took f result old new f' = IsPlainFormatter f → IsOk result → (bs : List ℕ) × HasWritten took f bs f' × (bs ++ new ≡ old)
