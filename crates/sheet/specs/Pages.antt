-- What a page means, and what it writes.
use Rattle.std.specs.Prelude.{◌≡◌, ℕ, ◌+◌, ◌*◌, ◌/◌, min, List, [], ◌∷◌, ◌++◌, length, take, drop, Ok, Err, Result}
use Rattle.turtle.specs.Poses.{Stroke}
use Rattle.sheet.specs.Records.{record_of}
use Rattle.sheet.specs.Sheets.{Content}
use Rattle.sheet.specs.Tallies.{content}
use Rattle.sheet.specs.declared.page.Page.{Page}
use Rattle.sheet.specs.declared.sheet.NoSpace.{NoSpace}

-- how many records a buffer has space for
abbrev pub room : List ℕ → ℕ
room b = min (length b / 8) 16_000_000

abbrev pub page_content : Page → Content
page_content p = content (room p.buffer.now) p.tally

-- the buffer b with a record at byte 8n
abbrev pub inscribed : List ℕ → ℕ → Stroke → List ℕ
inscribed b n s = take (8 * n) b ++ (record_of s ++ drop (8 * n + 8) b)

-- a stroke is put on a page with the buffer b and n records, whose buffer is b' then
abbrev pub Writes : List ℕ → ℕ → Stroke → Result Unit NoSpace → List ℕ → Type 0
Writes b n s (Ok u) b' = b' ≡ inscribed b n s
Writes b n s (Err e) b' = b' ≡ b

-- strokes put one after the other, the first as record n
abbrev pub inscribed_all : ℕ → List ℕ → List Stroke → List ℕ
inscribed_all n b [] = b
inscribed_all n b (s ∷ ss) = inscribed_all (n + 1) (inscribed b n s) ss
