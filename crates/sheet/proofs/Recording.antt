-- The laws of records.
use Rattle.std.proofs.Common.{◌≡◌, ℕ, suc, ◌+◌, ◌*◌, ◌≤◌, List, [], ◌∷◌, ◌++◌, length, take, drop, sym, refl, ◌∙◌, zero-add, add-zero, arith}
use borrow.Rule.Slice.PartMut.{put_mid}
use Rattle.std.specs.List.{flat_map}
use Rattle.std.proofs.lemmas.List.{append_assoc, take-append-drop, drop-drop, length-append, length-drop, length-take-le}
use Rattle.std.proofs.lemmas.Slice.{take-put_mid, drop-put_mid}
use Rattle.turtle.specs.Poses.{Stroke}
use Rattle.sheet.specs.Records.{record_of}
use Rattle.sheet.specs.Pages.{inscribed, inscribed_all}
use Rattle.sheet.specs.Recording.{Recording}
use Rattle.sheet.proofs.Reading.{reads_back}

eight : (s : Stroke) → length (record_of s) ≡ 8
unfolding record_of
eight s = refl

-- a buffer is what stands before, at and behind its record n
module _ (b : List ℕ) (n : ℕ) (s : Stroke) (h : 8 * n + 8 ≤ length b) where
  written : inscribed b n s ≡ put_mid (8 * n) 8 b (record_of s)
  written = rw drop-drop

  before : take (8 * n + 8) (inscribed b n s) ≡ take (8 * n) b ++ record_of s
  before = let e = eight s in rw written (take-put_mid (8 * n) 8 b (record_of s) (8 * n + 8) (omega arith) (omega arith))

  behind : (k : ℕ) → 8 * n + 8 ≤ k → drop k (inscribed b n s) ≡ drop k b
  behind k l = rw written (drop-put_mid (8 * n) 8 b (record_of s) k l (omega arith) (eight s))

  size : length (inscribed b n s) ≡ length b
  size = let e = eight s in simp (length-append, length-drop, length-take-le (8 * n) b (omega arith)) (omega arith)

all_in_order : (b : List ℕ) (n : ℕ) (ss : List Stroke) → 8 * n + 8 * length ss ≤ length b
    → inscribed_all n b ss ≡ take (8 * n) b ++ (flat_map record_of ss ++ drop (8 * n + 8 * length ss) b)
all_in_order b n [] h = rw add-zero (sym (take-append-drop (8 * n) b))
all_in_order b n (s ∷ ss) h =
    let room : 8 * n + 8 ≤ length b = omega arith in
    let long = size b n s room in
    let next : 8 * (n + 1) ≡ 8 * n + 8 = omega arith in
    let end : 8 * n + 8 + 8 * length ss ≡ 8 * n + 8 * suc (length ss) = omega arith in
    all_in_order (inscribed b n s) (n + 1) ss (omega arith)
    ∙ rw (next, end, before b n s room, behind b n s room (8 * n + 8 * suc (length ss)) (omega arith)) (simp append_assoc)

pub recording : Recording
unfolding record_of
recording = record {
  eight = eight;
  told = reads_back;
  in_order = λ b ss h. rw (← zero-add (8 * length ss)) (all_in_order b 0 ss (omega arith));
  three = refl;
  far = refl;
}
