-- Internal: where the next token stands in its line.
use Rattle.std.proofs.Common.{◌≡◌, ℕ, ◌+◌, ◌-◌, ◌<◌, ◌≤◌, Some, None, List, [], ◌++◌, length, get_or, take, drop, sym, refl, ap, ◌∙◌, subst, arith, length-take-le, get_or-drop, drop-drop}
use Rattle.std.specs.Prelude.{⊤}
use Rattle.std.specs.List.{prefix_len, between}
use Rattle.std.specs.Iterator.{MakesProgress, item_count}
use Rattle.std.proofs.lemmas.Bool.{eqb-true}
use Rattle.std.proofs.lemmas.Slice.{between_to_end}
use Rattle.std.proofs.lemmas.List.Sums.{prefix_len_passes}
use Rattle.tokens.specs.declared.token.Token.{Token}
use Rattle.tokens.specs.declared.token.Token.TheVariants.{Number, Name, Sign}
use Rattle.tokens.specs.declared.reader.Reader.{Reader}
use Rattle.tokens.specs.Tokens.{is_space, tokens}
use Rattle.tokens.specs.Readers.{ahead, unread, bytes, means, Formed, Leads, Takes}
use Rattle.tokens.proofs.Lexing.{all_spaced, no_more}

-- the line from where a reader stands on, and from behind g bytes more
abbrev from : Reader → ℕ → List ℕ
from r g = between (r.at + g) (length r.line.now) r.line.now

is_from : (r : Reader) (g : ℕ) → from r g ≡ drop (r.at + g) r.line.now
is_from r g = between_to_end r.line.now (r.at + g) (length r.line.now) (omega arith)

-- g spaces stand next
module _ (r r' : Reader) (g : ℕ) (count : g ≡ prefix_len is_space (between r.at (length r.line.now) r.line.now)) (same : r'.line.now ≡ r.line.now) where
  gap : g ≡ prefix_len is_space (ahead r)
  gap = count ∙ ap (prefix_len is_space) (between_to_end r.line.now r.at (length r.line.now) (omega arith))

  here : drop g (ahead r) ≡ from r g
  here = drop-drop g r.at r.line.now ∙ sym (is_from r g)

  pub no_gap : prefix_len is_space (from r g) ≡ 0
  no_gap = ap (prefix_len is_space) (sym here ∙ ap (λ k. drop k (ahead r)) gap) ∙ no_more (ahead r)

  told : unread r ≡ tokens (from r g)
  told = all_spaced (ahead r) ∙ ap (λ k. tokens (drop k (ahead r))) (sym gap) ∙ ap tokens here

  passed : (k : ℕ) → r.at ≤ k → k < r.at + g → get_or r.line.now k 0 ≡ 32
  passed k from below =
      let j : r.at + (k - r.at) ≡ k = omega arith in
      let few : k - r.at < prefix_len is_space (ahead r) = omega (arith, gap) in
      ap (λ i. get_or r.line.now i 0) (sym j) ∙ sym (get_or-drop r.at r.line.now (k - r.at) 0) ∙ eqb-true _ 32 (prefix_len_passes is_space (ahead r) (k - r.at) 0 few)

  -- a token stands behind them
  pub takes : (t : Token) (n : ℕ) → Leads (from r g) t n → r'.at ≡ r.at + g + n → Takes r (Some t) r'
  takes t n l behind =
      let size : length (bytes (Some t)) ≡ n = ap length l.part ∙ length-take-le n (from r g) l.within in
      let left : drop n (from r g) ≡ ahead r' = ap (drop n) (is_from r g) ∙ drop-drop n (r.at + g) r.line.now ∙ ap (λ k. drop k r.line.now) (sym behind) ∙ ap (drop r'.at) (sym same) in
      record {
        whole = told ∙ l.whole ∙ ap (λ x. means (Some t) ++ tokens x) left;
        formed = subst (Formed (Some t)) left l.formed;
        same = same;
        start = r.at + g;
        onward = omega arith;
        spaces = passed;
        part = l.part ∙ ap (take n) (is_from r g) ∙ ap (λ k. take k (drop (r.at + g) r.line.now)) (sym size);
        behind = behind ∙ ap (λ k. r.at + g + k) (sym size);
      }

  -- nothing does
  pub ends : from r g ≡ [] → r'.at ≡ r.at + g → Takes r None r'
  ends e behind =
      let left : ahead r' ≡ [] = ap (λ k. drop k r'.line.now) behind ∙ ap (drop (r.at + g)) same ∙ sym (is_from r g) ∙ e in
      record {
        whole = told ∙ ap tokens e ∙ ap tokens (sym left);
        formed = left;
        same = same;
        start = r.at + g;
        onward = omega arith;
        spaces = passed;
        part = refl;
        behind = omega arith;
      }

-- a token that was taken is no longer to be read
pub nearer : (r r' : Reader) (t : Token) → Takes r (Some t) r' → MakesProgress (λ _. ⊤) (item_count unread) r (Some t) r'
nearer r r' t taken = record { on = λ f. (tt, f, fewer t taken); keeps = tt; rests = λ f. tt }
  where
    fewer : (t : Token) → Takes r (Some t) r' → length (unread r') < length (unread r)
    fewer (Number p) k = let e = ap length k.whole in omega arith
    fewer (Name p) k = let e = ap length k.whole in omega arith
    fewer (Sign p) k = let e = ap length k.whole in omega arith
