use Rattle.std.proofs.Common.{◌≡◌, ℕ, ◌+◌, ◌≤◌, map, Ok, Err, Option, Result, refl, ap, ◌∙◌, subst, arith}
use Rattle.std.specs.Prelude.{MatchResult}
use Rattle.std.proofs.lemmas.List.{drop_all}
use Rattle.std.specs.Option.{option_map}
use Rattle.std.specs.Result.{IsErrAnd}
use Rattle.word.specs.declared.fault.Fault.{Fault}
use Rattle.word.specs.declared.depth.Depth.{Depth}
use Rattle.word.specs.Symbols.{Symbol}
use Rattle.word.specs.Records.{symbol_of}
use Rattle.expr.specs.declared.computed.Cause.{Cause}
use Rattle.books.specs.Became.{Became, nesting}
use Rattle.books.specs.Few.{modules_in, symbols_in}
use Rattle.books.specs.Outcomes.{becomes}
use Rattle.books.specs.Kinds.{closed_book}
use Rattle.books.proofs.Tidy.{tidy}
use Rattle.generation.specs.Generations.{added}
use Rattle.generation.specs.Tables.{table}
use Rattle.generation.proofs.Outcoming.{low, added_of, spans_of}
use Rattle.generation.proofs.Answered.{answers_as}
use Rattle.generation.proofs.rewriter.Rewriter.work.Goals as goal

-- the depth that is answered is the book's own: only a fault was given a number
answered : (x : Result ℕ Cause) (y : Result ℕ Fault) (F : Cause → Fault → Type 0) (n : ℕ) → MatchResult x (λ v. y ≡ Ok v) (λ e. IsErrAnd y (F e)) → y ≡ Ok n → x ≡ Ok n
answered (Ok v) y F n h e = let same : v ≡ n = cc in ap Ok same
answered (Err k) y F n h e = absurd (subst (λ z. IsErrAnd z (F k)) e h)

pub returns : goal.returns
returns c =
    let r = c.args.self.now in
    let b = closed_book c.args.book.now in
    let d = r.window.first.brackets in
    let s = symbol_of c.args.symbol in
    let o = option_map symbol_of c.args.right in
    let w = symbols_in c.becomes-worked.new.grown in
    let n = c.in_ok-nested.nested in
    let deep : c.first-depth.result.brackets ≡ d = ap (λ (e : Depth). e.brackets) c.first-depth.ensures in
    let left : option_map symbol_of c.at.result ≡ table r.lefts d = c.at.ensures ∙ ap (table r.lefts) deep in
    let out = becomes (table r.lefts d) s o b.rules in
    let answer = answered c.becomes-worked.result c.map_err.result _ n c.map_err.ensures.cases c.in_ok-nested.was in
    let came = subst (λ (l : Option Symbol). Became s (becomes l s o b.rules) (Ok n) w) left (subst (λ (x : Result ℕ Cause). Became s (becomes (option_map symbol_of c.at.result) s o b.rules) x w) answer c.becomes-worked.ensures.value) in
    let fits : d + nesting out ≤ 32 = omega (arith, came.1, deep, low r, c.if-nested-depth.false) in
    record {
      stays = record { generation_stays = refl; window_stays = refl; lefts_stay = refl; made_stays = refl; place_stays = refl };
      opened_stays = refl;
      fault_stays = refl;
      none_pending = ap (map symbol_of) (drop_all c.len-self.result (modules_in c.becomes-worked.new.grown) (omega (arith, c.len-self.ensures)));
      answers =
          answers_as r.produced d d _ (added r.generation r.produced r.place w) c.room.result w
          (added_of d s w c.requires.letter (low r) r.generation r.produced r.place out came.0 fits)
          (c.room.ensures d (spans_of d s w c.requires.letter (low r) out (λ v e. (tidy c.args.book.now (table r.lefts d) s o v e).0) came.0 fits));
    }
