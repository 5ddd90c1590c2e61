-- The text of a word, some modules at a time.
use Rattle.std.proofs.Common.{◌≡◌, ℕ, List, [], ◌∷◌, ◌++◌, length, inl, inr, arith, sym, refl, ap, ◌∙◌, append_assoc, Ok, Err, Result}
use Rattle.std.specs.Result.{MatchResult, IsOk}
use Rattle.word.specs.Symbols.{Symbol}
use Rattle.word.specs.declared.module.Module.{Module}
use Rattle.word.specs.Words.{Ending, clean, Told, Meaning}
use Rattle.word.specs.Records.{Drew}
use Rattle.word.specs.Text.{written, spelled}
use Rattle.text.specs.Told.{on_a_line, ending_text, told_text}

-- where no module is drawn though there is a place, the word has ended
pub ended : (s s' : Meaning) (places places' : List Module) (n : ℕ) → length places ≡ 64 → n ≡ 0 → Drew s places n places' s' → (s.told.modules ≡ []) × (s.told.ending ≡ clean)
ended s s' places places' n wide none d = elim (d.some none) [ inl e ↦ absurd (omega (arith, ap length e)) | inr e ↦ e ]

pub at_end : (t : Told) (e : Ending) → t.modules ≡ [] → t.ending ≡ e → 10 ∷ on_a_line (ending_text e) ≡ told_text t
at_end t e m n = sym (λ i. on_a_line (spelled (m i)) ++ on_a_line (ending_text (n i)))

pub spelled-append : (v w : List Symbol) → spelled (v ++ w) ≡ spelled v ++ spelled w
spelled-append [] w = refl
spelled-append (s ∷ v) w = ap (λ l. written s ++ l) (spelled-append v w) ∙ sym (append_assoc (written s) (spelled v) (spelled w))

regroup : (a b c d : List ℕ) → ((a ++ b) ++ c) ++ d ≡ a ++ ((b ++ c) ++ d)
regroup a b c d = simp append_assoc

next : (t t' : Told) (v : List Symbol) → t.modules ≡ v ++ t'.modules → t'.ending ≡ t.ending → told_text t ≡ spelled v ++ told_text t'
next t t' v m n =
    (λ i. on_a_line ((ap spelled m ∙ spelled-append v t'.modules) i) ++ on_a_line (ending_text (sym n i)))
    ∙ regroup (spelled v) (spelled t'.modules) (10 ∷ []) (on_a_line (ending_text t'.ending))

-- modules that are drawn are no more to come
moves : (t t' : Told) (v : List Symbol) (bs all : List ℕ) → t.modules ≡ v ++ t'.modules → t'.ending ≡ t.ending → bs ++ told_text t ≡ all → (bs ++ spelled v) ++ told_text t' ≡ all
moves t t' v bs all m n e = append_assoc bs (spelled v) (told_text t') ∙ ap (λ l. bs ++ l) (sym (next t t' v m n)) ∙ e

regather : (a b c d : List ℕ) → (a ++ b) ++ (c ++ d) ≡ (a ++ (b ++ c)) ++ d
regather a b c d = simp append_assoc

-- the same by way of a text: what it held is written or held, and behind that it holds the modules drawn
pub passes_on : (t t' : Told) (v : List Symbol) (bs out held left new all : List ℕ)
    → t.modules ≡ v ++ t'.modules → t'.ending ≡ t.ending → out ++ left ≡ held → new ≡ left ++ spelled v
    → (bs ++ held) ++ told_text t ≡ all → ((bs ++ out) ++ new) ++ told_text t' ≡ all
passes_on t t' v bs out held left new all m n passed pushed e =
    let same : (bs ++ out) ++ new ≡ (bs ++ held) ++ spelled v =
    ap (λ l. (bs ++ out) ++ l) pushed ∙ regather bs out left (spelled v) ∙ ap (λ l. (bs ++ l) ++ spelled v) passed in
    ap (λ l. l ++ told_text t') same ∙ moves t t' v (bs ++ held) all m n e

-- a result that is no error where a fact holds
pub is_ok_where : {A E : Type 0} (r : Result A E) (P : A → Type 0) (Q : Type 0) (R : E → Type 0) → MatchResult r P (λ e. ¬ Q × R e) → Q → IsOk r
is_ok_where (Ok x) P Q R m q = refl
is_ok_where (Err e) P Q R m q = absurd (m.0 q)
