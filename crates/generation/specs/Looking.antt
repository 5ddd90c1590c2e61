-- Internal. A look ahead, module by module.
use Rattle.std.specs.Prelude.{◌≡◌, ℕ, suc, ◌≤◌, Bool, ◌⊎◌, List, ◌∷◌, Some, None, Ok, Err, Option, Result}
use Rattle.word.specs.declared.fault.Fault.{Fault}
use Rattle.word.specs.declared.module.Module.{Module}
use Rattle.word.specs.Symbols.{Symbol}
use Rattle.word.specs.Words.{Ending, clean, broken}
use Rattle.word.specs.Records.{symbol_of}
use Rattle.generation.specs.declared.rewriter.sifted.Sifted.{Sifted}
use Rattle.generation.specs.declared.rewriter.sifted.Sifted.TheVariants as sifted
use Rattle.generation.specs.Stream.{Look, neighbour, closed, ended, spent, scan}

-- what the module s says in a look ahead, with r brackets open since it began
abbrev pub Sifts : (ℕ → Bool) → ℕ → Symbol → Sifted → Type 0
Sifts ignored r s (sifted.On o) = (o ≤ suc r) × ((n : ℕ) (w : List Symbol) → scan ignored (suc n) r (s ∷ w) ≡ scan ignored n o w)
Sifts ignored r s sifted.Closed = (n : ℕ) (w : List Symbol) → scan ignored (suc n) r (s ∷ w) ≡ closed
Sifts ignored r s sifted.Neighbour = (n : ℕ) (w : List Symbol) → scan ignored (suc n) r (s ∷ w) ≡ neighbour s

-- what a look comes to, where the word ends so; the fault `far` is that of a look that nothing settles
abbrev pub Looks : Fault → Look → Ending → Result (Option Module) Fault → Type 0
Looks far l e (Ok (Some x)) = l ≡ neighbour (symbol_of x)
Looks far l e (Ok None) = (l ≡ closed) ⊎ ((l ≡ ended) × (e ≡ clean))
Looks far l e (Err f) = ((l ≡ spent) × (f ≡ far)) ⊎ ((l ≡ ended) × (e ≡ broken f))
