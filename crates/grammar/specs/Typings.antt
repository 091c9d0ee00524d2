-- That types are inferred exactly as the linear rules give them. Assumes nothing.
use Rattle.std.specs.Prelude.{◌≡◌, ℕ, ◌↔◌, [], map}
use Rattle.calculus.specs.Types.{Ty}
use Rattle.calculus.specs.Terms.{Term}
use Rattle.calculus.specs.Typing.{Ctx, Typed, weight, tallest}
use Rattle.syntax.specs.Trees.{Tree, erase}
use Rattle.syntax.specs.declared.refusal.Fault.{Fault}
use Rattle.language.specs.Infer.{Env, good, bad, infer}
use Rattle.language.specs.Judgements.{type_of, judgements, sum, share, highest}
use Rattle.grammar.specs.Uses.{Linear}
use Rattle.grammar.specs.Derivations.{Derives, Has, Agrees, types}
use Rattle.grammar.specs.Faults.{First}

-- the type that is inferred is derived, in the context of the free uses
abbrev pub InferredDerived : Type 0
InferredDerived = (e : Env) (t : Tree ℕ) (A : Ty) → Linear (erase t) → infer e t ≡ good A → Has e t A

-- what is derived within the height is inferred, in whatever context, and each binder is used once
abbrev pub DerivedInferred : Type 0
DerivedInferred = (e : Env) (t : Tree ℕ) (Γ : Ctx) (A : Ty) → Agrees e Γ → Derives Γ (erase t) A → infer e t ≡ good A

abbrev pub DerivedLinear : Type 0
DerivedLinear = (Γ : Ctx) (t : Term) (A : Ty) → Typed Γ t A → Linear t

-- a fault of types is the first one, and the other way round
abbrev pub FirstFault : Type 0
FirstFault = (e : Env) (t : Tree ℕ) (f : Fault) (p : ℕ) → Linear (erase t) → (infer e t ≡ bad f p) ↔ First e t f p

-- one type, and one for each sub-term
pub record Alike {Γ Δ : Ctx} {t : Term} {A B : Ty} (d : Typed Γ t A) (d' : Typed Δ t B) : Type 0 where
  pub type : A ≡ B
  pub parts : types d ≡ types d'
  pub weights : weight d ≡ weight d'
  pub heights : tallest d ≡ tallest d'

abbrev pub UniqueTypes : Type 0
UniqueTypes = (t : Term) (A B : Ty) (d : Typed [] t A) (d' : Typed [] t B) → Alike d d'

-- the sums over the sub-terms that a tree is judged to have are those of its derivation
pub record Summed (e : Env) (t : Tree ℕ) {Γ : Ctx} {A : Ty} (d : Typed Γ (erase t) A) : Type 0 where
  pub type : type_of e t ≡ A
  pub parts : map (λ j. j.type) (judgements e t) ≡ types d
  pub weights : sum share (judgements e t) ≡ weight d
  pub heights : highest (judgements e t) ≡ tallest d

abbrev pub SumsDerived : Type 0
SumsDerived = (e : Env) (t : Tree ℕ) (Γ : Ctx) (A : Ty) (d : Typed Γ (erase t) A) → Agrees e Γ → Summed e t d
