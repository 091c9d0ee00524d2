-- Letters choose parts of a type, and lead from its root to one of its Ns.
use Rattle.std.proofs.Common.{◌≡◌, ℕ, ◌≤◌, List, [], ◌∷◌, length, refl, ap, arith}
use Rattle.calculus.specs.Types.{Ty, N, ◌⇒◌, ◌⊗◌, height}
use Rattle.token.specs.declared.memory.Letter.{Letter}
use Rattle.token.specs.declared.memory.Letter.TheVariants.{Left, Right}
use Rattle.geometry.specs.Labels.{Sign, plus, minus, opposite, Label, on, type_of}

-- from a root of sign x the letters lead to an N of sign y: the argument of a function has the opposite sign
abbrev pub Leads : Ty → Sign → List Letter → Sign → Type 0
Leads N x [] y = x ≡ y
Leads N x (c ∷ s) y = ⊥
Leads (A ⇒ B) x [] y = ⊥
Leads (A ⇒ B) x (Left ∷ s) y = Leads B x s y
Leads (A ⇒ B) x (Right ∷ s) y = Leads A (opposite x) s y
Leads (A ⊗ B) x [] y = ⊥
Leads (A ⊗ B) x (Left ∷ s) y = Leads A x s y
Leads (A ⊗ B) x (Right ∷ s) y = Leads B x s y

-- a question may come to a port with this label, with these letters
abbrev pub Asks : Label → List Letter → Type 0
Asks (on x A) s = Leads A x s plus

pub twice_opposite : (x : Sign) → opposite (opposite x) ≡ x
twice_opposite plus = refl
twice_opposite minus = refl

pub minus_plus : minus ≡ plus → ⊥
minus_plus e = let z : ◌≡◌ {A = ℕ} 0 1 = cc in omega arith

-- no question comes to the consumer's end of a wire of type N
pub no_question : (s : List Letter) → Asks (on minus N) s → ⊥
no_question [] h = minus_plus h
no_question (c ∷ s) h = h

pub leads_flip : (A : Ty) (x y : Sign) (s : List Letter) → Leads A x s y → Leads A (opposite x) s (opposite y)
leads_flip N x y [] h = ap opposite h
leads_flip N x y (c ∷ s) h = h
leads_flip (A ⇒ B) x y [] h = h
leads_flip (A ⇒ B) x y (Left ∷ s) h = leads_flip B x y s h
leads_flip (A ⇒ B) x y (Right ∷ s) h = leads_flip A (opposite x) y s h
leads_flip (A ⊗ B) x y [] h = h
leads_flip (A ⊗ B) x y (Left ∷ s) h = leads_flip A x y s h
leads_flip (A ⊗ B) x y (Right ∷ s) h = leads_flip B x y s h

leads_height : (A : Ty) (x y : Sign) (s : List Letter) → Leads A x s y → length s ≤ height A
leads_height N x y [] h = omega arith
leads_height N x y (c ∷ s) h = absurd h
leads_height (A ⇒ B) x y [] h = absurd h
leads_height (A ⇒ B) x y (Left ∷ s) h = let k = leads_height B x y s h in omega arith
leads_height (A ⇒ B) x y (Right ∷ s) h = let k = leads_height A (opposite x) y s h in omega arith
leads_height (A ⊗ B) x y [] h = absurd h
leads_height (A ⊗ B) x y (Left ∷ s) h = let k = leads_height A x y s h in omega arith
leads_height (A ⊗ B) x y (Right ∷ s) h = let k = leads_height B x y s h in omega arith

-- a type has no more letters than it is high
pub asks_height : (a : Label) (s : List Letter) → Asks a s → length s ≤ height (type_of a)
asks_height (on x A) s h = leads_height A x plus s h
