-- Each sub-term of a tree with its type, and the sums over them. Assumes nothing.
use Rattle.std.specs.Prelude.{ℕ, ◌+◌, ◌≤◌, max, List, [], ◌∷◌, ◌++◌}
use Rattle.calculus.specs.Types.{Ty, N, ◌⇒◌, ◌⊗◌, height, naturals}
use Rattle.syntax.specs.Trees.{Tree, occ, num, succ, lam, app, pair, split, iter}
use Rattle.language.specs.Infer.{Env, put}

-- the parts of a type: N where there is none
abbrev pub result : Ty → Ty
result N = N
result (A ⇒ B) = B
result (A ⊗ B) = N

abbrev pub first : Ty → Ty
first N = N
first (A ⇒ B) = N
first (A ⊗ B) = A

abbrev pub second : Ty → Ty
second N = N
second (A ⇒ B) = N
second (A ⊗ B) = B

-- the type that a tree has, if it has one
abbrev pub type_of : Env → Tree ℕ → Ty
type_of e (occ p b) = e b
type_of e (num p n) = N
type_of e (succ p t) = N
type_of e (lam p x T t) = T ⇒ type_of (put e x.place T) t
type_of e (app p t u) = result (type_of e t)
type_of e (pair p t u) = type_of e t ⊗ type_of e u
type_of e (split p x y t u) = type_of (put (put e x.place (first (type_of e t))) y.place (second (type_of e t))) u
type_of e (iter p t u v) = type_of e v

-- a sub-term with its type
pub record Judgement : Type 0 where
  pub subject : Tree ℕ
  pub type : Ty

abbrev pub judge : Env → Tree ℕ → Judgement
judge e t = record { subject = t; type = type_of e t }

-- every sub-term with its type, parts before wholes, left before right
abbrev pub judgements : Env → Tree ℕ → List Judgement
judgements e (occ p b) = judge e (occ p b) ∷ []
judgements e (num p n) = judge e (num p n) ∷ []
judgements e (succ p t) = judgements e t ++ (judge e (succ p t) ∷ [])
judgements e (lam p x T t) = judgements (put e x.place T) t ++ (judge e (lam p x T t) ∷ [])
judgements e (app p t u) = judgements e t ++ (judgements e u ++ (judge e (app p t u) ∷ []))
judgements e (pair p t u) = judgements e t ++ (judgements e u ++ (judge e (pair p t u) ∷ []))
judgements e (split p x y t u) = judgements e t ++ (judgements (put (put e x.place (first (type_of e t))) y.place (second (type_of e t))) u ++ (judge e (split p x y t u) ∷ []))
judgements e (iter p t u v) = judgements e t ++ (judgements e u ++ (judgements e v ++ (judge e (iter p t u v) ∷ [])))

-- a sum over all sub-terms
abbrev pub sum : (Judgement → ℕ) → List Judgement → ℕ
sum f [] = 0
sum f (j ∷ js) = f j + sum f js

-- one for a successor sign, one for an iterator
abbrev pub a_successor : Tree ℕ → ℕ
a_successor (occ p b) = 0
a_successor (num p n) = 0
a_successor (succ p t) = 1
a_successor (lam p x T t) = 0
a_successor (app p t u) = 0
a_successor (pair p t u) = 0
a_successor (split p x y t u) = 0
a_successor (iter p t u v) = 0

abbrev pub an_iterator : Tree ℕ → ℕ
an_iterator (occ p b) = 0
an_iterator (num p n) = 0
an_iterator (succ p t) = 0
an_iterator (lam p x T t) = 0
an_iterator (app p t u) = 0
an_iterator (pair p t u) = 0
an_iterator (split p x y t u) = 0
an_iterator (iter p t u v) = 1

-- the Ns of a type, and none at a let
abbrev pub counted : Tree ℕ → ℕ → ℕ
counted (occ p b) n = n
counted (num p k) n = n
counted (succ p t) n = n
counted (lam p x T t) n = n
counted (app p t u) n = n
counted (pair p t u) n = n
counted (split p x y t u) n = 0
counted (iter p t u v) n = n

-- what a sub-term adds to the weight
abbrev pub share : Judgement → ℕ
share j = counted j.subject (naturals j.type)

-- the greatest height of a sub-term's type
abbrev pub highest : List Judgement → ℕ
highest [] = 0
highest (j ∷ js) = max (height j.type) (highest js)

-- no sub-term's type is higher than 64
abbrev pub Low : List Judgement → Type 0
Low [] = Unit {0}
Low (j ∷ js) = (height j.type ≤ 64) × Low js

-- the types of no variable: that of a closed program
abbrev pub nobody : Env
nobody x = N
