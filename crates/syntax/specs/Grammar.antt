-- How a term is spelled as signs, and its measures. Assumes nothing.
use Rattle.std.specs.Prelude.{◌≡◌, ℕ, suc, ◌+◌, ◌≤◌, max, true, List, [], ◌∷◌, codes}
use Rattle.calculus.specs.Types.{Ty, N, ◌⇒◌, ◌⊗◌, height, signs}
use Rattle.syntax.specs.Trees.{Name, Binder, Tree, occ, num, succ, lam, app, pair, split, iter}
use Rattle.syntax.specs.Signs.{Sign, word, digits, mark, Placed, signs_of, is_name, is_number, number_of}

-- what may stand at the front of signs, before those that are left
abbrev pub Spelling : Type 1
Spelling = List Placed → List Placed → Type 0

-- one spelling after another
abbrev pub ◌▸◌ : Spelling → Spelling → Spelling
◌▸◌ R S s r = (m : List Placed) × R s m × S m r

infixr 40 ◌▸◌
-- the sign x, at place p
abbrev pub At : ℕ → Sign → Spelling
At p x s r = s ≡ (p, x) ∷ r

-- the sign x, wherever it stands
abbrev pub Next : Sign → Spelling
Next x s r = (p : ℕ) × At p x s r

-- a name where it is bound
abbrev pub Binds : Binder → Spelling
Binds x s r = (is_name x.name ≡ true) × At x.place (word x.name) s r

-- N, (T>U) or (T*U)
abbrev pub StandsType : Ty → Spelling
StandsType N = Next (mark 78)
StandsType (A ⇒ B) = Next (mark 40) ▸ StandsType A ▸ Next (mark 62) ▸ StandsType B ▸ Next (mark 41)
StandsType (A ⊗ B) = Next (mark 40) ▸ StandsType A ▸ Next (mark 42) ▸ StandsType B ▸ Next (mark 41)

-- a name, a number, S t, \x:T.t, (t u), <t,u>, let <x,y> = t in u, or iter t u v
abbrev pub Stands : Tree Name → Spelling
Stands (occ p w) = λ s r. (is_name w ≡ true) × At p (word w) s r
Stands (num p n) = λ s r. (ds : List ℕ) × (is_number ds ≡ true) × (number_of ds ≡ n) × At p (digits ds) s r
Stands (succ p t) = At p (mark 83) ▸ Stands t
Stands (lam p x T t) = At p (mark 92) ▸ Binds x ▸ Next (mark 58) ▸ StandsType T ▸ Next (mark 46) ▸ Stands t
Stands (app p t u) = At p (mark 40) ▸ Stands t ▸ Stands u ▸ Next (mark 41)
Stands (pair p t u) = At p (mark 60) ▸ Stands t ▸ Next (mark 44) ▸ Stands u ▸ Next (mark 62)
Stands (split p x y t u) = At p (word (codes "let")) ▸ Next (mark 60) ▸ Binds x ▸ Next (mark 44) ▸ Binds y ▸ Next (mark 62) ▸ Next (mark 61) ▸ Stands t ▸ Next (word (codes "in")) ▸ Stands u
Stands (iter p t u v) = At p (word (codes "iter")) ▸ Stands t ▸ Stands u ▸ Stands v

-- the whole text spells the term t
abbrev pub Spells : List ℕ → Tree Name → Type 0
Spells text t = Stands t (signs_of text) []

-- how many sub-terms a term has
abbrev pub size : {U : Type 0} → Tree U → ℕ
size (occ p x) = 1
size (num p n) = 1
size (succ p t) = suc (size t)
size (lam p x T t) = suc (size t)
size (app p t u) = suc (size t + size u)
size (pair p t u) = suc (size t + size u)
size (split p x y t u) = suc (size t + size u)
size (iter p t u v) = suc (size t + (size u + size v))

-- how many type signs stand in its annotations
abbrev pub type_signs : {U : Type 0} → Tree U → ℕ
type_signs (occ p x) = 0
type_signs (num p n) = 0
type_signs (succ p t) = type_signs t
type_signs (lam p x T t) = signs T + type_signs t
type_signs (app p t u) = type_signs t + type_signs u
type_signs (pair p t u) = type_signs t + type_signs u
type_signs (split p x y t u) = type_signs t + type_signs u
type_signs (iter p t u v) = type_signs t + (type_signs u + type_signs v)

-- how deep sub-terms are nested, a lone one being one deep
abbrev pub depth : {U : Type 0} → Tree U → ℕ
depth (occ p x) = 1
depth (num p n) = 1
depth (succ p t) = suc (depth t)
depth (lam p x T t) = suc (depth t)
depth (app p t u) = suc (max (depth t) (depth u))
depth (pair p t u) = suc (max (depth t) (depth u))
depth (split p x y t u) = suc (max (depth t) (depth u))
depth (iter p t u v) = suc (max (depth t) (max (depth u) (depth v)))

-- how deep the types of its annotations are nested, N being one deep
abbrev pub type_depth : {U : Type 0} → Tree U → ℕ
type_depth (occ p x) = 0
type_depth (num p n) = 0
type_depth (succ p t) = type_depth t
type_depth (lam p x T t) = max (suc (height T)) (type_depth t)
type_depth (app p t u) = max (type_depth t) (type_depth u)
type_depth (pair p t u) = max (type_depth t) (type_depth u)
type_depth (split p x y t u) = max (type_depth t) (type_depth u)
type_depth (iter p t u v) = max (type_depth t) (max (type_depth u) (type_depth v))

-- its greatest number
abbrev pub largest : {U : Type 0} → Tree U → ℕ
largest (occ p x) = 0
largest (num p n) = n
largest (succ p t) = largest t
largest (lam p x T t) = largest t
largest (app p t u) = max (largest t) (largest u)
largest (pair p t u) = max (largest t) (largest u)
largest (split p x y t u) = max (largest t) (largest u)
largest (iter p t u v) = max (largest t) (max (largest u) (largest v))

-- the limits of a term
pub record Within {U : Type 0} (t : Tree U) : Type 0 where
  pub numbers : largest t ≤ 1000000000
  pub subterms : size t ≤ 2048
  pub deep : depth t ≤ 128
  pub signs : type_signs t ≤ 2048
  pub types_deep : type_depth t ≤ 64
