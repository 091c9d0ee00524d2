-- The terms of Linear System T. A variable is known by its binder, a number of its own; names are gone. Assumes nothing.
use Rattle.std.specs.Prelude.{List, [], ◌∷◌, ◌++◌, cond, ℕ, suc, ◌+◌, eqb, length}
use Rattle.calculus.specs.Types.{Ty}

pub data Term : Type 0 where
  var : ℕ → Term
  num : ℕ → Term
  succ : Term → Term
  lam : ℕ → Ty → Term → Term
  app : Term → Term → Term
  pair : Term → Term → Term
  -- let <x,y> = t in u
  split : ℕ → ℕ → Term → Term → Term
  -- iter t u v: the count, the step and the base
  iter : Term → Term → Term → Term

-- the list without x
abbrev pub without : ℕ → List ℕ → List ℕ
without x [] = []
without x (y ∷ ys) = cond (eqb x y) (without x ys) (y ∷ without x ys)

-- the free variables, once for each use, in order of occurrence
abbrev pub free : Term → List ℕ
free (var x) = x ∷ []
free (num n) = []
free (succ t) = free t
free (lam x T t) = without x (free t)
free (app t u) = free t ++ free u
free (pair t u) = free t ++ free u
free (split x y t u) = free t ++ without x (without y (free u))
free (iter t u v) = free t ++ (free u ++ free v)

-- how many sub-terms, successor signs and iterators a term has
abbrev pub subterms : Term → ℕ
subterms (var x) = 1
subterms (num n) = 1
subterms (succ t) = suc (subterms t)
subterms (lam x T t) = suc (subterms t)
subterms (app t u) = suc (subterms t + subterms u)
subterms (pair t u) = suc (subterms t + subterms u)
subterms (split x y t u) = suc (subterms t + subterms u)
subterms (iter t u v) = suc (subterms t + (subterms u + subterms v))

abbrev pub successors : Term → ℕ
successors (var x) = 0
successors (num n) = 0
successors (succ t) = suc (successors t)
successors (lam x T t) = successors t
successors (app t u) = successors t + successors u
successors (pair t u) = successors t + successors u
successors (split x y t u) = successors t + successors u
successors (iter t u v) = successors t + (successors u + successors v)

abbrev pub iterators : Term → ℕ
iterators (var x) = 0
iterators (num n) = 0
iterators (succ t) = iterators t
iterators (lam x T t) = iterators t
iterators (app t u) = iterators t + iterators u
iterators (pair t u) = iterators t + iterators u
iterators (split x y t u) = iterators t + iterators u
iterators (iter t u v) = suc (iterators t + (iterators u + iterators v))

-- how many nodes a term makes: an iterator makes four of its own, and one for each variable free in its step or its base
abbrev pub nodes : Term → ℕ
nodes (var x) = 0
nodes (num n) = 1
nodes (succ t) = suc (nodes t)
nodes (lam x T t) = suc (nodes t)
nodes (app t u) = suc (nodes t + nodes u)
nodes (pair t u) = suc (nodes t + nodes u)
nodes (split x y t u) = suc (nodes t + nodes u)
nodes (iter t u v) = 4 + (nodes t + ((nodes u + length (free u)) + (nodes v + length (free v))))
