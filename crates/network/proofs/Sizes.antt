-- A term has no more free uses than sub-terms, and one of at most 2,048 sub-terms makes few nodes.
use Rattle.std.proofs.Common.{ℕ, ◌*◌, ◌≤◌, Bool, true, false, cond, eqb, List, [], ◌∷◌, ◌++◌, length, arith, length-append}
use Rattle.calculus.specs.Terms.{Term, var, num, succ, lam, app, pair, split, iter, free, without, subterms, nodes}

without-length : (x : ℕ) (xs : List ℕ) → length (without x xs) ≤ length xs
without-length x [] = omega arith
without-length x (y ∷ ys) = go (without-length x ys) (eqb x y)
  where
    go : length (without x ys) ≤ length ys → (b : Bool) → length (cond b (without x ys) (y ∷ without x ys)) ≤ length (y ∷ ys)
    go h true = omega arith
    go h false = omega arith

pub uses_few : (t : Term) → length (free t) ≤ subterms t
uses_few (var x) = omega arith
uses_few (num n) = omega arith
uses_few (succ t) = omega (arith, uses_few t)
uses_few (lam x T t) = omega (arith, uses_few t, without-length x (free t))
uses_few (app t u) = omega (arith, uses_few t, uses_few u, length-append (free t) (free u))
uses_few (pair t u) = omega (arith, uses_few t, uses_few u, length-append (free t) (free u))
uses_few (split x y t u) =
    omega (arith, uses_few t, uses_few u, length-append (free t) (without x (without y (free u))), without-length x (without y (free u)), without-length y (free u))
uses_few (iter t u v) = omega (arith, uses_few t, uses_few u, uses_few v, length-append (free t) (free u ++ free v), length-append (free u) (free v))

pub nodes_few : (t : Term) → subterms t ≤ 2048 → nodes t ≤ 2052 * subterms t
nodes_few (var x) h = omega arith
nodes_few (num n) h = omega arith
nodes_few (succ t) h = omega (arith, nodes_few t (omega arith))
nodes_few (lam x T t) h = omega (arith, nodes_few t (omega arith))
nodes_few (app t u) h = omega (arith, nodes_few t (omega arith), nodes_few u (omega arith))
nodes_few (pair t u) h = omega (arith, nodes_few t (omega arith), nodes_few u (omega arith))
nodes_few (split x y t u) h = omega (arith, nodes_few t (omega arith), nodes_few u (omega arith))
nodes_few (iter t u v) h = omega (arith, nodes_few t (omega arith), nodes_few u (omega arith), nodes_few v (omega arith), uses_few u, uses_few v)
