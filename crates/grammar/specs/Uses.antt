-- Linear use: each binder is used exactly once in its scope. Assumes nothing.
use Rattle.std.specs.Prelude.{◌≡◌, ℕ, suc, false, cond, List, [], ◌∷◌, ◌==◌}
use Rattle.calculus.specs.Terms.{Term, var, num, succ, lam, app, pair, split, iter, free}

-- how often x is among the uses
abbrev pub count : ℕ → List ℕ → ℕ
count x [] = 0
count x (y ∷ ys) = cond (x == y) (suc (count x ys)) (count x ys)

-- each binder of the term has one use in its scope, and a let's two binders are two
abbrev pub Linear : Term → Type 0
Linear (var x) = Unit {0}
Linear (num n) = Unit {0}
Linear (succ t) = Linear t
Linear (lam x T t) = (count x (free t) ≡ 1) × Linear t
Linear (app t u) = Linear t × Linear u
Linear (pair t u) = Linear t × Linear u
Linear (split x y t u) = ((x == y) ≡ false) × (count x (free u) ≡ 1) × (count y (free u) ≡ 1) × Linear t × Linear u
Linear (iter t u v) = Linear t × Linear u × Linear v
