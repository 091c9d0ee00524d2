-- The types of a tree, part by part, or the first sub-term that has none. Assumes nothing.
use Rattle.std.specs.Prelude.{ℕ, Bool, true, false, cond, ◌&&◌, ◌==◌, nat_le}
use Rattle.calculus.specs.Types.{Ty, N, ◌⇒◌, ◌⊗◌, height}
use Rattle.syntax.specs.Trees.{Tree, occ, num, succ, lam, app, pair, split, iter}
use Rattle.syntax.specs.declared.refusal.Fault.{Fault}
use Rattle.syntax.specs.declared.refusal.Fault.TheVariants.{IllTyped, HighType}

-- two types are equal when they have the same sign and equal parts
abbrev pub same : Ty → Ty → Bool
same N N = true
same N (C ⇒ D) = false
same N (C ⊗ D) = false
same (A ⇒ B) N = false
same (A ⇒ B) (C ⇒ D) = same A C && same B D
same (A ⇒ B) (C ⊗ D) = false
same (A ⊗ B) N = false
same (A ⊗ B) (C ⇒ D) = false
same (A ⊗ B) (C ⊗ D) = same A C && same B D

-- a type, or a fault and its place
pub data Checked : Type 0 where
  good : Ty → Checked
  bad : Fault → ℕ → Checked

abbrev pub then : Checked → (Ty → Checked) → Checked
then (good A) k = k A
then (bad f p) k = bad f p

-- the type of the sub-term at p, if it is at most 64 high
abbrev pub within : ℕ → Ty → Checked
within p A = cond (nat_le (height A) 64) (good A) (bad HighType p)

-- the type of each variable, by its binder
abbrev pub Env : Type 0
Env = ℕ → Ty

abbrev pub put : Env → ℕ → Ty → Env
put e x A y = cond (x == y) A (e y)

-- the rule of each construct, given the types of its parts
abbrev pub succ_rule : ℕ → Ty → Checked
succ_rule p N = within p N
succ_rule p (A ⇒ B) = bad IllTyped p
succ_rule p (A ⊗ B) = bad IllTyped p

abbrev pub app_rule : ℕ → Ty → Ty → Checked
app_rule p N C = bad IllTyped p
app_rule p (A ⇒ B) C = cond (same A C) (within p B) (bad IllTyped p)
app_rule p (A ⊗ B) C = bad IllTyped p

abbrev pub split_rule : ℕ → (Ty → Ty → Checked) → Ty → Checked
split_rule p k N = bad IllTyped p
split_rule p k (A ⇒ B) = bad IllTyped p
split_rule p k (A ⊗ B) = k A B

abbrev pub iter_step : ℕ → Ty → Ty → Checked
iter_step p N C = bad IllTyped p
iter_step p (A ⇒ B) C = cond (same A B && same A C) (within p C) (bad IllTyped p)
iter_step p (A ⊗ B) C = bad IllTyped p

abbrev pub iter_rule : ℕ → Ty → Ty → Ty → Checked
iter_rule p N U V = iter_step p U V
iter_rule p (A ⇒ B) U V = bad IllTyped p
iter_rule p (A ⊗ B) U V = bad IllTyped p

-- parts before wholes, left before right; a let asks for its pair before its body is looked at
unfoldable pub infer : Env → Tree ℕ → Checked
infer e (occ p b) = within p (e b)
infer e (num p n) = within p N
infer e (succ p t) = then (infer e t) (succ_rule p)
infer e (lam p x T t) = then (infer (put e x.place T) t) (λ U. within p (T ⇒ U))
infer e (app p t u) = then (infer e t) (λ F. then (infer e u) (app_rule p F))
infer e (pair p t u) = then (infer e t) (λ A. then (infer e u) (λ B. within p (A ⊗ B)))
infer e (split p x y t u) = then (infer e t) (split_rule p (λ A B. then (infer (put (put e x.place A) y.place B) u) (within p)))
infer e (iter p t u v) = then (infer e t) (λ A. then (infer e u) (λ F. then (infer e v) (iter_rule p A F)))
