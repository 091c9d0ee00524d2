-- The first sub-term without a type, or with one that is too high: parts before wholes, left before right. Assumes nothing.
use Rattle.std.specs.Prelude.{ℕ, ◌<◌, ◌≢◌}
use Rattle.calculus.specs.Types.{Ty, ◌⊗◌, height}
use Rattle.calculus.specs.Terms.{free}
use Rattle.calculus.specs.Typing.{Typed}
use Rattle.syntax.specs.Trees.{Binder, Tree, occ, num, succ, lam, app, pair, split, iter, erase, place_of}
use Rattle.syntax.specs.declared.refusal.Fault.{Fault}
use Rattle.syntax.specs.declared.refusal.Fault.TheVariants.{IllTyped, HighType}
use Rattle.language.specs.Infer.{Env, put}
use Rattle.grammar.specs.Derivations.{given, Has}

-- the tree has a type, with no type in it higher than 64
abbrev pub Typable : Env → Tree ℕ → Type 0
Typable e t = (A : Ty) × Has e t A

-- every part of the tree has one; the body of a let is looked at with the parts of a pair type
abbrev pub Parts : Env → Tree ℕ → Type 0
Parts e (occ p b) = Unit {0}
Parts e (num p n) = Unit {0}
Parts e (succ p t) = Typable e t
Parts e (lam p x T t) = Typable (put e x.place T) t
Parts e (app p t u) = Typable e t × Typable e u
Parts e (pair p t u) = Typable e t × Typable e u
Parts e (split p x y t u) = (A : Ty) × (B : Ty) × Has e t (A ⊗ B) × Typable (put (put e x.place A) y.place B) u
Parts e (iter p t u v) = Typable e t × Typable e u × Typable e v

pub data First : Env → Tree ℕ → Fault → ℕ → Type 0 where
  -- its parts have types, and it has none
  no_type : {e : Env} (t : Tree ℕ) → Parts e t → ((A : Ty) → Typed (given e (free (erase t))) (erase t) A → ⊥) → First e t IllTyped (place_of t)
  -- its parts have types, and its own is too high
  too_high : {e : Env} (t : Tree ℕ) {A : Ty} → Parts e t → Typed (given e (free (erase t))) (erase t) A → 64 < height A → First e t HighType (place_of t)
  -- a let whose first part has another type than a pair's, whatever its body is
  no_pair : {e : Env} {p : ℕ} {x y : Binder} {t u : Tree ℕ} {A : Ty} → Has e t A → ((B C : Ty) → A ≢ (B ⊗ C)) → First e (split p x y t u) IllTyped p
  -- it lies in a part, and those on the left of that have types
  in_succ : {e : Env} {p : ℕ} {t : Tree ℕ} {f : Fault} {q : ℕ} → First e t f q → First e (succ p t) f q
  in_lam : {e : Env} {p : ℕ} {x : Binder} {T : Ty} {t : Tree ℕ} {f : Fault} {q : ℕ} → First (put e x.place T) t f q → First e (lam p x T t) f q
  in_app₁ : {e : Env} {p : ℕ} {t u : Tree ℕ} {f : Fault} {q : ℕ} → First e t f q → First e (app p t u) f q
  in_app₂ : {e : Env} {p : ℕ} {t u : Tree ℕ} {f : Fault} {q : ℕ} → Typable e t → First e u f q → First e (app p t u) f q
  in_pair₁ : {e : Env} {p : ℕ} {t u : Tree ℕ} {f : Fault} {q : ℕ} → First e t f q → First e (pair p t u) f q
  in_pair₂ : {e : Env} {p : ℕ} {t u : Tree ℕ} {f : Fault} {q : ℕ} → Typable e t → First e u f q → First e (pair p t u) f q
  in_split₁ : {e : Env} {p : ℕ} {x y : Binder} {t u : Tree ℕ} {f : Fault} {q : ℕ} → First e t f q → First e (split p x y t u) f q
  in_split₂ : {e : Env} {p : ℕ} {x y : Binder} {t u : Tree ℕ} {A B : Ty} {f : Fault} {q : ℕ} → Has e t (A ⊗ B) → First (put (put e x.place A) y.place B) u f q → First e (split p x y t u) f q
  in_iter₁ : {e : Env} {p : ℕ} {t u v : Tree ℕ} {f : Fault} {q : ℕ} → First e t f q → First e (iter p t u v) f q
  in_iter₂ : {e : Env} {p : ℕ} {t u v : Tree ℕ} {f : Fault} {q : ℕ} → Typable e t → First e u f q → First e (iter p t u v) f q
  in_iter₃ : {e : Env} {p : ℕ} {t u v : Tree ℕ} {f : Fault} {q : ℕ} → Typable e t → Typable e u → First e v f q → First e (iter p t u v) f q
