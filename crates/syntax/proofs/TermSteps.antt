-- What reading a term puts into memory and does to names, step by step.
use Rattle.std.proofs.Common.{◌≡◌, ℕ, suc, ◌+◌, ◌<◌, false, List, [], ◌∷◌, ◌++◌, length, take, sym, refl, ap, ◌∙◌, append_assoc, arith, length-append, take_all}
use lib.ListN.{length-map}
use lib.Seq.{take-append-le}
use Rattle.std.proofs.lemmas.List.{map-append}
use Rattle.calculus.specs.Types.{Ty}
use Rattle.syntax.specs.declared.program.TypeCell.{TypeCell}
use Rattle.syntax.specs.declared.program.Shape.{Shape}
use Rattle.syntax.specs.declared.program.Shape.TheVariants.{Successor, Function, Application, Pair, Let, Iterator}
use Rattle.syntax.specs.declared.program.Subterm.{Subterm}
use Rattle.syntax.specs.Trees.{Name, Binder, Tree, occ, num, succ, lam, app, pair, split, iter}
use Rattle.syntax.specs.Names.{resolve}
use Rattle.syntax.specs.Layout.{top, push, with_type, with_types, with_term}
use Rattle.syntax.specs.Scopes.{InForce, Names, declare, enter, occur, leave, visit}
use Rattle.syntax.specs.Held.{binders_of}
use Rattle.syntax.specs.Steps.{TermHeld, Room}

-- the names in force once those entered after h others have left
pub left_over : (h : ℕ) (old : List InForce) (now more : List Binder) → h ≡ length old → now ≡ binders_of old ++ more → take h now ≡ binders_of old
left_over h old now more e k =
    ap (take h) k
    ∙ take-append-le h (binders_of old) more (omega (arith, length-map old (λ (x : InForce). x.binder)))
    ∙ take_all h (binders_of old) (omega (arith, length-map old (λ (x : InForce). x.binder)))

pub entered : (x : Binder) (s : Names) → binders_of (enter x s).force ≡ binders_of s.force ++ (x ∷ [])
entered x s = map-append (λ (y : InForce). y.binder) s.force (record { binder = x; used = false } ∷ [])

pub entered_two : (x y : Binder) (s : Names) → binders_of (enter y (enter x s)).force ≡ binders_of s.force ++ (x ∷ y ∷ [])
entered_two x y s = entered y (enter x s) ∙ ap (λ (b : List Binder). b ++ (y ∷ [])) (entered x s) ∙ append_assoc (binders_of s.force) (x ∷ []) (y ∷ [])

pub force_length : (s r : Names) → binders_of r.force ≡ binders_of s.force → length r.force ≡ length s.force
force_length s r k = sym (length-map r.force (λ (x : InForce). x.binder)) ∙ ap length k ∙ length-map s.force (λ (x : InForce). x.binder)

pub visit_occ : (p : ℕ) (w : Name) (s : Names) → visit (occ p w) s ≡ occur p w s
unfolding visit
visit_occ p w s = refl

pub visit_num : (p n : ℕ) (s : Names) → visit (num p n) s ≡ s
unfolding visit
visit_num p n s = refl

-- the last part was read, and the whole is put after it
pub built : (d : ℕ) (subs : List Subterm) (cells : List TypeCell) (names : Names) (t : Tree Name) (p : ℕ) (shape : Shape) (s₁ : List Subterm) (c₁ : List TypeCell) (n₁ : Names) (s₂ : List Subterm) (c₂ : List TypeCell) (n₂ n₃ : Names) (a : Tree Name × ℕ × ℕ) (i : ℕ) → TermHeld (d + 1) s₁ c₁ n₁ s₂ c₂ n₂ a i → push p shape s₂ ≡ with_term (resolve (binders_of names.force) t) subs cells → c₂ ≡ with_types (resolve (binders_of names.force) t) cells → n₃ ≡ visit t names → n₃.bound ≡ n₂.bound → TermHeld d subs cells names (push p shape s₂) c₂ n₃ (t, a.1, a.2) (length s₂)
built d subs cells names t p shape s₁ c₁ n₁ s₂ c₂ n₂ n₃ a i x term types visited bound =
    let l = length-append s₂ (record { place = p; shape = shape } ∷ []) in
    record { term = term; types = types; at = omega arith; visited = visited; counted = omega (arith, x.counted); few = x.few; signs = x.signs; few_signs = x.few_signs; bound = omega (arith, x.bound, ap length bound) }

module _ (d : ℕ) (subs : List Subterm) (cells : List TypeCell) (names : Names) (p : ℕ) where
  abbrev σ : List Binder
  σ = binders_of names.force

  pub held_leaf : (t : Tree Name) (shape : Shape) (names' : Names) → Room d subs cells names → length subs + d < 2048 → push p shape subs ≡ with_term (resolve σ t) subs cells → cells ≡ with_types (resolve σ t) cells → names' ≡ visit t names → names'.bound ≡ names.bound → TermHeld d subs cells names (push p shape subs) cells names' (t, suc (length subs + d), length cells) (length subs)
  held_leaf t shape names' room few term types visited bound =
      let l = length-append subs (record { place = p; shape = shape } ∷ []) in
      record { term = term; types = types; at = omega arith; visited = visited; counted = omega arith; few = omega arith; signs = refl; few_signs = room.signs; bound = omega (arith, room.bound, ap length bound) }

  module _ (s₁ : List Subterm) (c₁ : List TypeCell) (n₁ : Names) (a : Tree Name × ℕ × ℕ) (i : ℕ) (x : TermHeld (d + 1) subs cells names s₁ c₁ n₁ a i) where
    pub held_succ : TermHeld d subs cells names (push p (Successor i) s₁) c₁ n₁ (succ p a.0, a.1, a.2) (length s₁)
    unfolding visit
    held_succ = built d subs cells names (succ p a.0) p (Successor i) subs cells names s₁ c₁ n₁ n₁ a i x (cc (x.term, x.at)) x.types x.visited refl

    module _ (s₂ : List Subterm) (c₂ : List TypeCell) (n₂ : Names) (b : Tree Name × ℕ × ℕ) (j : ℕ) (y : TermHeld (d + 1) s₁ c₁ n₁ s₂ c₂ n₂ b j) (k : binders_of n₁.force ≡ binders_of names.force) where
      next_term : s₂ ≡ with_term (resolve σ b.0) s₁ c₁
      next_term = y.term ∙ ap (λ (r : List Binder). with_term (resolve r b.0) s₁ c₁) k

      next_types : c₂ ≡ with_types (resolve σ b.0) c₁
      next_types = y.types ∙ ap (λ (r : List Binder). with_types (resolve r b.0) c₁) k

      pub held_app : TermHeld d subs cells names (push p (Application i j) s₂) c₂ n₂ (app p a.0 b.0, b.1, b.2) (length s₂)
      unfolding visit
      held_app = built d subs cells names (app p a.0 b.0) p (Application i j) s₁ c₁ n₁ s₂ c₂ n₂ n₂ b j y (cc (x.term, x.at, x.types, next_term, y.at)) (cc (x.types, next_types)) (cc (x.visited, y.visited)) refl

      pub held_pair : TermHeld d subs cells names (push p (Pair i j) s₂) c₂ n₂ (pair p a.0 b.0, b.1, b.2) (length s₂)
      unfolding visit
      held_pair = built d subs cells names (pair p a.0 b.0) p (Pair i j) s₁ c₁ n₁ s₂ c₂ n₂ n₂ b j y (cc (x.term, x.at, x.types, next_term, y.at)) (cc (x.types, next_types)) (cc (x.visited, y.visited)) refl

      pub held_iter : (s₃ : List Subterm) (c₃ : List TypeCell) (n₃ : Names) (e : Tree Name × ℕ × ℕ) (l : ℕ) → TermHeld (d + 1) s₂ c₂ n₂ s₃ c₃ n₃ e l → binders_of n₂.force ≡ binders_of n₁.force → TermHeld d subs cells names (push p (Iterator i j l) s₃) c₃ n₃ (iter p a.0 b.0 e.0, e.1, e.2) (length s₃)
      unfolding visit
      held_iter s₃ c₃ n₃ e l z q =
          let last_term : s₃ ≡ with_term (resolve σ e.0) s₂ c₂ = z.term ∙ ap (λ (r : List Binder). with_term (resolve r e.0) s₂ c₂) (q ∙ k) in
          let last_types : c₃ ≡ with_types (resolve σ e.0) c₂ = z.types ∙ ap (λ (r : List Binder). with_types (resolve r e.0) c₂) (q ∙ k) in
          built d subs cells names (iter p a.0 b.0 e.0) p (Iterator i j l) s₂ c₂ n₂ s₃ c₃ n₃ n₃ e l z (cc (x.term, x.at, x.types, next_term, next_types, y.at, last_term, z.at)) (cc (x.types, next_types, last_types)) (cc (x.visited, y.visited, z.visited)) refl

  pub held_function : (f : Binder) (T : Ty) (at : ℕ) (c₁ : List TypeCell) (s₂ : List Subterm) (c₂ : List TypeCell) (n₂ : Names) (b : Tree Name × ℕ × ℕ) (j : ℕ) → c₁ ≡ with_type T cells → at ≡ top c₁ → TermHeld (d + 1) subs c₁ (enter f (declare f names)) s₂ c₂ n₂ b j → (h : ℕ) → h ≡ length names.force → TermHeld d subs cells names (push p (Function f.place at j) s₂) c₂ (leave h n₂) (lam p f T b.0, b.1, b.2) (length s₂)
  unfolding visit
  held_function f T at c₁ s₂ c₂ n₂ b j put top-is y h high =
      let e = entered f (declare f names) in
      let body_term : s₂ ≡ with_term (resolve (σ ++ (f ∷ [])) b.0) subs c₁ = y.term ∙ ap (λ (r : List Binder). with_term (resolve r b.0) subs c₁) e in
      let body_types : c₂ ≡ with_types (resolve (σ ++ (f ∷ [])) b.0) c₁ = y.types ∙ ap (λ (r : List Binder). with_types (resolve r b.0) c₁) e in
      built d subs cells names (lam p f T b.0) p (Function f.place at j) subs c₁ (enter f (declare f names)) s₂ c₂ n₂ (leave h n₂) b j y (cc (put, top-is, body_term, y.at)) (cc (put, body_types)) (ap (leave h) y.visited ∙ ap (λ (n : ℕ). leave n (visit b.0 (enter f (declare f names)))) high) refl

  pub held_let : (f g : Binder) (s₁ : List Subterm) (c₁ : List TypeCell) (n₁ : Names) (a : Tree Name × ℕ × ℕ) (i : ℕ) (s₂ : List Subterm) (c₂ : List TypeCell) (n₂ : Names) (b : Tree Name × ℕ × ℕ) (j : ℕ) → TermHeld (d + 1) subs cells (declare g (declare f names)) s₁ c₁ n₁ a i → binders_of n₁.force ≡ binders_of names.force → TermHeld (d + 1) s₁ c₁ (enter g (enter f n₁)) s₂ c₂ n₂ b j → (h : ℕ) → h ≡ length n₁.force → TermHeld d subs cells names (push p (Let f.place g.place i j) s₂) c₂ (leave h n₂) (split p f g a.0 b.0, b.1, b.2) (length s₂)
  unfolding visit
  held_let f g s₁ c₁ n₁ a i s₂ c₂ n₂ b j x k y h high =
      let e : binders_of (enter g (enter f n₁)).force ≡ σ ++ (f ∷ g ∷ []) = entered_two f g n₁ ∙ ap (λ (r : List Binder). r ++ (f ∷ g ∷ [])) k in
      let body_term : s₂ ≡ with_term (resolve (σ ++ (f ∷ g ∷ [])) b.0) s₁ c₁ = y.term ∙ ap (λ (r : List Binder). with_term (resolve r b.0) s₁ c₁) e in
      let body_types : c₂ ≡ with_types (resolve (σ ++ (f ∷ g ∷ [])) b.0) c₁ = y.types ∙ ap (λ (r : List Binder). with_types (resolve r b.0) c₁) e in
      let height : h ≡ length names.force = high ∙ force_length names n₁ k in
      built d subs cells names (split p f g a.0 b.0) p (Let f.place g.place i j) s₁ c₁ (enter g (enter f n₁)) s₂ c₂ n₂ (leave h n₂) b j y (cc (x.term, x.at, x.types, body_term, y.at)) (cc (x.types, body_types))
      (ap (leave h) (y.visited ∙ ap (λ (n : Names). visit b.0 (enter g (enter f n))) x.visited) ∙ ap (λ (n : ℕ). leave n (visit b.0 (enter g (enter f (visit a.0 (declare g (declare f names))))))) height) refl
