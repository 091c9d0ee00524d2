-- The sums over judgements are those over the term, and those over any derivation of it.
use Rattle.std.proofs.Common.{◌≡◌, ℕ, suc, ◌+◌, ◌^◌, ◌≤◌, max, true, false, cond, eqb, List, [], ◌∷◌, ◌++◌, sym, refl, ap, ◌∙◌, subst, pow-suc, arith, pow_mono}
use Rattle.std.proofs.lemmas.Bool.Decides.{nat_tests}
use Rattle.calculus.specs.Types.{Ty, N, ◌⇒◌, ◌⊗◌, height, naturals}
use Rattle.calculus.specs.Terms.{successors, iterators}
use Rattle.calculus.specs.Typing.{Ctx, Absent, none_left, not_this, Pick, here, there, Typed, ty_var, ty_num, ty_succ, ty_lam, ty_app, ty_pair, ty_split, ty_iter, weight, tallest}
use Rattle.syntax.specs.Trees.{Tree, occ, num, succ, lam, app, pair, split, iter, erase}
use Rattle.language.specs.Infer.{Env, put}
use Rattle.language.specs.Judgements.{Judgement, judgements, type_of, result, first, second, sum, a_successor, an_iterator, share, highest}

pub sum-append : (f : Judgement → ℕ) (js ks : List Judgement) → sum f (js ++ ks) ≡ sum f js + sum f ks
sum-append f [] ks = omega arith
sum-append f (j ∷ js) ks = omega (arith, sum-append f js ks)

pub highest-append : (js ks : List Judgement) → highest (js ++ ks) ≡ max (highest js) (highest ks)
highest-append [] ks = omega arith
highest-append (j ∷ js) ks = omega (arith, highest-append js ks)

-- the count of a construct, from those of its parts
pub successors-counted : (e : Env) (t : Tree ℕ) → sum (λ j. a_successor j.subject) (judgements e t) ≡ successors (erase t)
successors-counted e (occ p b) = refl
successors-counted e (num p n) = refl
successors-counted e (succ p t) = simp sum-append (omega (arith, successors-counted e t))
successors-counted e (lam p x T t) = simp sum-append (omega (arith, successors-counted (put e x.place T) t))
successors-counted e (app p t u) = simp sum-append (omega (arith, successors-counted e t, successors-counted e u))
successors-counted e (pair p t u) = simp sum-append (omega (arith, successors-counted e t, successors-counted e u))
successors-counted e (split p x y t u) = simp sum-append (omega (arith, successors-counted e t, successors-counted (put (put e x.place (first (type_of e t))) y.place (second (type_of e t))) u))
successors-counted e (iter p t u v) = simp sum-append (omega (arith, successors-counted e t, successors-counted e u, successors-counted e v))

pub iterators-counted : (e : Env) (t : Tree ℕ) → sum (λ j. an_iterator j.subject) (judgements e t) ≡ iterators (erase t)
iterators-counted e (occ p b) = refl
iterators-counted e (num p n) = refl
iterators-counted e (succ p t) = simp sum-append (omega (arith, iterators-counted e t))
iterators-counted e (lam p x T t) = simp sum-append (omega (arith, iterators-counted (put e x.place T) t))
iterators-counted e (app p t u) = simp sum-append (omega (arith, iterators-counted e t, iterators-counted e u))
iterators-counted e (pair p t u) = simp sum-append (omega (arith, iterators-counted e t, iterators-counted e u))
iterators-counted e (split p x y t u) = simp sum-append (omega (arith, iterators-counted e t, iterators-counted (put (put e x.place (first (type_of e t))) y.place (second (type_of e t))) u))
iterators-counted e (iter p t u v) = simp sum-append (omega (arith, iterators-counted e t, iterators-counted e u, iterators-counted e v))

-- the context has each variable at its type in e
abbrev Fits : Env → Ctx → Type 0
Fits e [] = Unit {0}
Fits e (g ∷ Γ) = (e g.0 ≡ g.1) × Fits e Γ

fits-append : (e : Env) (Γ Δ : Ctx) → Fits e (Γ ++ Δ) → Fits e Γ × Fits e Δ
fits-append e [] Δ h = (tt, h)
fits-append e (g ∷ Γ) Δ h = let k = fits-append e Γ Δ h.1 in ((h.0, k.0), k.1)

put_other : (e : Env) (x y : ℕ) (T : Ty) → eqb x y ≡ false → put e x T y ≡ e y
put_other e x y T h = ap (λ b. cond b T (e y)) h

fits-absent : (e : Env) (x : ℕ) (T : Ty) (Γ : Ctx) → Absent x Γ → Fits e Γ → Fits (put e x T) Γ
fits-absent e x T [] none_left h = tt
fits-absent e x T ((y, A) ∷ Γ) (not_this q a) h = (put_other e x y T q ∙ h.0, fits-absent e x T Γ a h.1)

-- a binder's variable joins the context
fits_pick : (e : Env) (x : ℕ) (T : Ty) {Γ Δ : Ctx} → Pick x T Γ Δ → Fits e Δ → Fits (put e x T) Γ
fits_pick e x T (here {Δ = Δ} a) h =
    let q : eqb x x ≡ true = grind (arith, nat_tests) in
    (ap (λ b. cond b T (e x)) q, fits-absent e x T Δ a h)
fits_pick e x T (there {y = y} q p) h = (put_other e x y T q ∙ h.0, fits_pick e x T p h.1)

-- what any derivation says of a tree
pub record Said (e : Env) (t : Tree ℕ) (A : Ty) (w l : ℕ) : Type 0 where
  pub type : A ≡ type_of e t
  pub weighs : w ≡ sum share (judgements e t)
  pub tall : l ≡ highest (judgements e t)

pub said : (e : Env) (t : Tree ℕ) {Γ : Ctx} {A : Ty} (d : Typed Γ (erase t) A) → Fits e Γ → Said e t A (weight d) (tallest d)
said e (occ p b) (ty_var {A = A}) h = let q : A ≡ e b = sym h.0 in record { type = q; weighs = omega (arith, ap naturals q); tall = omega (arith, ap height q) }
said e (num p n) ty_num h = record { type = refl; weighs = refl; tall = refl }
said e (succ p t) (ty_succ d) h =
    let s = said e t d h in
    record { type = refl; weighs = simp sum-append (omega (arith, s.weighs)); tall = simp highest-append (omega (arith, s.tall)) }
said e (lam p x T t) (ty_lam {U = U} d pick) h =
    let s = said (put e x.place T) t d (fits_pick e x.place T pick h) in
    record {
      type = ap (λ B. T ⇒ B) s.type;
      weighs = simp sum-append (omega (arith, s.weighs, ap naturals s.type));
      tall = simp highest-append (omega (arith, s.tall, ap height s.type));
    }
said e (app p t u) (ty_app {T = T} {U = U} {Γ = Γ} {Δ = Δ} d f) h =
    let k = fits-append e Γ Δ h in
    let s = said e t d k.0 in
    let r = said e u f k.1 in
    let q : U ≡ result (type_of e t) = ap result s.type in
    record {
      type = q;
      weighs = simp sum-append (omega (arith, s.weighs, r.weighs, ap naturals q));
      tall = simp highest-append (omega (arith, s.tall, r.tall, ap height q));
    }
said e (pair p t u) (ty_pair {Γ = Γ} {Δ = Δ} d f) h =
    let k = fits-append e Γ Δ h in
    let s = said e t d k.0 in
    let r = said e u f k.1 in
    record {
      type = cc (s.type, r.type);
      weighs = simp sum-append (omega (arith, s.weighs, r.weighs, ap naturals s.type, ap naturals r.type));
      tall = simp highest-append (omega (arith, s.tall, r.tall, ap height s.type, ap height r.type));
    }
said e (split p x y t u) (ty_split {T = T} {U = U} {A = A} {Γ = Γ} {Δ = Θ} {Δ₂ = Δ} d f pick pick') h =
    let k = fits-append e Γ Δ h in
    let s = said e t d k.0 in
    let under : Ty → Env = λ P. put (put e x.place (first P)) y.place (second P) in
    let fits : Fits (under (T ⊗ U)) Θ = fits_pick (put e x.place T) y.place U pick (fits_pick e x.place T pick' k.1) in
    let r = said (under (type_of e t)) u f (subst (λ P. Fits (under P) Θ) s.type fits) in
    record {
      type = r.type;
      weighs = simp sum-append (omega (arith, s.weighs, r.weighs));
      tall = simp highest-append (omega (arith, s.tall, r.tall, ap height r.type));
    }
said e (iter p t u v) (ty_iter {Γ = Γ} {Δ = Δ} {Θ = Θ} d f g) h =
    let k = fits-append e Γ (Δ ++ Θ) h in
    let l = fits-append e Δ Θ k.1 in
    let s = said e t d k.0 in
    let r = said e u f l.0 in
    let q = said e v g l.1 in
    record {
      type = q.type;
      weighs = simp sum-append (omega (arith, s.weighs, r.weighs, q.weighs, ap naturals q.type));
      tall = simp highest-append (omega (arith, s.tall, r.tall, q.tall, ap height q.type));
    }

-- a low type has few Ns
both_few : (a b h k : ℕ) → a ≤ 2 ^ h → b ≤ 2 ^ k → a + b ≤ 2 ^ suc (max h k)
both_few a b h k p q =
    let left : h ≤ max h k = omega arith in
    let right : k ≤ max h k = omega arith in
    let m = pow_mono left in
    let n = pow_mono right in
    rw (pow-suc 2 (max h k)) (omega (arith, m, n))

few_naturals : (A : Ty) → naturals A ≤ 2 ^ height A
few_naturals N = omega arith
few_naturals (A ⇒ B) = both_few (naturals A) (naturals B) (height A) (height B) (few_naturals A) (few_naturals B)
few_naturals (A ⊗ B) = both_few (naturals A) (naturals B) (height A) (height B) (few_naturals A) (few_naturals B)

pub low_naturals : (A : Ty) → height A ≤ 64 → naturals A ≤ 2 ^ 64
low_naturals A h = let m = pow_mono h in omega (arith, m, few_naturals A)
