-- Types are unique: what a derivation says of its sub-terms is what the tree alone says of them.
use Rattle.std.proofs.Common.{◌≡◌, ℕ, List, [], ◌∷◌, ◌++◌, map, sym, refl, ap, ◌∙◌, subst}
use Rattle.calculus.specs.Types.{Ty, N, ◌⇒◌, ◌⊗◌}
use Rattle.calculus.specs.Terms.{Term, var, num as number, succ as successor, lam as function, app as apply, pair as both, split as part, iter as repeat}
use Rattle.calculus.specs.Typing.{Ctx, Typed, ty_var, ty_num, ty_succ, ty_lam, ty_app, ty_pair, ty_split, ty_iter}
use Rattle.syntax.specs.Trees.{Tree, occ, num, succ, lam, app, pair, split, iter, erase}
use Rattle.language.specs.Infer.{Env, put}
use Rattle.language.specs.Judgements.{first, second, type_of, Judgement, judge, judgements}
use Rattle.language.proofs.Sums.{said}
use Rattle.grammar.specs.Derivations.{Agrees, types}
use Rattle.grammar.specs.Typings.{Alike, UniqueTypes, SumsDerived}
use Rattle.grammar.proofs.Contexts.{agrees_left, agrees_right, agrees_put}

map-append : (js ks : List Judgement) → map (λ j. j.type) (js ++ ks) ≡ map (λ j. j.type) js ++ map (λ j. j.type) ks
map-append [] ks = refl
map-append (j ∷ js) ks = ap (λ z. j.type ∷ z) (map-append js ks)

-- the types of the parts of a whole, and its own after them
one_part : (js : List Judgement) (Ts : List Ty) (j : Judgement) (A : Ty) → map (λ i. i.type) js ≡ Ts → j.type ≡ A → map (λ i. i.type) (js ++ (j ∷ [])) ≡ Ts ++ (A ∷ [])
one_part js Ts j A x y = map-append js (j ∷ []) ∙ ap (λ z. z ++ (j.type ∷ [])) x ∙ ap (λ B. Ts ++ (B ∷ [])) y

more_parts : (js ks : List Judgement) (Ts Us : List Ty) → map (λ i. i.type) js ≡ Ts → map (λ i. i.type) ks ≡ Us → map (λ i. i.type) (js ++ ks) ≡ Ts ++ Us
more_parts js ks Ts Us x y = map-append js ks ∙ ap (λ z. z ++ map (λ i. i.type) ks) x ∙ ap (λ z. Ts ++ z) y

-- a derivation gives each sub-term the type that the tree alone gives it, where e types the free variables
parts : (t : Tree ℕ) (e : Env) {Γ : Ctx} {A : Ty} (d : Typed Γ (erase t) A) → Agrees e Γ → map (λ j. j.type) (judgements e t) ≡ types d
parts (occ p b) e ty_var h = ap (λ B. B ∷ []) h.0
parts (num p n) e ty_num h = refl
parts (succ p t) e (ty_succ d) h = one_part _ _ (judge e (succ p t)) N (parts t e d h) refl
parts (lam p x T t) e (ty_lam {U = U} d q) h = one_part _ _ (judge e (lam p x T t)) (T ⇒ U) (parts t (put e x.place T) d (agrees_put e q h)) (sym (said e (lam p x T t) (ty_lam d q) h).type)
parts (app p t u) e (ty_app {U = U} {Γ = Γ} {Δ = Δ} d d₂) h =
    more_parts _ _ _ _ (parts t e d (agrees_left e Γ Δ h)) (one_part _ _ (judge e (app p t u)) U (parts u e d₂ (agrees_right e Γ Δ h)) (sym (said e (app p t u) (ty_app d d₂) h).type))
parts (pair p t u) e (ty_pair {T = T} {U = U} {Γ = Γ} {Δ = Δ} d d₂) h =
    more_parts _ _ _ _ (parts t e d (agrees_left e Γ Δ h)) (one_part _ _ (judge e (pair p t u)) (T ⊗ U) (parts u e d₂ (agrees_right e Γ Δ h)) (sym (said e (pair p t u) (ty_pair d d₂) h).type))
parts (split p x y t u) e (ty_split {T = T} {U = U} {A = A} {Γ = Γ} {Δ = Θ} {Δ₂ = Δ₂} d d₂ q q₂) h =
    let s = said e t d (agrees_left e Γ Δ₂ h) in
    let k = subst (λ B. Agrees (put (put e x.place (first B)) y.place (second B)) Θ) s.type (agrees_put (put e x.place T) q (agrees_put e q₂ (agrees_right e Γ Δ₂ h))) in
    more_parts _ _ _ _ (parts t e d (agrees_left e Γ Δ₂ h)) (one_part _ _ (judge e (split p x y t u)) A (parts u (put (put e x.place (first (type_of e t))) y.place (second (type_of e t))) d₂ k) (sym (said e (split p x y t u) (ty_split d d₂ q q₂) h).type))
parts (iter p t u v) e (ty_iter {A = A} {Γ = Γ} {Δ = Δ} {Θ = Θ} d d₂ d₃) h =
    let k = agrees_right e Γ (Δ ++ Θ) h in
    more_parts _ _ _ _ (parts t e d (agrees_left e Γ (Δ ++ Θ) h)) (more_parts _ _ _ _ (parts u e d₂ (agrees_left e Δ Θ k)) (one_part _ _ (judge e (iter p t u v)) A (parts v e d₃ (agrees_right e Δ Θ k)) (sym (said e (iter p t u v) (ty_iter d d₂ d₃) h).type)))

pub sums : SumsDerived
sums e t Γ A d h = let s = said e t d h in record { type = sym s.type; parts = parts t e d h; weights = sym s.weighs; heights = sym s.tall }

pub alike : (e : Env) (t : Tree ℕ) {Γ Δ : Ctx} {A B : Ty} (d : Typed Γ (erase t) A) (d' : Typed Δ (erase t) B) → Agrees e Γ → Agrees e Δ → Alike d d'
alike e t {Γ} {Δ} {A} {B} d d' h k =
    let r = sums e t Γ A d h in
    let s = sums e t Δ B d' k in
    record { type = sym r.type ∙ s.type; parts = sym r.parts ∙ s.parts; weights = sym r.weights ∙ s.weights; heights = sym r.heights ∙ s.heights }

-- every term is some tree's
abbrev plant : Term → Tree ℕ
plant (var x) = occ 0 x
plant (number n) = num 0 n
plant (successor t) = succ 0 (plant t)
plant (function x T t) = lam 0 (record { place = x; name = [] }) T (plant t)
plant (apply t u) = app 0 (plant t) (plant u)
plant (both t u) = pair 0 (plant t) (plant u)
plant (part x y t u) = split 0 (record { place = x; name = [] }) (record { place = y; name = [] }) (plant t) (plant u)
plant (repeat t u v) = iter 0 (plant t) (plant u) (plant v)

planted : (t : Term) → erase (plant t) ≡ t
planted (var x) = refl
planted (number n) = refl
planted (successor t) = ap successor (planted t)
planted (function x T t) = ap (function x T) (planted t)
planted (apply t u) = cc (planted t, planted u)
planted (both t u) = cc (planted t, planted u)
planted (part x y t u) = cc (planted t, planted u)
planted (repeat t u v) = cc (planted t, planted u, planted v)

pub unique : UniqueTypes
unique t A B d d' = subst (λ u. (c : Typed [] u A) (c' : Typed [] u B) → Alike c c') (planted t) (λ c c'. alike (λ x. N) (plant t) c c' tt tt) d d'
