-- Counting: each port that a node has, and the one that the root goes to, is the end of one wire; so is the port at which a free variable starts.
use Rattle.std.proofs.Common.{◌≡◌, ℕ, suc, ◌+◌, Bool, true, false, cond, eqb, ◌⊎◌, List, [], ◌∷◌, ◌++◌, length, sym, refl, ap, ◌∙◌, inl, inr, arith, length-append}
use Rattle.std.proofs.lemmas.Bool.{eq-eqb, ne_eqb, eqb-true, eqb-false}
use Rattle.cells.specs.declared.kinds.Kind.{Kind}
use Rattle.cells.specs.declared.kinds.Kind.TheVariants.{Root, Number, Successor, Multiplexer, Iterator, LeftCounter, RightCounter, Transfer}
use Rattle.calculus.specs.Types.{Ty}
use Rattle.calculus.specs.Terms.{Term, free, iterators, nodes}
use Rattle.calculus.specs.Typing.{Ctx, Absent, none_left, not_this, Pick, here, there, Typed, ty_var, ty_num, ty_succ, ty_lam, ty_app, ty_pair, ty_split, ty_iter}
use Rattle.geometry.specs.Network.{Made, transfers, made, l1, l2, l3, Env, put, Wire, crossings, entered, wires}
use Rattle.geometry.specs.Derivations.{names, Apart, Distinct}
use Rattle.geometry.proofs.Names.{names-append, names-free, Once, once_left, once_right, once_pick}
use Rattle.geometry.proofs.Made.{transfers-length, made-length}

-- 1 where p is q, and 0 elsewhere
unfoldable pub hit : ℕ → ℕ → ℕ
hit p q = cond (eqb p q) 1 0

pub hit_tells : (p q : ℕ) → ((p ≡ q) × (hit p q ≡ 1)) ⊎ ((p ≡ q → ⊥) × (hit p q ≡ 0))
unfolding hit
hit_tells p q = go (eqb p q) refl
  where
    value : Bool → ℕ
    value b = cond b 1 0

    go : (b : Bool) → eqb p q ≡ b → ((p ≡ q) × (hit p q ≡ 1)) ⊎ ((p ≡ q → ⊥) × (hit p q ≡ 0))
    go true e = inl (eqb-true p q e, ap value e)
    go false e = inr (eqb-false p q e, ap value e)

-- how often p is an end of these wires
abbrev pub ends : ℕ → List Wire → ℕ
ends p [] = 0
ends p (w ∷ ws) = hit p w.0 + hit p w.1 + ends p ws

-- how many of these variables start at p
abbrev pub starts : ℕ → Env → List ℕ → ℕ
starts p e [] = 0
starts p e (x ∷ xs) = hit p (e x) + starts p e xs

-- whether p is a port that a node k of the kind has
abbrev pub port_of : ℕ → ℕ → Kind → ℕ
port_of p k Root = hit p (l1 k)
port_of p k Number = hit p (l1 k)
port_of p k Successor = hit p (l1 k) + hit p (l2 k)
port_of p k Multiplexer = hit p (l1 k) + hit p (l2 k) + hit p (l3 k)
port_of p k Iterator = hit p (l1 k) + hit p (l2 k) + hit p (l3 k)
port_of p k LeftCounter = hit p (l1 k) + hit p (l2 k) + hit p (l3 k)
port_of p k RightCounter = hit p (l1 k) + hit p (l2 k) + hit p (l3 k)
port_of p k Transfer = hit p (l1 k) + hit p (l2 k)

-- of how many of the nodes k, k + 1, ... p is a port
abbrev pub ports : ℕ → ℕ → List Made → ℕ
ports p k [] = 0
ports p k (m ∷ ms) = port_of p k m.0 + ports p (suc k) ms

pub ends_append : (p : ℕ) (v w : List Wire) → ends p (v ++ w) ≡ ends p v + ends p w
ends_append p [] w = omega arith
ends_append p (x ∷ v) w = omega (arith, ends_append p v w)

ports_append : (p k j : ℕ) (l m : List Made) → j ≡ k + length l → ports p k (l ++ m) ≡ ports p k l + ports p j m
ports_append p k j [] m e = let z : j ≡ k = omega arith in rw z (omega arith)
ports_append p k j (x ∷ l) m e = omega (arith, ports_append p (suc k) j l m (omega arith))

starts_append : (p : ℕ) (e : Env) (xs ys : List ℕ) → starts p e (xs ++ ys) ≡ starts p e xs + starts p e ys
starts_append p e [] ys = omega arith
starts_append p e (x ∷ xs) ys = omega (arith, starts_append p e xs ys)

starts_both : (p : ℕ) (e : Env) (Γ Δ : Ctx) → starts p e (names (Γ ++ Δ)) ≡ starts p e (names Γ) + starts p e (names Δ)
starts_both p e Γ Δ = rw (names-append Γ Δ) (starts_append p e (names Γ) (names Δ))

starts_absent : (p : ℕ) (e : Env) (q : ℕ) {x : ℕ} {Γ : Ctx} → Absent x Γ → starts p (put e x q) (names Γ) ≡ starts p e (names Γ)
starts_absent p e q none_left = refl
starts_absent p e q (not_this n a) = rw (n, starts_absent p e q a) refl

-- a binder's variable starts at its port
starts_pick : (p : ℕ) (e : Env) (q : ℕ) {x : ℕ} {T : Ty} {Γ Δ : Ctx} → Pick x T Γ Δ → starts p (put e x q) (names Γ) ≡ hit p q + starts p e (names Δ)
starts_pick p e q {x} (here a) = rw (eq-eqb x x refl, starts_absent p e q a) refl
starts_pick p e q (there n m) = rw n (omega (arith, starts_pick p e q m))

-- how often p is the l2 of the Transfer nodes j, j + 1, ...
abbrev insides : ℕ → ℕ → List ℕ → ℕ
insides p j [] = 0
insides p j (x ∷ xs) = hit p (l2 j) + insides p (suc j) xs

crossings_ends : (p i : ℕ) (xs : List ℕ) (j : ℕ) (e : Env) → ends p (crossings xs j e) + insides p j xs ≡ starts p e xs + ports p j (transfers i xs)
crossings_ends p i [] j e = refl
crossings_ends p i (x ∷ xs) j e = omega (arith, crossings_ends p i xs (suc j) e)

-- a variable that does not pass starts where it did
pub entered_else : (y : ℕ) (xs : List ℕ) (j : ℕ) (e : Env) → Apart y xs → entered xs j e y ≡ e y
entered_else y [] j e h = refl
entered_else y (x ∷ xs) j e h = entered_else y xs (suc j) (put e x (l2 j)) h.1 ∙ rw (ne_eqb x y (λ q. eqb-false y x h.0 (sym q))) refl

-- each variable that passes starts inside
entered_starts : (p : ℕ) (xs : List ℕ) (j : ℕ) (e : Env) → Distinct xs → starts p (entered xs j e) xs ≡ insides p j xs
entered_starts p [] j e h = refl
entered_starts p (x ∷ xs) j e h =
    let z : entered xs (suc j) (put e x (l2 j)) x ≡ l2 j = entered_else x xs (suc j) (put e x (l2 j)) h.0 ∙ rw (eq-eqb x x refl) refl in
    rw (z, entered_starts p xs (suc j) (put e x (l2 j)) h.1) refl

-- the wires of an iterator's step or base, with those of its Transfer nodes
part : (p i j : ℕ) {Δ : Ctx} {u : Term} {B : Ty} (d : Typed Δ u B) → Once Δ → (s r : ℕ) (e : Env) →
    ends p (wires u s r (entered (free u) (s + nodes u) e)) ≡ hit p r + (ports p s (made u j) + starts p (entered (free u) (s + nodes u) e) (names Δ)) →
    ends p (crossings (free u) (s + nodes u) e ++ wires u s r (entered (free u) (s + nodes u) e)) ≡ hit p r + (ports p s (made u j ++ transfers i (free u)) + starts p e (names Δ))
part p i j {Δ} {u} d o s r e h =
    let z = names-free d in
    let a : starts p (entered (free u) (s + nodes u) e) (names Δ) ≡ insides p (s + nodes u) (free u) = rw z (entered_starts p (free u) (s + nodes u) e (rw z at o)) in
    let b : starts p e (names Δ) ≡ starts p e (free u) = rw z refl in
    omega (arith, h, a, b, crossings_ends p i (free u) (s + nodes u) e, ends_append p (crossings (free u) (s + nodes u) e) (wires u s r (entered (free u) (s + nodes u) e)), ports_append p s (s + nodes u) (made u j) (transfers i (free u)) (omega (arith, made-length u j)))

-- two parts, the second with the nodes after those of the first
both : (p k i j a b : ℕ) (t u : Term) (e f : Env) → ends p (wires t k a e ++ wires u (k + nodes t) b f) + (ports p k (made t i) + ports p (k + nodes t) (made u j)) ≡ ends p (wires t k a e) + ends p (wires u (k + nodes t) b f) + ports p k (made t i ++ made u j)
both p k i j a b t u e f = omega (arith, ends_append p (wires t k a e) (wires u (k + nodes t) b f), ports_append p k (k + nodes t) (made t i) (made u j) (omega (arith, made-length t i)))

-- each end is counted: the root's port, the ports that the nodes have, and where the free variables start
pub counted : (p : ℕ) {Γ : Ctx} {t : Term} {A : Ty} (d : Typed Γ t A) → Once Γ → (i k r : ℕ) (e : Env) → ends p (wires t k r e) ≡ hit p r + (ports p k (made t i) + starts p e (names Γ))
counted p ty_var o i k r e = omega arith
counted p ty_num o i k r e = omega arith
counted p (ty_succ d) o i k r e = omega (arith, counted p d o i (suc k) (l1 k) e)
counted p (ty_lam {x = x} d m) o i k r e = omega (arith, counted p d (once_pick m o) i (suc k) (l2 k) (put e x (l3 k)), starts_pick p e (l3 k) m)
counted p (ty_app {t = t} {u = u} {Γ = Γ} {Δ = Δ} d f) o i k r e =
    omega (arith, counted p d (once_left Γ Δ o) i (suc k) (l1 k) e, counted p f (once_right Γ Δ o) (i + iterators t) (suc k + nodes t) (l3 k) e, both p (suc k) i (i + iterators t) (l1 k) (l3 k) t u e e, starts_both p e Γ Δ)
counted p (ty_pair {t = t} {u = u} {Γ = Γ} {Δ = Δ} d f) o i k r e =
    omega (arith, counted p d (once_left Γ Δ o) i (suc k) (l2 k) e, counted p f (once_right Γ Δ o) (i + iterators t) (suc k + nodes t) (l3 k) e, both p (suc k) i (i + iterators t) (l2 k) (l3 k) t u e e, starts_both p e Γ Δ)
counted p (ty_split {x = x} {y = y} {t = t} {u = u} {Γ = Γ} {Δ₂ = Δ} d f m n) o i k r e =
    let e₁ = put e x (l2 k) in
    let e₂ = put e₁ y (l3 k) in
    omega (arith, counted p d (once_left Γ Δ o) i (suc k) (l1 k) e, counted p f (once_pick m (once_pick n (once_right Γ Δ o))) (i + iterators t) (suc k + nodes t) r e₂, both p (suc k) i (i + iterators t) (l1 k) r t u e e₂, starts_both p e Γ Δ, starts_pick p e₁ (l3 k) m, starts_pick p e (l2 k) n)
counted p (ty_iter {t = t} {u = u} {v = v} {Γ = Γ} {Δ = Δ} {Θ = Θ} d f g) o i k r e =
    let o' = once_right Γ (Δ ++ Θ) o in
    let c = suc k in
    let c' = suc c in
    let m = suc c' in
    let s = suc m + nodes t in
    let b = s + nodes u + length (free u) in
    let j = suc i + iterators t in
    let inner = entered (free u) (s + nodes u) e in
    let inner' = entered (free v) (b + nodes v) e in
    let count = wires t (suc m) (l1 k) e in
    let step = crossings (free u) (s + nodes u) e ++ wires u s (l1 m) inner in
    let base = crossings (free v) (b + nodes v) e ++ wires v b (l2 c') inner' in
    let us = made u j ++ transfers i (free u) in
    let vs = made v (j + iterators u) ++ transfers i (free v) in
    omega (arith, counted p d (once_left Γ (Δ ++ Θ) o) (suc i) (suc m) (l1 k) e, part p i j f (once_left Δ Θ o') s (l1 m) e (counted p f (once_left Δ Θ o') j s (l1 m) inner), part p i (j + iterators u) g (once_right Δ Θ o') b (l2 c') e (counted p g (once_right Δ Θ o') (j + iterators u) b (l2 c') inner'), ends_append p count (step ++ base), ends_append p step base, ports_append p (suc m) s (made t (suc i)) (us ++ vs) (omega (arith, made-length t (suc i))), ports_append p s b us vs (omega (arith, made-length u j, transfers-length i (free u), length-append (made u j) (transfers i (free u)))), starts_both p e Γ (Δ ++ Θ), starts_both p e Δ Θ)
