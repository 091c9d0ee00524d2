-- The labels along a derivation: they fit the kinds, and the ends of each wire are opposite.
use Rattle.std.proofs.Common.{◌≡◌, ℕ, suc, ◌+◌, ◌/◌, List, [], ◌∷◌, ◌++◌, length, get_or, sym, refl, ap, ◌∙◌, subst, arith, length-append}
use Rattle.std.proofs.lemmas.Bool.{eq-eqb}
use Rattle.cells.specs.declared.kinds.Kind.{Kind}
use Rattle.cells.specs.declared.kinds.Kind.TheVariants.{Transfer}
use Rattle.cells.specs.declared.kinds.Port.{Port}
use Rattle.cells.specs.declared.kinds.Port.TheVariants.{First, Second, Third}
use Rattle.cells.specs.Ports.{place_of}
use Rattle.calculus.specs.Types.{Ty, N, ◌⇒◌, ◌⊗◌}
use Rattle.calculus.specs.Terms.{Term, free, iterators, nodes}
use Rattle.calculus.specs.Typing.{Ctx, Absent, none_left, not_this, Pick, here, there, Typed, ty_var, ty_num, ty_succ, ty_lam, ty_app, ty_pair, ty_split, ty_iter}
use Rattle.geometry.specs.Labels.{Label, on, plus, minus, flip, Fits, at_number, at_successor, at_function, at_pair, at_iterator, at_left_counter, at_right_counter, at_transfer}
use Rattle.geometry.specs.Network.{Made, transfers, made, l1, l2, l3, Env, put, Wire, crossings, entered, wires}
use Rattle.geometry.specs.Derivations.{names, Three, idle, carried, labels, slot, label_at}
use Rattle.geometry.proofs.Names.{names-free, Once, once_left, once_right, once_pick}
use Rattle.geometry.proofs.Made.{made-length}
use Rattle.geometry.proofs.Ends.{entered_else}
use Rattle.geometry.proofs.Joins.{Joined, fore, back, later}
use Rattle.cells.proofs.Ports.{place_is}

-- R holds of each node's kind and labels
abbrev pub Pairwise : (Kind → Three → Type 0) → List Made → List Three → Type 0
Pairwise R [] [] = Unit {0}
Pairwise R [] (a ∷ ls) = ⊥
Pairwise R (m ∷ ms) [] = ⊥
Pairwise R (m ∷ ms) (a ∷ ls) = R m.0 a × Pairwise R ms ls

pub Pairwise-append : (R : Kind → Three → Type 0) (l m : List Made) (ks ls : List Three) → Pairwise R l ks → Pairwise R m ls → Pairwise R (l ++ m) (ks ++ ls)
Pairwise-append R [] m [] ls g h = h
Pairwise-append R [] m (a ∷ ks) ls g h = absurd g
Pairwise-append R (x ∷ l) m [] ls g h = absurd g
Pairwise-append R (x ∷ l) m (a ∷ ks) ls g h = (g.0, Pairwise-append R l m ks ls g.1 h)

-- P holds of each type of a context
abbrev pub EachType : (Ty → Type 0) → Ctx → Type 0
EachType P [] = Unit {0}
EachType P (g ∷ Γ) = P g.1 × EachType P Γ

-- R holds of the Transfer node of a variable of the type T
abbrev pub Passes : (Kind → Three → Type 0) → Ty → Type 0
Passes R T = R Transfer (on minus T, on plus T, idle)

Pairwise-carried : (R : Kind → Three → Type 0) (i : ℕ) (Δ : Ctx) → EachType (Passes R) Δ → Pairwise R (transfers i (names Δ)) (carried Δ)
Pairwise-carried R i [] h = tt
Pairwise-carried R i (g ∷ Δ) h = (h.0, Pairwise-carried R i Δ h.1)

-- a step or a base with its Transfer nodes
pub pairwise_part : (R : Kind → Three → Type 0) (i j : ℕ) {Δ : Ctx} {u : Term} {B : Ty} (d : Typed Δ u B) → EachType (Passes R) Δ → Pairwise R (made u j) (labels d) → Pairwise R (made u j ++ transfers i (free u)) (labels d ++ carried Δ)
pairwise_part R i j {Δ} {u} d g h =
    Pairwise-append R (made u j) (transfers i (free u)) (labels d) (carried Δ) h (subst (λ (xs : List ℕ). Pairwise R (transfers i xs) (carried Δ)) (names-free d) (Pairwise-carried R i Δ g))

-- each node's labels fit its kind
abbrev pub FitsAll : Kind → Three → Type 0
FitsAll κ a = Fits κ a.0 a.1 a.2

fits-passing : (Δ : Ctx) → EachType (Passes FitsAll) Δ
fits-passing [] = tt
fits-passing (g ∷ Δ) = (at_transfer, fits-passing Δ)

pub fitting : {Γ : Ctx} {t : Term} {A : Ty} (d : Typed Γ t A) (i : ℕ) → Pairwise FitsAll (made t i) (labels d)
fitting ty_var i = tt
fitting ty_num i = (at_number, tt)
fitting (ty_succ d) i = (at_successor, fitting d i)
fitting (ty_lam d p) i = (at_function refl, fitting d i)
fitting (ty_app {t = t} d e) i = (at_function refl, Pairwise-append FitsAll (made t i) _ (labels d) (labels e) (fitting d i) (fitting e (i + iterators t)))
fitting (ty_pair {t = t} d e) i = (at_pair refl refl, Pairwise-append FitsAll (made t i) _ (labels d) (labels e) (fitting d i) (fitting e (i + iterators t)))
fitting (ty_split {t = t} d e p q) i = (at_pair refl refl, Pairwise-append FitsAll (made t i) _ (labels d) (labels e) (fitting d i) (fitting e (i + iterators t)))
fitting (ty_iter {t = t} {u = u} {Δ = Δ} {Θ = Θ} d e f) i =
    let s = suc i + iterators t in
    (at_iterator, (at_left_counter, (at_right_counter, (at_function refl, Pairwise-append FitsAll (made t (suc i)) _ (labels d) _ (fitting d (suc i)) (Pairwise-append FitsAll _ _ (labels e ++ carried Δ) (labels f ++ carried Θ) (pairwise_part FitsAll i s e (fits-passing Δ) (fitting e s)) (pairwise_part FitsAll i (s + iterators u) f (fits-passing Θ) (fitting f (s + iterators u))))))))

pub pairwise_length : (R : Kind → Three → Type 0) (ms : List Made) (ls : List Three) → Pairwise R ms ls → length ms ≡ length ls
pairwise_length R [] [] h = refl
pairwise_length R [] (a ∷ ls) h = absurd h
pairwise_length R (m ∷ ms) [] h = absurd h
pairwise_length R (m ∷ ms) (a ∷ ls) h = ap suc (pairwise_length R ms ls h.1)

-- a labelling gives the ports of the nodes k, k + 1, ... these labels
abbrev pub At : (ℕ → Label) → ℕ → List Three → Type 0
At lab k [] = Unit {0}
At lab k (a ∷ ls) = (lab (l1 k) ≡ a.0) × (lab (l2 k) ≡ a.1) × (lab (l3 k) ≡ a.2) × At lab (suc k) ls

At-left : (lab : ℕ → Label) (k : ℕ) (l m : List Three) → At lab k (l ++ m) → At lab k l
At-left lab k [] m h = tt
At-left lab k (n ∷ l) m h = (h.0, h.1, h.2, At-left lab (suc k) l m h.3)

At-right : (lab : ℕ → Label) (k j : ℕ) (l m : List Three) → j ≡ k + length l → At lab k (l ++ m) → At lab j m
At-right lab k j [] m e h = rw e (let z : k + 0 ≡ k = omega arith in rw z h)
At-right lab k j (n ∷ l) m e h = At-right lab (suc k) j l m (omega arith) h.3

pub label_at_slot : (ls : List Three) (p k : ℕ) (π : Port) (a : Three) → p / 3 ≡ k → place_of p ≡ π → get_or ls k (idle, idle, idle) ≡ a → label_at ls p ≡ slot a π
unfolding label_at
label_at_slot ls p k π a e f g = rw (e, f, g) refl

label_at_at : (L : List Three) (k : ℕ) (ls : List Three) → ((j : ℕ) → get_or L (k + j) (idle, idle, idle) ≡ get_or ls j (idle, idle, idle)) → At (label_at L) k ls
label_at_at L k [] h = tt
label_at_at L k (a ∷ ls) h =
    let z : k + 0 ≡ k = omega arith in
    let g : get_or L k (idle, idle, idle) ≡ a = rw z at (h 0) in
    (label_at_slot L (l1 k) k First a (omega arith) (place_is (l1 k) First (omega arith)) g, label_at_slot L (l2 k) k Second a (omega arith) (place_is (l2 k) Second (omega arith)) g, label_at_slot L (l3 k) k Third a (omega arith) (place_is (l3 k) Third (omega arith)) g, label_at_at L (suc k) ls (λ j. let s : suc k + j ≡ k + suc j = omega arith in rw s (h (suc j))))

-- the labels of a list are those of its ports
pub label_at_all : (L : List Three) → At (label_at L) 0 L
label_at_all L = label_at_at L 0 L (λ j. let z : 0 + j ≡ j = omega arith in rw z refl)

labels_length : {Γ : Ctx} {t : Term} {A : Ty} (d : Typed Γ t A) → length (labels d) ≡ nodes t
labels_length d = sym (pairwise_length FitsAll (made _ 0) (labels d) (fitting d 0)) ∙ made-length _ 0

carried-length : {Δ : Ctx} {u : Term} {B : Ty} (d : Typed Δ u B) → length (carried Δ) ≡ length (free u)
carried-length {Δ} {u} d = go Δ ∙ ap length (names-free d)
  where
    go : (Γ : Ctx) → length (carried Γ) ≡ length (names Γ)
    go [] = refl
    go (g ∷ Γ) = ap suc (go Γ)

-- each wire joins a plus and a minus of one type
abbrev pub Facing : (ℕ → Label) → List Wire → Type 0
Facing lab [] = Unit {0}
Facing lab (w ∷ ws) = (lab w.1 ≡ flip (lab w.0)) × Facing lab ws

Facing-append : (lab : ℕ → Label) (v w : List Wire) → Facing lab v → Facing lab w → Facing lab (v ++ w)
Facing-append lab [] w g h = h
Facing-append lab (x ∷ v) w g h = (g.0, Facing-append lab v w g.1 h)

flip-flip : (a : Label) → flip (flip a) ≡ a
flip-flip (on plus A) = refl
flip-flip (on minus A) = refl

pub facing : (lab : ℕ → Label) {p q : ℕ} {ws : List Wire} → Joined p q ws → Facing lab ws → lab q ≡ flip (lab p)
facing lab (fore a b) h = rw (a, b) h.0
facing lab (back a b) h = rw (a, b, h.0) (sym (flip-flip _))
facing lab (later l) h = facing lab l h.1

-- a wire from a consumer to a producer, and from a producer to a consumer
down : (lab : ℕ → Label) (p q : ℕ) (A : Ty) → lab p ≡ on minus A → lab q ≡ on plus A → lab q ≡ flip (lab p)
down lab p q A g h = h ∙ sym (ap flip g)

up : (lab : ℕ → Label) (p q : ℕ) (A : Ty) → lab p ≡ on plus A → lab q ≡ on minus A → lab q ≡ flip (lab p)
up lab p q A g h = h ∙ sym (ap flip g)

-- each variable of the context starts at a port that produces its type
abbrev Gives : (ℕ → Label) → Env → Ctx → Type 0
Gives lab e [] = Unit {0}
Gives lab e (g ∷ Γ) = (lab (e g.0) ≡ on plus g.1) × Gives lab e Γ

Gives-absent : (lab : ℕ → Label) (e : Env) (p : ℕ) {x : ℕ} {Γ : Ctx} → Absent x Γ → Gives lab e Γ → Gives lab (put e x p) Γ
Gives-absent lab e p none_left h = tt
Gives-absent lab e p (not_this n a) h = (rw n h.0, Gives-absent lab e p a h.1)

Gives-put : (lab : ℕ → Label) (e : Env) (p : ℕ) {x : ℕ} {T : Ty} {Γ Δ : Ctx} → Pick x T Γ Δ → lab p ≡ on plus T → Gives lab e Δ → Gives lab (put e x p) Γ
Gives-put lab e p {x} (here a) g h = (rw (eq-eqb x x refl) g, Gives-absent lab e p a h)
Gives-put lab e p (there n q) g h = (rw n h.0, Gives-put lab e p q g h.1)

Gives-left : (lab : ℕ → Label) (e : Env) (Γ Δ : Ctx) → Gives lab e (Γ ++ Δ) → Gives lab e Γ
Gives-left lab e [] Δ h = tt
Gives-left lab e (g ∷ Γ) Δ h = (h.0, Gives-left lab e Γ Δ h.1)

Gives-right : (lab : ℕ → Label) (e : Env) (Γ Δ : Ctx) → Gives lab e (Γ ++ Δ) → Gives lab e Δ
Gives-right lab e [] Δ h = h
Gives-right lab e (g ∷ Γ) Δ h = Gives-right lab e Γ Δ h.1

-- outside, the Transfer nodes consume what the variables produce
crossings_face : (lab : ℕ → Label) (Δ : Ctx) (j : ℕ) (e : Env) → At lab j (carried Δ) → Gives lab e Δ → Facing lab (crossings (names Δ) j e)
crossings_face lab [] j e h g = tt
crossings_face lab (x ∷ Δ) j e h g = (up lab (e x.0) (l1 j) x.1 g.0 h.0, crossings_face lab Δ (suc j) e h.3 g.1)

-- inside, they produce it
entered_gives : (lab : ℕ → Label) (Δ : Ctx) (j : ℕ) (e : Env) → Once Δ → At lab j (carried Δ) → Gives lab (entered (names Δ) j e) Δ
entered_gives lab [] j e o h = tt
entered_gives lab (x ∷ Δ) j e o h =
    let z : entered (names Δ) (suc j) (put e x.0 (l2 j)) x.0 ≡ l2 j = entered_else x.0 (names Δ) (suc j) (put e x.0 (l2 j)) o.0 ∙ rw (eq-eqb x.0 x.0 refl) refl in
    (rw z h.1, entered_gives lab Δ (suc j) (put e x.0 (l2 j)) o.1 h.3)

facing_part : (lab : ℕ → Label) {Δ : Ctx} {u : Term} {B : Ty} (d : Typed Δ u B) → Once Δ → (s r : ℕ) (e : Env) → At lab (s + nodes u) (carried Δ) → Gives lab e Δ →
    (Gives lab (entered (free u) (s + nodes u) e) Δ → Facing lab (wires u s r (entered (free u) (s + nodes u) e))) →
    Facing lab (crossings (free u) (s + nodes u) e ++ wires u s r (entered (free u) (s + nodes u) e))
facing_part lab {Δ} {u} d o s r e h g k =
    let z = names-free d in
    let j = s + nodes u in
    Facing-append lab (crossings (free u) j e) _ (subst (λ (xs : List ℕ). Facing lab (crossings xs j e)) z (crossings_face lab Δ j e h g)) (k (subst (λ (xs : List ℕ). Gives lab (entered xs j e) Δ) z (entered_gives lab Δ j e o h)))

-- two parts, the second with the nodes after those of the first
facing_two : (lab : ℕ → Label) (k a b : ℕ) (e f : Env) {Γ Δ : Ctx} {t u : Term} {A B : Ty} (d : Typed Γ t A) (c : Typed Δ u B) → At lab k (labels d ++ labels c) →
    (At lab k (labels d) → Facing lab (wires t k a e)) → (At lab (k + nodes t) (labels c) → Facing lab (wires u (k + nodes t) b f)) → Facing lab (wires t k a e ++ wires u (k + nodes t) b f)
facing_two lab k a b e f {t = t} d c h g i =
    Facing-append lab (wires t k a e) _ (g (At-left lab k (labels d) (labels c) h)) (i (At-right lab k _ (labels d) (labels c) (omega (arith, labels_length d)) h))

pub faced : (lab : ℕ → Label) {Γ : Ctx} {t : Term} {A : Ty} (d : Typed Γ t A) → Once Γ → (k r : ℕ) (e : Env) → At lab k (labels d) → lab r ≡ on minus A → Gives lab e Γ → Facing lab (wires t k r e)
faced lab (ty_var {A = A}) o k r e h g f = (up lab _ r A f.0 g, tt)
faced lab ty_num o k r e h g f = (down lab r _ N g h.0, tt)
faced lab (ty_succ d) o k r e h g f = (down lab r _ N g h.1, faced lab d o _ _ e h.3 h.0 f)
faced lab (ty_lam {T = T} {U = U} d p) o k r e h g f = (down lab r _ (T ⇒ U) g h.0, faced lab d (once_pick p o) _ _ _ h.3 h.1 (Gives-put lab e _ p h.2 f))
faced lab (ty_app {T = T} {U = U} {Γ = Γ} {Δ = Δ} d c) o k r e h g f =
    (down lab r _ U g h.1, facing_two lab (suc k) (l1 k) (l3 k) e e d c h.3 (λ a. faced lab d (once_left Γ Δ o) _ _ e a h.0 (Gives-left lab e Γ Δ f)) (λ a. faced lab c (once_right Γ Δ o) _ _ e a h.2 (Gives-right lab e Γ Δ f)))
faced lab (ty_pair {T = T} {U = U} {Γ = Γ} {Δ = Δ} d c) o k r e h g f =
    (down lab r _ (T ⊗ U) g h.0, facing_two lab (suc k) (l2 k) (l3 k) e e d c h.3 (λ a. faced lab d (once_left Γ Δ o) _ _ e a h.1 (Gives-left lab e Γ Δ f)) (λ a. faced lab c (once_right Γ Δ o) _ _ e a h.2 (Gives-right lab e Γ Δ f)))
faced lab (ty_split {x = x} {y = y} {Γ = Γ} {Δ₂ = Δ} d c p q) o k r e h g f =
    let e₁ = put e x (l2 k) in
    facing_two lab (suc k) (l1 k) r e (put e₁ y (l3 k)) d c h.3 (λ a. faced lab d (once_left Γ Δ o) _ _ e a h.0 (Gives-left lab e Γ Δ f)) (λ a. faced lab c (once_pick p (once_pick q (once_right Γ Δ o))) _ r _ a g (Gives-put lab e₁ _ p h.2 (Gives-put lab e _ q h.1 (Gives-right lab e Γ Δ f))))
faced lab (ty_iter {A = A} {t = t} {u = u} {v = v} {Γ = Γ} {Δ = Δ} {Θ = Θ} d c b) o k r e h g f =
    let o' = once_right Γ (Δ ++ Θ) o in
    let f' = Gives-right lab e Γ (Δ ++ Θ) f in
    let own = h.3 in
    let left = own.3 in
    let right = left.3 in
    let rest = right.3 in
    let m = suc (suc (suc k)) in
    let s = suc m + nodes t in
    let z = s + nodes u + length (free u) in
    let us = labels c ++ carried Δ in
    let vs = labels b ++ carried Θ in
    let at-us-vs = At-right lab (suc m) s (labels d) (us ++ vs) (omega (arith, labels_length d)) rest in
    let at-us = At-left lab s us vs at-us-vs in
    let at_vs = At-right lab s z us vs (omega (arith, labels_length c, carried-length c, length-append (labels c) (carried Δ))) at-us-vs in
    let count = faced lab d (once_left Γ (Δ ++ Θ) o) (suc m) (l1 k) e (At-left lab (suc m) (labels d) (us ++ vs) rest) h.0 (Gives-left lab e Γ (Δ ++ Θ) f) in
    let step = facing_part lab c (once_left Δ Θ o') s (l1 m) e (At-right lab s (s + nodes u) (labels c) (carried Δ) (omega (arith, labels_length c)) at-us) (Gives-left lab e Δ Θ f') (faced lab c (once_left Δ Θ o') s (l1 m) _ (At-left lab s (labels c) (carried Δ) at-us) right.0) in
    let base = facing_part lab b (once_right Δ Θ o') z (l2 (suc (suc k))) e (At-right lab z (z + nodes v) (labels b) (carried Θ) (omega (arith, labels_length b)) at_vs) (Gives-right lab e Δ Θ f') (faced lab b (once_right Δ Θ o') z (l2 (suc (suc k))) _ (At-left lab z (labels b) (carried Θ) at_vs) left.1) in
    (down lab r _ A g h.1, (down lab _ _ A h.2 own.1, (down lab _ _ A own.0 left.0, (down lab _ _ A left.2 right.1, (up lab _ _ A own.2 right.2, Facing-append lab _ _ count (Facing-append lab _ _ step base))))))
