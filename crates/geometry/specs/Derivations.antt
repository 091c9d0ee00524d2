-- What a typing derivation says of its term's network: the variables of its contexts, and a sign and a type for each port. Assumes nothing.
use Rattle.std.specs.Prelude.{◌≡◌, ℕ, ◌/◌, ◌≤◌, false, List, [], ◌∷◌, ◌++◌, ◌==◌, slice_index_or}
use Rattle.cells.specs.declared.kinds.Port.{Port}
use Rattle.cells.specs.declared.kinds.Port.TheVariants.{First, Second, Third}
use Rattle.cells.specs.Ports.{place_of}
use Rattle.calculus.specs.Types.{Ty, N, ◌⇒◌, ◌⊗◌}
use Rattle.calculus.specs.Terms.{Term, var, num, succ, lam, app, pair, split, iter}
use Rattle.calculus.specs.Typing.{Ctx, Typed, ty_var, ty_num, ty_succ, ty_lam, ty_app, ty_pair, ty_split, ty_iter}
use Rattle.geometry.specs.Labels.{Label, on, plus, minus}

-- the variables of a context
abbrev pub names : Ctx → List ℕ
names [] = []
names (g ∷ Γ) = g.0 ∷ names Γ

-- x is none of these
abbrev pub Apart : ℕ → List ℕ → Type 0
Apart x [] = Unit {0}
Apart x (y ∷ ys) = ((x == y) ≡ false) × Apart x ys

-- no variable twice
abbrev pub Distinct : List ℕ → Type 0
Distinct [] = Unit {0}
Distinct (x ∷ xs) = Apart x xs × Distinct xs

-- P holds of the context of the derivation, and of those of all its parts
abbrev pub Everywhere : (P : Ctx → Type 0) {Γ : Ctx} {t : Term} {A : Ty} → Typed Γ t A → Type 0
Everywhere P (ty_var {x = x} {A = A}) = P ((x, A) ∷ [])
Everywhere P ty_num = P []
Everywhere P (ty_succ {Γ = Γ} d) = P Γ × Everywhere P d
Everywhere P (ty_lam {Δ = Δ} d p) = P Δ × Everywhere P d
Everywhere P (ty_app {Γ = Γ} {Δ = Δ} d e) = P (Γ ++ Δ) × Everywhere P d × Everywhere P e
Everywhere P (ty_pair {Γ = Γ} {Δ = Δ} d e) = P (Γ ++ Δ) × Everywhere P d × Everywhere P e
Everywhere P (ty_split {Γ = Γ} {Δ₂ = Δ} d e p q) = P (Γ ++ Δ) × Everywhere P d × Everywhere P e
Everywhere P (ty_iter {Γ = Γ} {Δ = Δ} {Θ = Θ} d e f) = P (Γ ++ (Δ ++ Θ)) × Everywhere P d × Everywhere P e × Everywhere P f

-- the numbers of a term, from left to right
abbrev pub numbers : Term → List ℕ
numbers (var x) = []
numbers (num n) = n ∷ []
numbers (succ t) = numbers t
numbers (lam x T t) = numbers t
numbers (app t u) = numbers t ++ numbers u
numbers (pair t u) = numbers t ++ numbers u
numbers (split x y t u) = numbers t ++ numbers u
numbers (iter t u v) = numbers t ++ (numbers u ++ numbers v)

-- P holds of each number of a term
abbrev pub EachNumber : (ℕ → Type 0) → Term → Type 0
EachNumber P (var x) = Unit {0}
EachNumber P (num n) = P n
EachNumber P (succ t) = EachNumber P t
EachNumber P (lam x T t) = EachNumber P t
EachNumber P (app t u) = EachNumber P t × EachNumber P u
EachNumber P (pair t u) = EachNumber P t × EachNumber P u
EachNumber P (split x y t u) = EachNumber P t × EachNumber P u
EachNumber P (iter t u v) = EachNumber P t × EachNumber P u × EachNumber P v

-- the numbers of a term are at most b
abbrev pub NumbersWithin : ℕ → Term → Type 0
NumbersWithin b t = EachNumber (λ n. n ≤ b) t

-- the labels of a node's l1, l2 and l3
abbrev pub Three : Type 0
Three = Label × Label × Label

-- stands on a port that its node's kind does not have
abbrev pub idle : Label
idle = on plus N

-- the Transfer nodes of a context's variables: each consumes outside what it produces inside
abbrev pub carried : Ctx → List Three
carried [] = []
carried (g ∷ Γ) = (on minus g.1, on plus g.1, idle) ∷ carried Γ

-- the labels of a term's nodes, in the order of the nodes' numbers
abbrev pub labels : {Γ : Ctx} {t : Term} {A : Ty} → Typed Γ t A → List Three
labels ty_var = []
labels ty_num = (on plus N, idle, idle) ∷ []
labels (ty_succ d) = (on minus N, on plus N, idle) ∷ labels d
labels (ty_lam {T = T} {U = U} d p) = (on plus (T ⇒ U), on minus U, on plus T) ∷ labels d
labels (ty_app {T = T} {U = U} d e) = (on minus (T ⇒ U), on plus U, on minus T) ∷ (labels d ++ labels e)
labels (ty_pair {T = T} {U = U} d e) = (on plus (T ⊗ U), on minus T, on minus U) ∷ (labels d ++ labels e)
labels (ty_split {T = T} {U = U} d e p q) = (on minus (T ⊗ U), on plus T, on plus U) ∷ (labels d ++ labels e)
labels (ty_iter {A = A} {Δ = Δ} {Θ = Θ} d e f) =
    let step = labels e ++ carried Δ in
    let base = labels f ++ carried Θ in
    (on minus N, on plus A, on minus A) ∷ ((on minus A, on plus A, on plus A) ∷ ((on plus A, on minus A, on minus A) ∷ ((on minus (A ⇒ A), on plus A, on minus A) ∷ (labels d ++ (step ++ base)))))

-- the label at a port of a node
abbrev pub slot : Three → Port → Label
slot a First = a.0
slot a Second = a.1
slot a Third = a.2

unfoldable pub label_at : List Three → ℕ → Label
label_at ls p = slot (slice_index_or ls (p / 3) (idle, idle, idle)) (place_of p)

-- the root consumes the number
abbrev pub all_labels : {t : Term} → Typed [] t N → List Three
all_labels d = (on minus N, idle, idle) ∷ labels d

-- the sign and the type that the derivation gives to each port of the network
abbrev pub label : {t : Term} → Typed [] t N → ℕ → Label
label d = label_at (all_labels d)
