-- Lists that a function tabulates.
use Rattle.std.proofs.Common.{◌≡◌, ℕ, zero, suc, ◌<◌, length, get_or, set, replicate, refl, ap, arith}
use Rattle.stack.specs.Shelving.{tabulate}

pub tabulate-length : {A : Type 0} (n : ℕ) (f : ℕ → A) → length (tabulate n f) ≡ n
unfolding tabulate
tabulate-length zero f = refl
tabulate-length (suc n) f = ap suc (tabulate-length n (λ k. f (suc k)))

pub tabulate_at : {A : Type 0} (n : ℕ) (f : ℕ → A) (k : ℕ) (d : A) → k < n → get_or (tabulate n f) k d ≡ f k
unfolding tabulate
tabulate_at zero f k d h = let z : ⊥ = omega arith in elim z [ ]
tabulate_at (suc n) f zero d h = refl
tabulate_at (suc n) f (suc k) d h = tabulate_at n (λ i. f (suc i)) k d (omega arith)

tabulate-same : {A : Type 0} (n : ℕ) (f g : ℕ → A) → ((i : ℕ) → i < n → g i ≡ f i) → tabulate n g ≡ tabulate n f
unfolding tabulate
tabulate-same zero f g h = refl
tabulate-same (suc n) f g h =
    let a : g 0 ≡ f 0 = h 0 (omega arith) in
    let b : tabulate n (λ i. g (suc i)) ≡ tabulate n (λ i. f (suc i)) = tabulate-same n (λ i. f (suc i)) (λ i. g (suc i)) (λ i l. h (suc i) (omega arith)) in
    cc

-- two functions that differ at one place at most
pub tabulate-set : {A : Type 0} (n : ℕ) (f g : ℕ → A) (k : ℕ) → k < n → ((i : ℕ) → i < n → (i ≡ k → ⊥) → g i ≡ f i) → tabulate n g ≡ set (tabulate n f) k (g k)
unfolding tabulate
tabulate-set zero f g k l h = let z : ⊥ = omega arith in elim z [ ]
tabulate-set (suc n) f g zero l h =
    let b : tabulate n (λ i. g (suc i)) ≡ tabulate n (λ i. f (suc i)) = tabulate-same n (λ i. f (suc i)) (λ i. g (suc i)) (λ i m. h (suc i) (omega arith) (λ e. omega arith)) in
    cc
tabulate-set (suc n) f g (suc k) l h =
    let a : g 0 ≡ f 0 = h 0 (omega arith) (λ e. omega arith) in
    let b : tabulate n (λ i. g (suc i)) ≡ set (tabulate n (λ i. f (suc i))) k (g (suc k)) =
    tabulate-set n (λ i. f (suc i)) (λ i. g (suc i)) k (omega arith) (λ i m ne. h (suc i) (omega arith) (λ e. ne (omega arith))) in
    cc

pub tabulate_constant : {A : Type 0} (n : ℕ) (f : ℕ → A) (a : A) → ((i : ℕ) → i < n → f i ≡ a) → tabulate n f ≡ replicate n a
unfolding tabulate
tabulate_constant zero f a h = refl
tabulate_constant (suc n) f a h =
    let b : f 0 ≡ a = h 0 (omega arith) in
    let d : tabulate n (λ i. f (suc i)) ≡ replicate n a = tabulate_constant n (λ i. f (suc i)) a (λ i l. h (suc i) (omega arith)) in
    cc
