-- The wire at a port: found by the count of its ends.
use Rattle.std.proofs.Common.{◌≡◌, ℕ, ◌≤◌, ◌⊎◌, List, [], ◌∷◌, refl, inl, inr, arith}
use Rattle.geometry.specs.Network.{Wire}
use Rattle.geometry.proofs.Ends.{hit, hit_tells, ends}

-- one of the wires has the ends p and q
pub data Joined (p q : ℕ) : List Wire → Type 0 where
  fore : {w : Wire} {ws : List Wire} → p ≡ w.0 → q ≡ w.1 → Joined p q (w ∷ ws)
  back : {w : Wire} {ws : List Wire} → p ≡ w.1 → q ≡ w.0 → Joined p q (w ∷ ws)
  later : {w : Wire} {ws : List Wire} → Joined p q ws → Joined p q (w ∷ ws)

pub turned : {p q : ℕ} {ws : List Wire} → Joined p q ws → Joined q p ws
turned (fore a b) = back b a
turned (back a b) = fore b a
turned (later l) = later (turned l)

pub ended : {p q : ℕ} {ws : List Wire} → Joined p q ws → 1 ≤ ends p ws
ended {p} (fore {w = w} a b) = omega (arith, hit_tells p w.0, a)
ended {p} (back {w = w} a b) = omega (arith, hit_tells p w.1, a)
ended (later l) = omega (arith, ended l)

-- a wire from a port to itself ends there twice
pub ended_twice : {p q : ℕ} {ws : List Wire} → Joined p q ws → p ≡ q → 2 ≤ ends p ws
ended_twice {p} (fore {w = w} a b) e = omega (arith, hit_tells p w.0, hit_tells p w.1, a, b, e)
ended_twice {p} (back {w = w} a b) e = omega (arith, hit_tells p w.0, hit_tells p w.1, a, b, e)
ended_twice (later l) e = omega (arith, ended_twice l e)

-- a port that is an end has a wire
pub joined : (p : ℕ) (ws : List Wire) → 1 ≤ ends p ws → (q : ℕ) × Joined p q ws
joined p [] h = absurd (omega arith)
joined p (w ∷ ws) h = go (joined p ws) (hit_tells p w.0) (hit_tells p w.1)
  where
    go : (1 ≤ ends p ws → (q : ℕ) × Joined p q ws) → ((p ≡ w.0) × (hit p w.0 ≡ 1)) ⊎ ((p ≡ w.0 → ⊥) × (hit p w.0 ≡ 0)) → ((p ≡ w.1) × (hit p w.1 ≡ 1)) ⊎ ((p ≡ w.1 → ⊥) × (hit p w.1 ≡ 0)) → (q : ℕ) × Joined p q (w ∷ ws)
    go f (inl a) b = (w.1, fore a.0 refl)
    go f (inr a) (inl b) = (w.0, back b.0 refl)
    go f (inr a) (inr b) = let r = f (omega arith) in (r.0, later r.1)
