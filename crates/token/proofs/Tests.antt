-- Small facts about tests.
use Rattle.std.proofs.Common.{◌≡◌, ℕ, Bool, true, false, eqb, Some, None, Option, refl, arith}
pub use Rattle.std.proofs.lemmas.Bool.{eq-eqb as eqb_yes, ne_eqb as eqb_no, eqb-true as eqb-equal, eqb-false as eqb_apart, le-leb as leb_yes, lt-leb as leb_no, leb-true as leb-most, and_parts as both, and_from as and_true, not-true}

pub eqb_same : (a : ℕ) → eqb a a ≡ true
eqb_same a = eqb_yes a a refl

pub false_true : {A : Type 0} → false ≡ true → A
false_true e = absurd (let z : ◌≡◌ {A = ℕ} 0 1 = cc in omega arith)

pub none_some : {A B : Type 0} (x : B) → ◌≡◌ {A = Option B} None (Some x) → A
none_some x e = absurd (let z : ◌≡◌ {A = ℕ} 0 1 = cc in omega arith)

-- a test and what is known of each answer
pub whether : (b : Bool) {A : Type 0} → (b ≡ true → A) → (b ≡ false → A) → A
whether true f g = f refl
whether false f g = g refl
