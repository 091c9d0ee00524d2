-- The height that is kept beside a cell, and the limit on it.
use Rattle.std.proofs.Common.{◌≡◌, ℕ, ◌-◌, ◌^◌, ◌<◌, ◌≤◌, min, true, false, cond, leb, List, Ok, Err, sym, refl, subst, arith}
use Rattle.std.proofs.lemmas.Bool.Decides.{nat_tests}
use Rattle.calculus.specs.Types.{Ty, ◌⇒◌, ◌⊗◌, height}
use Rattle.syntax.specs.declared.program.TypeCell.{TypeCell}
use Rattle.syntax.specs.declared.refusal.Fault.TheVariants.{HighType}
use Rattle.syntax.specs.Program.{DenotesType}
use Rattle.language.specs.Infer.{good, bad, within}
use Rattle.language.specs.Measures.{measure_of}
use Rattle.language.specs.Checks.{Agrees}

-- the height that is kept beside a cell
pub kept_height : (A : Ty) → (measure_of A).height ≡ min (height A) (2 ^ 64 - 1)
kept_height Ty.N = refl
kept_height (A ⇒ B) = omega (arith, kept_height A, kept_height B)
kept_height (A ⊗ B) = omega (arith, kept_height A, kept_height B)

pub low_enough : (A : Ty) (cells : List TypeCell) (c p h : ℕ) → h ≡ (measure_of A).height → h ≤ 64 → DenotesType cells c A → Agrees cells (Ok c) (within p A)
low_enough A cells c p h e le d =
    let low : height A ≤ 64 = omega (arith, kept_height A) in
    let t : leb (height A) 64 ≡ true = grind (arith, nat_tests) in
    subst (λ b. Agrees cells (Ok c) (cond b (good A) (bad HighType p))) (sym t) d

pub too_high : (A : Ty) (cells : List TypeCell) (p h : ℕ) → h ≡ (measure_of A).height → 64 < h → Agrees cells (Err (record { fault = HighType; place = p })) (within p A)
too_high A cells p h e lt =
    let high : 64 < height A = omega (arith, kept_height A) in
    let t : leb (height A) 64 ≡ false = grind (arith, nat_tests) in
    subst (λ b. Agrees cells (Err (record { fault = HighType; place = p })) (cond b (good A) (bad HighType p))) (sym t) (refl, refl)
