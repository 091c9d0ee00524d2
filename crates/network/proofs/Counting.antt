-- Parts are counted right, one after another.
use Rattle.std.proofs.Common.{◌≡◌, ℕ, suc, ◌+◌, ◌≤◌, List, [], ◌∷◌, ◌++◌, length, get_or, refl, ap, ◌∙◌, subst, inl, inr, arith, length-append}
use Rattle.std.proofs.lemmas.List.{get_or_push, get_or_default}
use Rattle.std.proofs.lemmas.Bool.{cases_lt}
use Rattle.calculus.specs.Terms.{Term, free, without, subterms, nodes}
use Rattle.syntax.specs.declared.program.Shape.{Shape}
use Rattle.syntax.specs.declared.program.Subterm.{Subterm}
use Rattle.syntax.specs.declared.program.TypeCell.{TypeCell}
use Rattle.syntax.specs.Trees.{Tree, occ, num, succ, lam, app, pair, split, iter, erase}
use Rattle.syntax.specs.Program.{Is as IsSub, Denotes}
use Rattle.network.specs.declared.part.Part.{Part}
use Rattle.network.specs.declared.part.Count.{Count}
use Rattle.network.specs.Parts.{Linear, no_part, counted, Is, Holds}
use Rattle.network.specs.Plan.{both, with_nodes, count_of, Planned}
use Rattle.network.proofs.Uses.{linear_succ, linear_lam, linear_app, linear_pair, linear_split, linear_iter}
use Rattle.network.proofs.Sizes.{uses_few, nodes_few}
use Rattle.network.proofs.Opened.{held, holds_more}

same : (m n u v : ℕ) → m ≡ n → u ≡ v → ◌≡◌ {A = Count} (record { nodes = m; uses = u }) (record { nodes = n; uses = v })
same m n u v p q = cc

-- small counts are added exactly
small : (t : Term) → subterms t ≤ 2048 → (nodes t ≤ 4202496) × (length (free t) ≤ 2048)
small t h = (omega (arith, nodes_few t h), omega (arith, uses_few t))

two : (a b : Term) → subterms a + subterms b ≤ 2047 → with_nodes 1 (both (counted a) (counted b)) ≡ record { nodes = suc (nodes a + nodes b); uses = length (free a ++ free b) }
two a b h =
    let p = small a (omega arith) in
    let q = small b (omega arith) in
    same _ _ _ _ (omega (arith, p, q)) (omega (arith, p, q, length-append (free a) (free b)))

module _ (subs : List Subterm) (parts : List Part) (planned : Planned subs parts) (s d : Subterm) (reads : s ≡ get_or subs (length parts) d) where
  new : Part
  new = record { shape = s.shape; count = count_of parts s.shape }

  is_new : (p : ℕ) (shape : Shape) (t : Term) → IsSub subs (length parts) p shape → count_of parts shape ≡ counted t → Is (parts ++ (new ∷ [])) (length parts) shape t
  unfolding new
  is_new p shape t h e =
      let z : s.shape ≡ shape = ap (λ (x : Subterm). x.shape) (reads ∙ (get_or_default subs (length parts) d _ h.there ∙ h.is)) in
      let w : count_of parts s.shape ≡ counted t = rw z e in
      record { there = omega (arith, length-append parts (new ∷ [])); is = get_or_push parts new no_part (length parts) refl ∙ cc (z, w) }

  at_new : (types : List TypeCell) (t : Tree ℕ) → Denotes subs types (length parts) t → Linear (erase t) → subterms (erase t) ≤ 2048 → Holds (parts ++ (new ∷ [])) (length parts) (erase t)
  at_new types (occ p x) h o l = is_new p _ _ h refl
  at_new types (num p n) h o l = is_new p _ _ h refl
  at_new types (succ p t) (j, h, m, d) o l =
      let a = planned types j t m d (linear_succ o) (omega arith) in
      let e = held parts j (erase t) a in
      let q = small (erase t) (omega arith) in
      (j, is_new p _ _ h (rw e (same _ _ _ _ (omega (arith, q)) refl)), m, holds_more (erase t) parts _ j a)
  at_new types (lam p x T t) (n, j, h, m, y, d) o l =
      let k = linear_lam o in
      let a = planned types j t m d k.0 (omega arith) in
      let e = held parts j (erase t) a in
      let q = small (erase t) (omega arith) in
      (n, j, is_new p _ _ h (rw e (same _ _ _ _ (omega (arith, q)) (omega (arith, k.1)))), m, holds_more (erase t) parts _ j a)
  at_new types (app p t u) (j, k, h, m, n, d, f) o l =
      let r = linear_app o in
      let a = planned types j t m d r.0 (omega arith) in
      let b = planned types k u n f r.1 (omega arith) in
      (j, k, is_new p _ _ h (rw (held parts j (erase t) a, held parts k (erase u) b) (two (erase t) (erase u) (omega arith))), m, n, holds_more (erase t) parts _ j a, holds_more (erase u) parts _ k b)
  at_new types (pair p t u) (j, k, h, m, n, d, f) o l =
      let r = linear_pair o in
      let a = planned types j t m d r.0 (omega arith) in
      let b = planned types k u n f r.1 (omega arith) in
      (j, k, is_new p _ _ h (rw (held parts j (erase t) a, held parts k (erase u) b) (two (erase t) (erase u) (omega arith))), m, n, holds_more (erase t) parts _ j a, holds_more (erase u) parts _ k b)
  at_new types (split p x y t u) (j, k, h, m, n, d, f) o l =
      let r = linear_split o in
      let a = planned types j t m d r.0 (omega arith) in
      let b = planned types k u n f r.1 (omega arith) in
      let q = small (erase t) (omega arith) in
      let v = small (erase u) (omega arith) in
      let z = length-append (free (erase t)) (without x.place (without y.place (free (erase u)))) in
      (j, k, is_new p _ _ h (rw (held parts j (erase t) a, held parts k (erase u) b) (same _ _ _ _ (omega (arith, q, v)) (omega (arith, q, v, z, r.2)))), m, n, holds_more (erase t) parts _ j a, holds_more (erase u) parts _ k b)
  at_new types (iter p t u v) (j, k, i, h, m, n, w, d, f, g) o l =
      let r = linear_iter o in
      let a = planned types j t m d r.0 (omega arith) in
      let b = planned types k u n f r.1 (omega arith) in
      let c = planned types i v w g r.2 (omega arith) in
      let q₁ = small (erase t) (omega arith) in
      let q₂ = small (erase u) (omega arith) in
      let q₃ = small (erase v) (omega arith) in
      let z = length-append (free (erase t)) (free (erase u) ++ free (erase v)) in
      let y = length-append (free (erase u)) (free (erase v)) in
      (j, k, i, is_new p _ _ h (rw (held parts j (erase t) a, held parts k (erase u) b, held parts i (erase v) c) (same _ _ _ _ (omega (arith, q₁, q₂, q₃)) (omega (arith, q₁, q₂, q₃, z, y)))), m, n, w, holds_more (erase t) parts _ j a, holds_more (erase u) parts _ k b, holds_more (erase v) parts _ i c)

  pub planned_more : Planned subs (parts ++ (record { shape = s.shape; count = count_of parts s.shape } ∷ []))
  unfolding new
  planned_more types i t l h o z =
      elim (cases_lt i (length parts)) [
        | inl m ↦ holds_more (erase t) parts _ i (planned types i t m h o z)
        | inr m ↦ (
            let e : length parts ≡ i = omega (arith, l, length-append parts (new ∷ [])) in
            let P : ℕ → Type 0 = λ k. Denotes subs types k t → Holds (parts ++ (new ∷ [])) k (erase t) in
            subst P e (λ d. at_new types t d o z) h)
      ]
