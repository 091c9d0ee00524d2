-- Variables pass their Transfer nodes one after another.
use Rattle.std.proofs.Common.{◌≡◌, ℕ, suc, ◌+◌, ◌*◌, ◌<◌, Bool, true, false, cond, eqb, Some, Option, List, [], ◌∷◌, ◌++◌, length, set, sym, refl, ap, ◌∙◌, arith, length-set}
use Rattle.std.specs.Option.{unwrap_or}
use Rattle.std.proofs.lemmas.Bool.{eqb-true}
use Rattle.cells.specs.declared.kinds.Cell.{Cell}
use Rattle.cells.specs.Ports.{absent}
use Rattle.calculus.specs.Terms.{Term, var, num, succ, lam, app, pair, split, iter, free, without, nodes}
use Rattle.geometry.specs.Network.{l1, l2, put, EachVariable, crossings, entered}
use Rattle.geometry.specs.Memory.{link_cell, wired_cells}
use Rattle.geometry.specs.Derivations.{Apart}
use Rattle.geometry.proofs.Local.{each_map, Same, same-entered, same-crossings}
use Rattle.network.specs.declared.part.Part.{Part}
use Rattle.network.specs.Wiring.{Table, starting, in_force, Below, Numbered, Crossable, Crossed, Passable}
use Rattle.network.proofs.Gathered.{start_same, starts_other, in_force_all}
use Rattle.network.proofs.Uses.{distinct}

-- a write to the table starts one variable elsewhere
pub start_put : (s : Table) (x p : ℕ) → x < length s → (y : ℕ) → starting (set s x (Some p)) y ≡ put (starting s) x p y
start_put s x p l y = go (eqb x y) refl
  where
    go : (b : Bool) → eqb x y ≡ b → starting (set s x (Some p)) y ≡ put (starting s) x p y
    go true e = rw (e, ← (eqb-true x y e)) (ap (λ q. unwrap_or q absent) (start_same s x (Some p) l))
    go false e = rw e (starts_other s x y (Some p) e)

-- the others start where they did
apart_starts : (s : Table) (x : ℕ) (p : Option ℕ) (xs : List ℕ) → Apart x xs → EachVariable (Same (starting (set s x p)) (starting s)) xs
apart_starts s x p [] h = tt
apart_starts s x p (y ∷ ys) h = (starts_other s x y p h.0, apart_starts s x p ys h.1)

moved : (n : ℕ) (s : Table) (x : ℕ) (p : Option ℕ) (xs : List ℕ) → Apart x xs → EachVariable (λ y. starting s y < 3 * n) xs → EachVariable (λ y. starting (set s x p) y < 3 * n) xs
moved n s x p [] a h = tt
moved n s x p (y ∷ ys) a h = (rw (starts_other s x y p a.0) h.0, moved n s x p ys a.1 h.1)

module _ (x : ℕ) (xs : List ℕ) (j : ℕ) (s : Table) (size : ℕ) (h : Crossable (x ∷ xs) j s size) where
  pub placed : x < length s
  placed = h.placed.0

  pub crossable_rest : (j' size' : ℕ) (s' : Table) → j' ≡ suc j → size' ≡ size → s' ≡ set s x (Some (l2 j)) → Crossable xs j' s' size'
  crossable_rest j' size' s' e f g =
      rw (e, f, g) (record {
        n = h.n;
        numbered = h.numbered;
        room = omega (arith, h.room);
        placed = each_map (λ y. y < length s) (λ y. y < length (set s x (Some (l2 j)))) (λ y l. omega (arith, l, length-set s x (Some (l2 j)))) xs h.placed.1;
        started = moved h.n s x (Some (l2 j)) xs h.distinct.0 h.started.1;
        distinct = h.distinct.1;
      })

  pub wired_rest : (j' : ℕ) (s' : Table) (cs cs' : List Cell) → j' ≡ suc j → s' ≡ set s x (Some (l2 j)) → cs' ≡ link_cell (link_cell cs (starting s x) (l1 j)) (l1 j) (starting s x) → wired_cells (crossings xs j' (starting s')) cs' ≡ wired_cells (crossings (x ∷ xs) j (starting s)) cs
  wired_rest j' s' cs cs' e f g =
      rw (e, f, g) (ap (λ ws. wired_cells ws (link_cell (link_cell cs (starting s x) (l1 j)) (l1 j) (starting s x))) (same-crossings xs (suc j) (starting (set s x (Some (l2 j)))) (starting s) (apart_starts s x (Some (l2 j)) xs h.distinct.0)))

  pub entered_rest : (j' : ℕ) (s' : Table) → j' ≡ suc j → s' ≡ set s x (Some (l2 j)) → (y : ℕ) → entered xs j' (starting s') y ≡ entered (x ∷ xs) j (starting s) y
  entered_rest j' s' e f y =
      rw (e, f) (same-entered xs (suc j) (starting (set s x (Some (l2 j)))) (put (starting s) x (l2 j)) (y ∷ []) (start_put s x (l2 j) h.placed.0 y, tt)).0

-- a wire, between ports known by other names
pub joined_at : (cs cs' : List Cell) (p q p' q' : ℕ) → cs' ≡ link_cell (link_cell cs p q) q p → p ≡ p' → q ≡ q' → cs' ≡ link_cell (link_cell cs p' q') q' p'
joined_at cs cs' p q p' q' e f g = e ∙ (ap (λ r. link_cell (link_cell cs r q) q r) f ∙ ap (λ r. link_cell (link_cell cs p' r) r p') g)

each_append : (P : ℕ → Type 0) (xs ys : List ℕ) → EachVariable P xs → EachVariable P ys → EachVariable P (xs ++ ys)
each_append P [] ys g h = h
each_append P (x ∷ xs) ys g h = (g.0, each_append P xs ys g.1 h)

each_without : (P : ℕ → Type 0) (x : ℕ) (xs : List ℕ) → EachVariable P xs → EachVariable P (without x xs)
each_without P x [] h = tt
each_without P x (y ∷ ys) h = go (each_without P x ys h.1) (eqb x y)
  where
    go : EachVariable P (without x ys) → (b : Bool) → EachVariable P (cond b (without x ys) (y ∷ without x ys))
    go k true = k
    go k false = (h.0, k)

-- the table has a place for each free variable
placed-free : (n : ℕ) (t : Term) → Below n t → EachVariable (λ x. x < n) (free t)
placed-free n (var x) b = (b, tt)
placed-free n (num v) b = tt
placed-free n (succ t) b = placed-free n t b
placed-free n (lam x T t) b = each_without (λ y. y < n) x (free t) (placed-free n t b.1)
placed-free n (app t u) b = each_append (λ y. y < n) (free t) (free u) (placed-free n t b.0) (placed-free n u b.1)
placed-free n (pair t u) b = each_append (λ y. y < n) (free t) (free u) (placed-free n t b.0) (placed-free n u b.1)
placed-free n (split x y t u) b =
    each_append (λ y. y < n) (free t) (without x (without y (free u))) (placed-free n t b.2) (each_without (λ y. y < n) x (without y (free u)) (each_without (λ y. y < n) y (free u) (placed-free n u b.3)))
placed-free n (iter t u v) b =
    each_append (λ y. y < n) (free t) (free u ++ free v) (placed-free n t b.0) (each_append (λ y. y < n) (free u) (free v) (placed-free n u b.1) (placed-free n v b.2))

-- the uses gathered are the free ones
pub gathered : (n size : ℕ) (s : Table) (us vs : List ℕ) (t : Term) → Numbered n size → EachVariable (λ x. starting s x < 3 * n) (free t) → us ≡ [] → vs ≡ us ++ in_force s (free t) → vs ≡ free t
gathered n size s us vs t h g e f = f ∙ (ap (λ q. q ++ in_force s (free t)) e ∙ in_force_all n s (free t) h.ports g)

pub crossable : (parts : List Part) (i k first : ℕ) (s : Table) (size : ℕ) (t : Term) → Passable parts i k s size t → first ≡ k + nodes t → Crossable (free t) first s size
crossable parts i k first s size t h e =
    record {
      n = h.n;
      numbered = h.ready.numbered;
      room = omega (arith, h.room, e);
      placed = placed-free (length s) t h.ready.below;
      started = h.ready.started;
      distinct = distinct h.ready.linear;
    }

-- the same variables from the same table
pub crossed_by : {us us' : List ℕ} {j j' : ℕ} {s s' r : Table} {cs cs' : List Cell} → us ≡ us' → j ≡ j' → s ≡ s' → Crossed us j s r cs cs' → Crossed us' j' s' r cs cs'
crossed_by {us} {us'} {j} {j'} {s} {s'} {r} {cs} {cs'} e f g h = rw (sym e, sym f, sym g) h
