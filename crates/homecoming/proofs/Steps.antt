-- One step of the token, where its row is known and the memory suffices.
use Rattle.std.proofs.Common.{◌≡◌, ℕ, zero, suc, ◌/◌, ◌≤◌, true, List, [], ◌∷◌, length, get_or, replicate, Some, sym, refl, ap, ◌∙◌, subst, ap₂, subst₂, arith}
use Rattle.std.proofs.lemmas.Bool.Decides.{nat_tests}
use Rattle.cells.specs.declared.kinds.Kind.{Kind}
use Rattle.cells.specs.declared.kinds.Port.{Port}
use Rattle.cells.specs.Ports.{Node, node_at, port_at, place_of, link, linked}
use Rattle.stack.specs.Shelving.{shelf}
use Rattle.machine.specs.Steps.{to}
use Rattle.token.specs.declared.memory.Letter.{Letter}
use Rattle.token.specs.declared.memory.IterCell.{IterCell}
use Rattle.token.specs.declared.memory.DataCell.{DataCell}
use Rattle.token.specs.declared.memory.DataCell.TheVariants as dat
use Rattle.token.specs.Table.{Stacks}
use Rattle.token.specs.State.{Rooms, State}
use Rattle.token.specs.Next.{within, small, exit_to, next}
use Rattle.token.proofs.Tests.{and_true}
use Rattle.token.proofs.Steps.{steps, to_row}
use Rattle.homecoming.proofs.Nodes.{Acts, stacked}

-- the token at a port, with these stacks
abbrev pub stands : List Node → Rooms → (from to : ℕ) → Stacks → State
stands ns rs f p s = record { nodes = ns; from = f; to = p; stacks = s; rooms = rs }

no_shelf : (n k : ℕ) → length (get_or {A = List IterCell} (replicate n []) k []) ≡ 0
no_shelf zero k = refl
no_shelf (suc n) zero = refl
no_shelf (suc n) (suc k) = no_shelf n k

shelf_empty : (j : ℕ) → length (shelf {X = IterCell} j (replicate 64 [])) ≡ 0
shelf_empty zero = refl
shelf_empty (suc k) = no_shelf 64 k

-- the stacks fit the memory, and the numbers 32 bits
pub record Held (rs : Rooms) (s : Stacks) : Type 0 where
  pub room : (v : ℕ) → within rs v s ≡ true
  pub low : small s ≡ true

within_is : (rs : Rooms) (v : ℕ) (l : List Letter) (d : List DataCell) → length l ≤ rs.letters → length d ≤ rs.datas → within rs v (stacked l d) ≡ true
within_is rs v l d h g =
    let e = shelf_empty v in
    grind (arith, nat_tests)

pub held_question : (rs : Rooms) (l : List Letter) (d : List DataCell) → length l ≤ rs.letters → suc (length d) ≤ rs.datas → Held rs (stacked l (dat.Question ∷ d))
held_question rs l d h g = record { room = λ v. within_is rs v l (dat.Question ∷ d) h g; low = refl }

pub held_number : (rs : Rooms) (l : List Letter) (a : ℕ) (d : List DataCell) → length l ≤ rs.letters → suc (length d) ≤ rs.datas → a ≤ 4294967295 → Held rs (stacked l (dat.Number a ∷ d))
held_number rs l a d h g b = record { room = λ v. within_is rs v l (dat.Number a ∷ d) h g; low = grind (arith, nat_tests) }

-- from the port p, which is port q of node k, by port o of that node
pub step : (ns : List Node) (rs : Rooms) (f p k : ℕ) (q o : Port) (κ : Kind) (s t : Stacks) → p / 3 ≡ k → place_of p ≡ q → (k ≡ 0 → ⊥) → linked ns f p ≡ true → (node_at ns k).kind ≡ Some κ → Acts κ q (node_at ns k).value s o t → Held rs s → Held rs t → linked ns (port_at k o) (link ns (port_at k o)) ≡ true → next (stands ns rs f p s) ≡ to (stands ns rs (port_at k o) (link ns (port_at k o)) t)
step ns rs f p k q o κ s t node place away came is acts h g goes =
    let here : State = stands ns rs f p s in
    let v = (node_at ns (p / 3)).value in
    let a : Acts κ (place_of p) v s o t = subst₂ (λ j r. Acts κ r (node_at ns j).value s o t) (sym node) (sym place) acts in
    let e : exit_to here a.row ≡ port_at k o = ap₂ port_at node a.exit in
    steps here a.row
    (record {
      out = grind (arith, nat_tests);
      came = came;
      row = to_row here a.row (record { node = grind (arith, nat_tests); kind = κ; is = ap (λ j. (node_at ns j).kind) node ∙ is; found = a.found });
      room = and_true _ _ (h.room v) (subst (λ u. within rs v u ≡ true) (sym a.change) (g.room v));
      fit = and_true _ _ h.low (subst (λ u. small u ≡ true) (sym a.change) g.low);
      goes = subst (λ p. linked ns p (link ns p) ≡ true) (sym e) goes;
    })
    ∙ ap₂ (λ p u. to (stands ns rs p (link ns p) u)) e a.change
