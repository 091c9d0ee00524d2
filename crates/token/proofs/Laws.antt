-- The two laws of the token.
use Rattle.std.proofs.Common.{◌≡◌, ℕ, Bool, true, false, not, ◌&&◌, eqb, sym, refl, ap, ◌∙◌, arith}
use Rattle.std.proofs.lemmas.Bool.Decides.{nat_tests}
use Rattle.cells.specs.declared.kinds.Port.{Port}
use Rattle.cells.specs.Ports.{node_at, port_at, place_of, link, linked, offset}
use Rattle.machine.specs.Steps.{to, Laws}
use Rattle.token.specs.Table.{Row, table, fits, changed}
use Rattle.token.specs.State.{State, turned}
use Rattle.token.specs.Next.{node_to, value_to, within, small, after, exit_to, gone, next, applies}
use Rattle.token.specs.Rows.{guard, undo, reverse, Member, Undone}
use Rattle.token.proofs.Tests.{both, and_true}
use Rattle.cells.proofs.Ports.{node_of, place_of_lem, same_place, port_of_lem, is_linked, to_link, other_end}
use Rattle.token.proofs.Rows.{Applies, applying, to_apply, find_row, row-found, reversed, twice, undone}
use Rattle.token.proofs.Steps.{Stepping, stepping, steps, AtRow, at_row, to_row}

and_swap : (a b : Bool) → (a && b) ≡ true → (b && a) ≡ true
and_swap a b h = let (p, q) = both a b h in and_true b a q p

out_of : (n : ℕ) (p : Port) → eqb n 0 ≡ false → not (eqb (port_at n p) 0) ≡ true
out_of n p h = let e = node_of n p in grind (arith, nat_tests)

-- the token after a step, turned: it stands where the step left its node
module _ (s : State) (r : Row) (h : Stepping s r) where
  abbrev met : State
  met = turned (gone s (exit_to s r) (after s r))

  at : AtRow s r
  at = at_row s r h.row

  in_table : Member r table × (applies at.kind (place_of s.to) (value_to s) s.stacks r ≡ true)
  in_table = row-found at.kind (place_of s.to) (value_to s) s.stacks r at.found

  fitting : Applies at.kind (place_of s.to) (value_to s) s.stacks r
  fitting = applying at.kind (place_of s.to) (value_to s) s.stacks r in_table.1

  node_same : node_to met ≡ node_to s
  node_same = node_of (node_to s) r.exit

  value_same : value_to met ≡ value_to s
  value_same = ap (λ n. (node_at s.nodes n).value) node_same

  undone_here : Undone r.change (value_to s) s.stacks
  undone_here =
      undone r.change (value_to s) s.stacks
      (ap (λ c. fits (guard c) (value_to s) s.stacks) (sym (ap (λ q. q.change) (twice r in_table.0)))
      ∙ ap (λ q. fits q.top (value_to s) s.stacks) (twice r in_table.0) ∙ fitting.top)

  stacks_back : after met (reverse r) ≡ s.stacks
  stacks_back = ap (λ v. changed (undo r.change) v (after s r)) value_same ∙ undone_here.back

  exit_back : exit_to met (reverse r) ≡ s.to
  exit_back =
      ap (λ n. port_at n r.port) node_same
      ∙ ap (port_at (node_to s)) (same_place r.port (place_of s.to) fitting.port)
      ∙ port_of_lem s.to

  came_back : link s.nodes s.to ≡ s.from
  came_back = (is_linked s.nodes s.from s.to h.came).back

  row_back : AtRow met (reverse r)
  row_back = record {
    node = ap (λ n. eqb n 0) node_same ∙ at.node;
    kind = at.kind;
    is = ap (λ n. (node_at s.nodes n).kind) node_same ∙ at.is;
    found =
        find_row at.kind (place_of met.to) (value_to met) (after s r) (reverse r) (reversed r in_table.0)
        (to_apply at.kind (place_of met.to) (value_to met) (after s r) (reverse r) (record {
          kind = fitting.kind;
          port = ap offset (sym (place_of_lem (node_to s) r.exit));
          top = ap (λ v. fits (guard (undo r.change)) v (after s r)) value_same ∙ undone_here.again;
        }));
  }

  pub stepping_back : Stepping met (reverse r)
  stepping_back = record {
    out = out_of (node_to s) r.exit at.node;
    came = to_link s.nodes _ _ (other_end s.nodes _ _ (is_linked s.nodes _ _ h.goes));
    row = to_row met (reverse r) row_back;
    room =
        ap (λ v. within s.rooms v (after s r) && within s.rooms v (after met (reverse r))) value_same
        ∙ ap (λ t. within s.rooms (value_to s) (after s r) && within s.rooms (value_to s) t) stacks_back
        ∙ and_swap (within s.rooms (value_to s) s.stacks) (within s.rooms (value_to s) (after s r)) h.room;
    fit = ap (λ t. small (after s r) && small t) stacks_back ∙ and_swap (small s.stacks) (small (after s r)) h.fit;
    goes =
        ap (λ e. linked s.nodes e (link s.nodes e)) exit_back
        ∙ ap (linked s.nodes s.to) came_back
        ∙ to_link s.nodes _ _ (other_end s.nodes _ _ (is_linked s.nodes _ _ h.came));
  }

  gone_back : gone met (exit_to met (reverse r)) (after met (reverse r)) ≡ turned s
  gone_back =
      ap (λ e. gone met e (after met (reverse r))) exit_back
      ∙ ap (gone met s.to) stacks_back
      ∙ ap (λ p. record { nodes = s.nodes; from = s.to; to = p; stacks = s.stacks; rooms = s.rooms }) came_back

  pub step_back : next met ≡ to (turned s)
  step_back = steps met (reverse r) stepping_back ∙ ap to gone_back

pub token_laws : Laws next turned
token_laws = record {
  twice = λ x. refl;
  back = λ x y e.
      let (r, h, same) = stepping x y e in
      ap (λ z. next (turned z)) same ∙ step_back x r h;
}
