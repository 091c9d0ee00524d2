-- What stands behind a step.
use Rattle.std.proofs.Common.{◌≡◌, ℕ, Bool, true, false, cond, not, ◌&&◌, eqb, Some, None, Option, refl, ap, ◌∙◌, arith}
use Rattle.cells.specs.declared.kinds.Kind.{Kind}
use Rattle.cells.specs.declared.kinds.Port.{Port}
use Rattle.cells.specs.Ports.{node_at, place_of, link, linked}
use Rattle.machine.specs.declared.reasons.Reason.{Reason}
use Rattle.machine.specs.declared.reasons.Reason.TheVariants.{Home, NoRow, Unlinked, Full, Overflow}
use Rattle.machine.specs.Steps.{Next, to, ends, then}
use Rattle.token.specs.Table.{Stacks, Row, table}
use Rattle.token.specs.State.{State}
use Rattle.token.specs.Next.{row_for, first_row, node_to, value_to, or_no_row, row_at, within, small, asked, after, exit_to, gone, leaves, next}
use Rattle.token.proofs.Tests.{none_some}

pub ends_to : {S A : Type 0} (w : Reason) (x : S) → ◌≡◌ {A = Next S} (ends w) (to x) → A
ends_to w x e = absurd (let z : ◌≡◌ {A = ℕ} 0 1 = cc in omega arith)

-- what a yes and a no come to
pub asked_to : {S : Type 0} (b : Bool) (w : Reason) (n : Next S) (x : S) → asked b w n ≡ to x → (b ≡ true) × (n ≡ to x)
asked_to true w n x e = (refl, e)
asked_to false w n x e = ends_to w x e

pub on_yes : {S : Type 0} (b : Bool) (w : Reason) (n : Next S) → b ≡ true → asked b w n ≡ n
on_yes b w n e = ap (λ t. asked t w n) e

-- all six answers are yes, by this row
pub record Stepping (s : State) (r : Row) : Type 0 where
  pub out : not (eqb s.to 0) ≡ true
  pub came : linked s.nodes s.from s.to ≡ true
  pub row : row_at s ≡ to r
  pub room : (within s.rooms (value_to s) s.stacks && within s.rooms (value_to s) (after s r)) ≡ true
  pub fit : (small s.stacks && small (after s r)) ≡ true
  pub goes : linked s.nodes (exit_to s r) (link s.nodes (exit_to s r)) ≡ true

then_to : {S T : Type 0} (n : Next S) (f : S → Next T) (y : T) → then n f ≡ to y → (x : S) × (n ≡ to x) × (f x ≡ to y)
then_to (to x) f y e = (x, refl, e)
then_to (ends w) f y e = ends_to w y e

pub stepping : (s t : State) → next s ≡ to t → (r : Row) × Stepping s r × (t ≡ gone s (exit_to s r) (after s r))
unfolding next
stepping s t h =
    let (a, h₁) = asked_to (not (eqb s.to 0)) Home _ t h in
    let (b, h₂) = asked_to (linked s.nodes s.from s.to) Unlinked _ t h₁ in
    let (r, c, h₃) = then_to (row_at s) (leaves s) t h₂ in
    let (d, h₄) = asked_to (within s.rooms (value_to s) s.stacks && within s.rooms (value_to s) (after s r)) Full _ t h₃ in
    let (e, h₅) = asked_to (small s.stacks && small (after s r)) Overflow _ t h₄ in
    let (f, h₆) = asked_to (linked s.nodes (exit_to s r) (link s.nodes (exit_to s r))) Unlinked _ t h₅ in
    let same : t ≡ gone s (exit_to s r) (after s r) = cc h₆ in
    (r, record { out = a; came = b; row = c; room = d; fit = e; goes = f }, same)

pub steps : (s : State) (r : Row) → Stepping s r → next s ≡ to (gone s (exit_to s r) (after s r))
unfolding next
steps s r h =
    on_yes _ Home _ h.out
    ∙ on_yes _ Unlinked _ h.came
    ∙ ap (λ n. then n (leaves s)) h.row
    ∙ on_yes _ Full _ h.room
    ∙ on_yes _ Overflow _ h.fit
    ∙ on_yes _ Unlinked _ h.goes

-- a row applies at a node other than node 0, which is of some kind
pub record AtRow (s : State) (r : Row) : Type 0 where
  pub node : eqb (node_to s) 0 ≡ false
  pub kind : Kind
  pub is : (node_at s.nodes (node_to s)).kind ≡ Some kind
  pub found : first_row kind (place_of s.to) (value_to s) s.stacks table ≡ Some r

row_some : (o : Option Row) (r : Row) → or_no_row o ≡ to r → o ≡ Some r
row_some None r e = ends_to NoRow r e
row_some (Some q) r e = let same : q ≡ r = cc in ap Some same

row_kind : (o : Option Kind) (p : Port) (v : ℕ) (s : Stacks) (r : Row) → row_for o p v s ≡ Some r → (k : Kind) × (o ≡ Some k) × (first_row k p v s table ≡ Some r)
unfolding row_for
row_kind None p v s r e = none_some r e
row_kind (Some k) p v s r e = (k, refl, e)

not_zero : (s : State) (b : Bool) (n : Next Row) (r : Row) → cond b (ends NoRow) n ≡ to r → (b ≡ false) × (n ≡ to r)
not_zero s true n r e = ends_to NoRow r e
not_zero s false n r e = (refl, e)

pub at_row : (s : State) (r : Row) → row_at s ≡ to r → AtRow s r
at_row s r h =
    let (a, b) = not_zero s (eqb (node_to s) 0) _ r h in
    let (k, c, d) = row_kind (node_at s.nodes (node_to s)).kind (place_of s.to) (value_to s) s.stacks r (row_some _ r b) in
    record { node = a; kind = k; is = c; found = d }

pub to_row : (s : State) (r : Row) → AtRow s r → row_at s ≡ to r
unfolding row_for
to_row s r h =
    ap (λ b. cond b (ends NoRow) (or_no_row (row_for (node_at s.nodes (node_to s)).kind (place_of s.to) (value_to s) s.stacks))) h.node
    ∙ ap (λ o. or_no_row (row_for o (place_of s.to) (value_to s) s.stacks)) h.is
    ∙ ap or_no_row h.found
