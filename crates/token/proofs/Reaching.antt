-- Over sound nodes a token that was opened never finds its ports unlinked.
use Rattle.std.proofs.Common.{◌≡◌, ℕ, ◌/◌, ◌%◌, ◌<◌, Bool, true, false, cond, not, ◌&&◌, eqb, List, length, Some, None, Option, sym, refl, ap, ◌∙◌, subst, arith}
use Rattle.cells.specs.Ports.{Node, node_at, arity, offset, place_of, inside, link, linked}
use Rattle.cells.specs.Sound.{Sound, Has, Below}
use Rattle.machine.specs.declared.reasons.Reason.{Reason}
use Rattle.machine.specs.declared.reasons.Reason.TheVariants.{Home, NoRow, Unlinked, Full, Overflow}
use Rattle.machine.specs.Steps.{Next, to, ends, then}
use Rattle.token.specs.Table.{Row}
use Rattle.token.specs.State.{Rooms, State, opened, entrance}
use Rattle.token.specs.Next.{next, asked, row_at, or_no_row, row_for, leaves, node_to, value_to, within, small, after, exit_to, gone}
use Rattle.token.specs.Reach.{Reached, opening, step, turn, Numbered, NeverUnlinked}
use Rattle.cells.proofs.Ports.{same_kind, node_of, rest_of, Linked, is_linked, to_link, other_end}
use Rattle.cells.proofs.Inside.{inside_low, inside_is, port_bound, root_has, linked-end, linked_out}
use Rattle.token.proofs.Rows.{applying, row-found, leaves as exits}
use Rattle.token.proofs.Steps.{stepping, AtRow, at_row}

pub record Joined (ns : List Node) (s : State) : Type 0 where
  pub nodes : s.nodes ≡ ns
  pub joined : Linked ns s.from s.to

opened-joined : (ns : List Node) (rs : Rooms) (s : State) → Sound ns → s.nodes ≡ ns → s.from ≡ 0 → s.to ≡ entrance ns → Joined ns s
opened-joined ns rs s sound en ef et =
    let l = linked-end ns 0 sound (root_has ns sound) in
    let door : s.to ≡ link ns 0 = et ∙ ap (λ t. cond t (link ns 0) 0) l.there in
    record { nodes = en; joined = subst (λ p. Linked ns p s.to) (sym ef) (subst (Linked ns 0) (sym door) l) }

pub reached_joined : (ns : List Node) (rs : Rooms) (s : State) → Sound ns → Reached ns rs s → Joined ns s
reached_joined ns rs s sound (opening d) = opened-joined ns rs (opened ns rs d) sound refl refl refl
reached_joined ns rs s sound (step u t h e) =
    let j = reached_joined ns rs u sound h in
    let (r, g, same) = stepping u t e in
    let l = is_linked u.nodes (exit_to u r) (link u.nodes (exit_to u r)) g.goes in
    let there : Joined ns (gone u (exit_to u r) (after u r)) = record { nodes = j.nodes; joined = subst (λ m. Linked m (exit_to u r) (link u.nodes (exit_to u r))) j.nodes l } in
    subst (Joined ns) (sym same) there
reached_joined ns rs s sound (turn u h) =
    let j = reached_joined ns rs u sound h in
    record { nodes = j.nodes; joined = other_end ns _ _ j.joined }

-- the port by which a row leaves is one that the node's kind has
pub has_exit : (s : State) (r : Row) → Numbered s.nodes → inside s.nodes s.to ≡ true → AtRow s r → Has s.nodes (exit_to s r)
has_exit s r few lies at =
    let k = node_to s in
    let low : k < length s.nodes = inside_low s.nodes s.to lies in
    let (m, a) = row-found at.kind (place_of s.to) (value_to s) s.stacks r at.found in
    let fit = applying at.kind (place_of s.to) (value_to s) s.stacks r a in
    let node = node_of k r.exit in
    let few_ports : offset r.exit < arity at.kind = subst (λ n. offset r.exit < n) (ap arity (same_kind r.kind at.kind fit.kind)) (exits r m) in
    let is : (node_at s.nodes (exit_to s r / 3)).kind ≡ Some at.kind = ap (λ n. (node_at s.nodes n).kind) node ∙ at.is in
    record {
      lies = inside_is s.nodes (exit_to s r) (port_bound k r.exit (omega arith)) (subst (λ n. n < length s.nodes) (sym node) low);
      owned = subst (Below (exit_to s r % 3)) (sym is) (subst (λ n. n < arity at.kind) (sym (rest_of k r.exit)) few_ports);
    }

-- a question whose no has another reason was answered yes
skip : {S : Type 0} (b : Bool) (w e : Reason) (n : Next S) → (w ≡ e → ⊥) → asked b w n ≡ ends e → n ≡ ends e
skip true w e n ne h = h
skip false w e n ne h = absurd (ne (cc))

no_row : (b : Bool) (o : Option Row) → cond b (ends NoRow) (or_no_row o) ≡ ends Unlinked → ⊥
no_row true o h = let z : ◌≡◌ {A = ℕ} 0 1 = cc in omega arith
no_row false None h = let z : ◌≡◌ {A = ℕ} 0 1 = cc in omega arith
no_row false (Some r) h = let z : ◌≡◌ {A = ℕ} 0 1 = cc in omega arith

-- where its ports are linked, a token over sound nodes leaves by a linked port
leaves-linked : (s : State) (r : Row) → Numbered s.nodes → Sound s.nodes → inside s.nodes s.to ≡ true → row_at s ≡ to r → leaves s r ≡ ends Unlinked → ⊥
leaves-linked s r few sound lies row h =
    let h₁ = skip (within s.rooms (value_to s) s.stacks && within s.rooms (value_to s) (after s r)) Full Unlinked _ (λ e. let z : ◌≡◌ {A = ℕ} 0 1 = cc in omega arith) h in
    let h₂ = skip (small s.stacks && small (after s r)) Overflow Unlinked _ (λ e. let z : ◌≡◌ {A = ℕ} 0 1 = cc in omega arith) h₁ in
    let goes = linked_out s.nodes (exit_to s r) sound (has_exit s r few lies (at_row s r row)) in
    let h₃ = sym (ap (λ b. asked b Unlinked (to (gone s (exit_to s r) (after s r)))) goes) ∙ h₂ in
    let z : ◌≡◌ {A = ℕ} 0 1 = cc in
    omega arith

never : (s : State) → Numbered s.nodes → Sound s.nodes → Linked s.nodes s.from s.to → next s ≡ ends Unlinked → ⊥
unfolding next
never s few sound l h = by (row_at s) refl h₂
  where
    h₁ : asked (linked s.nodes s.from s.to) Unlinked (then (row_at s) (leaves s)) ≡ ends Unlinked
    h₁ = skip (not (eqb s.to 0)) Home Unlinked _ (λ e. let z : ◌≡◌ {A = ℕ} 0 1 = cc in omega arith) h

    h₂ : then (row_at s) (leaves s) ≡ ends Unlinked
    h₂ = sym (ap (λ b. asked b Unlinked (then (row_at s) (leaves s))) (to_link s.nodes s.from s.to l)) ∙ h₁

    by : (o : Next Row) → row_at s ≡ o → then o (leaves s) ≡ ends Unlinked → ⊥
    by (to r) e k = leaves-linked s r few sound l.there e k
    by (ends w) e k =
        no_row (eqb (node_to s) 0) (row_for (node_at s.nodes (node_to s)).kind (place_of s.to) (value_to s) s.stacks)
        (e ∙ (let same : w ≡ Unlinked = cc in ap ends same))

pub never_unlinked : NeverUnlinked
never_unlinked ns rs s few sound reach h =
    let j = reached_joined ns rs s sound reach in
    never s (subst Numbered (sym j.nodes) few) (subst Sound (sym j.nodes) sound) (subst (λ m. Linked m s.from s.to) (sym j.nodes) j.joined) h
