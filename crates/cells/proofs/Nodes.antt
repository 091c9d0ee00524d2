-- Cells and the nodes that steps see of them.
use Rattle.std.proofs.Common.{◌≡◌, ℕ, zero, suc, ◌/◌, ◌%◌, ◌<◌, ◌≤◌, Bool, true, false, cond, not, ◌&&◌, eqb, ltb, List, [], ◌∷◌, length, get_or, Some, None, Option, Bor, sym, refl, ap, ◌∙◌, arith}
use Rattle.std.specs.Option.{option_eq, option_copied}
use Rattle.std.specs.Slice.{IsItemAt}
use Rattle.std.proofs.Math.Bool.{and-false}
use Rattle.std.proofs.lemmas.Bool.{eq-eqb, ne_eqb}
use Rattle.cells.specs.declared.kinds.Cell.{Cell}
use Rattle.cells.specs.declared.kinds.Port.TheVariants.{First, Second, Third}
use Rattle.cells.specs.Ports.{Node, node_of, nodes_of, node_at, inside, link, linked, link_at, end, place_of, blank, ShowsNode}
use Rattle.cells.proofs.Inside.{inside_low}

pub length-nodes_of : (cs : List Cell) → length (nodes_of cs) ≡ length cs
length-nodes_of [] = refl
length-nodes_of (c ∷ cs) = ap suc (length-nodes_of cs)

-- the node at k is what the cell at k shows, whatever stands for a missing one
pub node_at_lem : (cs : List Cell) (k : ℕ) (d : Cell) → k < length cs → node_at (nodes_of cs) k ≡ node_of (get_or cs k d)
node_at_lem [] k d h = absurd (omega arith)
node_at_lem (c ∷ cs) zero d h = refl
node_at_lem (c ∷ cs) (suc k) d h = node_at_lem cs k d (omega arith)

pub no_node_at : (cs : List Cell) (k : ℕ) → length cs ≤ k → node_at (nodes_of cs) k ≡ blank
no_node_at [] k h = refl
no_node_at (c ∷ cs) zero h = absurd (omega arith)
no_node_at (c ∷ cs) (suc k) h = no_node_at cs k (omega arith)

pub inside-then : (cs : List Cell) (p : ℕ) → (p ≡ 4294967295 → ⊥) → ltb (p / 3) (length cs) ≡ inside (nodes_of cs) p
unfolding inside
inside-then cs p h =
    ap (ltb (p / 3)) (sym (length-nodes_of cs))
    ∙ ap (λ b. not b && ltb (p / 3) (length (nodes_of cs))) (sym (ne_eqb p 4294967295 h))

pub inside_else : (cs : List Cell) (p : ℕ) → p ≡ 4294967295 → not (eqb p 4294967295) ≡ inside (nodes_of cs) p
unfolding inside
inside_else cs p h =
    ap not (eq-eqb p 4294967295 h)
    ∙ ap (λ b. not b && ltb (p / 3) (length (nodes_of cs))) (sym (eq-eqb p 4294967295 h))

-- a port that lies in a cell has one
pub inside_below : (cs : List Cell) (p : ℕ) → inside (nodes_of cs) p ≡ true → p / 3 < length cs
inside_below cs p h = omega (arith, inside_low (nodes_of cs) p h, length-nodes_of cs)

link-place : (c : Cell) (r : ℕ) → r < 3 → get_or c.links r 0 ≡ link_at (node_of c) (cond (eqb r 0) First (cond (eqb r 1) Second Third))
link-place c zero h = refl
link-place c (suc zero) h = refl
link-place c (suc (suc zero)) h = refl
link-place c (suc (suc (suc r))) h = absurd (omega arith)

-- what the cell holds for a port is the link
pub link_read : (cs : List Cell) (p : ℕ) (d : Cell) → p / 3 < length cs → get_or (get_or cs (p / 3) d).links (p % 3) 0 ≡ link (nodes_of cs) p
unfolding link
link_read cs p d h =
    link-place (get_or cs (p / 3) d) (p % 3) (omega arith)
    ∙ ap (λ n. link_at n (place_of p)) (sym (node_at_lem cs (p / 3) d h))

pub end-inside : (ns : List Node) (p x : ℕ) → inside ns p ≡ true → x ≡ link ns p → Some x ≡ end ns p
end-inside ns p x h e = ap Some e ∙ ap (λ b. cond b (Some (link ns p)) None) (sym h)

-- two ports are linked exactly where the end of each, where it has one, is the other
linked_ends : (ns : List Node) (a b : ℕ) → linked ns a b ≡ (option_eq eqb (end ns a) (Some b) && option_eq eqb (end ns b) (Some a))
unfolding linked
linked_ends ns a b = go (inside ns a) (inside ns b)
  where
    go : (p q : Bool) → (p && (q && (eqb (link ns a) b && eqb (link ns b) a))) ≡ (option_eq eqb (cond p (Some (link ns a)) None) (Some b) && option_eq eqb (cond q (Some (link ns b)) None) (Some a))
    go true true = refl
    go true false = sym (and-false _)
    go false true = refl
    go false false = refl

pub linked_first : (ns : List Node) (a b : ℕ) → option_eq eqb (end ns a) (Some b) ≡ true → option_eq eqb (end ns b) (Some a) ≡ linked ns a b
linked_first ns a b h = sym (linked_ends ns a b ∙ ap (λ t. t && option_eq eqb (end ns b) (Some a)) h)

pub unlinked_first : (ns : List Node) (a b : ℕ) → option_eq eqb (end ns a) (Some b) ≡ false → false ≡ linked ns a b
unlinked_first ns a b h = sym (linked_ends ns a b ∙ ap (λ t. t && option_eq eqb (end ns b) (Some a)) h)

-- what is read at a port's place is its node, or there is none
pub shows_node : (cs : List Cell) (p : ℕ) (r : Option (Bor Cell)) → IsItemAt cs (p / 3) r → ShowsNode (nodes_of cs) p (option_copied r)
shows_node cs p (Some x) (_, _, _, there, is) = node_at_lem cs (p / 3) x.now there.0 ∙ ap node_of (sym (is (omega arith) x.now))
shows_node cs p None (_, _, _, past, _) = no_node_at cs (p / 3) past
