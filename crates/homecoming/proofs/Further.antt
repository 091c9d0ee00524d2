-- Over further nodes the token takes the same steps.
use Rattle.std.proofs.Common.{◌≡◌, ℕ, zero, suc, ◌/◌, true, cond, ◌&&◌, eqb, List, ◌++◌, sym, ap, ◌∙◌, subst, ap₂, arith, length-append}
use lib.ListN.{get_or-append}
use Rattle.std.proofs.lemmas.Bool.Decides.{nat_tests}
use Rattle.cells.specs.Ports.{Node, node_at, blank, link_at, place_of, inside, link, linked}
use Rattle.cells.specs.Sound.{Sound}
use Rattle.machine.specs.Steps.{to, ends, go}
use Rattle.machine.specs.Lawful.{go_none, go_split}
use Rattle.machine.specs.declared.reasons.Reason.TheVariants.{NoRow}
use Rattle.token.specs.declared.memory.DataCell.{DataCell}
use Rattle.token.specs.declared.memory.DataCell.TheVariants.{Question}
use Rattle.token.specs.Table.{changed}
use Rattle.token.specs.State.{Rooms, State, opened, entrance, number_of}
use Rattle.token.specs.Next.{or_no_row, row_for, row_at, within, small, after, exit_to, gone, next}
use Rattle.token.specs.Reach.{Reached, opening, step, Numbered}
use Rattle.cells.proofs.Ports.{Linked, is_linked, to_link}
use Rattle.token.proofs.Steps.{stepping, steps, at_row}
use Rattle.token.proofs.Reaching.{reached_joined, has_exit}
use Rattle.homecoming.specs.Further.{FurtherNodesDoNoHarm, FurtherNodesBringNoOther}
use Rattle.cells.proofs.Inside.{inside_low, root_has, linked_out}
use Rattle.homecoming.proofs.Ways.{last_step}

module _ (rest : List Node) where
  -- the token over further nodes
  abbrev over : State → State
  over s = record { nodes = s.nodes ++ rest; from = s.from; to = s.to; stacks = s.stacks; rooms = s.rooms }

  module _ (ns : List Node) where
    node_kept : (p : ℕ) → inside ns p ≡ true → node_at (ns ++ rest) (p / 3) ≡ node_at ns (p / 3)
    node_kept p h = get_or-append ns rest blank (p / 3) (inside_low ns p h)

    inside_kept : (p : ℕ) → inside ns p ≡ true → inside (ns ++ rest) p ≡ true
    unfolding inside
    inside_kept p h = let e = length-append ns rest in grind (arith, nat_tests)

    link_kept : (p : ℕ) → inside ns p ≡ true → link (ns ++ rest) p ≡ link ns p
    unfolding link
    link_kept p h = ap (λ n. link_at n (place_of p)) (node_kept p h)

    linked_kept : (p q : ℕ) → linked ns p q ≡ true → linked (ns ++ rest) p q ≡ true
    linked_kept p q h =
        let l = is_linked ns p q h in
        to_link (ns ++ rest) p q
        (record {
          here = inside_kept p l.here;
          there = inside_kept q l.there;
          out = link_kept p l.here ∙ l.out;
          back = link_kept q l.there ∙ l.back;
        })

  step_kept : (s t : State) → next s ≡ to t → next (over s) ≡ to (over t)
  step_kept s t e =
      let (r, h, same) = stepping s t e in
      let ns = s.nodes in
      let k = s.to / 3 in
      let exit = exit_to s r in
      let came = is_linked ns s.from s.to h.came in
      let node = node_kept ns s.to came.there in
      let goes = is_linked ns exit (link ns exit) h.goes in
      let wire = link_kept ns exit goes.here in
      steps (over s) r
      (record {
        out = h.out;
        came = linked_kept ns s.from s.to h.came;
        row = ap (λ n. cond (eqb k 0) (ends NoRow) (or_no_row (row_for n.kind (place_of s.to) n.value s.stacks))) node ∙ h.row;
        room = subst (λ n. (within s.rooms n.value s.stacks && within s.rooms n.value (changed r.change n.value s.stacks)) ≡ true) (sym node) h.room;
        fit = subst (λ n. (small s.stacks && small (changed r.change n.value s.stacks)) ≡ true) (sym node) h.fit;
        goes = subst (λ q. linked (ns ++ rest) exit q ≡ true) (sym wire) (linked_kept ns exit (link ns exit) h.goes);
      })
      ∙ ap₂ (λ q n. to (record { nodes = ns ++ rest; from = exit; to = q; stacks = changed r.change n.value s.stacks; rooms = s.rooms })) wire node
      ∙ ap (λ u. to (over u)) (sym same)

  way_kept : (n : ℕ) (s t : State) → go next n s ≡ to t → go next n (over s) ≡ to (over t)
  way_kept zero s t h = let same : s ≡ t = cc (go_none next s) in go_none next (over s) ∙ ap (λ u. to (over u)) same
  way_kept (suc n) s t h =
      let (u, a, b) = go_split next n s t h in
      last_step next n (over s) (over u) (over t) (way_kept n s u a) (step_kept u t b)

  -- over sound nodes a token whose ports are linked takes no other step
  step_back : (s u : State) → Numbered s.nodes → Sound s.nodes → Linked s.nodes s.from s.to → next (over s) ≡ to u → (t : State) × (next s ≡ to t) × (u ≡ over t)
  step_back s u few sound l e =
      let (r, h, same) = stepping (over s) u e in
      let ns = s.nodes in
      let node = node_kept ns s.to l.there in
      let row : row_at s ≡ to r = sym (ap (λ n. cond (eqb (s.to / 3) 0) (ends NoRow) (or_no_row (row_for n.kind (place_of s.to) n.value s.stacks))) node) ∙ h.row in
      let t : State = gone s (exit_to s r) (after s r) in
      let here : next s ≡ to t = steps s r (record {
        out = h.out;
        came = to_link ns s.from s.to l;
        row = row;
        room = subst (λ n. (within s.rooms n.value s.stacks && within s.rooms n.value (changed r.change n.value s.stacks)) ≡ true) node h.room;
        fit = subst (λ n. (small s.stacks && small (changed r.change n.value s.stacks)) ≡ true) node h.fit;
        goes = linked_out ns (exit_to s r) sound (has_exit s r few l.there (at_row s r row));
      }) in
      let there = step_kept s t here in
      let is : u ≡ over t = cc in
      (t, here, is)

  way_back : (ns : List Node) (rs : Rooms) → Numbered ns → Sound ns → (n : ℕ) (s u : State) → Reached ns rs s → go next n (over s) ≡ to u → (t : State) × (go next n s ≡ to t) × (u ≡ over t) × Reached ns rs t
  way_back ns rs few sound zero s u reach h = let same : u ≡ over s = cc (go_none next (over s)) in (s, go_none next s, same, reach)
  way_back ns rs few sound (suc n) s u reach h =
      let (v, a, b) = go_split next n (over s) u h in
      let (w, way, same, there) = way_back ns rs few sound n s v reach a in
      let j = reached_joined ns rs w sound there in
      let on : next (over w) ≡ to u = ap next (sym same) ∙ b in
      let (t, e, is) = step_back w u (subst Numbered (sym j.nodes) few) (subst Sound (sym j.nodes) sound) (subst (λ m. Linked m w.from w.to) (sym j.nodes) j.joined) on in
      (t, last_step next n s w t way e, is, step w t there e)

  opened_kept : (ns : List Node) → Sound ns → (rs : Rooms) (d : DataCell) → opened (ns ++ rest) rs d ≡ over (opened ns rs d)
  opened_kept ns sound rs d =
      let has = root_has ns sound in
      let there = (sound.linked 0 has).there.lies in
      let wire = link_kept ns 0 has.lies in
      let inner : entrance ns ≡ link ns 0 = ap (λ b. cond b (link ns 0) 0) there in
      let outer : entrance (ns ++ rest) ≡ link ns 0
      = ap (λ p. cond (inside (ns ++ rest) p) p 0) wire ∙ ap (λ b. cond b (link ns 0) 0) (inside_kept ns (link ns 0) there) in
      ap (λ p. record { nodes = ns ++ rest; from = 0; to = p; stacks = (opened ns rs d).stacks; rooms = rs }) (outer ∙ sym inner)

pub further_nodes_do_no_harm : FurtherNodesDoNoHarm
further_nodes_do_no_harm ns rest rs n d sound h = record {
  last = over rest h.last;
  way = ap (go next d) (opened_kept rest ns sound rs Question) ∙ way_kept rest d (opened ns rs Question) h.last h.way;
  number = h.number;
}

pub further_nodes_bring_no_other : FurtherNodesBringNoOther
further_nodes_bring_no_other ns rest rs n d few sound h =
    let start = opened_kept rest ns sound rs Question in
    let (t, way, same, _) = way_back rest ns rs few sound d (opened ns rs Question) h.last (opening Question) (sym (ap (go next d) start) ∙ h.way) in
    record { last = t; way = way; number = ap number_of (sym same) ∙ h.number }
