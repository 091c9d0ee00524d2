-- The token crosses the node of a position with the question, and crosses it back with the answer.
use Rattle.std.proofs.Common.{◌≡◌, ℕ, suc, ◌/◌, ◌<◌, ◌≤◌, true, false, List, ◌∷◌, length, Option, sym, refl, ap, ◌∙◌, subst, arith}
use Rattle.cells.specs.declared.kinds.Kind.{Kind}
use Rattle.cells.specs.declared.kinds.Kind.TheVariants.{Number}
use Rattle.cells.specs.declared.kinds.Port.{Port}
use Rattle.cells.specs.declared.kinds.Port.TheVariants.{First, Second, Third}
use Rattle.cells.specs.Ports.{Node, node_at, offset, port_at, place_of, link, linked}
use Rattle.geometry.specs.Labels.{Label}
use Rattle.machine.specs.Steps.{to}
use Rattle.token.specs.declared.memory.DataCell.{DataCell}
use Rattle.token.specs.declared.memory.DataCell.TheVariants as dat
use Rattle.token.specs.State.{Rooms, State}
use Rattle.token.specs.Next.{next}
use Rattle.homecoming.specs.Home.{Network}
use Rattle.homecoming.proofs.Nodes.{is_kind, is_kind_lem, across, Acts, Crosses, stacked, deeper, raised, answers}
use Rattle.cells.proofs.Ports.{node_of, place_of_lem, port_of_lem}
use Rattle.homecoming.proofs.Questions.{Position, Question}
use Rattle.homecoming.proofs.Orbit.{kind_at, over, onward, at, Out, out, not_home}
use Rattle.cells.proofs.Inside.{linked_out, linked_in}
use Rattle.homecoming.proofs.Steps.{stands, held_question, held_number, step}

first_port : (p : Port) → offset p < 1 → p ≡ First
first_port First h = refl
first_port Second h = absurd (omega arith)
first_port Third h = absurd (omega arith)

module _ (ns : List Node) (label : ℕ → Label) (rs : Rooms) (g : Network ns label) where
  -- the token with a question at the position, and the token turned there with an answer
  abbrev pub asking : Position → List DataCell → State
  asking x d = stands ns rs (link ns x.0) x.0 (stacked x.1 d)

  abbrev pub answering : Position → List DataCell → State
  answering x d = stands ns rs x.0 (link ns x.0) (stacked x.1 d)

  -- the memory suffices at the position
  pub record Room (x : Position) (d : List DataCell) : Type 0 where
    pub letters : length x.1 ≤ rs.letters
    pub datas : suc (length d) ≤ rs.datas

  module _ (x : Position) (q : Question ns label x) where
    abbrev pub node : ℕ
    node = x.0 / 3

    abbrev pub value : ℕ
    value = (node_at ns node).value

    abbrev pub kind : Option Kind
    kind = kind_at ns x.0

    away : node ≡ 0 → ⊥
    away e = not_home ns label g x q (sym e)

    -- the token leaves by the port by which the question came
    exits : linked ns (port_at node (place_of x.0)) (link ns (port_at node (place_of x.0))) ≡ true
    exits = subst (λ p. linked ns p (link ns p) ≡ true) (sym (port_of_lem x.0)) (linked_out ns x.0 g.sound q.0)

    module _ (e : is_kind Number kind ≡ false) (d : List DataCell) (r : Room x d) (t : Room (onward ns x) (deeper kind d)) where
      abbrev exit : Port
      exit = (across kind (place_of x.0) x.1).0

      crossing : Out ns label g x
      crossing = out ns label g x q e

      crossed : Crosses crossing.kind (place_of x.0) x.1 (exit, (over ns x).1)
      crossed = crossing.crosses

      back_there : link ns (link ns (over ns x).0) ≡ (over ns x).0
      back_there = (g.sound.linked (over ns x).0 crossing.has).back

      -- the question passes the node
      pub passes_out : next (asking x (dat.Question ∷ d)) ≡ to (asking (onward ns x) (dat.Question ∷ deeper kind d))
      passes_out =
          let s = stacked x.1 (dat.Question ∷ d) in
          let u = stacked (over ns x).1 (dat.Question ∷ deeper kind d) in
          step ns rs (link ns x.0) x.0 node (place_of x.0) exit crossing.kind s u refl refl away (linked_in ns x.0 g.sound q.0) crossing.is
          (subst (λ k. Acts crossing.kind (place_of x.0) value s exit (stacked (over ns x).1 (dat.Question ∷ deeper k d))) (sym crossing.is) (crossed.out value d))
          (held_question rs x.1 d r.letters r.datas) (held_question rs (over ns x).1 (deeper kind d) t.letters t.datas)
          (linked_out ns (over ns x).0 g.sound crossing.has)
          ∙ ap (λ f. to (stands ns rs f (onward ns x).0 u)) (sym back_there)

      -- the answer passes it back
      pub passes_back : (a : ℕ) → a ≤ 4294967295 → raised kind a ≤ 4294967295 → next (answering (onward ns x) (dat.Number a ∷ deeper kind d)) ≡ to (answering x (dat.Number (raised kind a) ∷ d))
      passes_back a b c =
          let s = stacked (over ns x).1 (dat.Number a ∷ deeper kind d) in
          let u = stacked x.1 (dat.Number (raised kind a) ∷ d) in
          ap (λ p. next (stands ns rs (onward ns x).0 p s)) back_there
          ∙ step ns rs (onward ns x).0 (over ns x).0 node exit (place_of x.0) crossing.kind s u (node_of node exit) (place_of_lem node exit) away
          (linked_in ns (over ns x).0 g.sound crossing.has) crossing.is
          (subst (λ k. Acts crossing.kind exit value (stacked (over ns x).1 (dat.Number a ∷ deeper k d)) (place_of x.0) (stacked x.1 (dat.Number (raised k a) ∷ d))) (sym crossing.is) (crossed.back value d a))
          (held_number rs (over ns x).1 a (deeper kind d) t.letters t.datas b) (held_number rs x.1 (raised kind a) d r.letters r.datas c)
          exits
          ∙ ap (λ p. to (stands ns rs p (link ns p) u)) (port_of_lem x.0)

    -- a number answers
    pub turns : is_kind Number kind ≡ true → (d : List DataCell) → Room x d → value ≤ 4294967295 → next (asking x (dat.Question ∷ d)) ≡ to (answering x (dat.Number value ∷ d))
    turns e d r b =
        let is = is_kind_lem Number kind e in
        let p : place_of x.0 ≡ First = first_port (place_of x.0) (at ns label g x q Number is).owned in
        let s = stacked x.1 (dat.Question ∷ d) in
        let u = stacked x.1 (dat.Number value ∷ d) in
        step ns rs (link ns x.0) x.0 node (place_of x.0) (place_of x.0) Number s u refl refl away (linked_in ns x.0 g.sound q.0) is
        (subst (λ p. Acts Number p value s p u) (sym p) (answers value x.1 d))
        (held_question rs x.1 d r.letters r.datas) (held_number rs x.1 value d r.letters r.datas b)
        exits
        ∙ ap (λ p. to (stands ns rs p (link ns p) u)) (port_of_lem x.0)
