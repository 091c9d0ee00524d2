use Rattle.std.proofs.Common.{◌≡◌, ◌+◌, length, sym, ap, ◌∙◌, subst, arith}
use Rattle.std.proofs.lemmas.List.{with_items_is}
use Rattle.calculus.specs.Terms.{Term, free, nodes}
use Rattle.network.specs.Wiring.{Passable, Crossed}
use Rattle.network.proofs.Laid.{nodes_are}
use Rattle.network.proofs.Crossed.{gathered, crossable, crossed_by}
use Rattle.network.proofs.wire.Wiring.pass.Goals as goal
use Rattle.network.proofs.wire.Wiring.pass.Goals.{After-gather}

-- the nodes that the part makes, and the uses that are listed, are those of the term
counted : (c : After-gather) (t : Term) → Passable c.args.parts.now c.args.i c.args.k c.args.self.now.starts.items (length c.args.cells.now) t → c.args.k + c.part_at.result.count.nodes ≡ c.args.k + nodes t
counted c t h = ap (λ n. c.args.k + n) (nodes_are c.args.parts.now c.args.i t c.part_at.result c.part_at.ensures h.ready.holds)

listed : (c : After-gather) (t : Term) → Passable c.args.parts.now c.args.i c.args.k c.args.self.now.starts.items (length c.args.cells.now) t → c.gather.new.self.uses.items ≡ free t
listed c t h =
    let e = c.clear.ensures.items in
    gathered h.n _ _ _ _ t h.ready.numbered h.ready.started e (c.gather.ensures.found t (record { holds = h.ready.holds; below = h.ready.below; room = omega (arith, ap length e, h.ready.small) }))

pub cross-requires : goal.cross-requires
cross-requires c =
    let t = c.requires.0 in
    let h = c.requires.1 in
    let a = (goal.at.cross-requires c).After-gather in
    rw (c.deref.ensures.value ∙ listed a t h, c.deref_mut.ensures.value ∙ c.gather.ensures.kept) (crossable _ _ _ _ _ _ t h (counted a t h))

pub overflow_add-result : goal.overflow_add-result
overflow_add-result c =
    let t = c.requires.0 in
    let h = c.requires.1 in
    let a = (goal.at.overflow_add-result c).After-gather in
    omega (arith, c.len.ensures, c.gather.new.self.uses.ok.0, ap length (listed a t h), counted a t h, h.room, h.ready.numbered.ports)

pub returns : goal.returns
returns c t h =
    let a = (goal.at.returns c).After-gather in
    let e = listed a t h in
    let n = counted a t h in
    let s = with_items_is c.gather.new.self.starts c.cross.new.starts (omega (arith, c.cross.ensures.long, c.deref_mut.ensures.len)) in
    let x = crossed_by (c.deref.ensures.value ∙ e) n (c.deref_mut.ensures.value ∙ c.gather.ensures.kept) c.cross.ensures in
    (omega (arith, c.len.ensures, c.gather.new.self.uses.ok.0, ap length e, n), subst (λ q. Crossed (free t) (c.args.k + nodes t) c.args.self.now.starts.items q c.args.cells.now c.cross.new.cells) (sym s) x)
