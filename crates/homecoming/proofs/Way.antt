-- The way out to a number and back, in the token's own next states.
use Rattle.std.proofs.Common.{◌≡◌, ℕ, zero, suc, ◌+◌, ◌*◌, ◌/◌, ◌≤◌, Bool, true, false, cond, eqb, List, [], ◌∷◌, length, sym, refl, ap, ◌∙◌, subst, ap₂, arith}
use Rattle.std.proofs.lemmas.Bool.Decides.{nat_tests}
use Rattle.cells.specs.declared.kinds.Kind.TheVariants.{Number, Successor}
use Rattle.cells.specs.Ports.{Node, node_at, link}
use Rattle.geometry.specs.Labels.{Label, network_weight, successor_nodes}
use Rattle.machine.specs.Steps.{to, go}
use Rattle.machine.specs.Lawful.{go_none}
use Rattle.token.specs.declared.memory.DataCell.{DataCell}
use Rattle.token.specs.declared.memory.DataCell.TheVariants as dat
use Rattle.token.specs.State.{Rooms, opened, entrance}
use Rattle.token.specs.Next.{next}
use Rattle.homecoming.specs.Home.{Network, Suffices, Home}
use Rattle.homecoming.proofs.Letters.{asks_height}
use Rattle.homecoming.proofs.Nodes.{is_kind, is_kind_lem, stacked, deeper, raised}
use Rattle.homecoming.proofs.Pigeonhole.{bump, count}
use Rattle.homecoming.proofs.Questions.{few_successor_nodes}
use Rattle.homecoming.proofs.Orbit.{kind_at, orbit, Going, orbit_asks, number_met, passes_successor, few_successors}
use Rattle.cells.proofs.Inside.{root_has}
use Rattle.homecoming.proofs.Ways.{first_step, last_step}
use Rattle.homecoming.proofs.Crossing.{asking, answering, Room, passes_out, passes_back, turns}
use Rattle.homecoming.proofs.Steps.{stands}

abbrev double : ℕ → ℕ
double zero = zero
double (suc n) = suc (suc (double n))

double_is : (n : ℕ) → double n ≡ 2 * n
double_is zero = refl
double_is (suc n) = let h = double_is n in omega arith

-- what is added to the answer is taken from the stack
deeper_length : (b : Bool) (d : List DataCell) → length (cond b (dat.Question ∷ d) d) ≡ bump b (length d)
deeper_length true d = refl
deeper_length false d = refl

raised_balance : (b : Bool) (a : ℕ) (d : List DataCell) → cond b (a + 1) a + length d ≡ a + length (cond b (dat.Question ∷ d) d)
raised_balance true a d = omega arith
raised_balance false a d = refl

module _ (ns : List Node) (label : ℕ → Label) (rs : Rooms) (g : Network ns label) where
  module _ (memory : Suffices ns label rs) (m : ℕ) (going : Going ns label g m) where
    -- the memory suffices at each position up to the m-th
    room : (i : ℕ) → i ≤ m → (d : List DataCell) → length d ≡ count (passes_successor ns label g) i → Room ns label rs g (orbit ns i) d
    room i h d e =
        let q = orbit_asks ns label g m going i h in
        let x = orbit ns i in
        let a = asks_height (label x.0) x.1 q.1 in
        let b = memory.letters x.0 q.0 in
        let c = few_successors ns label g m going i (omega arith) in
        let k = memory.datas in
        record { letters = omega arith; datas = omega arith }

    -- the token comes back from the i-th position with a number, in one step and two for each position between it and the m-th
    record Back (k i : ℕ) (d : List DataCell) : Type 0 where
      pub number : ℕ
      pub low : number + length d ≤ 1000000000 + successor_nodes ns
      pub way : go next (suc (double k)) (asking ns label rs g (orbit ns i) (dat.Question ∷ d)) ≡ to (answering ns label rs g (orbit ns i) (dat.Number number ∷ d))

    back : is_kind Number (kind_at ns (orbit ns m).0) ≡ true → (k i : ℕ) → i + k ≡ m → (d : List DataCell) → length d ≡ count (passes_successor ns label g) i → Back k i d
    back met zero i h d e =
        let same : m ≡ i = omega arith in
        let x = orbit ns i in
        let n = subst (λ j. is_kind Number (kind_at ns (orbit ns j).0) ≡ true) same met in
        let v = (node_at ns (x.0 / 3)).value in
        let b : v ≤ 1000000000 = g.small (x.0 / 3) (is_kind_lem Number (kind_at ns x.0) n) in
        let c = few_successors ns label g m going i (omega arith) in
        record {
          number = v;
          low = omega arith;
          way = last_step next 0 _ _ _ (go_none next _) (turns ns label rs g x (orbit_asks ns label g m going i (omega arith)) n d (room i (omega arith) d e) (omega arith));
        }
    back met (suc k) i h d e =
        let x = orbit ns i in
        let q = orbit_asks ns label g m going i (omega arith) in
        let f = going i (omega arith) in
        let o = kind_at ns x.0 in
        let deep : length (deeper o d) ≡ count (passes_successor ns label g) (suc i) = deeper_length (is_kind Successor o) d ∙ ap (bump (is_kind Successor o)) e in
        let b = back met k (suc i) (omega arith) (deeper o d) deep in
        let r = room i (omega arith) d e in
        let t = room (suc i) (omega arith) (deeper o d) deep in
        let a = b.number in
        let low = b.low in
        let w = raised_balance (is_kind Successor o) a d in
        let few = few_successor_nodes ns in
        let size = g.numbered in
        record {
          number = raised o a;
          low = omega arith;
          way = first_step next (suc (suc (double k))) _ _ (passes_out ns label rs g x q f d r t)
              ∙ last_step next (suc (double k)) _ _ _ b.way (passes_back ns label rs g x q f d r t a (omega arith) (omega arith));
        }

  -- the opening is the token with the question at the first position
  opening : 1 ≤ rs.datas → opened ns rs dat.Question ≡ asking ns label rs g (orbit ns 0) (dat.Question ∷ [])
  opening h =
      let m = g.sound.linked 0 (root_has ns g.sound) in
      let some : eqb rs.datas 0 ≡ false = grind (arith, nat_tests) in
      let to_link : entrance ns ≡ link ns 0 = ap (λ b. cond b (link ns 0) 0) m.there.lies in
      let cell : cond (eqb rs.datas 0) [] (dat.Question ∷ []) ≡ dat.Question ∷ [] = ap (λ b. cond b [] (dat.Question ∷ [])) some in
      ap₂ (λ p d. stands ns rs 0 p (stacked [] d)) to_link cell ∙ ap (λ f. stands ns rs f (link ns 0) (stacked [] (dat.Question ∷ []))) (sym m.back)

  pub comes_home : Suffices ns label rs → Home ns rs (network_weight label ns)
  comes_home memory =
      let met = number_met ns label g in
      let j = met.at in
      let b = back memory j met.not_before met.here j 0 (omega arith) [] refl in
      let m = g.sound.linked 0 (root_has ns g.sound) in
      let twice = double_is j in
      let below = met.below in
      let cells = memory.datas in
      record {
        number = b.number;
        steps = suc (double j);
        distance = record {
          last = stands ns rs (link ns 0) 0 (stacked [] (dat.Number b.number ∷ []));
          way = ap (go next (suc (double j))) (opening (omega arith)) ∙ b.way ∙ ap (λ p. to (stands ns rs (link ns 0) p (stacked [] (dat.Number b.number ∷ [])))) m.back;
          number = refl;
        };
        odd = omega arith;
        soon = omega arith;
      }
