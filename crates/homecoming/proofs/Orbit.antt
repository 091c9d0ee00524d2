-- The positions that a question goes through, from the root's link to a number.
use Rattle.std.proofs.Common.{◌≡◌, ℕ, zero, suc, ◌+◌, ◌*◌, ◌/◌, ◌%◌, ◌<◌, ◌≤◌, Bool, true, false, List, [], length, Some, Option, sym, refl, ap, ◌∙◌, subst, inl, inr, arith}
use Rattle.cells.specs.declared.kinds.Kind.{Kind}
use Rattle.cells.specs.declared.kinds.Kind.TheVariants.{Root, Number, Successor}
use Rattle.cells.specs.declared.kinds.Port.{Port}
use Rattle.cells.specs.declared.kinds.Port.TheVariants.{First, Second, Third}
use Rattle.cells.specs.Ports.{Node, node_at, arity, offset, port_at, place_of, link}
use Rattle.cells.specs.Sound.{Below, Has}
use Rattle.token.specs.declared.memory.Letter.{Letter}
use Rattle.geometry.specs.Labels.{Label, flip, Fits, at_root, network_weight, successor_nodes}
use Rattle.homecoming.specs.Home.{Network}
use Rattle.homecoming.proofs.Letters.{Asks}
use Rattle.homecoming.proofs.Nodes.{is_kind, is_kind_lem, across, across_twice, among, Crosses, Passed, passes, not_root, at_successor_node}
use Rattle.homecoming.proofs.Pigeonhole.{In, count, count_all, few_in, Least, least}
use Rattle.cells.proofs.Ports.{node_of, rest_of, place_of_lem, offset_of, port_of_lem}
use Rattle.cells.proofs.Inside.{inside_low, inside_is, root_has}
use Rattle.homecoming.proofs.Questions.{Position, Question, questions, questions_length, question_in, successor_list, successor_list_length, successor_in}

abbrev pub kind_at : List Node → ℕ → Option Kind
kind_at ns p = (node_at ns (p / 3)).kind

-- across node k, from one of its ports to another
abbrev across_node : List Node → ℕ → Port → List Letter → Position
across_node ns k q s = (port_at k (across (node_at ns k).kind q s).0, (across (node_at ns k).kind q s).1)

-- across the position's node
abbrev pub over : List Node → Position → Position
over ns x = across_node ns (x.0 / 3) (place_of x.0) x.1

-- to the other end of the wire
abbrev pub along : List Node → Position → Position
along ns x = (link ns x.0, x.1)

abbrev pub onward : List Node → Position → Position
onward ns x = along ns (over ns x)

-- the i-th position after the opening
abbrev pub orbit : List Node → ℕ → Position
orbit ns zero = (link ns 0, [])
orbit ns (suc i) = onward ns (orbit ns i)

over_node : (ns : List Node) (k : ℕ) (q : Port) (s : List Letter) → over ns (port_at k q, s) ≡ across_node ns k q s
over_node ns k q s = ap (λ j. across_node ns j (place_of (port_at k q)) s) (node_of k q) ∙ ap (λ r. across_node ns k r s) (place_of_lem k q)

over_twice : (ns : List Node) (x : Position) → over ns (over ns x) ≡ x
over_twice ns x =
    let k = x.0 / 3 in
    let o = across (node_at ns k).kind (place_of x.0) x.1 in
    over_node ns k o.0 o.1
    ∙ ap (λ o. (port_at k o.0, o.1)) (across_twice (node_at ns k).kind (place_of x.0) x.1)
    ∙ ap (λ p. (p, x.1)) (port_of_lem x.0)

among-label : (label : ℕ → Label) (k : ℕ) (q : Port) → among (label (3 * k)) (label (3 * k + 1)) (label (3 * k + 2)) q ≡ label (port_at k q)
among-label label k First = let e : 3 * k ≡ 3 * k + 0 = omega arith in ap label e
among-label label k Second = refl
among-label label k Third = refl

root_asks : (a b c : Label) → Fits Root a b c → Asks (flip a) []
root_asks a b c at_root = refl

module _ (ns : List Node) (label : ℕ → Label) (g : Network ns label) where
  -- no number answers at the position
  abbrev pub Passing : Position → Type 0
  Passing x = is_kind Number (kind_at ns x.0) ≡ false

  -- what is known of a question at a node of kind κ
  pub record At (κ : Kind) (x : Position) : Type 0 where
    pub low : x.0 / 3 < length ns
    pub fits : Fits κ (label (3 * (x.0 / 3))) (label (3 * (x.0 / 3) + 1)) (label (3 * (x.0 / 3) + 2))
    pub owned : offset (place_of x.0) < arity κ
    pub asks : Asks (among (label (3 * (x.0 / 3))) (label (3 * (x.0 / 3) + 1)) (label (3 * (x.0 / 3) + 2)) (place_of x.0)) x.1

  pub at : (x : Position) → Question ns label x → (κ : Kind) → kind_at ns x.0 ≡ Some κ → At κ x
  at x q κ e =
      let p = x.0 in
      record {
        low = inside_low ns p q.0.lies;
        fits = g.labelled.fits (p / 3) κ e;
        owned = subst (λ i. i < arity κ) (sym (offset_of p)) (subst (λ o. Below (p % 3) o) e q.0.owned);
        asks = subst (λ a. Asks a x.1) (sym (among-label label (p / 3) (place_of p) ∙ ap label (port_of_lem p))) q.1;
      }

  has_port : (k : ℕ) (κ : Kind) → k < length ns → (node_at ns k).kind ≡ Some κ → (q : Port) → offset q < arity κ → Has ns (port_at k q)
  has_port k κ h e q o =
      let few = g.numbered in
      let node = node_of k q in
      record {
        lies = inside_is ns (port_at k q) (λ e. omega arith) (omega arith);
        owned = subst (λ i. Below i (node_at ns (port_at k q / 3)).kind) (sym (rest_of k q))
            (subst (λ j. Below (offset q) (node_at ns j).kind) (sym node) (subst (λ o. Below (offset q) o) (sym e) o));
      }

  -- a question that passes the node leaves it as a question
  pub record Out (x : Position) : Type 0 where
    pub has : Has ns (over ns x).0
    pub asks : Asks (flip (label (over ns x).0)) (over ns x).1
    pub kind : Kind
    pub is : kind_at ns x.0 ≡ Some kind
    pub crosses : Crosses kind (place_of x.0) x.1 (across (kind_at ns x.0) (place_of x.0) x.1)

  pub out : (x : Position) → Question ns label x → Passing x → Out x
  out x q e =
      let p = x.0 in
      let k = p / 3 in
      let found = g.sound.kinds k (inside_low ns p q.0.lies) in
      let κ = found.0 in
      let is = found.1 in
      let a = at x q κ is in
      let l : Passed κ (label (3 * k)) (label (3 * k + 1)) (label (3 * k + 2)) (place_of p) x.1 (across (kind_at ns p) (place_of p) x.1)
      = subst (λ o. Passed κ (label (3 * k)) (label (3 * k + 1)) (label (3 * k + 2)) (place_of p) x.1 (across o (place_of p) x.1)) (sym is)
      (passes κ _ _ _ a.fits (g.plain k κ is) (subst (λ o. is_kind Number o ≡ false) is e) (place_of p) a.owned x.1 a.asks) in
      let exit = (across (kind_at ns p) (place_of p) x.1).0 in
      record {
        has = has_port k κ a.low is exit l.owned;
        asks = subst (λ b. Asks (flip b) (over ns x).1) (among-label label k exit) l.asks;
        kind = κ;
        is = is;
        crosses = l.crosses;
      }

  onward_asks : (x : Position) → Question ns label x → Passing x → Question ns label (onward ns x)
  onward_asks x q e =
      let o = out x q e in
      ((g.sound.linked (over ns x).0 o.has).there, subst (λ a. Asks a (over ns x).1) (sym (g.labelled.ends (over ns x).0 o.has)) o.asks)

  -- the wire leads back, and the node too, so no two questions go on to the same
  along_back : (x : Position) → Question ns label x → Passing x → along ns (onward ns x) ≡ over ns x
  along_back x q e = ap (λ p. (p, (over ns x).1)) (g.sound.linked (over ns x).0 (out x q e).has).back

  undo : (x : Position) → Question ns label x → Passing x → over ns (along ns (onward ns x)) ≡ x
  undo x q e = ap (over ns) (along_back x q e) ∙ over_twice ns x

  onward_injective : (x y : Position) → Question ns label x → Question ns label y → Passing x → Passing y → onward ns x ≡ onward ns y → x ≡ y
  onward_injective x y q u e f h = sym (undo x q e) ∙ ap (λ z. over ns (along ns z)) h ∙ undo y u f

  opening_asks : Question ns label (orbit ns 0)
  opening_asks =
      let m = g.sound.linked 0 (root_has ns g.sound) in
      (m.there, subst (λ a. Asks a []) (sym (g.labelled.ends 0 (root_has ns g.sound))) (root_asks _ _ _ (g.labelled.fits 0 Root g.sound.root)))

  -- no question comes to node 0
  pub not_home : (x : Position) → Question ns label x → 0 ≡ x.0 / 3 → ⊥
  not_home x q h =
      let a = at x q Root (ap (λ k. (node_at ns k).kind) (sym h) ∙ g.sound.root) in
      not_root _ _ _ a.fits (place_of x.0) a.owned x.1 a.asks

  -- so none goes on to the opening
  not_before : (x : Position) → Question ns label x → Passing x → orbit ns 0 ≡ onward ns x → ⊥
  not_before x q e h =
      let same : 0 ≡ (over ns x).0 = sym (g.sound.linked 0 (root_has ns g.sound)).back ∙ ap (λ z. (along ns z).0) h ∙ ap (λ z. z.0) (along_back x q e) in
      let node = node_of (x.0 / 3) (across (kind_at ns x.0) (place_of x.0) x.1).0 in
      not_home x q (omega arith)

  -- no number is met before the m-th position
  abbrev pub Going : ℕ → Type 0
  Going m = (i : ℕ) → i < m → Passing (orbit ns i)

  pub orbit_asks : (m : ℕ) → Going m → (i : ℕ) → i ≤ m → Question ns label (orbit ns i)
  orbit_asks m going zero h = opening_asks
  orbit_asks m going (suc i) h = onward_asks (orbit ns i) (orbit_asks m going i (omega arith)) (going i (omega arith))

  -- positions never repeat
  apart : (m : ℕ) → Going m → (i k : ℕ) → i < k → k ≤ m → orbit ns i ≡ orbit ns k → ⊥
  apart m going i zero h b e = absurd (omega arith)
  apart m going zero (suc k) h b e = not_before (orbit ns k) (orbit_asks m going k (omega arith)) (going k (omega arith)) e
  apart m going (suc i) (suc k) h b e =
      apart m going i k (omega arith) (omega arith)
      (onward_injective (orbit ns i) (orbit ns k) (orbit_asks m going i (omega arith)) (orbit_asks m going k (omega arith)) (going i (omega arith)) (going k (omega arith)) e)

  -- so a number is met, before there are more positions than the network has questions
  stops : Going (network_weight label ns) → ⊥
  stops going =
      let w = network_weight label ns in
      let few = few_in (λ _. true) (suc w) (questions ns label) (orbit ns)
      (λ i h _. question_in ns label g.sound g.labelled (orbit ns i) (orbit_asks w going i (omega arith)))
      (λ i k h b _ _ e. apart w going i k h (omega arith) e) in
      let len = questions_length ns label in
      let all = count_all (suc w) in
      omega arith

  pub number_met : Least (λ i. is_kind Number (kind_at ns (orbit ns i).0)) (network_weight label ns)
  number_met = elim (least (λ i. is_kind Number (kind_at ns (orbit ns i).0)) (network_weight label ns)) [ inl f ↦ f | inr n ↦ absurd (stops n) ]

  abbrev pub passes_successor : ℕ → Bool
  passes_successor i = is_kind Successor (kind_at ns (orbit ns i).0)

  -- a question passes a successor node always at the same position
  at_successor_is : (x : Position) → Question ns label x → kind_at ns x.0 ≡ Some Successor → ◌≡◌ {A = Position} (3 * (x.0 / 3) + 1, []) x
  at_successor_is x q e =
      let a = at x q Successor e in
      let o = at_successor_node _ _ _ a.fits (place_of x.0) a.owned x.1 a.asks in
      ap (λ o. (port_at (x.0 / 3) o.0, o.1)) o ∙ ap (λ p. (p, x.1)) (port_of_lem x.0)

  -- so each is passed at most once
  pub few_successors : (m : ℕ) → Going m → (i : ℕ) → i ≤ suc m → count passes_successor i ≤ successor_nodes ns
  few_successors m going i h =
      let few = few_in passes_successor i (successor_list ns) (orbit ns)
      (λ j b e.
      let x = orbit ns j in
      let q = orbit_asks m going j (omega arith) in
      let is = is_kind_lem Successor (kind_at ns x.0) e in
      subst (λ y. In (successor_list ns) y) (at_successor_is x q is) (successor_in ns (x.0 / 3) (inside_low ns x.0 q.0.lies) is))
      (λ j k b c _ _ e. apart m going j k b (omega arith) e) in
      let len = successor_list_length ns in
      omega arith
