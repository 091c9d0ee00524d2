-- Positions: a port to which a question comes, with letters. A list of them all is as long as the network's weight.
use Rattle.std.proofs.Common.{◌≡◌, ℕ, zero, suc, ◌+◌, ◌*◌, ◌/◌, ◌%◌, ◌<◌, ◌≤◌, Bool, true, false, cond, List, [], ◌∷◌, ◌++◌, length, Some, None, Option, sym, refl, ap, ◌∙◌, subst, arith, length-append}
use Rattle.cells.specs.declared.kinds.Kind.{Kind}
use Rattle.cells.specs.declared.kinds.Kind.TheVariants.{Root, Number, Successor, Multiplexer, Iterator, LeftCounter, RightCounter, Transfer}
use Rattle.cells.specs.Ports.{Node, node_at, arity, link}
use Rattle.cells.specs.Sound.{Below, Has, Sound}
use Rattle.calculus.specs.Types.{Ty, N, ◌⇒◌, ◌⊗◌, naturals}
use Rattle.token.specs.declared.memory.Letter.{Letter}
use Rattle.token.specs.declared.memory.Letter.TheVariants.{Left, Right}
use Rattle.geometry.specs.Labels.{Sign, plus, minus, opposite, Label, on, flip, Labelled, produced, node_weight, weight_from, network_weight, successors_at, successor_nodes}
use Rattle.homecoming.proofs.Letters.{Leads, Asks, leads_flip}
use Rattle.homecoming.proofs.Nodes.{is_kind}
use Rattle.homecoming.proofs.Pigeonhole.{In, in_left, in_right}
use Rattle.cells.proofs.Inside.{inside_low}

abbrev pub Position : Type 0
Position = ℕ × List Letter

-- a question may come to the position
abbrev pub Question : List Node → (ℕ → Label) → Position → Type 0
Question ns label x = Has ns x.0 × Asks (label x.0) x.1

-- what f lists for each node
abbrev pub collect : (ℕ → Node → List Position) → ℕ → List Node → List Position
collect f k [] = []
collect f k (n ∷ ns) = f k n ++ collect f (suc k) ns

pub collect_in : (f : ℕ → Node → List Position) (k : ℕ) (ns : List Node) (i : ℕ) (a : Position) → i < length ns → In (f (k + i) (node_at ns i)) a → In (collect f k ns) a
collect_in f k [] i a h m = absurd (omega arith)
collect_in f k (n ∷ ns) zero a h m =
    let e : k + 0 ≡ k = omega arith in
    in_left (f k n) _ a (subst (λ j. In (f j n) a) e m)
collect_in f k (n ∷ ns) (suc i) a h m =
    let e : k + suc i ≡ suc k + i = omega arith in
    in_right (f k n) _ a (collect_in f (suc k) ns i a (omega arith) (subst (λ j. In (f j (node_at ns i)) a) e m))

-- what f makes of the letters to each N of a type, and of that N's sign
abbrev paths : Ty → Sign → (Sign → List Letter → Position) → List Position
paths N x f = f x [] ∷ []
paths (A ⇒ B) x f = paths B x (λ y s. f y (Left ∷ s)) ++ paths A (opposite x) (λ y s. f y (Right ∷ s))
paths (A ⊗ B) x f = paths A x (λ y s. f y (Left ∷ s)) ++ paths B x (λ y s. f y (Right ∷ s))

paths_length : (A : Ty) (x : Sign) (f : Sign → List Letter → Position) → length (paths A x f) ≡ naturals A
paths_length N x f = refl
paths_length (A ⇒ B) x f =
    let p = paths_length B x (λ y s. f y (Left ∷ s)) in
    let q = paths_length A (opposite x) (λ y s. f y (Right ∷ s)) in
    simp length-append (omega arith)
paths_length (A ⊗ B) x f =
    let p = paths_length A x (λ y s. f y (Left ∷ s)) in
    let q = paths_length B x (λ y s. f y (Right ∷ s)) in
    simp length-append (omega arith)

paths_in : (A : Ty) (x y : Sign) (s : List Letter) (f : Sign → List Letter → Position) → Leads A x s y → In (paths A x f) (f y s)
paths_in N x y [] f h = (0, ap (λ z. f z []) h)
paths_in N x y (c ∷ s) f h = absurd h
paths_in (A ⇒ B) x y [] f h = absurd h
paths_in (A ⇒ B) x y (Left ∷ s) f h = in_left _ _ _ (paths_in B x y s (λ z u. f z (Left ∷ u)) h)
paths_in (A ⇒ B) x y (Right ∷ s) f h = in_right (paths B x (λ z u. f z (Left ∷ u))) _ _ (paths_in A (opposite x) y s (λ z u. f z (Right ∷ u)) h)
paths_in (A ⊗ B) x y [] f h = absurd h
paths_in (A ⊗ B) x y (Left ∷ s) f h = in_left _ _ _ (paths_in A x y s (λ z u. f z (Left ∷ u)) h)
paths_in (A ⊗ B) x y (Right ∷ s) f h = in_right (paths A x (λ z u. f z (Left ∷ u))) _ _ (paths_in B x y s (λ z u. f z (Right ∷ u)) h)

-- the end of the wire of the plus port p to which a question for an N of this sign comes
abbrev asked : List Node → ℕ → Sign → List Letter → Position
asked ns p plus s = (p, s)
asked ns p minus s = (link ns p, s)

-- the questions of the wire of which p is the producer's end
abbrev wire : List Node → ℕ → Label → List Position
wire ns p (on plus A) = paths A plus (asked ns p)
wire ns p (on minus A) = []

wire_length : (ns : List Node) (p : ℕ) (a : Label) → length (wire ns p a) ≡ produced a
wire_length ns p (on plus A) = paths_length A plus (asked ns p)
wire_length ns p (on minus A) = refl

abbrev ports : ℕ → List Position → List Position → List Position → List Position
ports zero a b c = []
ports (suc zero) a b c = a
ports (suc (suc zero)) a b c = a ++ b
ports (suc (suc (suc m))) a b c = a ++ (b ++ c)

abbrev owned : Option Kind → List Position → List Position → List Position → List Position
owned None a b c = []
owned (Some κ) a b c = ports (arity κ) a b c

owned_length : (o : Option Kind) (x y z : Label) (a b c : List Position) → length a ≡ produced x → length b ≡ produced y → length c ≡ produced z → length (owned o a b c) ≡ node_weight o x y z
owned_length None x y z a b c d e f = refl
owned_length (Some Root) x y z a b c d e f = d
owned_length (Some Number) x y z a b c d e f = d
owned_length (Some Successor) x y z a b c d e f = simp length-append (omega arith)
owned_length (Some Multiplexer) x y z a b c d e f = simp length-append (omega arith)
owned_length (Some Iterator) x y z a b c d e f = simp length-append (omega arith)
owned_length (Some LeftCounter) x y z a b c d e f = simp length-append (omega arith)
owned_length (Some RightCounter) x y z a b c d e f = simp length-append (omega arith)
owned_length (Some Transfer) x y z a b c d e f = simp length-append (omega arith)

arity_low : (κ : Kind) → arity κ ≤ 3
arity_low Root = omega arith
arity_low Number = omega arith
arity_low Successor = omega arith
arity_low Multiplexer = omega arith
arity_low Iterator = omega arith
arity_low LeftCounter = omega arith
arity_low RightCounter = omega arith
arity_low Transfer = omega arith

module _ (all : List Node) (label : ℕ → Label) where
  abbrev at : ℕ → List Position
  at p = wire all p (label p)

  abbrev at_node : ℕ → Node → List Position
  at_node k n = owned n.kind (at (3 * k)) (at (3 * k + 1)) (at (3 * k + 2))

  at_node_length : (k : ℕ) (ns : List Node) → length (collect at_node k ns) ≡ weight_from label k ns
  at_node_length k [] = refl
  at_node_length k (n ∷ ns) =
      let h = owned_length n.kind (label (3 * k)) (label (3 * k + 1)) (label (3 * k + 2)) (at (3 * k)) (at (3 * k + 1)) (at (3 * k + 2))
      (wire_length all (3 * k) (label (3 * k))) (wire_length all (3 * k + 1) (label (3 * k + 1))) (wire_length all (3 * k + 2) (label (3 * k + 2))) in
      let g = at_node_length (suc k) ns in
      length-append (at_node k n) (collect at_node (suc k) ns) ∙ omega arith

  first : (k : ℕ) (x : Position) → In (at (3 * k + 0)) x → In (at (3 * k)) x
  first k x u = let e : 3 * k + 0 ≡ 3 * k = omega arith in subst (λ p. In (at p) x) e u

  ports_in : (m i : ℕ) → i < m → m ≤ 3 → (k : ℕ) (x : Position) → In (at (3 * k + i)) x → In (ports m (at (3 * k)) (at (3 * k + 1)) (at (3 * k + 2))) x
  ports_in zero i h g k x u = absurd (omega arith)
  ports_in (suc zero) zero h g k x u = first k x u
  ports_in (suc zero) (suc i) h g k x u = absurd (omega arith)
  ports_in (suc (suc zero)) zero h g k x u = in_left (at (3 * k)) _ x (first k x u)
  ports_in (suc (suc zero)) (suc zero) h g k x u = in_right (at (3 * k)) _ x u
  ports_in (suc (suc zero)) (suc (suc i)) h g k x u = absurd (omega arith)
  ports_in (suc (suc (suc m))) zero h g k x u = in_left (at (3 * k)) _ x (first k x u)
  ports_in (suc (suc (suc m))) (suc zero) h g k x u = in_right (at (3 * k)) _ x (in_left (at (3 * k + 1)) _ x u)
  ports_in (suc (suc (suc m))) (suc (suc zero)) h g k x u = in_right (at (3 * k)) _ x (in_right (at (3 * k + 1)) _ x u)
  ports_in (suc (suc (suc m))) (suc (suc (suc i))) h g k x u = absurd (omega arith)

  owned_in : (o : Option Kind) (i : ℕ) → Below i o → (k : ℕ) (x : Position) → In (at (3 * k + i)) x → In (owned o (at (3 * k)) (at (3 * k + 1)) (at (3 * k + 2))) x
  owned_in None i h k x u = absurd h
  owned_in (Some κ) i h k x u = ports_in (arity κ) i h (arity_low κ) k x u

-- every question of the network
abbrev pub questions : List Node → (ℕ → Label) → List Position
questions ns label = collect (at_node ns label) 0 ns

pub questions_length : (ns : List Node) (label : ℕ → Label) → length (questions ns label) ≡ network_weight label ns
questions_length ns label = at_node_length ns label 0 ns

module _ (ns : List Node) (label : ℕ → Label) where
  -- a wire's questions are listed with the node that has its producer's end
  wire_in : (p : ℕ) → Has ns p → (x : Position) → In (wire ns p (label p)) x → In (questions ns label) x
  wire_in p h x u =
      let e : p ≡ 3 * (p / 3) + p % 3 = omega arith in
      let z : p / 3 ≡ 0 + p / 3 = omega arith in
      collect_in (at_node ns label) 0 ns (p / 3) x (inside_low ns p h.lies)
      (subst (λ k. In (at_node ns label k (node_at ns (p / 3))) x) z
      (owned_in ns label (node_at ns (p / 3)).kind (p % 3) h.owned (p / 3) x (subst (λ q. In (wire ns q (label q)) x) e u)))

  module _ (sound : Sound ns) (labelled : Labelled ns label) where
    listed : (p : ℕ) (s : List Letter) → Has ns p → (a : Label) → label p ≡ a → Asks a s → In (questions ns label) (p, s)
    listed p s has (on plus A) e h =
        wire_in p has (p, s) (subst (λ a. In (wire ns p a) (p, s)) (sym e) (paths_in A plus plus s (asked ns p) h))
    listed p s has (on minus A) e h =
        let m = sound.linked p has in
        let q = link ns p in
        let there : label q ≡ on plus A = labelled.ends p has ∙ ap flip e in
        wire_in q m.there (p, s)
        (subst (λ z. In (wire ns q (label q)) (z, s)) m.back
        (subst (λ a. In (wire ns q a) (link ns q, s)) (sym there) (paths_in A plus minus s (asked ns q) (leads_flip A minus plus s h))))

    -- each question is in the list
    pub question_in : (x : Position) → Question ns label x → In (questions ns label) x
    question_in x q = listed x.0 x.1 q.0 (label x.0) refl q.1

-- where a question passes each successor node
abbrev at_successor : Option Kind → ℕ → List Position
at_successor o p = cond (is_kind Successor o) ((p, []) ∷ []) []

at_successor-length : (o : Option Kind) (p : ℕ) → length (at_successor o p) ≡ successors_at o
at_successor-length None p = refl
at_successor-length (Some Root) p = refl
at_successor-length (Some Number) p = refl
at_successor-length (Some Successor) p = refl
at_successor-length (Some Multiplexer) p = refl
at_successor-length (Some Iterator) p = refl
at_successor-length (Some LeftCounter) p = refl
at_successor-length (Some RightCounter) p = refl
at_successor-length (Some Transfer) p = refl

abbrev successors_from : ℕ → List Node → List Position
successors_from k ns = collect (λ k n. at_successor n.kind (3 * k + 1)) k ns

abbrev pub successor_list : List Node → List Position
successor_list ns = successors_from 0 ns

successors_from_length : (k : ℕ) (ns : List Node) → length (successors_from k ns) ≡ successor_nodes ns
successors_from_length k [] = refl
successors_from_length k (n ∷ ns) =
    let h = at_successor-length n.kind (3 * k + 1) in
    let g = successors_from_length (suc k) ns in
    length-append (at_successor n.kind (3 * k + 1)) (successors_from (suc k) ns) ∙ omega arith

pub successor_list_length : (ns : List Node) → length (successor_list ns) ≡ successor_nodes ns
successor_list_length ns = successors_from_length 0 ns

pub successor_in : (ns : List Node) (k : ℕ) → k < length ns → (node_at ns k).kind ≡ Some Successor → In (successor_list ns) (3 * k + 1, [])
successor_in ns k h e =
    let z : k ≡ 0 + k = omega arith in
    collect_in (λ k n. at_successor n.kind (3 * k + 1)) 0 ns k (3 * k + 1, []) h
    (subst (λ j. In (at_successor (node_at ns k).kind (3 * j + 1)) (3 * k + 1, [])) z
    (subst (λ o. In (at_successor o (3 * k + 1)) (3 * k + 1, [])) (sym e) (0, refl)))

one_at_most : (b : Bool) (x : Position) → length (cond b (x ∷ []) []) ≤ 1
one_at_most true x = omega arith
one_at_most false x = omega arith

pub few_successor_nodes : (ns : List Node) → successor_nodes ns ≤ length ns
few_successor_nodes [] = omega arith
few_successor_nodes (n ∷ ns) =
    let h = at_successor-length n.kind 0 in
    let k = one_at_most (is_kind Successor n.kind) (0, []) in
    let rest = few_successor_nodes ns in
    omega arith
