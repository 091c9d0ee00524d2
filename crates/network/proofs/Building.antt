-- From an accepted text to its network in memory.
use Rattle.std.proofs.Common.{◌≡◌, ℕ, ◌+◌, ◌*◌, ◌<◌, ◌≤◌, List, [], ◌++◌, map, length, take, drop, set, sym, ap, ◌∙◌, subst, arith}
use lib.ListN.{length-map}
use Rattle.std.proofs.lemmas.List.{take_all, take-append-le}
use Rattle.cells.specs.declared.kinds.Cell.{Cell}
use Rattle.cells.specs.declared.kinds.Kind.TheVariants.{Root}
use Rattle.cells.specs.Ports.{nodes_of}
use Rattle.calculus.specs.Types.{N}
use Rattle.calculus.specs.Terms.{Term, var, num, succ, lam, app, pair, split, iter, free, subterms, nodes}
use Rattle.calculus.specs.Typing.{Typed}
use Rattle.geometry.specs.Network.{EachVariable, nowhere, made, bare, all_made, all_wires, network, cell_of}
use Rattle.geometry.specs.Memory.{laid, wired_cells}
use Rattle.geometry.proofs.Names.{names-free}
use Rattle.geometry.proofs.Local.{Same, local}
use Rattle.geometry.proofs.Memory.{memory_holds}
use Rattle.geometry.proofs.Soundness.{sound, network-length}
use Rattle.geometry.proofs.Labelling.{labelled, no_higher}
use Rattle.geometry.proofs.Weights.{weight_kept, successors-counted}
use Rattle.geometry.proofs.Values.{plain, numbers_kept, read_back}
use Rattle.syntax.specs.declared.program.Subterm.{Subterm}
use Rattle.syntax.specs.declared.program.TypeCell.{TypeCell}
use Rattle.syntax.specs.Trees.{Name, Tree}
use Rattle.syntax.specs.Names.{resolve}
use Rattle.language.specs.declared.typing.Typing.{Typing}
use Rattle.language.specs.declared.counts.Facts.{Facts}
use Rattle.language.specs.Accepts.{Holds as Held}
use Rattle.language.proofs.Shapes.{there}
use Rattle.grammar.specs.Exactness.{Accepted}
use Rattle.network.specs.declared.part.Part.{Part}
use Rattle.network.specs.declared.part.Next.{Next}
use Rattle.network.specs.Parts.{Linear, Holds}
use Rattle.network.specs.Plan.{Planned}
use Rattle.network.specs.Laying.{Layable, LaidOut}
use Rattle.network.specs.Wiring.{Table, starting, Below, Wirable, Wired}
use Rattle.network.specs.Building.{term_of, Stored, Trusted, Drawable, Drawn}
use Rattle.network.proofs.Sizes.{nodes_few}
use Rattle.network.proofs.Gathered.{below_long}
use Rattle.network.proofs.Texts.{spelled_below, sizes, numbers, last_of}

-- a closed derivation
linear : {t : Term} → Typed [] t N → Linear t
linear d = record { context = []; type = N; derived = d; once = tt }

closed : {t : Term} → Typed [] t N → free t ≡ []
closed d = sym (names-free d)

-- a longer table has a place for the same variables
wider : (t : Term) (m n : ℕ) → m ≤ n → Below m t → Below n t
wider (var x) m n l b = omega (arith, b)
wider (num v) m n l b = tt
wider (succ t) m n l b = wider t m n l b
wider (lam x T t) m n l b = (omega (arith, b.0), wider t m n l b.1)
wider (app t u) m n l b = (wider t m n l b.0, wider u m n l b.1)
wider (pair t u) m n l b = (wider t m n l b.0, wider u m n l b.1)
wider (split x y t u) m n l b = (omega (arith, b.0), omega (arith, b.1), wider t m n l b.2, wider u m n l b.3)
wider (iter t u v) m n l b = (wider t m n l b.0, wider u m n l b.1, wider v m n l b.2)

module _ (text : List ℕ) (t : Tree Name) (a : Accepted text t) where
  pub few_subterms : subterms (term_of t) ≤ 2048
  few_subterms = omega (arith, sizes t [], a.within.subterms)

  pub few_nodes : 3 * (1 + nodes (term_of t)) ≤ 4294967295
  few_nodes = omega (arith, nodes_few (term_of t) few_subterms, few_subterms)

  module _ (subs : List Subterm) (types : List TypeCell) (typings : List Typing) (root : ℕ) (facts : Facts) (h : Held subs types typings root facts (resolve [] t)) where
    pub root_there : root < length subs
    root_there = there subs types root (resolve [] t) h.denotes

    pub few_parts : root + 1 ≤ 2048
    few_parts = omega (arith, last_of (resolve [] t) subs types 0 root h.spans, few_subterms)

    pub whole_held : (parts : List Part) → Planned subs parts → length parts ≡ root + 1 → Holds parts root (term_of t)
    whole_held parts p e = p types root (resolve [] t) (omega (arith, e)) h.denotes (linear a.derived.derived) few_subterms

  pub drawable : (parts : List Part) (i places size : ℕ) → Holds parts i (term_of t) → places ≡ 16384 → 1 + nodes (term_of t) ≤ size → Drawable parts i places size (term_of t)
  drawable parts i places size h e r =
      record { holds = h; typed = a.derived.derived; small = few_subterms; few = a.few; below = wider (term_of t) (length text) places (omega (arith, e, a.short)) (spelled_below text t a.spelled); room = r }

  -- the network in memory, and what holds of it
  pub stored : (n : ℕ) (cells cells' : List Cell) → n ≡ 1 + nodes (term_of t) → n ≤ length cells → Drawn (term_of t) cells cells' → Stored (term_of t) n cells cells'
  stored n cells cells' e l d =
      let m = memory_holds (term_of t) cells (omega (arith, e, l)) in
      record { count = e; room = l; written = d ∙ (m ∙ ap (λ k. map cell_of (network (term_of t)) ++ drop k cells) (sym e)) }

  seen : (n : ℕ) (cells cells' : List Cell) → Stored (term_of t) n cells cells' → nodes_of (take n cells') ≡ network (term_of t)
  seen n cells cells' s =
      let ns = network (term_of t) in
      let l : length (map cell_of ns) ≡ n = length-map ns cell_of ∙ (network-length (term_of t) ∙ sym s.count) in
      let f : take n (map cell_of ns ++ drop n cells) ≡ map cell_of ns = take-append-le n (map cell_of ns) (drop n cells) (omega (arith, l)) ∙ take_all n (map cell_of ns) (omega (arith, l)) in
      ap (λ cs. nodes_of (take n cs)) s.written ∙ (ap nodes_of f ∙ read_back (term_of t))

  pub trusted : (n : ℕ) (cells cells' : List Cell) → Stored (term_of t) n cells cells' → Trusted (term_of t) (nodes_of (take n cells'))
  trusted n cells cells' s =
      let u = term_of t in
      subst (Trusted u) (sym (seen n cells cells' s)) (record {
        sound = sound u a.derived.derived few_nodes a.few;
        typed = λ d. (labelled u d, no_higher u d);
        weighs = λ d i. weight_kept u d i;
        plain = plain u;
        counts = successors-counted u;
        small = numbers_kept u 1000000000 (numbers t [] 1000000000 a.within.numbers);
      })

-- node 0 is the root, and the nodes of the program follow
pub laid_all : (t : Term) (r : Next) (cells c₁ c₂ : List Cell) → c₁ ≡ set cells 0 (cell_of (bare (Root, 0))) → LaidOut t (record { node = 1; iterator = 1 }) r c₁ c₂ → c₂ ≡ laid (all_made t) 0 cells
laid_all t r cells c₁ c₂ e l = l.written ∙ ap (laid (made t 1) 1) e

pub layable_all : {parts parts' : List Part} {i places size size' : ℕ} {t : Term} → Drawable parts i places size t → parts' ≡ parts → size' ≡ size → Layable parts' i (record { node = 1; iterator = 1 }) size' t
layable_all d p e = record { holds = rw p d.holds; room = omega (arith, d.room, e); few = omega (arith, d.few) }

-- a closed program is wired with no variable in force
pub wirable_all : {parts parts' : List Part} {i places size size' : ℕ} {starts : Table} {t : Term} → Drawable parts i places size t → parts' ≡ parts → length starts ≡ places → size' ≡ size → Wirable parts' i 1 0 starts size' t
wirable_all {i = i} {size' = size'} {starts = starts} {t = t} d p l e =
    let n = 1 + nodes t in
    let few : 3 * n ≤ 4294967295 = omega (arith, nodes_few t d.small, d.small) in
    record {
      n = n;
      ready = record {
        numbered = record { within = omega (arith, d.room, e); ports = few };
        holds = rw p d.holds;
        linear = linear d.typed;
        small = d.small;
        below = below_long t _ _ l d.below;
        started = subst (EachVariable (λ x. starting starts x < 3 * n)) (sym (closed d.typed)) tt;
      };
      room = omega arith;
      rooted = omega arith;
    }

pub drawn_all : (t : Term) (r : ℕ) (starts starts' : Table) (cells c₂ c₃ : List Cell) → Typed [] t N → c₂ ≡ laid (all_made t) 0 cells → Wired t 1 0 r starts starts' c₂ c₃ → Drawn t cells c₃
drawn_all t r starts starts' cells c₂ c₃ d e w =
    w.written ∙ (ap (λ ws. wired_cells ws c₂) (local t 1 0 (starting starts) nowhere (subst (EachVariable (Same (starting starts) nowhere)) (sym (closed d)) tt)) ∙ ap (wired_cells (all_wires t)) e)
