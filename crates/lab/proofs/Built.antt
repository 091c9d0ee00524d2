-- A session opened over a network that was built.
use Rattle.std.proofs.Common.{◌≡◌, ℕ, ◌≤◌, List, [], ◌∷◌, ◌++◌, map, length, drop, Ok, sym, refl, ap, ◌∙◌, subst, arith}
use Rattle.cells.specs.declared.kinds.Cell.{Cell}
use Rattle.cells.specs.Ports.{node_of, nodes_of}
use Rattle.geometry.specs.Network.{network, cell_of}
use Rattle.geometry.proofs.Values.{read_back}
use Rattle.network.specs.Building.{term_of, Built}
use Rattle.token.specs.declared.memory.DataCell.{DataCell}
use Rattle.token.specs.State.{opened}
use Rattle.token_machine.specs.declared.tokens.Token.{Token}
use Rattle.token_machine.specs.Tokens.{state_of}
use Rattle.lab.specs.declared.memory.Memory.{Memory}
use Rattle.lab.specs.Bounds.{Every, Modest, line_room}
use Rattle.lab.specs.Listings.{listing}
use Rattle.lab.specs.Memories.{rooms_in}
use Rattle.lab.specs.Opening.{Opens}
use Rattle.lab.proofs.Lengths.{lines_fit}
use Rattle.lab.proofs.Programs.{session_home}

nodes-append : (cs ds : List Cell) → nodes_of (cs ++ ds) ≡ nodes_of cs ++ nodes_of ds
nodes-append [] ds = refl
nodes-append (c ∷ cs) ds = ap (λ ns. node_of c ∷ ns) (nodes-append cs ds)

nodes-length : (cs : List Cell) → length (nodes_of cs) ≡ length cs
nodes-length [] = refl
nodes-length (c ∷ cs) = let h = nodes-length cs in omega arith

pub opens : (text : List ℕ) (m : Memory) (first : DataCell) (token : Token) (n : ℕ) → Built text m.cells.now token.cells.now (Ok n) → length token.cells.now ≡ length m.cells.now → state_of token ≡ opened (nodes_of token.cells.now) (rooms_in m) first → Opens text m first token
opens text m first token n (t, a, stored, trusted) long state =
    let cells = token.cells.now in
    let rest = drop n m.cells.now in
    let seen : nodes_of cells ≡ network (term_of t) ++ nodes_of rest = ap nodes_of stored.written ∙ nodes-append (map cell_of (network (term_of t))) rest ∙ ap (λ ns. ns ++ nodes_of rest) (read_back (term_of t)) in
    record {
      tree = t;
      accepted = a;
      nodes = n;
      stored = stored;
      trusted = trusted;
      state = state ∙ ap (λ ns. opened ns (rooms_in m) first) seen;
      home = λ none high signs. session_home text t a none (nodes_of rest) (length m.letters.now) (length m.iters.now) (length m.datas.now) (length m.shelves.now) high signs;
      short = λ small low.
          let count = nodes-length cells in
          let modest : Modest (nodes_of cells) (rooms_in m) = record { nodes = let h = small.cells in omega arith; letters = let h = small.letters in omega arith; iters = let h = small.iters in omega arith; datas = let h = small.datas in omega arith } in
          subst (λ s. Every (λ l. length l ≤ line_room) (listing s)) (sym state) (lines_fit (nodes_of cells) (rooms_in m) first modest low);
    }
