-- What opening a session answers. Assumes nothing.
use Rattle.std.specs.Prelude.{◌≡◌, ℕ, ◌+◌, ◌≤◌, List, ◌++◌, length, take, drop, Ok, Err, Result}
use Rattle.cells.specs.Ports.{nodes_of}
use Rattle.calculus.specs.Terms.{successors, iterators}
use Rattle.calculus.specs.Typing.{weight, tallest}
use Rattle.syntax.specs.Trees.{Name, Tree}
use Rattle.geometry.specs.Network.{network}
use Rattle.grammar.specs.Exactness.{Accepted}
use Rattle.network.specs.Building.{term_of, Stored, Trusted, Unbuilt}
use Rattle.token.specs.declared.memory.DataCell.{DataCell}
use Rattle.token.specs.State.{opened}
use Rattle.token_machine.specs.declared.tokens.Token.{Token}
use Rattle.token_machine.specs.Tokens.{state_of}
use Rattle.homecoming.specs.Home.{Home}
use Rattle.lab.specs.declared.memory.Memory.{Memory}
use Rattle.lab.specs.declared.refusals.Refused.{Refused}
use Rattle.lab.specs.Listings.{listing}
use Rattle.lab.specs.Bounds.{Every, LowData, line_room}
use Rattle.lab.specs.Memories.{rooms_in, AsItWas, AsTheTracer}

-- a token opened with this cell over the network of the text
pub record Opens (text : List ℕ) (m : Memory) (first : DataCell) (token : Token) : Type 0 where
  -- the text is accepted: the grammar spells it and the rules derive it, within the limits
  pub tree : Tree Name
  pub accepted : Accepted text tree
  -- the first cells hold its network, which is sound and typed, and the rest are as they were
  pub nodes : ℕ
  pub stored : Stored (term_of tree) nodes m.cells.now token.cells.now
  pub trusted : Trusted (term_of tree) (nodes_of (take nodes token.cells.now))
  -- the token stands at its opening
  pub state : state_of token ≡ opened (network (term_of tree) ++ nodes_of (drop nodes m.cells.now)) (rooms_in m) first
  -- without iterator it comes home from the question, if there is a letter cell for each unit of the greatest type height and a data cell more than S signs
  pub home : iterators (term_of tree) ≡ 0 → tallest accepted.derived.derived ≤ length m.letters.now → 1 + successors (term_of tree) ≤ length m.datas.now → Home (network (term_of tree) ++ nodes_of (drop nodes m.cells.now)) (rooms_in m) (weight accepted.derived.derived)
  -- in memory like the tracer's, each line of its listing fits the tracer's buffer
  pub short : AsTheTracer m → LowData first → Every (λ l. length l ≤ line_room) (listing (state_of token))

-- the token is opened; or the text is refused, and the memory is handed back as it was
abbrev pub Opened : List ℕ → Memory → DataCell → Result Token Refused → Type 0
Opened text m first (Ok token) = Opens text m first token
Opened text m first (Err r) = Unbuilt text (length m.cells.now) r.refusal × AsItWas m r.memory
