-- Programs with known outcomes, over the rules from the text's bytes on. Assumes nothing.
use Rattle.std.specs.Prelude.{◌≡◌, ℕ, ◌+◌, ◌*◌, List, Ok, codes}
use Rattle.calculus.specs.Terms.{iterators}
use Rattle.calculus.specs.Typing.{weight}
use Rattle.syntax.specs.Trees.{Name, Tree, erase}
use Rattle.geometry.specs.Network.{network}
use Rattle.language.specs.Accepts.{accepts}
use Rattle.grammar.specs.Exactness.{Accepted}
use Rattle.grammar.specs.Examples.{KnownAnswers}
use Rattle.machine.specs.Worked.{OutAndBack}
use Rattle.token.specs.State.{Rooms}
use Rattle.token.specs.Distance.{ToNumber}
use Rattle.homecoming.specs.Programs.{Enough}
use Rattle.network.specs.Building.{term_of}

-- the memory of the tracer: 256 letter cells, 256 iterator cells, 1,024 data cells and all 64 shelves
abbrev pub tracer_rooms : Rooms
tracer_rooms = record { letters = 256; iters = 256; datas = 1024; shelves = 64 }

-- the text is accepted, and over its network, in that memory, the distance from question to n is so many steps
pub record Brings (text : List ℕ) (n steps : ℕ) : Type 0 where
  pub term : Tree ℕ
  pub accepted : accepts text ≡ Ok term
  pub distance : ToNumber (network (erase term)) tracer_rooms n steps

-- a text of which homecoming speaks, and its bound is reached: accepted, without iterator, the tracer's memory enough for it;
-- the token brings n home in as many steps as the weight allows
pub record ReachesBound (text : List ℕ) (n steps w : ℕ) : Type 0 where
  pub tree : Tree Name
  pub accepted : Accepted text tree
  pub plain : iterators (term_of tree) ≡ 0
  pub enough : Enough accepted.derived.derived tracer_rooms
  pub weighs : weight accepted.derived.derived ≡ w
  pub distance : ToNumber (network (term_of tree)) tracer_rooms n steps
  pub longest : steps + 1 ≡ 2 * w

pub record KnownOutcomes : Type 0 where
  -- what texts are refused with and where, and what accepted ones weigh
  pub texts : KnownAnswers
  -- what their tokens bring home, and after how many steps
  pub number : Brings (codes "3") 3 1
  pub application : Brings (codes "(\\x:N.S x 3)") 4 11
  pub pair : Brings (codes "let <x,y> = <\\z:N.z,7> in (x y)") 7 21
  pub iterator : Brings (codes "iter 2 \\x:N.S x 3") 5 39
  -- so homecoming supposes nothing that no text meets, and promises no more steps than some texts take
  pub number_home : ReachesBound (codes "3") 3 1 1
  pub application_home : ReachesBound (codes "(\\x:N.S x 3)") 4 11 6
  pub pair_home : ReachesBound (codes "let <x,y> = <\\z:N.z,7> in (x y)") 7 21 11
  -- addition opened out at 3/2: three steps of ten forward, five of ten back, and the sum is -2
  pub addition : OutAndBack
